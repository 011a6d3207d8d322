use Rattle.std.proofs.Common.{drop, ap, ◌∙◌, arith}
use Rattle.modules_report.specs.Guesses.{head_words}
use Rattle.modules_report.proofs.PortGuesses.{rest_words, word_at, words_from}
use Rattle.modules_report.proofs.parsing.head_in.Goals as goal

pub returns : goal.returns
returns c = λ h own i o f e.
    let long = c.in-len8-up.len_at_least in
    c.head_of.ensures h own i o f
    (word_at (λ w. w.now) c.args.words.now (head_words h) 1 _ e (omega (arith, long)))
    (word_at (λ w. w.now) c.args.words.now (head_words h) 3 _ e (omega (arith, long)))
    (word_at (λ w. w.now) c.args.words.now (head_words h) 5 _ e (omega (arith, long)))
    (word_at (λ w. w.now) c.args.words.now (head_words h) 7 _ e (omega (arith, long)))
    (rest_words (λ w. w.now) 8 c.args.words.now ∙ words_from (λ w. w.now) 8 c.args.words.now ∙ ap (drop 8) e)
