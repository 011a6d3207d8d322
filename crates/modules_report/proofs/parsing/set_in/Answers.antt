use Rattle.std.proofs.Common.{sym, ◌∙◌}
use Rattle.modules_report.proofs.PortGuesses.{none_told, some_told}
use Rattle.modules_report.proofs.parsing.set_in.Goals as goal

pub returns-then-has_word : goal.returns-then-has_word
returns-then-has_word c =
    λ ps placed e small. none_told (λ w. w.now) c.args.words.now (sym c.has_word.ensures
    ∙ c.if-has_word.true) ps placed e

pub returns : goal.returns
returns c = λ ps placed e small.
    c.mask_in.ensures ps placed (some_told (λ w. w.now) c.args.words.now (sym c.has_word.ensures ∙ c.if-has_word.false) ps e) small
