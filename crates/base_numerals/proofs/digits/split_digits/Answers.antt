use Rattle.std.proofs.Common.{subst, sym, ◌≤◌, length, take, ◌∙◌, ap}
use Rattle.std.specs.Char.{is_ascii_digit}
use Rattle.std.proofs.lemmas.List.Sums.{prefix_len-le-length}
use Rattle.base_numerals.specs.Literals.{are_digits}
use Rattle.base_numerals.proofs.lemmas.DigitLaws.{are_digits-take_while}
use Rattle.base_numerals.proofs.digits.split_digits.Goals as goal

pub split_at-requires : goal.split_at-requires
split_at-requires c =
    subst (λ n. n ≤ length c.args.text.now) (sym c.digit_count-count.ensures)
    (prefix_len-le-length is_ascii_digit c.args.text.now)

pub returns-clause-all : goal.returns-clause-all
returns-clause-all c =
    ap are_digits (c.split_at.ensures.front ∙ ap (λ n. take n c.args.text.now) c.digit_count-count.ensures)
    ∙ are_digits-take_while c.args.text.now
