use Rattle.std.proofs.Common.{sym, ap, ◌∙◌}
use Rattle.std.specs.Str.Parse.{digits_value_after}
use Rattle.base_numerals.proofs.lemmas.DigitLaws.{digits_value-append}
use Rattle.base_numerals.proofs.digits.value_of_both.Goals as goal

pub returns-clause-value : goal.returns-clause-value
returns-clause-value c =
    c.append_digits-2.ensures ∙ ap (λ n. digits_value_after 10 n c.args.behind.now) c.append_digits.ensures
    ∙ sym (digits_value-append 0 c.args.before.now c.args.behind.now)
