use Rattle.std.proofs.Common.{◌≡◌, rules, sym, subst, append_assoc}
use Rattle.std.specs.String.{string_bytes}
use Rattle.tool_script_runner.specs.FaultTexts.{script_line, bad_words}
use Rattle.tool_script_runner.proofs.texts.bad_call_line.Goals as goal

pub returns-in_ok-format-in-Long : goal.returns-in_ok-format-in-Long
returns-in_ok-format-in-Long c =
    subst (λ why. string_bytes c.in_ok-format-in-Long.field-0 ≡ script_line c.args.bad.line (bad_words why)) (sym c.in-Long.is)
    (simp append_assoc (search rules))

pub returns-in_ok-format-in-Many : goal.returns-in_ok-format-in-Many
returns-in_ok-format-in-Many c =
    subst (λ why. string_bytes c.in_ok-format-in-Many.field-0 ≡ script_line c.args.bad.line (bad_words why)) (sym c.in-Many.is)
    (simp append_assoc (search rules))

pub returns-in_ok-format-in-Form : goal.returns-in_ok-format-in-Form
returns-in_ok-format-in-Form c =
    subst (λ why. string_bytes c.in_ok-format-in-Form.field-0 ≡ script_line c.args.bad.line (bad_words why)) (sym c.in-Form.is)
    (simp append_assoc (search rules))

pub returns-in_ok-format-in-NoFunction : goal.returns-in_ok-format-in-NoFunction
returns-in_ok-format-in-NoFunction c =
    subst (λ why. string_bytes c.in_ok-format-in-NoFunction.field-0 ≡ script_line c.args.bad.line (bad_words why)) (sym c.in-NoFunction.is)
    (simp append_assoc (search rules))

pub returns-in_ok-format-in-Count : goal.returns-in_ok-format-in-Count
returns-in_ok-format-in-Count c =
    subst (λ why. string_bytes c.in_ok-format-in-Count.field-0 ≡ script_line c.args.bad.line (bad_words why)) (sym c.in-Count.is)
    (simp append_assoc (search rules))
