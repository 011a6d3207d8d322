use Rattle.std.proofs.Common.{◌≡◌, rules, sym, subst, append_assoc}
use Rattle.std.specs.String.{string_bytes}
use Rattle.tool_script_runner.specs.FaultTexts.{script_line, fault_words}
use Rattle.tool_script_runner.proofs.texts.refused_call_line.Goals as goal

pub returns-in_ok-format-in-Twice : goal.returns-in_ok-format-in-Twice
returns-in_ok-format-in-Twice c =
    subst (λ why. string_bytes c.in_ok-format-in-Twice.field-0 ≡ script_line c.args.refused.line (fault_words why)) (sym c.in-Twice.is)
    (simp append_assoc (search rules))

pub returns-in_ok-format-in-Value : goal.returns-in_ok-format-in-Value
returns-in_ok-format-in-Value c =
    subst (λ why. string_bytes c.in_ok-format-in-Value.field-0 ≡ script_line c.args.refused.line (fault_words why)) (sym c.in-Value.is)
    (simp append_assoc (search rules))

pub returns-in_ok-format-in-Unlike : goal.returns-in_ok-format-in-Unlike
returns-in_ok-format-in-Unlike c =
    subst (λ why. string_bytes c.in_ok-format-in-Unlike.field-0 ≡ script_line c.args.refused.line (fault_words why)) (sym c.in-Unlike.is)
    (simp append_assoc (search rules))

pub returns-in_ok-format-in-Stuck : goal.returns-in_ok-format-in-Stuck
returns-in_ok-format-in-Stuck c =
    subst (λ why. string_bytes c.in_ok-format-in-Stuck.field-0 ≡ script_line c.args.refused.line (fault_words why)) (sym c.in-Stuck.is)
    (simp append_assoc (search rules))
