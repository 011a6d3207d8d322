use Rattle.std.proofs.Common.{◌≡◌, Some, ◌∙◌, rules}
use Rattle.modules_report.proofs.PortGuesses.{enabled_told, one_given, triggered_told}
use Rattle.modules_report.proofs.parsing.head_of.Goals as goal

pub returns : goal.returns
returns c = λ h own i o f name inputs outputs functions controls.
    let row : c.in_ok-row_in.field-0 ≡ h.row = one_given c.row_in.result _ _ (search rules) (c.row_in.ensures h.row own name) in
    let ins : c.in_ok-number_in.field-0 ≡ h.inputs =
    one_given c.number_in.result _ _ (search rules) (c.number_in.ensures h.inputs i inputs) in
    let outs : c.in_ok-number_in-2.field-0 ≡ h.outputs =
    one_given c.number_in-2.result _ _ (search rules) (c.number_in-2.ensures h.outputs o outputs) in
    let fs : c.in_ok-number_in-3.field-0 ≡ h.functions =
    one_given c.number_in-3.result _ _ (search rules) (c.number_in-3.ensures h.functions f functions) in
    let enabled : c.has_word.result ≡ h.enabled =
    c.has_word.ensures ∙ enabled_told (λ w. w.now) c.args.controls.now h.enabled h.triggered controls in
    let triggered : c.has_word-2.result ≡ h.triggered =
    c.has_word-2.ensures ∙ triggered_told (λ w. w.now) c.args.controls.now h.enabled h.triggered controls in
    λ k. Some record { row = row k; inputs = ins k; outputs = outs k; functions = fs k; enabled = enabled k; triggered = triggered k }
