use Rattle.std.proofs.Common.{ℕ, List, ◌++◌, ap, ap₂, ◌∙◌, map}
use Rattle.std.specs.List.{enumerate_from, zip}
use Rattle.base_core.specs.declared.Control.{Control}
use Rattle.base_core.specs.Ports.{bit_of, control_ports}
use Rattle.modules_profile.proofs.EntrySteps.{entries-are}
use Rattle.modules_profile.proofs.entries.entries.Goals as goal

pub returns : goal.returns
returns c =
    let inputs = c.in_ok-push_inputs.ensures
    ∙ ap₂ (λ (es : List (ℕ × ℕ)) (ws : List ℕ). es ++ enumerate_from 0 ws) c.new-entries.ensures.items
    c.wires.ensures in
    c.in_ok-push_controls.ensures ∙ ap (λ es. es ++ zip (map bit_of (control_ports c.control.result)) c.wires-2.result.now) inputs
    ∙ ap₂ (λ (k : Control) (ws : List ℕ). enumerate_from 0 c.args.child.now.wires
    ++ zip (map bit_of (control_ports k)) ws) c.control.ensures c.wires-2.ensures
    ∙ entries-are c.args.child.now c.requires
