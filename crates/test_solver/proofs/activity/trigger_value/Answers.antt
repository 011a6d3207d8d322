use Rattle.std.proofs.Common.{◌≡◌, ◌∙◌, sym, ap, slice_get, rules, FitsSigned, w64}
use Rattle.std.proofs.lemmas.Int.{to_z-of_z}
use Rattle.base_core.specs.declared.Control.{Control}
use Rattle.diagram_meaning.specs.ResolvedTree.{diagram_of}
use Rattle.diagram_meaning.specs.Rows.{trigger_among}
use Rattle.test_solver.proofs.Controls.{trigger-at}
use Rattle.test_solver.proofs.activity.trigger_value.Goals as goal

pub returns-in-Triggered : goal.returns-in-Triggered
returns-in-Triggered c x g =
    let wires = c.wires-wires.result.now in
    let value_fits : FitsSigned w64 c.value_of_wire.result = search rules in
    let at : slice_get wires 0 ≡ trigger_among c.control.result wires =
    sym (ap (λ (control : Control). trigger_among control wires) c.in-Triggered.is) in
    to_z-of_z w64 _ value_fits ∙ c.value_of_wire.ensures (diagram_of c.args.r.now) x g
    ∙ trigger-at (diagram_of c.args.r.now) c.args.e _ _ _ c.row-subsystem.ensures.row c.control.ensures
    c.wires-wires.ensures x c.args.values.now g 0 at

pub returns-in-Both : goal.returns-in-Both
returns-in-Both c x g =
    let wires = c.wires-wires.result.now in
    let value_fits : FitsSigned w64 c.value_of_wire-in-Both.result = search rules in
    let at : slice_get wires 1 ≡ trigger_among c.control.result wires =
    sym (ap (λ (control : Control). trigger_among control wires) c.in-Both.is) in
    to_z-of_z w64 _ value_fits ∙ c.value_of_wire-in-Both.ensures (diagram_of c.args.r.now) x g
    ∙ trigger-at (diagram_of c.args.r.now) c.args.e _ _ _ c.row-subsystem.ensures.row c.control.ensures
    c.wires-wires.ensures x c.args.values.now g 1 at
