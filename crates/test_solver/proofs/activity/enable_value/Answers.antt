use Rattle.std.proofs.Common.{◌≡◌, ◌∙◌, sym, ap, inl, inr, slice_get, rules, FitsSigned, w64}
use Rattle.std.proofs.lemmas.Int.{to_z-of_z}
use Rattle.base_core.specs.declared.Control.{Control}
use Rattle.diagram_meaning.specs.ResolvedTree.{diagram_of}
use Rattle.diagram_meaning.specs.Rows.{enable_among}
use Rattle.test_solver.proofs.Controls.{enable-at}
use Rattle.test_solver.proofs.activity.enable_value.Goals as goal

pub returns-in-Enabled : goal.returns-in-Enabled
returns-in-Enabled c x g =
    let wires = c.wires.result.now in
    let value_fits : FitsSigned w64 c.value_of_wire.result = search rules in
    let first : slice_get wires 0 ≡ enable_among c.control.result wires =
    elim c.in-Enabled.is [
      | inl enabled ↦ sym (ap (λ (control : Control). enable_among control wires) enabled.1)
      | inr both ↦ sym (ap (λ (control : Control). enable_among control wires) both.2)
    ] in
    to_z-of_z w64 _ value_fits ∙ c.value_of_wire.ensures (diagram_of c.args.r.now) x g
    ∙ enable-at (diagram_of c.args.r.now) c.args.e _ _ _ c.row-subsystem.ensures.row c.control.ensures c.wires.ensures x
    c.args.values.now g 0 first
