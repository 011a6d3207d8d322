use Rattle.std.proofs.Common.{◌∙◌, ◌<◌, ◌||◌, None, Option, ℕ, IfSome, sym, ap, subst, length, rules, FitsSigned, w64}
use Rattle.std.proofs.lemmas.Int.{to_z-of_z}
use Rattle.diagram_meaning.specs.ResolvedTree.{diagram_of}
use Rattle.diagram_meaning.specs.declared.table.Row.{Row}
use Rattle.diagram_meaning.specs.Rows.{enclosing}
use Rattle.diagram_blocks.specs.Kinds.{control_of}
use Rattle.diagram_meaning.specs.Run.{active_in, any_off}
use Rattle.test_solver.proofs.Systems.{off-here}
use Rattle.test_solver.proofs.activity.+is_off.Goals as goal

pub returns-then-off : goal.returns-then-off
returns-then-off t c x =
    let d = diagram_of c.args.r.now in
    let inside : c.in-Some.e < length d.rows = subst (λ (o : Option ℕ). IfSome o (λ e. e < length d.rows)) c.in-Some.is c.requires.system in
    let read = c.row-subsystem.ensures.row in
    let enable_fits : FitsSigned w64 c.enable_value-enable.result = search rules in
    c.if-off.true ∙ ap (λ b. b || c.is_off-is_off_outside.result) (sym c.if-off.true ∙ c.off.ensures)
    ∙ off-here d c.row-subsystem.ensures.resolved.tree.table.nested c.args.values.now c.args.triggers.now c.args.system
    c.in-Some.e c.in-Some.is inside x _ _ _ _
    (c.is_active-outside.ensures x
    ∙ ap (λ (r : Row). active_in d None x c.args.values.now c.args.triggers.now (enclosing d.rows None r.owner))
    read)
    (c.is_off-is_off_outside.ensures x
    ∙ ap (λ (r : Row). any_off d None x c.args.values.now c.args.triggers.now (enclosing d.rows None r.owner)) read) (
      c.control.ensures ∙ ap (λ (r : Row). control_of r.kind) read,
      to_z-of_z w64 _ enable_fits
          ∙ c.enable_value-enable.ensures x c.args.triggers.now,
    )

pub returns-else-off : goal.returns-else-off
returns-else-off t c x =
    let d = diagram_of c.args.r.now in
    let inside : c.in-Some.e < length d.rows = subst (λ (o : Option ℕ). IfSome o (λ e. e < length d.rows)) c.in-Some.is c.requires.system in
    let read = c.row-subsystem.ensures.row in
    let enable_fits : FitsSigned w64 c.enable_value-enable.result = search rules in
    ap (λ b. b || c.is_off-is_off_outside.result) (sym c.if-off.false ∙ c.off.ensures)
    ∙ off-here d c.row-subsystem.ensures.resolved.tree.table.nested c.args.values.now c.args.triggers.now c.args.system
    c.in-Some.e c.in-Some.is inside x _ _ _ _
    (c.is_active-outside.ensures x
    ∙ ap (λ (r : Row). active_in d None x c.args.values.now c.args.triggers.now (enclosing d.rows None r.owner))
    read)
    (c.is_off-is_off_outside.ensures x
    ∙ ap (λ (r : Row). any_off d None x c.args.values.now c.args.triggers.now (enclosing d.rows None r.owner)) read) (
      c.control.ensures ∙ ap (λ (r : Row). control_of r.kind) read,
      to_z-of_z w64 _ enable_fits
          ∙ c.enable_value-enable.ensures x c.args.triggers.now,
    )
