use Rattle.std.proofs.Common.{◌∙◌, ◌<◌, None, Option, ℕ, IfSome, ap, subst, length, arith, rules, FitsSigned, w64}
use Rattle.std.proofs.lemmas.List.{get_or_default}
use Rattle.diagram_activity.specs.declared.TrigMem.TheVariants.{NotYet}
use Rattle.std.proofs.lemmas.Int.{to_z-of_z}
use Rattle.diagram_meaning.specs.ResolvedTree.{diagram_of}
use Rattle.diagram_meaning.specs.declared.table.Row.{Row}
use Rattle.diagram_meaning.specs.Rows.{enclosing}
use Rattle.diagram_blocks.specs.Kinds.{control_of}
use Rattle.diagram_meaning.specs.Run.{active_in}
use Rattle.test_solver.proofs.Systems.{active-here}
use Rattle.test_solver.proofs.activity.+is_active.Goals as goal

pub returns-in-Some : goal.returns-in-Some
returns-in-Some t c x =
    let d = diagram_of c.args.r.now in
    let inside : c.in-Some.e < length d.rows = subst (λ (o : Option ℕ). IfSome o (λ e. e < length d.rows)) c.in-Some.is c.requires.system in
    let in_triggers : c.in-Some.e < length c.args.triggers.now = omega (arith, c.requires.triggers, inside) in
    let read = c.row-subsystem.ensures.row in
    let enable_fits : FitsSigned w64 c.enable_value-enable.result = search rules in
    let trigger_fits : FitsSigned w64 c.trigger_value-trigger.result = search rules in
    c.active.ensures
    ∙ active-here d c.row-subsystem.ensures.resolved.tree.table.nested c.args.values.now c.args.triggers.now
    c.args.system c.in-Some.e c.in-Some.is inside x _ _ _ _ _
    (c.is_active-outside.ensures x
    ∙ ap (λ (r : Row). active_in d None x c.args.values.now c.args.triggers.now (enclosing d.rows None r.owner))
    read)
    (get_or_default c.args.triggers.now c.in-Some.e _ NotYet in_triggers) (
      c.control.ensures ∙ ap (λ (r : Row). control_of r.kind) read,
      to_z-of_z w64 _ enable_fits
          ∙ c.enable_value-enable.ensures x c.args.triggers.now,
    )
    (to_z-of_z w64 _ trigger_fits ∙ c.trigger_value-trigger.ensures x c.args.triggers.now)
