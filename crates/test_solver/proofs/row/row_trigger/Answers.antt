use Rattle.std.proofs.Common.{◌≡◌, ◌∙◌, ◌<◌, None, length, if◌then◌else◌, sym, ap, arith, rules, FitsSigned, w64, true, false}
use Rattle.std.proofs.lemmas.List.{get_or_default}
use Rattle.std.proofs.lemmas.Int.{to_z-of_z}
use Rattle.diagram_activity.specs.declared.TrigMem.TheVariants.{NotYet}
use Rattle.diagram_activity.specs.Activity.{next_memory}
use Rattle.diagram_meaning.specs.ResolvedTree.{diagram_of}
use Rattle.diagram_meaning.specs.declared.table.Row.{Row}
use Rattle.diagram_meaning.specs.Rows.{row_at, enclosing, is_triggered}
use Rattle.diagram_blocks.specs.Kinds.{control_of}
use Rattle.diagram_meaning.specs.Run.{trigger_at, active_in, any_off, trigger_value}
use Rattle.test_solver.proofs.row.row_trigger.Goals as goal

pub returns : goal.returns
returns c x =
    let d = diagram_of c.args.r.now in
    let e = c.args.e in
    let read = c.row-row.ensures.row in
    let value_fits : FitsSigned w64 c.trigger_value.result = search rules in
    let in_before : e < length c.args.before.now = omega (arith, c.requires.before, c.requires.row) in
    let triggered : is_triggered (control_of (row_at d.rows e).kind) ≡ true =
    sym (ap (λ (row : Row). is_triggered (control_of row.kind)) read) ∙ sym (ap is_triggered c.control.ensures)
    ∙ sym c.if-not-is_triggered.ensures in
    let on : any_off d None x c.args.values.now c.args.before.now (enclosing d.rows None (row_at d.rows e).owner) ≡ false =
    sym (ap (λ (row : Row). any_off d None x c.args.values.now c.args.before.now (enclosing d.rows None row.owner))
    read) ∙ sym (c.if-is_off.ensures x) in
    let outside = c.is_active-outside.ensures x
    ∙ ap (λ (row : Row). active_in d None x c.args.values.now c.args.before.now (enclosing d.rows None row.owner))
    read in
    let memory = get_or_default c.args.before.now e _ NotYet in_before in
    let value = to_z-of_z w64 _ value_fits ∙ c.trigger_value.ensures x c.args.before.now in
    c.next_memory.ensures ∙ (λ i. next_memory (outside i) (memory i) (value i))
    ∙ sym (λ i. if triggered i
    then (if on i then NotYet
    else next_memory
    (active_in d None x c.args.values.now c.args.before.now (enclosing d.rows None (row_at d.rows e).owner))
    (trigger_at c.args.before.now e) (trigger_value d None x c.args.values.now c.args.before.now e)) else NotYet)
