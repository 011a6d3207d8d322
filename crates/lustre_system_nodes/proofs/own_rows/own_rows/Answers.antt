use Rattle.std.proofs.Common.{◌≡◌, ◌<◌, length, List, subst, sym, ap, ◌∙◌, arith}
use Rattle.std.proofs.lemmas.List.{length-map}
use Rattle.diagram_meaning.specs.declared.subsystem.Subsystem.TheViews.{out-Subsystem}
use Rattle.diagram_meaning.specs.declared.table.Row.{Row}
use Rattle.diagram_meaning.specs.Nested.{Agrees, system_of}
use Rattle.modules_profile.specs.Systems.{children_of}
use Rattle.modules_profile.proofs.lemmas.SystemsInside.{children-are}
use Rattle.lustre_system_nodes.proofs.OwnSteps.{child-there, child-agrees, child-row}
use Rattle.lustre_system_nodes.proofs.own_rows.own_rows.Goals as goal

pub child-requires : goal.child-requires
child-requires c =
    let rows = c.rows_of-rows.result.now in
    let s = system_of c.args.s.now in
    child-there rows s (subst (λ (rows : List Row). Agrees rows s) (sym c.rows_of-rows.ensures) c.requires) c.own-own.result.now
    c.own-own.ensures c.loop-b.b-index c.loop-b.list.items c.loop-b.place c.loop-b-test.true
    (sym c.is_subsystem.ensures ∙ c.if-is_subsystem.true) c.loop-b.invariant

pub subsystem_row-requires-clause-system : goal.subsystem_row-requires-clause-system
subsystem_row-requires-clause-system c =
    let rows = c.rows_of-rows.result.now in
    let s = system_of c.args.s.now in
    child-agrees rows s (subst (λ (rows : List Row). Agrees rows s) (sym c.rows_of-rows.ensures) c.requires) c.own-own.result.now
    c.own-own.ensures c.loop-b.b-index c.loop-b.list.items c.loop-b.place c.loop-b-test.true
    (sym c.is_subsystem.ensures ∙ c.if-is_subsystem.true) c.loop-b.invariant (system_of c.child.result.now) c.child.ensures

pub subsystem_row-requires-clause-row : goal.subsystem_row-requires-clause-row
subsystem_row-requires-clause-row c =
    let rows = c.rows_of-rows.result.now in
    let s = system_of c.args.s.now in
    child-row rows s (subst (λ (rows : List Row). Agrees rows s) (sym c.rows_of-rows.ensures) c.requires) c.own-own.result.now
    c.own-own.ensures c.loop-b.b-index c.loop-b.list.items c.loop-b.place c.loop-b-test.true
    (sym c.is_subsystem.ensures ∙ c.if-is_subsystem.true) c.loop-b.invariant (system_of c.child.result.now) c.child.ensures

pub overflow_add-place : goal.overflow_add-place
overflow_add-place c =
    let rows = c.rows_of-rows.result.now in
    let s = system_of c.args.s.now in
    let there : c.loop-b.place < length (children_of s) =
    child-there rows s (subst (λ (rows : List Row). Agrees rows s) (sym c.rows_of-rows.ensures) c.requires) c.own-own.result.now
    c.own-own.ensures c.loop-b.b-index c.loop-b.list.items c.loop-b.place c.loop-b-test.true
    (sym c.is_subsystem.ensures ∙ c.if-is_subsystem.true) c.loop-b.invariant in
    let many : length (children_of s) ≡ length (out-Subsystem c.args.s.now).children.items =
    ap length (children-are c.args.s.now) ∙ length-map (out-Subsystem c.args.s.now).children.items system_of in
    let small = (out-Subsystem c.args.s.now).children.small in
    let ok = (out-Subsystem c.args.s.now).children.ok in
    omega (arith, there, many, small, ok.0, ok.1)
