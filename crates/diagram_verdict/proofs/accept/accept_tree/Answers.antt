use Rattle.std.proofs.Common.{◌≡◌, sym, ◌∙◌, ap, subst}
use Rattle.std.specs.List.{AllByRecursion}
use Rattle.base_refusals.specs.Refusals.{plain_refusal}
use Rattle.diagram_meaning.specs.RowTable.{RowTable}
use Rattle.diagram_meaning.specs.ResolvedTree.{ResolvedTree, diagram_of}
use Rattle.diagram_meaning.specs.ResolvedTable.{table_of_tree}
use Rattle.diagram_meaning.specs.DelayRefusals.{delay_refusal}
use Rattle.diagram_meaning.specs.WellFormed.{IsRow}
use Rattle.diagram_meaning.specs.Needs.{needs_of, HasNoLoop}
use Rattle.diagram_verdict.specs.Verdict.{TellsLoop}
use Rattle.diagram_verdict.specs.Faults.{TellsLoopOf}
use Rattle.diagram_verdict.specs.TreeVerdict.{for_loop, for_delays}
use Rattle.diagram_verdict.proofs.accept.accept_tree.Goals as goal

pub refusal_of_delays-requires : goal.refusal_of_delays-requires
refusal_of_delays-requires c =
    let rows : c.deref.result.now ≡ c.table.result.now.rows =
    c.deref.ensures.value ∙ ap (λ (t : RowTable). t.rows) c.behind-resolved.view_is in
    subst (AllByRecursion IsRow) (sym rows)
    (subst (λ (t : RowTable). AllByRecursion IsRow t.rows)
    (sym c.table.ensures.table) c.table.ensures.diagram.table.each)

pub returns-in-Some-clause-refused : goal.returns-in-Some-clause-refused
returns-in-Some-clause-refused c =
    let d = diagram_of c.in_ok-resolved.resolved in
    let told : TellsLoop d (plain_refusal c.in-Some.refusal) =
    subst (TellsLoopOf d) c.in-Some.is c.in_ok-refusal.ensures in
    for_loop (plain_refusal c.in-Some.refusal) (table_of_tree c.in_ok-resolved.resolved) c.in_ok-resolved.ensures.model told

pub returns-in-Some-refusal_of_delays-clause-refused : goal.returns-in-Some-refusal_of_delays-clause-refused
returns-in-Some-refusal_of_delays-clause-refused c =
    let r = table_of_tree c.in_ok-resolved.resolved in
    let d = diagram_of c.in_ok-resolved.resolved in
    let none : HasNoLoop (needs_of d) = subst (TellsLoopOf d) c.in_default.is c.in_ok-refusal.ensures in
    let rows : c.deref.result.now ≡ r.table.rows =
    c.deref.ensures.value ∙ ap (λ (t : RowTable). t.rows) (c.behind-resolved.view_is ∙ c.table.ensures.table)
    ∙ ap (λ (r : ResolvedTree). r.tree.table.rows) c.resolved.view_is in
    for_delays (plain_refusal c.in-Some-refusal_of_delays.refusal) r c.in_ok-resolved.ensures.model none
    (ap delay_refusal (sym rows) ∙ sym c.in-Some-refusal_of_delays.ensures)

pub returns-clause-accepted : goal.returns-clause-accepted
returns-clause-accepted c =
    let r = table_of_tree c.in_ok-resolved.resolved in
    let d = diagram_of c.in_ok-resolved.resolved in
    let none : HasNoLoop (needs_of d) = subst (TellsLoopOf d) c.in_default.is c.in_ok-refusal.ensures in
    let rows : c.deref.result.now ≡ r.table.rows =
    c.deref.ensures.value ∙ ap (λ (t : RowTable). t.rows) (c.behind-resolved.view_is ∙ c.table.ensures.table)
    ∙ ap (λ (r : ResolvedTree). r.tree.table.rows) c.resolved.view_is in
    record {
      model = c.in_ok-resolved.ensures.model;
      no_loop = none;
      short_delays = ap delay_refusal (sym rows) ∙ sym c.in_default-refusal_of_delays.ensures;
    }
