use Rattle.std.proofs.Common.{◌≡◌, List, Result, Ok, Err, IfOk, length, subst, sym}
use Rattle.diagram_meaning.specs.declared.table.Row.{Row}
use Rattle.diagram_meaning.specs.RowTable.{RowTable}
use Rattle.diagram_meaning.specs.TimeRefusals.{AreInputTimes}
use Rattle.diagram_times.specs.Bases.{IsBaseOf, AreGiven}
use Rattle.diagram_times.specs.Collecting.{AreCollected}
use Rattle.diagram_times.specs.Feeding.{AreInputsInside, IsFeeding}
use Rattle.diagram_times.specs.Searching.{AreFound}
use Rattle.diagram_times.proofs.CollectSteps.{input-times}
use Rattle.diagram_times.proofs.inputs.input_times.Goals as goal

on-ok : {V E : Type 0} (P Q : V → Type 0) → ((v : V) → P v → Q v) → (r : Result V E) → IfOk r P → IfOk r Q
on-ok P Q f (Ok v) h = f v h
on-ok P Q f (Err e) h = h

pub returns : goal.returns
returns c =
    let rows = c.args.rows.now in
    let g = c.in_ok-graph.graph in
    let given = subst (AreGiven rows c.args.base (length rows)) (sym c.deref.ensures.value) c.in_ok-given.ensures in
    let found = subst (AreFound g c.deref.result.now) (sym c.deref-2.ensures.value) c.in_ok-found.ensures in
    on-ok (λ v. AreCollected rows c.deref-2.result.now (length rows) v.items) (λ v. (table : RowTable) →
    table.rows ≡ rows → IsBaseOf table c.args.base → AreInputTimes table v.items)
    (λ v collected table e is_base.
    input-times table c.args.base is_base g (subst (λ (r : List Row). IsFeeding r g) (sym e) c.in_ok-graph.ensures)
    (subst AreInputsInside (sym e) c.requires.inside)
    c.deref.result.now (subst (λ (r : List Row). AreGiven r c.args.base (length r) c.deref.result.now) (sym e) given)
    c.deref-2.result.now found
    v.items (subst (λ (r : List Row). AreCollected r c.deref-2.result.now (length r) v.items) (sym e) collected))
    c.collect.result c.collect.ensures
