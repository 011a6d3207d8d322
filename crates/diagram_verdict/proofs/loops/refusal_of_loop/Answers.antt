use Rattle.std.proofs.Common.{◌≡◌, sym, ◌∙◌, ap, subst, List, ◌<◌, length, slice_index, MatchOption}
use Rattle.diagram_meaning.specs.declared.table.Row.{Row}
use Rattle.diagram_meaning.specs.RowTable.{RowTable}
use Rattle.diagram_meaning.specs.ResolvedTree.{ResolvedTree, diagram_of}
use Rattle.diagram_meaning.specs.Needs.{needs_of, HasNoLoop, IsLeastLoop}
use Rattle.diagram_verdict.proofs.LoopRows.{loop-inside}
use Rattle.diagram_verdict.proofs.loops.refusal_of_loop.Goals as goal

pub places_of-requires : goal.places_of-requires
places_of-requires c =
    let d = diagram_of c.args.r.now in
    let told = c.in-Some.told.items in
    let found : IsLeastLoop (needs_of d) told =
    subst (λ o. MatchOption o (HasNoLoop (needs_of d)) (λ loop. IsLeastLoop (needs_of d) loop.items)) c.in-Some.is c.in_ok-told.ensures in
    let rows : c.as_slice.result.now ≡ d.rows =
    c.as_slice.ensures.value ∙ ap (λ (t : RowTable). t.rows) (c.behind-r.view_is ∙ c.table.ensures.table)
    ∙ ap (λ (r : ResolvedTree). r.tree.table.rows) c.r.view_is in
    let loop : c.deref.result.now ≡ told = c.deref.ensures.value in
    λ i below.
    subst (λ numbers. slice_index numbers i < length c.as_slice.result.now) (sym loop)
    (subst (λ (own : List Row). slice_index told i < length own) (sym rows)
    (loop-inside d told found i (subst (λ numbers. i < length numbers) loop below)))
