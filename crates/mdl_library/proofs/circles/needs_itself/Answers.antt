use Rattle.std.proofs.Common.{rules, ◌≡◌, subst, sym, ap, ◌∙◌, slice_set, replicate}
use Rattle.std.specs.List.{list_any}
use Rattle.std.specs.Prelude.{slice_index, IsBitSet}
use Rattle.base_graph.specs.NeedsGraph.{IsGraph}
use Rattle.mdl_library.specs.HeldGraph.{marks}
use Rattle.mdl_library.proofs.MaskLemmas.{marks_are_needs, only_marked, own_marked}
use Rattle.mdl_library.proofs.circles.needs_itself.Goals as goal

pub returns : goal.returns
returns c =
    let g = c.args.graph.now in
    let k = c.args.node in
    let source : c.deref.result.now ≡ slice_set (replicate g.n 0) k 1 = search rules in
    c.needs_marked.ensures ∙ ap (λ m. list_any (marks m k) g.edges) c.deref-2.ensures.value
    ∙ marks_are_needs g (subst IsGraph c.graph.view_is c.graph.invariant) k c.requires c.deref.result.now c.in_ok-reached.reached.items
    (λ a set. only_marked g.n k a (subst (λ s. IsBitSet (slice_index s a) 0) source set))
    (subst (λ s. IsBitSet (slice_index s k) 0) (sym source) (own_marked g.n k c.requires)) c.in_ok-reached.ensures
