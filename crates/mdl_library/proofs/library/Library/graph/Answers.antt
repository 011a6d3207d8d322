use Rattle.std.proofs.Common.{◌≡◌, ◌<◌, ◌≤◌, length, subst, sym, ◌∙◌, arith}
use Rattle.std.proofs.lemmas.List.{length-map}
use Rattle.base_graph.specs.NeedsGraph.{NeedsGraph, IsGraph}
use Rattle.mdl_library.specs.References.{source_graph}
use Rattle.mdl_library.specs.Held.{library_seen, source_seen}
use Rattle.mdl_library.proofs.GraphLemmas.{edges_more, edges_end, is_graph}
use Rattle.mdl_library.proofs.library.Library.graph.Goals as goal

pub loop-place-preserved : goal.loop-place-preserved
loop-place-preserved c =
    let library = library_seen c.args.self.now in
    let len = length-map c.args.self.now.sources.entries source_seen ∙ c.requires in
    let h : c.loop-place.place < length library.sources = omega (arith, c.loop-place-test.true, len) in
    edges_more library c.loop-place.place h c.loop-place.edges.items c.take_source.new.edges.items _ c.in_ok-take_source.ensures
    c.loop-place.invariant

pub invariant_of-result : goal.invariant_of-result
invariant_of-result c =
    let library = library_seen c.args.self.now in
    let len = length-map c.args.self.now.sources.entries source_seen ∙ c.requires in
    let h : length library.sources ≤ c.loop-place.place = omega (arith, c.loop-place-test.false, len) in
    let edges = edges_end library c.loop-place.place h c.loop-place.edges.items _ c.loop-place.invariant in
    let same : (let g : NeedsGraph = record { n = c.args.n; edges = c.loop-place.edges.items } in g) ≡ source_graph library =
    λ i. record { n = sym len i; edges = edges i } in
    subst IsGraph (sym same) (is_graph library)

pub returns : goal.returns
returns c =
    let library = library_seen c.args.self.now in
    let len = length-map c.args.self.now.sources.entries source_seen ∙ c.requires in
    let h : length library.sources ≤ c.loop-place.place = omega (arith, c.loop-place-test.false, len) in
    let edges = edges_end library c.loop-place.place h c.loop-place.edges.items _ c.loop-place.invariant in
    λ i. record { n = sym len i; edges = edges i }
