use Rattle.std.proofs.Common.{◌<◌, ◌≤◌, length, sym, ap, ◌∙◌, arith}
use Rattle.base_graph.specs.NeedsGraph.{NeedsGraph}
use Rattle.mdl_library.specs.References.{needs_itself}
use Rattle.mdl_library.specs.Held.{library_seen}
use Rattle.mdl_library.proofs.GraphLemmas.{circular_pass, circular_here, circular_end}
use Rattle.mdl_library.proofs.library.Library.first_circular.Goals as goal

pub returns-then-branch : goal.returns-then-branch
returns-then-branch c =
    let library = library_seen c.args.self.now in
    let k = c.loop-place.place in
    let len = ap (λ (g : NeedsGraph). g.n) (c.graph.view_is ∙ c.requires) in
    let h : k < length library.sources = omega (arith, c.loop-place-test.true, len) in
    c.line_at.ensures
    ∙ circular_here library k h
    (sym (c.in_ok-needs_itself.ensures ∙ ap (λ g. needs_itself g k) c.requires) ∙ c.if-branch.true) _ c.loop-place.invariant

pub loop-place-preserved : goal.loop-place-preserved
loop-place-preserved c =
    let library = library_seen c.args.self.now in
    let k = c.loop-place.place in
    let len = ap (λ (g : NeedsGraph). g.n) (c.graph.view_is ∙ c.requires) in
    let h : k < length library.sources = omega (arith, c.loop-place-test.true, len) in
    circular_pass library k h
    (sym (c.in_ok-needs_itself.ensures ∙ ap (λ g. needs_itself g k) c.requires) ∙ c.if-branch.false) _ c.loop-place.invariant

pub returns : goal.returns
returns c =
    let library = library_seen c.args.self.now in
    let k = c.loop-place.place in
    let len = ap (λ (g : NeedsGraph). g.n) (c.graph.view_is ∙ c.requires) in
    let h : length library.sources ≤ k = omega (arith, c.loop-place-test.false, len) in
    circular_end library k h _ c.loop-place.invariant
