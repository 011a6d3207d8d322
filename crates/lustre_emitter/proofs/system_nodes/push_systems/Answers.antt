use Rattle.std.proofs.Common.{ℕ, ◌++◌, ◌≤◌, length, map, sym, ap, ◌∙◌, arith, Option, Bor}
use Rattle.diagram_meaning.specs.declared.subsystem.Subsystem.{Subsystem}
use Rattle.diagram_meaning.specs.Nested.{row_of, system_of}
use Rattle.diagram_meaning.specs.ResolvedTree.{diagram_of}
use Rattle.emit_row_facts.proofs.lemmas.Steps.{map-map}
use Rattle.lustre_syntax.specs.Plain.{node_tree}
use Rattle.lustre_system.specs.SystemNodes.{system_node}
use Rattle.lustre_expressions.specs.Found.{place_in}
use Rattle.lustre_expressions.specs.Placed.{placed_by}
use Rattle.lustre_emitter.specs.Listed.{listed_rows}
use Rattle.lustre_emitter.proofs.Lists.{each-next, each-done}
use Rattle.lustre_emitter.proofs.system_nodes.push_systems.Goals as goal

pub loop-system-preserved : goal.loop-system-preserved
loop-system-preserved c =
    let callee = place_in c.args.callees.now.places.now in
    let d = diagram_of c.args.r.now in
    each-next node_tree (λ (s : Bor Subsystem). placed_by callee (system_node d (row_of (system_of s.now)))) c.args.systems.now
    c.loop-system.system-index (map node_tree c.args.list.now.items) c.loop-system.list.items c.loop-system.invariant
    c.system-item.result c.push.new.self.items c.in_ok-node_of.field-0 c.loop-system-test.true c.system-item.is
    c.in_ok-push.ensures.items c.in_ok-node_of.ensures

pub returns : goal.returns
returns c =
    let callee = place_in c.args.callees.now.places.now in
    let d = diagram_of c.args.r.now in
    let systems = c.args.systems.now in
    let i = c.loop-system.system-index in
    let past : length systems ≤ i = let stop = c.loop-system-test.false in omega (arith, stop) in
    let row : Bor Subsystem → Option ℕ = λ s. row_of (system_of s.now) in
    each-done node_tree (λ (s : Bor Subsystem). placed_by callee (system_node d (row_of (system_of s.now)))) systems i
    (map node_tree c.args.list.now.items) c.loop-system.list.items c.loop-system.invariant past
    ∙ ap (λ ns. map node_tree c.args.list.now.items ++ ns)
    (sym (map-map (λ (o : Option ℕ). placed_by callee (system_node d o)) row systems)
    ∙ sym (map-map (placed_by callee) (system_node d) (listed_rows systems)))
