use Rattle.std.proofs.Common.{◌++◌, ◌≤◌, length, map, sym, ap, ◌∙◌, arith}
use Rattle.c_syntax.specs.declared.program.Pure.{Pure}
use Rattle.c_syntax.specs.Plain.{pure_tree}
use Rattle.c_syntax.specs.Tree.{PureTree}
use Rattle.emit_prelude.specs.Bodies.{function_trees}
use Rattle.emit_row_facts.proofs.lemmas.Steps.{map-map}
use Rattle.lustre_syntax.specs.Plain.{node_tree}
use Rattle.lustre_system.specs.Functions.{function_node}
use Rattle.lustre_expressions.specs.Found.{place_in}
use Rattle.lustre_expressions.specs.Placed.{placed_by}
use Rattle.lustre_emitter.proofs.Lists.{each-next, each-done}
use Rattle.lustre_emitter.proofs.functions.push_functions.Goals as goal

pub loop-function-preserved : goal.loop-function-preserved
loop-function-preserved c =
    let callee = place_in c.args.callees.now.places.now in
    each-next node_tree (λ (f : Pure). placed_by callee (function_node (pure_tree f))) c.args.callees.now.functions.now
    c.loop-function.function-index (map node_tree c.args.nodes.now.items) c.loop-function.nodes.items c.loop-function.invariant
    c.function-item.result c.push.new.self.items c.in_ok-function_node.field-0 c.loop-function-test.true c.function-item.is
    c.in_ok-push.ensures.items c.in_ok-function_node.ensures

pub returns : goal.returns
returns c =
    let callee = place_in c.args.callees.now.places.now in
    let functions = c.args.callees.now.functions.now in
    let i = c.loop-function.function-index in
    let past : length functions ≤ i = let stop = c.loop-function-test.false in omega (arith, stop) in
    each-done node_tree (λ (f : Pure). placed_by callee (function_node (pure_tree f))) functions i
    (map node_tree c.args.nodes.now.items) c.loop-function.nodes.items c.loop-function.invariant past
    ∙ ap (λ ns. map node_tree c.args.nodes.now.items ++ ns)
    (sym (map-map (λ (p : PureTree). placed_by callee (function_node p)) pure_tree functions)
    ∙ ap (map (λ (p : PureTree). placed_by callee (function_node p))) c.requires
    ∙ sym (map-map (placed_by callee) function_node function_trees))
