use Rattle.std.proofs.Common.{◌≡◌, ◌++◌, map, take}
use Rattle.c_syntax.specs.Plain.{pure_tree}
use Rattle.lustre_syntax.specs.Plain.{node_tree}
use Rattle.lustre_system.specs.Functions.{function_node}
use Rattle.lustre_expressions.specs.Found.{place_in}
use Rattle.lustre_expressions.specs.Placed.{placed_by}
use Rattle.lustre_emitter.proofs.functions.push_functions.Given as goal

abbrev pub invariant-loop-function : goal.invariant-loop-function
invariant-loop-function l = map node_tree l.nodes.items
    ≡ map node_tree l.fn.nodes.items
    ++ map (λ f. placed_by (place_in l.callees.places.now) (function_node (pure_tree f))) (take l.function-index l.callees.functions.now)
