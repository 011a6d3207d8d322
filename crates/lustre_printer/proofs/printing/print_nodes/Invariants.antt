use Rattle.std.proofs.Common.{◌≡◌, ◌++◌, take, map}
use Rattle.std.specs.Prelude.{flat_map}
use Rattle.lustre_syntax.specs.Plain.{node_tree}
use Rattle.lustre_syntax.specs.Tree.{node_texts}
use Rattle.lustre_printer.specs.Printing.{node_bytes}
use Rattle.lustre_printer.proofs.printing.print_nodes.Given as goal

abbrev pub invariant-loop-node : goal.invariant-loop-node
invariant-loop-node l =
    l.out.items ≡ l.initial.out.items
    ++ flat_map (λ n. node_bytes (node_texts (map node_tree l.nodes)) (node_tree n)) (take l.node-index l.nodes)
