use Rattle.std.proofs.Common.{map, rules}
use Rattle.lustre_syntax.specs.Plain.{node_tree}
use Rattle.lustre_syntax.specs.Tree.{node_texts}
use Rattle.lustre_printer.specs.Printing.{node_bytes}
use Rattle.c_printer.proofs.lemmas.ItemTexts.{flat_map-put}
use Rattle.lustre_printer.proofs.PrintedLists.{flat_map-printed}
use Rattle.lustre_printer.proofs.printing.print_nodes.Goals as goal

pub loop-node-preserved : goal.loop-node-preserved
loop-node-preserved c =
    let nodes = c.args.nodes.now in
    flat_map-put (λ n. node_bytes (node_texts (map node_tree nodes)) (node_tree n)) nodes c.loop-node.node-index
    c.node-item.result c.args.out.now.items c.loop-node.out.items c.print_node.new.out.items (search rules) (search rules)
    c.loop-node.invariant c.in_ok-print_node.ensures

pub returns : goal.returns
returns c =
    let nodes = c.args.nodes.now in
    flat_map-printed (node_bytes (node_texts (map node_tree nodes))) node_tree nodes c.loop-node.node-index
    c.args.out.now.items c.loop-node.out.items (search rules) c.loop-node.invariant
