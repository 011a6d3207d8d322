use Rattle.std.proofs.Common.{◌≡◌, ◌++◌, map, take}
use Rattle.lustre_syntax.specs.Plain.{expr_tree}
use Rattle.lustre_system_nodes.specs.Reads.{read_at}
use Rattle.lustre_system_nodes.proofs.children.push_reads.Given as goal

abbrev pub invariant-loop-wire : goal.invariant-loop-wire
invariant-loop-wire l =
    map expr_tree l.values.items ≡ map expr_tree l.fn.values.items ++ map (read_at l.names) (take l.wire-index l.wires)
