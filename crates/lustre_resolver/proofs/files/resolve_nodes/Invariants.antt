use Rattle.std.proofs.Common.{◌≡◌, map, drop}
use Rattle.lustre_grammar.specs.WrittenTrees.{node_of}
use Rattle.lustre_rules.specs.Resolve.{resolve_nodes}
use Rattle.lustre_resolver.specs.Scopes.{nodes_of}
use Rattle.lustre_resolver.proofs.files.resolve_nodes.Given as goal

abbrev pub invariant-loop-i : goal.invariant-loop-i
invariant-loop-i l =
    resolve_nodes (nodes_of l.fn.known) (map node_of l.nodes) ≡ resolve_nodes (nodes_of l.known) (map node_of (drop l.i l.nodes))
