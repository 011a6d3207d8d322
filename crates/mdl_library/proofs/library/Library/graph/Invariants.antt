use Rattle.std.proofs.Common.{◌≡◌, ◌++◌, drop, flat_map}
use Rattle.std.specs.List.{enumerate_from}
use Rattle.mdl_library.specs.References.{needs_of, source_graph}
use Rattle.mdl_library.specs.Held.{library_seen}
use Rattle.mdl_library.proofs.library.Library.graph.Given as goal

abbrev pub invariant-loop-place : goal.invariant-loop-place
invariant-loop-place l =
    l.edges.items ++ flat_map (needs_of (library_seen l.self)) (drop l.place (enumerate_from 0 (library_seen l.self).sources))
    ≡ (source_graph (library_seen l.fn.self)).edges
