use Rattle.std.proofs.Common.{◌≡◌, ◌++◌, drop}
use Rattle.mdl_tree.specs.Values.{trees_of}
use Rattle.mdl_library.specs.References.{needs_by}
use Rattle.mdl_library.specs.Held.{library_seen}
use Rattle.mdl_library.proofs.library.Library.take_needs.Given as goal

abbrev pub invariant-loop-reference : goal.invariant-loop-reference
invariant-loop-reference l =
    l.edges.items ++ needs_by (library_seen l.self) l.place (trees_of (drop l.reference-index l.references))
    ≡ l.fn.edges.items ++ needs_by (library_seen l.fn.self) l.fn.place (trees_of l.fn.references)
