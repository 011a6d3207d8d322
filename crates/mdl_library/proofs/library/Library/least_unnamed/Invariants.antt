use Rattle.std.proofs.Common.{◌≡◌, drop}
use Rattle.mdl_tree.specs.Values.{trees_of}
use Rattle.mdl_library.specs.References.{lesser, least_unnamed}
use Rattle.mdl_library.specs.Held.{given_seen, library_seen}
use Rattle.mdl_library.proofs.library.Library.least_unnamed.Given as goal

abbrev pub invariant-loop-reference : goal.invariant-loop-reference
invariant-loop-reference l =
    lesser l.least (least_unnamed (library_seen l.self).sources (given_seen l.given) (trees_of (drop l.reference-index l.references)))
    ≡ least_unnamed (library_seen l.fn.self).sources (given_seen l.fn.given) (trees_of l.fn.references)
