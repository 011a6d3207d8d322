use Rattle.std.proofs.Common.{◌≡◌}
use Rattle.mdl_library.specs.References.{circular_line}
use Rattle.mdl_library.specs.Held.{library_seen}
use Rattle.mdl_library.proofs.GraphLemmas.{circular_from}
use Rattle.mdl_library.proofs.library.Library.first_circular.Given as goal

abbrev pub invariant-loop-place : goal.invariant-loop-place
invariant-loop-place l = circular_from (library_seen l.self) l.place ≡ circular_line (library_seen l.fn.self)
