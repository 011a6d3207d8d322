use Rattle.std.proofs.Common.{◌≡◌, drop}
use Rattle.base_refusals.specs.FirstRefusal.{least_in, as_plain, earlier_of}
use Rattle.mdl_tree.specs.Values.{trees_of}
use Rattle.mdl_systems.specs.Models.{library}
use Rattle.mdl_systems.proofs.file.least_library.Given as goal

abbrev pub invariant-loop-library : goal.invariant-loop-library
invariant-loop-library l =
    earlier_of (as_plain l.least) (least_in library (trees_of (drop l.library-index l.libraries)))
    ≡ least_in library (trees_of l.fn.libraries)
