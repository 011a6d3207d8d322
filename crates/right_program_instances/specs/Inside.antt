-- The instances inside an instance of a system.
use Rattle.std.specs.Prelude.{ℕ, Contains, Option, Some}
use Rattle.std.specs.List.{AllByRecursion}
use Rattle.modules_profile.specs.Systems.{systems_inside}
use Rattle.c_semantics.specs.Cells.{Cells, cells_at}
use Rattle.emit_shape.specs.Programs.{struct_place}
use Rattle.right_relation.specs.Forms.{HasForms}
use Rattle.right_claim.specs.Paths.{path_inside}
use Rattle.right_claim.specs.Anew.{forms_at}
use Rattle.right_linking.specs.Parts.{Parts, program_of, diagram, all_systems}
use Rattle.right_linking.specs.Root.{HasPath}

-- in these fields of an instance of the system n there is an instance of subsystem e at its path
abbrev pub HasInside : Parts → Option ℕ → Cells → ℕ → Type 0
HasInside a n cells e =
    HasPath (path_inside (program_of a) (diagram a).rows n e) cells
    × HasForms (forms_at (program_of a) (struct_place (program_of a) (Some e)))
    (cells_at (path_inside (program_of a) (diagram a).rows n e) cells)

-- so it is in any fields of a system's struct
abbrev pub InstancesHavePathsInside : Parts → Type 0
InstancesHavePathsInside a = (n : Option ℕ) → Contains (all_systems a) n →
    (cells : Cells) → HasForms (forms_at (program_of a) (struct_place (program_of a) n)) cells →
    AllByRecursion (HasInside a n cells) (systems_inside (diagram a).rows n)
