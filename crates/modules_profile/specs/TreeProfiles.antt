-- The profiles of a nested system and of all systems inside it.
use Rattle.std.specs.Prelude.{◌≡◌, ℕ, List, [], ◌∷◌, ◌++◌, map, All, Option}
use Rattle.diagram_meaning.specs.Diagram.{Diagram}
use Rattle.diagram_meaning.specs.Nested.{System, Systems, system, no_more, next, system_of}
use Rattle.diagram_meaning.specs.ResolvedTree.{ResolvedTree, IsResolvedTree}
use Rattle.modules_profile.specs.Systems.{systems}
use Rattle.modules_profile.specs.SystemProfile.{SystemProfile}
use Rattle.modules_profile.specs.Functions.{IsProfileOf}

-- the rows of a system and of all systems inside it, each before those inside it, in the order of
-- the file
abbrev mutual
  pub rows_inside : System → List (Option ℕ)
  rows_inside (system row line control own children) = row ∷ rows_of_all children

  pub rows_of_all : Systems → List (Option ℕ)
  rows_of_all no_more = []
  rows_of_all (next child rest) = rows_inside child ++ rows_of_all rest

-- the profile of each of these systems, in this order
pub record AreProfilesInside (d : Diagram) (s : System) (profiles : List SystemProfile) : Type
    0 where
  pub rows : map (λ p. p.row) profiles ≡ rows_inside s
  pub each : All (λ p. IsProfileOf d p.row p) profiles

-- the systems of a resolved tree, in this order, are all systems: the root, and then the subsystem
-- rows by number
abbrev pub TreeHasAllSystems : Type 0
TreeHasAllSystems = (r : ResolvedTree) → IsResolvedTree r →
    rows_inside (system_of r.tree.root) ≡ systems r.tree.table.rows
