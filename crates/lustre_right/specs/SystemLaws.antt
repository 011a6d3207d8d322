-- What solves the equations of a model's file solves those of each system, and is whole where each
-- system's names have values.
use Rattle.std.specs.Prelude.{◌≡◌, ℕ, true, List, Option, None, Some, ℤ}
use Rattle.std.specs.List.{AllByRecursion}
use Rattle.diagram_meaning.specs.ResolvedTree.{ResolvedTree, IsResolvedTree, diagram_of}
use Rattle.diagram_typed_runs.specs.TypedRuns.{IsSystem}
use Rattle.emit_shape.specs.Names.{now_name}
use Rattle.lustre_flows.specs.Values.{value_at}
use Rattle.lustre_flows.specs.Instances.{Instance, values_in, is_complete}
use Rattle.lustre_flows.specs.FlowLaws.{IsTickOf}
use Rattle.lustre_settling.specs.Solutions.{IsSolution}
use Rattle.lustre_syntax.specs.Lawful.{IsLawful}
use Rattle.lustre_system.specs.File.{lustre_file}
use Rattle.lustre_system.specs.SystemNodes.{system_equations}
use Rattle.lustre_right.specs.LongDelays.{long_delay}
use Rattle.lustre_right.specs.Systems.{EquationHolds, HasArguments, HasValues, RootHolds, root_place}

-- the file of a model without a delay that is too long keeps the static rules and the limits
abbrev pub ModelFilesAreLawful : Type 0
ModelFilesAreLawful =
    (r : ResolvedTree) → IsResolvedTree r → long_delay (diagram_of r) ≡ None →
    IsLawful (lustre_file (diagram_of r) r.times.hyper)

-- an instance solves the equations of a resolved model's file, at a tick on a row
pub record IsModelSolution (r : ResolvedTree) (before : Option Instance) (row : List ℤ)
    (left : Instance) : Type 0 where
  pub resolved : IsResolvedTree r
  pub tick : IsTickOf (lustre_file (diagram_of r) r.times.hyper) before row
  pub solution : IsSolution (lustre_file (diagram_of r) r.times.hyper) before row left

-- then the equations of the root and of each system hold
abbrev pub SystemsHold : Type 0
SystemsHold =
    (r : ResolvedTree) (before : Option Instance) (row : List ℤ) (left : Instance) →
    IsModelSolution r before row left →
    RootHolds (diagram_of r) r.times.hyper before row left
    × ((s : Option ℕ) → IsSystem r.tree.table.rows s →
    AllByRecursion (EquationHolds (diagram_of r) r.times.hyper before left s)
    (system_equations (diagram_of r) s))

-- it has a value for each name where the root counts, and each system's names and calls have theirs
pub record SystemsAreWhole (r : ResolvedTree) (before : Option Instance) (left : Instance) : Type 0
  where
    pub counts : (v : ℤ) × (value_at (values_in left) (root_place (diagram_of r) r.times.hyper now_name)
        ≡ Some v)
    pub values : (s : Option ℕ) → IsSystem r.tree.table.rows s →
        HasValues (diagram_of r) r.times.hyper before left s
    pub arguments : (s : Option ℕ) → IsSystem r.tree.table.rows s →
        AllByRecursion (HasArguments (diagram_of r) r.times.hyper before left s)
        (system_equations (diagram_of r) s)

abbrev pub WholeBySystems : Type 0
WholeBySystems =
    (r : ResolvedTree) (before : Option Instance) (row : List ℤ) (left : Instance) →
    IsModelSolution r before row left → SystemsAreWhole r before left → is_complete left ≡ true
