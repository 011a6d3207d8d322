-- The names of a model's file have what its run has, tick by tick.
use Rattle.std.specs.Prelude.{◌≡◌, ℕ, zero, suc, ◌%◌, List, [], length, slice_index_or, Contains, Option, Some, None, ℤ, pos}
use Rattle.diagram_meaning.specs.Diagram.{Diagram}
use Rattle.diagram_meaning.specs.ResolvedTree.{ResolvedTree, diagram_of}
use Rattle.diagram_meaning.specs.Laws.{Run}
use Rattle.diagram_meaning.specs.SystemRuns.{SystemTick, system_tick}
use Rattle.diagram_typed_runs.specs.TypedRuns.{IsSystem}
use Rattle.emit_shape.specs.Names.{now_name}
use Rattle.lustre_flows.specs.Values.{value_at}
use Rattle.lustre_flows.specs.Instances.{Instance, values_in}
use Rattle.lustre_syntax.specs.Lawful.{IsLawful}
use Rattle.lustre_system.specs.File.{lustre_file}
use Rattle.lustre_rows.specs.NamesOfTick.{NamesHave}
use Rattle.lustre_rows.specs.RunLaws.{IsRunTick}
use Rattle.lustre_right.specs.Systems.{system_texts, place_in, values_of_system, root_place}
use Rattle.lustre_right.specs.SystemLaws.{IsModelSolution, SystemsAreWhole}

-- a value for each name of a system's node, as the run has it
pub record IsExpected (d : Diagram) (hyper : ℕ) (s : Option ℕ) (m : SystemTick)
    (values : List (Option ℤ)) : Type 0 where
  pub names : NamesHave d hyper s m values (place_in d s)
  pub whole : (text : List ℕ) → Contains (system_texts d s) text →
      (v : ℤ) × (value_at values (place_in d s text) ≡ Some v)

-- at each tick of a run there are such values
abbrev pub ExpectedValues : Type 0
ExpectedValues =
    (r : ResolvedTree) (xs : List (List ℤ)) (run : Run) (n : Option ℕ) (t : ℕ) →
    IsRunTick r xs run n t → IsLawful (lustre_file (diagram_of r) r.times.hyper) →
    (values : List (Option ℤ)) × (length values ≡ length (system_texts (diagram_of r) n))
    × IsExpected (diagram_of r) r.times.hyper n (system_tick (diagram_of r) None xs run n t) values

-- an instance of the file's last node has for each name what the run has at tick t
pub record HasRun (r : ResolvedTree) (xs : List (List ℤ)) (run : Run) (t : ℕ)
    (left : Instance) : Type 0 where
  pub count : value_at (values_in left) (root_place (diagram_of r) r.times.hyper now_name)
      ≡ Some (pos (t % r.times.hyper))
  pub systems : (s : Option ℕ) → IsSystem r.tree.table.rows s →
      IsExpected (diagram_of r) r.times.hyper s (system_tick (diagram_of r) None xs run s t)
      (values_of_system (diagram_of r) r.times.hyper s left)

-- before the first tick nothing was left; what the tick before another one left has what the run has
-- at it
abbrev pub HadRun : ResolvedTree → (xs : List (List ℤ)) → Run → (t : ℕ) → Option Instance → Type 0
HadRun r xs run t None = t ≡ 0
HadRun r xs run zero (Some before) = ⊥
HadRun r xs run (suc t) (Some before) = HasRun r xs run t before

-- so what solves the equations at a tick has what the run has, and is whole
abbrev pub SolutionsHaveTheRun : Type 0
SolutionsHaveTheRun =
    (r : ResolvedTree) (xs : List (List ℤ)) (run : Run) (t : ℕ) (before : Option Instance)
    (left : Instance) → IsRunTick r xs run None t →
    IsModelSolution r before (slice_index_or xs t []) left → HadRun r xs run t before →
    HasRun r xs run t left × SystemsAreWhole r before left
