-- A tick of a run, an instance that solves the equations of the file at it, and the values that are expected.
use Rattle.std.proofs.Common.{◌≡◌, ◌∙◌, sym, ap, ℕ, List, [], length, slice_index_or, Option, None, Some, option_map, ℤ}
use Rattle.diagram_meaning.specs.declared.Row.{Row}
use Rattle.diagram_meaning.specs.Diagram.{Diagram}
use Rattle.diagram_meaning.specs.ResolvedLaws.{CyclesHaveTicks, ResolvedCyclesAreShort}
use Rattle.diagram_meaning.specs.ResolvedTree.{ResolvedTree, diagram_of}
use Rattle.diagram_meaning.specs.Laws.{Run}
use Rattle.diagram_meaning.specs.SystemRuns.{SystemTick, system_tick, RunsAreOfSystems, ChildrenMeetParents}
use Rattle.diagram_typed_runs.specs.TypedRuns.{IsSystem}
use Rattle.lustre_flows.specs.Values.{value_at}
use Rattle.lustre_flows.specs.Instances.{Instance}
use Rattle.lustre_rows.specs.NamesOfTick.{NamesHave}
use Rattle.lustre_rows.specs.EquationLaws.{ActivityEquationsHold, MemoryEquationsHold, ValueEquationsHold}
use Rattle.lustre_rows.specs.ChildLaws.{ChildEquationsHold}
use Rattle.lustre_rows.specs.RunLaws.{IsRunTick, RowsOfRunsAreTimed, RowsOfRunsAreComputed}
use Rattle.lustre_right.specs.Reads.{Known}
use Rattle.lustre_right.specs.ReadLaws.{ActivityIsInOrder, TriggersAreInOrder, SamplesAreInOrder, TakingIsInOrder, ValuesAreInOrder}
use Rattle.lustre_right.specs.Systems.{system_texts, place_in, values_of_system}
use Rattle.lustre_right.specs.SystemLaws.{IsModelSolution, SystemsHold}
use Rattle.lustre_right.specs.TickLaws.{IsExpected, ExpectedValues, HadRun}

-- the laws that all of it rests on
pub record Laws : Type 1 where
  pub hold : SystemsHold
  pub expected : ExpectedValues
  pub activity_order : ActivityIsInOrder
  pub trigger_order : TriggersAreInOrder
  pub sample_order : SamplesAreInOrder
  pub taking_order : TakingIsInOrder
  pub value_order : ValuesAreInOrder
  pub activity : ActivityEquationsHold
  pub memories : MemoryEquationsHold
  pub values : ValueEquationsHold
  pub children : ChildEquationsHold
  pub timed : RowsOfRunsAreTimed
  pub computed : RowsOfRunsAreComputed
  pub runs : RunsAreOfSystems
  pub parents : ChildrenMeetParents
  pub cycles : CyclesHaveTicks
  pub short : ResolvedCyclesAreShort

-- a tick, what solves the equations at it after what had the run, and the values that each system is expected to have
pub record Setting : Type 1 where
  pub laws : Laws
  pub r : ResolvedTree
  pub xs : List (List ℤ)
  pub run : Run
  pub t : ℕ
  pub before : Option Instance
  pub left : Instance
  pub tick : IsRunTick r xs run None t
  pub solution : IsModelSolution r before (slice_index_or xs t []) left
  pub had : HadRun r xs run t before
  pub expected : Option ℕ → List (Option ℤ)
  pub long : (s : Option ℕ) → IsSystem r.tree.table.rows s → length (expected s) ≡ length (system_texts (diagram_of r) s)
  pub right : (s : Option ℕ) → IsSystem r.tree.table.rows s →
      IsExpected (diagram_of r) r.times.hyper s (system_tick (diagram_of r) None xs run s t) (expected s)

module _ (g : Setting) where
  abbrev pub d : Diagram
  d = diagram_of g.r

  abbrev pub rows : List Row
  rows = g.r.tree.table.rows

  abbrev pub hyper : ℕ
  hyper = g.r.times.hyper

  -- the tick of a system
  abbrev pub tick_of : Option ℕ → SystemTick
  tick_of s = system_tick d None g.xs g.run s g.t

  -- the values of its names in the instance, and those of the tick before
  abbrev pub solved : Option ℕ → List (Option ℤ)
  solved s = values_of_system d hyper s g.left

  abbrev pub olds : Option ℕ → Option (List (Option ℤ))
  olds s = option_map (values_of_system d hyper s) g.before

  abbrev pub place : Option ℕ → List ℕ → ℕ
  place s = place_in d s

  -- a name at a place has in the instance what is expected
  abbrev pub KnownAt : Option ℕ → ℕ → Type 0
  KnownAt s k = (v : ℤ) × (value_at (solved s) k ≡ Some v) × (value_at (g.expected s) k ≡ Some v)

  abbrev pub IsKnown : Option ℕ → Known
  IsKnown s text = KnownAt s (place s text)

  pub names : (s : Option ℕ) → IsSystem rows s → NamesHave d hyper s (tick_of s) (g.expected s) (place s)
  names s system = (g.right s system).names

  -- so it has a value that is expected
  pub known-value : (s : Option ℕ) (k : ℕ) (w : ℤ) → KnownAt s k → value_at (g.expected s) k ≡ Some w → value_at (solved s) k ≡ Some w
  known-value s k w (v, first, second) is = first ∙ sym second ∙ is

  -- a name at an input's place
  pub known-by : (s : Option ℕ) (text : List ℕ) (k : ℕ) (w : ℤ) → place s text ≡ k → value_at (solved s) k ≡ Some w →
      value_at (g.expected s) (place s text) ≡ Some w → IsKnown s text
  known-by s text k w same first second = (w, ap (value_at (solved s)) same ∙ first, second)

  -- a tick of a run for another system
  pub system-tick : (s : Option ℕ) → IsSystem rows s → IsRunTick g.r g.xs g.run s g.t
  system-tick s system = record {
    resolved = g.tick.resolved;
    no_loop = g.tick.no_loop;
    trace = g.tick.trace;
    is_run = g.tick.is_run;
    within = g.tick.within;
    system = system;
  }
