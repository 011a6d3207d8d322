-- The two laws of runs on which the other crates rest.
use Rattle.std.specs.Prelude.{◌≡◌, ℕ, ◌<◌, List, [], take, length, slice_index_or, Option, ℤ}
use Rattle.base_core.specs.declared.Port.{Port}
use Rattle.diagram_activity.specs.declared.TrigMem.{TrigMem}
use Rattle.diagram_meaning.specs.Rows.{column}
use Rattle.diagram_meaning.specs.Diagram.{Diagram}
use Rattle.diagram_meaning.specs.Needs.{needs_of, HasNoLoop, TrueNeeds}
use Rattle.diagram_meaning.specs.Run.{IsRun, value_at}

-- a run: values, memories and triggers by tick
pub record Run : Type 0 where
  pub values : List (List ℤ)
  pub memories : List (List (List ℤ))
  pub triggers : List (List TrigMem)

-- the run of the system s over this trace
abbrev pub IsRunOver : Diagram → Option ℕ → List (List ℤ) → Run → Type 0
IsRunOver d s xs run = IsRun d s xs run.values run.memories run.triggers

-- over this trace there is one run and no other
pub record HasOneRun (d : Diagram) (s : Option ℕ) (xs : List (List ℤ)) : Type 0 where
  pub run : Run
  pub is_run : IsRunOver d s xs run
  pub only : (other : Run) → IsRunOver d s xs other → other ≡ run

-- a diagram without a loop has exactly one run over each trace, as a whole and of each system
abbrev pub LoopFreeHasOneRun : Type 0
LoopFreeHasOneRun =
    (d : Diagram) (s : Option ℕ) (xs : List (List ℤ)) → HasNoLoop (needs_of d) → HasOneRun d s xs

-- two rows of a trace agree on these inputs of the system s
abbrev pub AgreeOn : Diagram → Option ℕ → (Port → Type 0) → (x y : List ℤ) → Type 0
AgreeOn d s inputs x y =
    (p : Port) → inputs p → value_at x (column d.rows s p) ≡ value_at y (column d.rows s p)

-- an output's value rests on what came before and on the inputs that it needs
abbrev pub OutputRestsOnNeeds : Type 0
OutputRestsOnNeeds =
    (d : Diagram) (s : Option ℕ) (xs ys : List (List ℤ)) (run other : Run) (t o : ℕ) →
    HasNoLoop (needs_of d) →
    IsRunOver d s xs run → IsRunOver d s ys other → t < length xs → t < length ys →
    take t xs ≡ take t ys →
    AgreeOn d s (TrueNeeds d s o) (slice_index_or xs t []) (slice_index_or ys t []) →
    value_at (slice_index_or run.values t []) o ≡ value_at (slice_index_or other.values t []) o
