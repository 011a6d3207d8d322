-- What the names in the node of a system have at a tick.
use Rattle.std.specs.Prelude.{◌≡◌, ℕ, ◌%◌, ◌<◌, Bool, true, ◌||◌, List, [], Option, Some, None, ℤ, pos, ⊤}
use Rattle.std.specs.List.{AllByRecursion}
use Rattle.base_core.specs.Numbers.{int_at}
use Rattle.base_core.specs.declared.Control.{Control}
use Rattle.base_core.specs.declared.Control.TheVariants.{Plain, Enabled, Triggered, Both}
use Rattle.diagram_activity.specs.Activity.{memory_number}
use Rattle.diagram_blocks.specs.Kinds.{is_delay}
use Rattle.diagram_blocks.specs.Meaning.{has_value, delay_length}
use Rattle.diagram_blocks.specs.Value.{input}
use Rattle.diagram_meaning.specs.Rows.{row_at, system_control}
use Rattle.diagram_meaning.specs.WellFormed.{IsWireIn}
use Rattle.diagram_meaning.specs.Diagram.{Diagram, op_at}
use Rattle.diagram_meaning.specs.SystemRuns.{SystemTick, IsRowOf, system_is_active, system_is_off, own_runs, own_inputs, IsSystemTick, IsFirstTick, FollowsTick}
use Rattle.c_syntax.specs.declared.Leaf.{Leaf}
use Rattle.c_syntax.specs.declared.Leaf.TheVariants.{Param, Own, Child}
use Rattle.c_semantics.specs.Values.{Function, Reads, functions_of}
use Rattle.emit_prelude.specs.Bodies.{function_trees}
use Rattle.emit_shape.specs.Names.{value_name, now_name, trigger_name, control_name, second_control_name}
use Rattle.lustre_flows.specs.Values.{value_at, number_of}
use Rattle.lustre_system.specs.Names.{around_active, around_off, active_name, reset_name, takes_name, sample_name, part_name, leaf_name, leaves_of}
use Rattle.lustre_system.specs.RowEquations.{row_code, delayed_name}
use Rattle.lustre_rows.specs.CallNames.{CallsHave}

-- what leaves read at a tick: a parameter is an input, an own field the value of a row, and a field
-- of a field a sample
abbrev pub leaf_value : SystemTick → Leaf → ℤ
leaf_value m (Param k) = int_at m.inputs k
leaf_value m (Own c) = m.value c
leaf_value m (Child b k) = int_at (m.memory b) k

abbrev pub tick_reads : SystemTick → Reads
tick_reads m = record { leaf = leaf_value m; array = λ f. [] }

-- the pure functions of the emitted C
abbrev pub c_functions : List Function
c_functions = functions_of [] function_trees

-- a tick of the system s, in a cycle of so many ticks; its names have these values, each at its
-- place
module _ (d : Diagram) (hyper : ℕ) (s : Option ℕ) (m : SystemTick) (values : List (Option ℤ))
    (place : List ℕ → ℕ) where
  abbrev pub Has : List ℕ → ℤ → Type 0
  Has text v = value_at values (place text) ≡ Some v

  abbrev pub HasTruth : List ℕ → Bool → Type 0
  HasTruth text b = Has text (number_of b)

  -- the names of the controls, and of what the trigger remembers
  abbrev pub ControlsHave : Control → Type 0
  ControlsHave Plain = ⊤
  ControlsHave (Enabled reset) = Has control_name (int_at m.controls 0)
  ControlsHave (Triggered edge) =
      Has control_name (int_at m.controls 0) × Has trigger_name (memory_number m.trigger)
  ControlsHave (Both reset edge) =
      Has control_name (int_at m.controls 0) × Has second_control_name (int_at m.controls 1)
      × Has trigger_name (memory_number m.trigger)

  pub record NamesHave : Type 0 where
    pub now : Has now_name (pos (m.t % hyper))
    pub on : HasTruth around_active m.parent
    pub off : HasTruth around_off m.is_off_around
    pub controls : ControlsHave (system_control d.rows s)
    pub active : HasTruth active_name (system_is_active d s m)
    pub reset : HasTruth reset_name (m.is_off_around || system_is_off d s m)
    pub rows : (b : ℕ) → IsRowOf d.rows s b → has_value (row_at d.rows b).kind ≡ true →
        Has (value_name b) (m.value b)
    pub wires : (c : ℕ) → IsWireIn d.rows s c → Has (value_name c) (m.value c)
    pub takes : (b : ℕ) → IsRowOf d.rows s b → is_delay (op_at d b) ≡ true →
        HasTruth (takes_name b) (own_runs d s m b)
    pub samples : (b k : ℕ) → IsRowOf d.rows s b → is_delay (op_at d b) ≡ true →
        k < delay_length (op_at d b) → Has (sample_name b k) (int_at (m.memory b) k)
    pub delayed : (b : ℕ) → IsRowOf d.rows s b → is_delay (op_at d b) ≡ true →
        Has (delayed_name d s b) (input (own_inputs d s m b) 0)
    pub leaves : (b : ℕ) → IsRowOf d.rows s b →
        AllByRecursion (λ l. Has (leaf_name d.rows s l) (leaf_value m l)) (leaves_of d.rows s b)
    pub parts : (b : ℕ) → IsRowOf d.rows s b → has_value (row_at d.rows b).kind ≡ true →
        CallsHave c_functions (tick_reads m) 0 values (part_name b) place 0 (row_code d s b)

-- a tick is the first one, or follows one whose names had these values
abbrev pub IsAfter : Diagram → ℕ → Option ℕ → SystemTick → (List ℕ → ℕ) →
    Option (List (Option ℤ)) → Type 0
IsAfter d hyper s m place None = IsFirstTick d s m
IsAfter d hyper s m place (Some olds) =
    (earlier : SystemTick) × NamesHave d hyper s earlier olds place × IsSystemTick d s earlier
    × FollowsTick earlier m
