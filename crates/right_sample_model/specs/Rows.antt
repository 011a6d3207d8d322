-- A model with two rates, an enabled and a triggered subsystem, a Delay of three samples, states
-- that are reset where the subsystem is enabled, an output that is reset where it is off, and a row
-- that two outputs share.
use Rattle.std.specs.Prelude.{ℕ, ◌+◌, ◌++◌, true, false, List, [], ◌∷◌, Option, Some, None}
use native.Mathlib.Nat.{one-dvd, dvd_refl, zero-lt-suc}
use Rattle.base_core.specs.declared.Control.TheVariants.{Enabled, Triggered}
use Rattle.base_core.specs.declared.Edge.TheVariants.{Rising}
use Rattle.base_core.specs.declared.Frac.{Frac}
use Rattle.base_core.specs.declared.TimeText.{TimeText}
use Rattle.base_core.specs.declared.TimeText.TheVariants.{Inherit as NoTime, Each}
use Rattle.base_fixed_point.specs.declared.TypeText.{TypeText}
use Rattle.base_fixed_point.specs.declared.TypeText.TheVariants.{Inherit as NoType, Fixed}
use Rattle.base_fixed_point.specs.Types.{int32, boolean}
use Rattle.diagram_blocks.specs.declared.Kind.{Kind}
use Rattle.diagram_blocks.specs.declared.Kind.TheVariants.{Inport, Outport, SubSystem, Sum, Delay, ZeroOrderHold, EnablePort, TriggerPort}
use Rattle.diagram_meaning.specs.declared.table.Row.{Row}
use Rattle.diagram_meaning.specs.RowTable.{RowTable}
use Rattle.diagram_meaning.specs.RunExamples.{how, zero_initial}

-- so many seconds, and none
abbrev pub seconds : ℕ → Frac
seconds n =
    record {
      num = n;
      den = 1;
      lowest = (zero-lt-suc 0, (one-dvd n, dvd_refl 1, λ d divides_num divides_den. divides_den));
    }

abbrev pub every : ℕ → TimeText
every n = Each (seconds n) (seconds 0)

abbrev pub row : (number : ℕ) → Option ℕ → Kind → List ℕ → TypeText → TimeText → Row
row number owner kind inputs type time =
    record {
      place = record { row = number; line = number + 3 };
      owner = owner;
      kind = kind;
      inputs = inputs;
      type_text = type;
      time_text = time;
    }

-- In1 and the control In2, each at every second
abbrev pub inputs : List Row
inputs =
    row 0 None (Inport 1) [] (Fixed int32) (every 1)
    ∷ row 1 None (Inport 2) [] (Fixed boolean) (every 1) ∷ []

-- In2 enables a Delay of In1 over three samples, whose states are reset each time, and whose output
-- is 0 where it is off
abbrev pub enabled_rows : List Row
enabled_rows =
    row 2 None (SubSystem (Enabled true)) (1 ∷ []) NoType NoTime
    ∷ row 3 (Some 2) (Inport 1) (0 ∷ []) NoType NoTime
    ∷ row 4 (Some 2) EnablePort [] NoType NoTime
    ∷ row 5 (Some 2) (Delay 3 zero_initial) (3 ∷ []) NoType NoTime
    ∷ row 6 (Some 2) (Outport 1 true zero_initial) (5 ∷ []) NoType NoTime ∷ []

-- where In2 rises In1 is passed on
abbrev pub triggered_rows : List Row
triggered_rows =
    row 7 None (SubSystem (Triggered Rising)) (1 ∷ []) NoType NoTime
    ∷ row 8 (Some 7) (Inport 1) (0 ∷ []) NoType NoTime
    ∷ row 9 (Some 7) TriggerPort [] NoType NoTime
    ∷ row 10 (Some 7) (Outport 1 false zero_initial) (8 ∷ []) NoType NoTime ∷ []

-- In1 held at every other second, its sum with what is passed on, and three outputs: what is held
-- and so rests on In1, the sum, which rests on what is held too, and what is delayed
abbrev pub outputs : List Row
outputs =
    row 11 None ZeroOrderHold (0 ∷ []) NoType (every 2)
    ∷ row 12 None (Sum 2 0 how) (11 ∷ 10 ∷ []) NoType NoTime
    ∷ row 13 None (Outport 1 false zero_initial) (11 ∷ []) NoType NoTime
    ∷ row 14 None (Outport 2 false zero_initial) (12 ∷ []) NoType NoTime
    ∷ row 15 None (Outport 3 false zero_initial) (6 ∷ []) NoType NoTime ∷ []

abbrev pub rich_rows : List Row
rich_rows = inputs ++ enabled_rows ++ triggered_rows ++ outputs

abbrev pub rich_table : RowTable
rich_table = record { rows = rich_rows; fixed_step = None }
