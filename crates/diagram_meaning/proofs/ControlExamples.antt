-- Small diagrams with an enable and a trigger on one subsystem: their runs, needs, types and sample times.
use Rattle.std.specs.Prelude.{◌≡◌, ℕ, Bool, true, false, List, [], ◌∷◌, map, Option, Some, None, ℤ, pos, refl}
use Rattle.std.proofs.Common.{lit<, lit≤, inr}
use Rattle.base_core.specs.declared.Control.{Control}
use Rattle.base_core.specs.declared.Control.TheVariants.{Enabled, Both}
use Rattle.base_core.specs.declared.Decimal.{Decimal}
use Rattle.base_core.specs.declared.Edge.TheVariants.{Rising, Either}
use Rattle.base_core.specs.declared.Port.TheVariants.{Number, Enable, Trigger}
use Rattle.base_core.specs.declared.TimeText.{TimeText}
use Rattle.base_core.specs.declared.TimeText.TheVariants.{Inherit as NoTime, Each}
use Rattle.base_refusals.specs.Refusals.{TriggerSigned, TimeInside}
use Rattle.base_fixed_point.specs.declared.FixType.{FixType}
use Rattle.base_fixed_point.specs.declared.TypeText.{TypeText}
use Rattle.base_fixed_point.specs.declared.TypeText.TheVariants.{Inherit, Fixed}
use Rattle.base_fixed_point.specs.Types.{int32, boolean}
use Rattle.diagram_blocks.specs.declared.Kind.{Kind}
use Rattle.diagram_blocks.specs.declared.Kind.TheVariants.{Inport, Outport, SubSystem, EnablePort, TriggerPort, UnitDelay, Constant, Sum}
use Rattle.diagram_meaning.specs.declared.table.Row.{Row}
use Rattle.diagram_meaning.specs.declared.times.Time.{Time}
use Rattle.diagram_meaning.specs.RowTable.{RowTable}
use Rattle.diagram_meaning.specs.Rows.{column, enable_wire, trigger_wire}
use Rattle.diagram_meaning.specs.SampleTimes.{here, through, FindsBefore, HasTime, every_tick, search_inputs, hyperperiod}
use Rattle.diagram_meaning.specs.TypeRefusals.{type_refusal}
use Rattle.diagram_meaning.specs.TimeRefusals.{written_time_refusal}
use Rattle.diagram_meaning.specs.Diagram.{Diagram}
use Rattle.diagram_meaning.specs.Needs.{needs_of, needs_inside, TrueNeeds}
use Rattle.diagram_meaning.specs.Run.{outs}
use Rattle.diagram_meaning.specs.WellFormed.{IsWellFormed}
use Rattle.diagram_meaning.specs.RunExamples.{simple, row, how, whole_decimal, zero_initial}
use Rattle.diagram_meaning.proofs.lemmas.OneRun.{whole_run}
use Rattle.diagram_meaning.proofs.TimeExamples.{no_time, whole_period}
use Rattle.diagram_meaning.proofs.lemmas.WellFormedTests.{well_formed-from}

abbrev three_of : ℕ → ℕ → ℕ → List ℤ
three_of a b c = pos a ∷ pos b ∷ pos c ∷ []

abbrev column_of : List ℕ → List (List ℤ)
column_of = map (λ n. pos n ∷ [])

-- ---- Runs

-- an input, an enable and a rising trigger; the subsystem passes the input on, and its output is held or reset
abbrev pub gated : Bool → Decimal → Diagram
gated reset initial = simple (
    row None (Inport 1) [] ∷ row None (Inport 2) [] ∷ row None (Inport 3) [] ∷ row None (SubSystem (Both false Rising)) (1 ∷ 2 ∷ [])
    ∷ row (Some 3) (Inport 1) (0 ∷ []) ∷ row (Some 3) EnablePort [] ∷ row (Some 3) TriggerPort []
    ∷ row (Some 3) (Outport 1 reset initial) (4 ∷ []) ∷ row None (Outport 1 false zero_initial) (7 ∷ []) ∷ [])

abbrev gated_trace : List (List ℤ)
gated_trace = three_of 5 1 0 ∷ three_of 6 1 1 ∷ three_of 7 0 0 ∷ three_of 8 0 1 ∷ three_of 9 1 1 ∷ three_of 1 1 0 ∷ three_of 2 1 1 ∷ []

abbrev held : Diagram
held = gated false zero_initial

abbrev reset_to_three : Diagram
reset_to_three = gated true (whole_decimal 3 (lit≤ tt))

-- the rise at the fourth tick comes while the subsystem is disabled, and is lost
pub held_outs : map (outs held None) (whole_run held None gated_trace).values ≡ column_of (0 ∷ 6 ∷ 6 ∷ 6 ∷ 6 ∷ 6 ∷ 2 ∷ [])
held_outs = refl

-- the enable alone says when the output is reset, and it stays so until the next event
pub reset_outs : map (outs reset_to_three None) (whole_run reset_to_three None gated_trace).values
    ≡ column_of (3 ∷ 6 ∷ 3 ∷ 3 ∷ 3 ∷ 3 ∷ 2 ∷ [])
reset_outs = refl

-- the subsystem alone reads its input, its enable and its trigger from its trace, in this order
pub columns : map (column held.rows (Some 3)) (Number 1 ∷ Enable ∷ Trigger ∷ []) ≡ 0 ∷ 1 ∷ 2 ∷ []
columns = refl

pub alone_outs : map (outs held (Some 3)) (whole_run held (Some 3) gated_trace).values ≡ column_of (0 ∷ 6 ∷ 6 ∷ 6 ∷ 6 ∷ 6 ∷ 2 ∷ [])
alone_outs = refl

-- A counter whose states are reset by the enable, counting at the changes of its trigger. The trigger's own memory is not
-- reset with them, so the change from the fourth tick to the fifth counts.
abbrev counter : Diagram
counter = simple (
    row None (Inport 1) [] ∷ row None (Inport 2) [] ∷ row None (SubSystem (Both true Either)) (0 ∷ 1 ∷ [])
    ∷ row (Some 2) EnablePort [] ∷ row (Some 2) TriggerPort [] ∷ row (Some 2) (Constant (whole_decimal 1 (lit≤ tt))) []
    ∷ row (Some 2) (Sum 2 0 how) (5 ∷ 7 ∷ []) ∷ row (Some 2) (UnitDelay zero_initial) (6 ∷ [])
    ∷ row (Some 2) (Outport 1 false zero_initial) (6 ∷ [])
    ∷ row None (Outport 1 false zero_initial) (8 ∷ []) ∷ [])

abbrev two_of : ℕ → ℕ → List ℤ
two_of a b = pos a ∷ pos b ∷ []

pub counter_outs :
    map (outs counter None)
    (whole_run counter None (two_of 1 0 ∷ two_of 1 1 ∷ two_of 1 0 ∷ two_of 0 1 ∷ two_of 1 0 ∷ two_of 1 0
    ∷ two_of 1 1 ∷ [])).values
    ≡ column_of (0 ∷ 1 ∷ 2 ∷ 2 ∷ 1 ∷ 1 ∷ 2 ∷ [])
counter_outs = refl

-- ---- Needs

pub control_wires : (enable_wire held.rows 3 ≡ Some 1) × (trigger_wire held.rows 3 ≡ Some 2)
control_wires = (refl, refl)

-- each row inside needs both controls, the subsystem itself needs them as its inputs
pub gated_needs : map (needs_of held) (3 ∷ 4 ∷ 7 ∷ 8 ∷ []) ≡ (1 ∷ 2 ∷ []) ∷ (0 ∷ 1 ∷ 2 ∷ []) ∷ (4 ∷ 1 ∷ 2 ∷ []) ∷ (7 ∷ []) ∷ []
gated_needs = refl

-- alone, the output rests on the input inside, and on both controls
pub gated_inside : map (needs_inside held (Some 3)) (4 ∷ 7 ∷ []) ≡ [] ∷ (4 ∷ []) ∷ []
gated_inside = refl

pub needs_the_input : TrueNeeds held (Some 3) 7 (Number 1)
needs_the_input = (4, record { in_table = lit< tt; is_inport = refl; is_own = refl }, inr ([], (0, lit< tt, refl)))

pub needs_the_enable : TrueNeeds held (Some 3) 7 Enable
needs_the_enable = refl

pub needs_the_trigger : TrueNeeds held (Some 3) 7 Trigger
needs_the_trigger = refl

-- ---- Types and sample times

abbrev numbered : ℕ → Option ℕ → Kind → List ℕ → TypeText → TimeText → Row
numbered number owner kind inputs type time =
    record {
      place = record { row = number; line = number };
      owner = owner;
      kind = kind;
      inputs = inputs;
      type_text = type;
      time_text = time;
    }

-- the same with an enable and a trigger of these types and at these times, and the output inside at a time of its own
abbrev pub table : Control → List ℕ → (enable trigger : FixType) → (at_enable at_trigger at_output : TimeText) → RowTable
table control wires enable trigger at_enable at_trigger at_output = record {
  rows =
      numbered 0 None (Inport 1) [] (Fixed int32) NoTime ∷ numbered 1 None (Inport 2) [] (Fixed enable) at_enable
      ∷ numbered 2 None (Inport 3) [] (Fixed trigger) at_trigger
      ∷ numbered 3 None (SubSystem control) wires Inherit NoTime ∷ numbered 4 (Some 3) (Inport 1) (0 ∷ []) Inherit NoTime
      ∷ numbered 5 (Some 3) EnablePort [] Inherit NoTime ∷ numbered 6 (Some 3) TriggerPort [] Inherit NoTime
      ∷ numbered 7 (Some 3) (Outport 1 false zero_initial) (4 ∷ []) Inherit at_output
      ∷ numbered 8 None (Outport 1 false zero_initial) (7 ∷ []) Inherit NoTime ∷ [];
  fixed_step = None;
}

abbrev with_both : (enable trigger : FixType) → (at_enable at_trigger at_output : TimeText) → RowTable
with_both = table (Both false Rising) (1 ∷ 2 ∷ [])

pub both_is_well_formed : IsWellFormed (with_both int32 boolean NoTime NoTime NoTime)
both_is_well_formed =
    well_formed-from (with_both int32 boolean NoTime NoTime NoTime) refl refl refl refl refl (
      record { kind = tt; type = tt; time = tt },
      (
        record { kind = tt; type = tt; time = tt },
        (
          record { kind = tt; type = tt; time = tt },
          (
            record { kind = tt; type = refl; time = refl },
            (
              record { kind = tt; type = tt; time = tt },
              (
                record { kind = tt; type = refl; time = refl },
                (
                  record { kind = tt; type = refl; time = refl },
                  (record { kind = tt; type = tt; time = tt }, (record { kind = tt; type = tt; time = tt }, tt)),
                ),
              ),
            ),
          ),
        ),
      ),
    ) tt

-- an enable may have a sign, a trigger may not
pub signed_enable : type_refusal (with_both int32 boolean NoTime NoTime NoTime).rows ≡ None
signed_enable = refl

pub signed_trigger : type_refusal (with_both boolean int32 NoTime NoTime NoTime).rows ≡ Some (TriggerSigned 3)
signed_trigger = refl

-- no period may be written inside
pub written_inside : written_time_refusal (with_both boolean boolean NoTime NoTime (Each (whole_period 0) no_time)) ≡ Some (TimeInside 7)
written_inside = refl

-- an enable each second tick and a trigger each third: in the search what is inside gives the time of the trigger alone
abbrev two_rates : RowTable
two_rates = with_both boolean boolean (Each (whole_period 1) no_time) (Each (whole_period 2) no_time) NoTime

pub goes_to_the_trigger : map (search_inputs two_rates.rows) (4 ∷ 7 ∷ 8 ∷ []) ≡ (2 ∷ []) ∷ (2 ∷ []) ∷ (7 ∷ []) ∷ []
goes_to_the_trigger = refl

-- with an enable alone the search goes on along the inputs inside
pub goes_inside : map (search_inputs (table (Enabled false) (1 ∷ []) boolean boolean NoTime NoTime NoTime).rows)
    (4 ∷ 7 ∷ []) ≡ (0 ∷ []) ∷ (4 ∷ []) ∷ []
goes_inside = refl

pub inside_at_every_tick : HasTime two_rates 7 every_tick
inside_at_every_tick = refl

abbrev third : Time
third = record { period = 3; offset = 0; in_period = lit≤ tt }

pub the_trigger_is_found : FindsBefore two_rates 8 third
the_trigger_is_found = (7, (0, lit< tt, refl), through refl (0, lit< tt, refl) (here (refl, refl)))

pub cycle_of_both : hyperperiod two_rates ≡ 6
cycle_of_both = refl
