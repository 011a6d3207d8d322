-- Runs of small diagrams with subsystems, found by the solution and checked against the equations.
use Rattle.std.specs.Prelude.{◌≡◌, ℕ, Bool, true, false, List, [], ◌∷◌, map, replicate, Some, None, ℤ, pos, refl}
use Rattle.std.proofs.Common.{lit≤}
use Rattle.base_core.specs.declared.Control.TheVariants.{Plain, Enabled, Triggered}
use Rattle.base_core.specs.declared.Edge.TheVariants.{Rising}
use Rattle.diagram_blocks.specs.declared.Kind.TheVariants.{Inport, Outport, SubSystem, Constant, Sum, UnitDelay, EnablePort, TriggerPort, RateTransition}
use Rattle.base_core.specs.declared.TimeText.TheVariants.{Inherit as NoTime}
use Rattle.diagram_meaning.specs.declared.table.Row.{Row}
use Rattle.diagram_meaning.specs.declared.times.Time.{Time}
use Rattle.diagram_meaning.specs.Rows.{by_row}
use Rattle.diagram_meaning.specs.SampleTimes.{every_tick}
use Rattle.diagram_meaning.specs.Diagram.{Diagram, op_in}
use Rattle.diagram_meaning.specs.Needs.{needs_of, needs_inside}
use Rattle.diagram_meaning.specs.Nested.{system, no_more, next, AreSystemsOf}
use Rattle.diagram_meaning.specs.Run.{outs}
use Rattle.diagram_meaning.specs.Laws.{IsRunOver}
use Rattle.base_fixed_point.specs.Types.{int32}
use Rattle.diagram_meaning.specs.RunExamples.{simple, row, how, whole_decimal, zero_initial}
use Rattle.diagram_meaning.proofs.lemmas.OneRun.{whole_run}

-- An enabled, held subsystem, and in it one that is reset and counts.
abbrev counting : Diagram
counting = simple (
    row None (Inport 1) [] ∷ row None (Inport 2) [] ∷ row None (SubSystem (Enabled false)) (0 ∷ [])
    ∷ row (Some 2) (Inport 1) (1 ∷ []) ∷ row (Some 2) EnablePort [] ∷ row (Some 2) (SubSystem (Enabled true)) (3 ∷ [])
    ∷ row (Some 5) EnablePort [] ∷ row (Some 5) (Constant (whole_decimal 1 (lit≤ tt))) [] ∷ row (Some 5) (Sum 2 0 how) (7 ∷ 9 ∷ [])
    ∷ row (Some 5) (UnitDelay zero_initial) (8 ∷ []) ∷ row (Some 5) (Outport 1 false zero_initial) (8 ∷ [])
    ∷ row (Some 2) (Outport 1 false zero_initial) (10 ∷ []) ∷ row None (Outport 1 false zero_initial) (11 ∷ []) ∷ [])

abbrev two : ℕ → ℕ → List ℤ
two a b = pos a ∷ pos b ∷ []

abbrev counting_trace : List (List ℤ)
counting_trace = two 1 1 ∷ two 1 1 ∷ two 0 0 ∷ two 1 1 ∷ two 1 0 ∷ two 1 1 ∷ []

-- counts at 1, 2, holds while the outer one is disabled, goes on with 3, is reset, and begins again
pub counting_outs : map (outs counting None) (whole_run counting None counting_trace).values
    ≡ map (λ n. pos n ∷ []) (1 ∷ 2 ∷ 2 ∷ 3 ∷ 3 ∷ 1 ∷ [])
counting_outs = refl

abbrev column_of : List ℕ → List (List ℤ)
column_of = map (λ n. pos n ∷ [])

-- the solution is a run: the equations hold
pub counting_runs : IsRunOver counting None (two 1 1 ∷ two 1 0 ∷ []) (whole_run counting None (two 1 1 ∷ two 1 0 ∷ []))
counting_runs = (
  refl,
  refl,
  (
    record { values = refl; memories = refl; triggers = refl },
    (record { values = refl; memories = refl; triggers = refl }, tt),
  ),
)

-- A subsystem that passes two inputs through. Its first output comes back as its second input.
abbrev pub passing : Diagram
passing = simple (
    row None (Inport 1) [] ∷ row None (SubSystem Plain) []
    ∷ row (Some 1) (Inport 1) (0 ∷ []) ∷ row (Some 1) (Inport 2) (4 ∷ []) ∷ row (Some 1) (Outport 1 false zero_initial)
    (2 ∷ []) ∷ row (Some 1) (Outport 2 false zero_initial) (3 ∷ [])
    ∷ row None (Outport 1 false zero_initial) (5 ∷ []) ∷ [])

pub passing_outs : map (outs passing None) (whole_run passing None (column_of (4 ∷ 9 ∷ []))).values ≡ column_of (4 ∷ 9 ∷ [])
passing_outs = refl

-- alone, each output rests on its own input
pub passing_alone : map (outs passing (Some 1)) (whole_run passing (Some 1) (two 4 9 ∷ [])).values ≡ two 4 9 ∷ []
passing_alone = refl

pub passing_needs : map (needs_inside passing (Some 1)) (2 ∷ 3 ∷ 4 ∷ 5 ∷ []) ≡ [] ∷ [] ∷ (2 ∷ []) ∷ (3 ∷ []) ∷ []
passing_needs = refl

pub passing_systems : AreSystemsOf passing.rows
    (system None 7 Plain (0 ∷ 1 ∷ 6 ∷ []) (next (system (Some 1) 0 Plain (2 ∷ 3 ∷ 4 ∷ 5 ∷ []) no_more) no_more))
passing_systems = record { is_root = refl; agrees = (refl, refl, refl, (((refl, refl), refl, refl, tt), tt)) }

-- A subsystem that passes its input on at a rise of its trigger.
abbrev triggered : Diagram
triggered = simple (
    row None (Inport 1) [] ∷ row None (Inport 2) [] ∷ row None (SubSystem (Triggered Rising)) (1 ∷ [])
    ∷ row (Some 2) (Inport 1) (0 ∷ []) ∷ row (Some 2) TriggerPort [] ∷ row (Some 2) (Outport 1 false zero_initial) (3 ∷ [])
    ∷ row None (Outport 1 false zero_initial) (5 ∷ []) ∷ [])

pub triggered_outs : map (outs triggered None)
    (whole_run triggered None (two 5 1 ∷ two 6 0 ∷ two 7 1 ∷ two 8 1 ∷ [])).values ≡ column_of (0 ∷ 0 ∷ 7 ∷ 7 ∷ [])
triggered_outs = refl

-- the same of the subsystem alone, whose trace has its control last
pub triggered_alone : map (outs triggered (Some 2))
    (whole_run triggered (Some 2) (two 5 1 ∷ two 6 0 ∷ two 7 1 ∷ two 8 1 ∷ [])).values ≡ column_of (0 ∷ 0 ∷ 7 ∷ 7 ∷ [])
triggered_alone = refl

-- An enabled subsystem whose output is its own enable: the output and the subsystem's inner rows go round.
abbrev fed_back : Diagram
fed_back = simple (
    row None (Inport 1) [] ∷ row None (SubSystem (Enabled false)) (4 ∷ [])
    ∷ row (Some 1) (Inport 1) (0 ∷ []) ∷ row (Some 1) EnablePort [] ∷ row (Some 1) (Outport 1 false zero_initial) (2 ∷ [])
    ∷ row None (Outport 1 false zero_initial) (4 ∷ []) ∷ [])

pub fed_back_needs : map (needs_of fed_back) (2 ∷ 4 ∷ []) ≡ (0 ∷ 4 ∷ []) ∷ (2 ∷ 4 ∷ []) ∷ []
fed_back_needs = refl

-- alone it has no such loop: the control counts for nothing there
pub fed_back_inside : map (needs_inside fed_back (Some 1)) (2 ∷ 4 ∷ []) ≡ [] ∷ (2 ∷ []) ∷ []
fed_back_inside = refl

-- through a delay of 1 it runs until its input is 0
abbrev fed_back_late : Diagram
fed_back_late = simple (
    row None (Inport 1) [] ∷ row None (SubSystem (Enabled false)) (5 ∷ [])
    ∷ row (Some 1) (Inport 1) (0 ∷ []) ∷ row (Some 1) EnablePort [] ∷ row (Some 1) (Outport 1 false zero_initial) (2 ∷ [])
    ∷ row None (UnitDelay (whole_decimal 1 (lit≤ tt))) (4 ∷ []) ∷ row None (Outport 1 false zero_initial) (4 ∷ []) ∷ [])

pub fed_back_outs : map (outs fed_back_late None) (whole_run fed_back_late None (column_of (3 ∷ 0 ∷ 5 ∷ []))).values
    ≡ column_of (3 ∷ 0 ∷ 0 ∷ [])
fed_back_outs = refl

-- Two rates: every third tick, and every second from tick 1; the sum runs at every tick.
abbrev two_rates : Diagram
two_rates =
    record (simple (row None (Inport 1) [] ∷ row None (Inport 2) [] ∷ row None (Sum 2 0 how) (0 ∷ 1 ∷ [])
    ∷ row None (Outport 1 false zero_initial) (2 ∷ []) ∷ [])) {
      run = record { period = 3; offset = 0; in_period = lit≤ tt }
          ∷ record { period = 2; offset = 1; in_period = lit≤ tt } ∷ every_tick ∷ every_tick ∷ [];
    }

pub two_rates_outs : map (outs two_rates None)
    (whole_run two_rates None (two 1 10 ∷ two 2 20 ∷ two 3 30 ∷ two 4 40 ∷ [])).values
    ≡ column_of (1 ∷ 21 ∷ 21 ∷ 44 ∷ [])
two_rates_outs = refl

-- From a slow rate to a fast one a transition delays, from a fast to a slow one it holds.
abbrev rates : Bool → Time → Time → Time → Diagram
rates delays inside at outside =
    let rows : List Row = row None (Inport 1) [] ∷ row None (RateTransition (whole_decimal 9 (lit≤ tt)) NoTime) (0 ∷ [])
    ∷ row None (Outport 1 false zero_initial) (1 ∷ []) ∷ [] in
    record {
      rows = rows;
      types = replicate 3 int32;
      ops = by_row rows (op_in rows (replicate 3 int32) (false ∷ delays ∷ false ∷ []));
      run =
          inside ∷ at ∷ outside ∷ [];
    }

abbrev every_fourth : Time
every_fourth = record { period = 4; offset = 0; in_period = lit≤ tt }

pub slow_to_fast : map (outs (rates true every_fourth every_fourth every_tick) None)
    (whole_run (rates true every_fourth every_fourth every_tick) None
    (column_of (10 ∷ 11 ∷ 12 ∷ 13 ∷ 14 ∷ 15 ∷ 16 ∷ 17 ∷ []))).values
    ≡ column_of (9 ∷ 9 ∷ 9 ∷ 9 ∷ 10 ∷ 10 ∷ 10 ∷ 10 ∷ [])
slow_to_fast = refl

pub fast_to_slow : map (outs (rates false every_tick every_fourth every_fourth) None)
    (whole_run (rates false every_tick every_fourth every_fourth) None
    (column_of (10 ∷ 11 ∷ 12 ∷ 13 ∷ 14 ∷ 15 ∷ 16 ∷ 17 ∷ []))).values
    ≡ column_of (10 ∷ 10 ∷ 10 ∷ 10 ∷ 14 ∷ 14 ∷ 14 ∷ 14 ∷ [])
fast_to_slow = refl
