-- Small diagrams, their needs and their runs.
use Rattle.std.specs.Prelude.{◌≡◌, ℕ, ◌≤◌, ◌^◌, false, List, [], ◌∷◌, replicate, length, Option, None, ℤ, pos, refl}
use Rattle.std.proofs.Common.{lit≤}
use native.Mathlib.Nat.{one-dvd, dvd_refl, zero-lt-suc}
use Rattle.base_core.specs.declared.Decimal.{Decimal}
use Rattle.base_core.specs.declared.TimeText.TheVariants.{Inherit as NoTime}
use Rattle.base_fixed_point.specs.Types.{int32}
use Rattle.base_fixed_point.specs.declared.TypeText.TheVariants.{Fixed}
use Rattle.base_fixed_point.specs.declared.Round.TheVariants.{Floor}
use Rattle.base_fixed_point.specs.declared.Over.TheVariants.{Saturate}
use Rattle.diagram_activity.specs.declared.TrigMem.TheVariants.{NotYet}
use Rattle.diagram_blocks.specs.declared.How.{How}
use Rattle.diagram_blocks.specs.declared.Kind.{Kind}
use Rattle.diagram_blocks.specs.declared.Kind.TheVariants.{Inport, Outport, Sum, UnitDelay}
use Rattle.diagram_meaning.specs.declared.table.Row.{Row}
use Rattle.diagram_meaning.specs.Rows.{by_row, outports_of}
use Rattle.diagram_meaning.specs.SampleTimes.{every_tick}
use Rattle.diagram_meaning.specs.Diagram.{Diagram, op_in}
use Rattle.diagram_meaning.specs.Needs.{needs_of}
use Rattle.diagram_meaning.specs.Run.{IsRun}

-- a whole number as a decimal
abbrev pub whole_decimal : (n : ℕ) → n ≤ 10 ^ 36 → Decimal
whole_decimal n bound =
    record {
      num = pos n;
      den = 1;
      lowest = (zero-lt-suc 0, (one-dvd n, dvd_refl 1, λ d divides_num divides_den. divides_den));
      num_bound = bound;
      den_bound = lit≤ tt;
    }

-- results are rounded down and saturate
abbrev pub how : How
how = record { round = Floor; over = Saturate }

-- a row of this owner, kind and inputs
abbrev pub row : Option ℕ → Kind → List ℕ → Row
row owner kind inputs =
    record {
      place = record { row = 0; line = 0 };
      owner = owner;
      kind = kind;
      inputs = inputs;
      type_text = Fixed int32;
      time_text = NoTime;
    }

-- a diagram in which every row is an int32 and runs at every tick
abbrev pub simple : List Row → Diagram
simple rows =
    let types = replicate (length rows) int32 in
    record {
      rows = rows;
      types = types;
      ops = by_row rows (op_in rows types []);
      run = replicate (length rows) every_tick;
    }

-- the number 0
abbrev pub zero_initial : Decimal
zero_initial = whole_decimal 0 (lit≤ tt)

-- a sum takes its own delayed value from the input
abbrev pub accumulator : Diagram
accumulator =
    simple (row None (Inport 1) [] ∷ row None (Sum 2 2 how) (0 ∷ 2 ∷ [])
    ∷ row None (UnitDelay zero_initial) (1 ∷ []) ∷ row None (Outport 1 false zero_initial) (1 ∷ [])
    ∷ [])

pub sum_needs : needs_of accumulator 1 ≡ 0 ∷ 2 ∷ []
sum_needs = refl

pub delay_needs : needs_of accumulator 2 ≡ []
delay_needs = refl

pub accumulator_outports : outports_of accumulator.rows None ≡ 3 ∷ []
accumulator_outports = refl

-- what its rows remember: the delay alone one number
abbrev remembers : ℕ → List (List ℤ)
remembers n = [] ∷ [] ∷ (pos n ∷ []) ∷ [] ∷ []

-- over 5, 5, 5 it gives 5, 0, 5
pub accumulator_run : IsRun accumulator None ((pos 5 ∷ []) ∷ (pos 5 ∷ []) ∷ (pos 5 ∷ []) ∷ [])
    ((pos 5 ∷ pos 5 ∷ pos 0 ∷ pos 5 ∷ []) ∷ (pos 5 ∷ pos 0 ∷ pos 5 ∷ pos 0 ∷ [])
    ∷ (pos 5 ∷ pos 5 ∷ pos 0 ∷ pos 5 ∷ []) ∷ [])
    (remembers 0 ∷ remembers 5 ∷ remembers 0 ∷ remembers 5 ∷ [])
    (replicate 4 (replicate 4 NotYet))
accumulator_run = (
  refl,
  refl,
  (
    record { values = refl; memories = refl; triggers = refl },
    (
      record { values = refl; memories = refl; triggers = refl },
      (record { values = refl; memories = refl; triggers = refl }, tt),
    ),
  ),
)
