-- Small diagrams with delays of several samples, and how many samples a table may have.
use Rattle.std.specs.Prelude.{◌≡◌, ℕ, zero, suc, ◌*◌, true, false, List, [], ◌∷◌, map, replicate, Some, None, ℤ, pos, refl}
use Rattle.std.proofs.Common.{lit≤}
use Rattle.base_core.specs.declared.Control.TheVariants.{Enabled}
use Rattle.base_core.specs.declared.TimeText.TheVariants.{Inherit as NoTime}
use Rattle.base_refusals.specs.Refusals.{LongDelays}
use Rattle.base_fixed_point.specs.declared.TypeText.TheVariants.{Inherit, Fixed}
use Rattle.base_fixed_point.specs.Types.{int8}
use Rattle.diagram_blocks.specs.declared.Kind.{Kind}
use Rattle.diagram_blocks.specs.declared.Kind.TheVariants.{Inport, Outport, SubSystem, EnablePort, UnitDelay, Delay}
use Rattle.diagram_meaning.specs.declared.table.Row.{Row}
use Rattle.diagram_meaning.specs.Types.{HasType}
use Rattle.diagram_meaning.specs.DelayRefusals.{delay_refusal}
use Rattle.diagram_meaning.specs.Diagram.{Diagram}
use Rattle.diagram_meaning.specs.Needs.{needs_of}
use Rattle.diagram_meaning.specs.Run.{outs, moved_on}
use Rattle.diagram_meaning.specs.Laws.{IsRunOver}
use Rattle.diagram_meaning.specs.RunExamples.{simple, row, whole_decimal, zero_initial}
use Rattle.diagram_meaning.proofs.lemmas.OneRun.{whole_run}

abbrev column_of : List ℕ → List (List ℤ)
column_of = map (λ n. pos n ∷ [])

abbrev two_of : ℕ → ℕ → List ℤ
two_of a b = pos a ∷ pos b ∷ []

-- the oldest goes, and the new one is last
pub one_step : moved_on (pos 7 ∷ pos 1 ∷ pos 2 ∷ []) (pos 3) ≡ pos 1 ∷ pos 2 ∷ pos 3 ∷ []
one_step = refl

-- an input, a delay of three samples that begins with 7, and an output
abbrev late : Diagram
late = simple (row None (Inport 1) [] ∷ row None (Delay 3 (whole_decimal 7 (lit≤ tt))) (0 ∷ [])
    ∷ row None (Outport 1 false zero_initial) (1 ∷ []) ∷ [])

pub late_outs : map (outs late None) (whole_run late None (column_of (1 ∷ 2 ∷ 3 ∷ 4 ∷ 5 ∷ []))).values ≡ column_of (7 ∷ 7 ∷ 7 ∷ 1 ∷ 2 ∷ [])
late_outs = refl

-- what its rows remember, tick by tick
abbrev remembers : List ℤ → List (List ℤ)
remembers line = [] ∷ line ∷ [] ∷ []

pub late_memories : (whole_run late None (column_of (1 ∷ 2 ∷ []))).memories
    ≡ remembers (pos 7 ∷ pos 7 ∷ pos 7 ∷ []) ∷ remembers (pos 7 ∷ pos 7 ∷ pos 1 ∷ []) ∷ remembers (pos 7 ∷ pos 1 ∷ pos 2 ∷ []) ∷ []
late_memories = refl

-- the solution is a run: the equations hold
pub late_runs : IsRunOver late None (column_of (4 ∷ 9 ∷ [])) (whole_run late None (column_of (4 ∷ 9 ∷ [])))
late_runs = (
  refl,
  refl,
  (
    record { values = refl; memories = refl; triggers = refl },
    (record { values = refl; memories = refl; triggers = refl }, tt),
  ),
)

pub late_needs : map (needs_of late) (1 ∷ 2 ∷ []) ≡ [] ∷ (1 ∷ []) ∷ []
late_needs = refl

-- An enabled subsystem whose states are reset and whose output is held, with a delay of two samples inside: at the fourth
-- tick it is disabled, and its delay begins anew.
abbrev reset_line : Diagram
reset_line = simple (
    row None (Inport 1) [] ∷ row None (Inport 2) [] ∷ row None (SubSystem (Enabled true)) (1 ∷ [])
    ∷ row (Some 2) (Inport 1) (0 ∷ []) ∷ row (Some 2) EnablePort [] ∷ row (Some 2) (Delay 2 zero_initial) (3 ∷ [])
    ∷ row (Some 2) (Outport 1 false zero_initial) (5 ∷ [])
    ∷ row None (Outport 1 false zero_initial) (6 ∷ []) ∷ [])

pub reset_line_outs :
    map (outs reset_line None)
    (whole_run reset_line None (two_of 1 1 ∷ two_of 2 1 ∷ two_of 3 1 ∷ two_of 9 0 ∷ two_of 4 1 ∷ two_of 5 1
    ∷ two_of 6 1 ∷ [])).values
    ≡ column_of (0 ∷ 0 ∷ 1 ∷ 1 ∷ 0 ∷ 0 ∷ 4 ∷ [])
reset_line_outs = refl

-- ---- Types and samples

abbrev numbered : ℕ → Kind → List ℕ → Row
numbered number kind inputs =
    record {
      place = record { row = number; line = 10 * number };
      owner = None;
      kind = kind;
      inputs = inputs;
      type_text = Inherit;
      time_text = NoTime;
    }

-- a delay has the type of its input
pub delay_type : HasType (record (numbered 0 (Inport 1) []) { type_text = Fixed int8 }
    ∷ numbered 1 (Delay 2 zero_initial) (0 ∷ []) ∷ []) 1 int8
delay_type = (2, refl)

-- delays of this length in a chain, after the row of this number
abbrev chain : (number length count : ℕ) → List Row
chain number length zero = []
chain number length (suc count) = numbered number (Delay length zero_initial) (number ∷ []) ∷ chain (suc number) length count

-- sixteen delays of 65,535 samples are too many: the sum exceeds a million at the last
pub sixteen_delays : delay_refusal (chain 0 65535 16) ≡ Some (LongDelays 150 1048560)
sixteen_delays = refl

pub fifteen_delays : delay_refusal (chain 0 65535 15) ≡ None
fifteen_delays = refl

-- a million samples are not too many; the first row beyond them is reported, with the sum so far, whatever is after it
pub a_million : delay_refusal (chain 0 50000 20) ≡ None
a_million = refl

pub first_beyond : delay_refusal (chain 0 50000 30) ≡ Some (LongDelays 200 1050000)
first_beyond = refl

-- delays of one sample don't count
pub unit_delays : delay_refusal (replicate 4 (numbered 0 (UnitDelay zero_initial) (0 ∷ []))) ≡ None
unit_delays = refl
