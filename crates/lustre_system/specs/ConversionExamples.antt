-- Models of one row that computes, as Lustre: rounding, casts, choices and truth values.
use Rattle.std.specs.Prelude.{◌≡◌, ℕ, suc, true, false, None, List, [], ◌∷◌, ◌++◌, length, replicate, ℤ, pos, neg_ℤ, refl}
use Rattle.std.specs.Fmt.{digits}
use Rattle.std.specs.List.{range_with_len}
use Rattle.std.proofs.Common.{lit≤}
use Rattle.base_core.specs.declared.Compare.TheVariants.{Lt}
use Rattle.base_fixed_point.specs.declared.FixType.{FixType}
use Rattle.base_fixed_point.specs.declared.Round.{Round}
use Rattle.base_fixed_point.specs.declared.Round.TheVariants.{Floor, Ceiling, Zero, Nearest, Convergent}
use Rattle.base_fixed_point.specs.declared.Round.TheVariants as round
use Rattle.base_fixed_point.specs.declared.Over.{Over}
use Rattle.base_fixed_point.specs.declared.Over.TheVariants.{Saturate, Wrap}
use Rattle.base_fixed_point.specs.Types.{int8, int16, int32, uint8, boolean}
use Rattle.diagram_blocks.specs.declared.How.{How}
use Rattle.diagram_blocks.specs.declared.Kind.{Kind}
use Rattle.diagram_blocks.specs.declared.Kind.TheVariants.{Inport, Outport, Sum, Product, Switch, Relational, Logic, Convert}
use Rattle.diagram_blocks.specs.declared.Logic.TheVariants.{Xor}
use Rattle.diagram_blocks.specs.declared.Criterion.TheVariants.{Gt}
use Rattle.diagram_meaning.specs.Rows.{by_row}
use Rattle.diagram_meaning.specs.SampleTimes.{every_tick}
use Rattle.diagram_meaning.specs.Diagram.{Diagram, op_in}
use Rattle.diagram_meaning.specs.RunExamples.{row, zero_initial}
use Rattle.diagram_meaning.specs.declared.table.Row.{Row}
use Rattle.lustre_flows.specs.Flows.{outputs}
use Rattle.lustre_system.specs.File.{lustre_file}

-- Inports of these types, a row that reads them, and an Outport
abbrev pub inports : ℕ → List FixType → List Row
inports k [] = []
inports k (t ∷ ts) = row None (Inport k) [] ∷ inports (suc k) ts

abbrev pub rows_with : List FixType → Kind → List Row
rows_with ts kind =
    inports 1 ts ++ row None kind (range_with_len 0 (length ts))
    ∷ row None (Outport 1 false zero_initial) (length ts ∷ []) ∷ []

abbrev pub diagram_of_rows : List Row → List FixType → Diagram
diagram_of_rows rows types = record {
  rows = rows;
  types = types;
  ops = by_row rows (op_in rows types []);
  run = replicate (length rows) every_tick;
}

-- what the row gives, in this type
abbrev pub gives : List FixType → Kind → FixType → List (List ℤ) → List (List ℤ)
gives ts kind t xs =
    outputs (lustre_file (diagram_of_rows (rows_with ts kind) (ts ++ t ∷ t ∷ [])) 1) xs

-- 16 bits with a sign, four of them after the point
abbrev pub sixteenths : FixType
sixteenths = record { signed = true; bits = 16; frac = 4; in_profile = (lit≤ tt, lit≤ tt, lit≤ tt) }

abbrev pub by : Round → Over → How
by r o = record { round = r; over = o }

-- -2.5 and 127.5 as an int8
abbrev pub converted : Round → Over → List (List ℤ)
converted r o =
    gives (sixteenths ∷ []) (Convert (by r o)) int8 ((neg_ℤ (pos 40) ∷ []) ∷ (pos 2040 ∷ []) ∷ [])

pub floor_saturated : converted Floor Saturate ≡ (neg_ℤ (pos 3) ∷ []) ∷ (pos 127 ∷ []) ∷ []
unfolding digits
floor_saturated = refl

pub ceiling_wrapped : converted Ceiling Wrap
    ≡ (neg_ℤ (pos 2) ∷ []) ∷ (neg_ℤ (pos 128) ∷ []) ∷ []
unfolding digits
ceiling_wrapped = refl

pub zero_wrapped : converted Zero Wrap ≡ (neg_ℤ (pos 2) ∷ []) ∷ (pos 127 ∷ []) ∷ []
unfolding digits
zero_wrapped = refl

pub nearest_saturated : converted Nearest Saturate ≡ (neg_ℤ (pos 2) ∷ []) ∷ (pos 127 ∷ []) ∷ []
unfolding digits
nearest_saturated = refl

pub away_wrapped : converted round.Round Wrap
    ≡ (neg_ℤ (pos 3) ∷ []) ∷ (neg_ℤ (pos 128) ∷ []) ∷ []
unfolding digits
away_wrapped = refl

pub even_saturated : converted Convergent Saturate ≡ (neg_ℤ (pos 2) ∷ []) ∷ (pos 127 ∷ []) ∷ []
unfolding digits
even_saturated = refl

-- 1.0 + 3 - 5 in sixteenths
pub summed : gives (sixteenths ∷ int8 ∷ int8 ∷ []) (Sum 3 4 (by Floor Wrap)) sixteenths
    ((pos 16 ∷ pos 3 ∷ pos 5 ∷ []) ∷ []) ≡ (neg_ℤ (pos 16) ∷ []) ∷ []
unfolding digits
summed = refl

-- the least number by itself
pub multiplied : gives (int32 ∷ int32 ∷ []) (Product 2 (by Floor Saturate)) int32
    ((neg_ℤ (pos 2147483648) ∷ neg_ℤ (pos 2147483648) ∷ []) ∷ []) ≡ (pos 2147483647 ∷ []) ∷ []
unfolding digits
multiplied = refl

-- the second input above 0 or not; both sides are converted
pub switched : gives (int8 ∷ int8 ∷ int16 ∷ [])
    (Switch Gt zero_initial (by Floor Wrap)) int8
    ((pos 5 ∷ pos 0 ∷ pos 300 ∷ []) ∷ (pos 5 ∷ pos 1 ∷ pos 300 ∷ []) ∷ [])
    ≡ (pos 44 ∷ []) ∷ (pos 5 ∷ []) ∷ []
unfolding digits
switched = refl

pub compared : gives (int8 ∷ uint8 ∷ []) (Relational Lt) boolean
    ((neg_ℤ (pos 1) ∷ pos 255 ∷ []) ∷ []) ≡ (pos 1 ∷ []) ∷ []
unfolding digits
compared = refl

-- an odd number of true inputs
pub odd_trues : gives (boolean ∷ boolean ∷ boolean ∷ []) (Logic Xor 3) boolean
    ((pos 1 ∷ pos 1 ∷ pos 1 ∷ []) ∷ (pos 1 ∷ pos 1 ∷ pos 0 ∷ []) ∷ [])
    ≡ (pos 1 ∷ []) ∷ (pos 0 ∷ []) ∷ []
unfolding digits
odd_trues = refl
