-- Which numbers an exact value can be, as far as the types of the inputs are known.
use Rattle.std.specs.Prelude.{ℕ, zero, suc, ◌-◌, ◌^◌, Bool, false, ◌&&◌, ◌==◌, if◌then◌else◌, List, [], ◌∷◌, slice_get, Option, Some, None, ℤ, pos, neg_ℤ, ◌+ℤ◌, ◌*ℤ◌, int_lt, int_le}
use Rattle.std.specs.Option.{option_map, option_map_or}
use Rattle.std.specs.Int.{bit_at, int_min, int_max}
use Rattle.base_fixed_point.specs.declared.FixType.{FixType}
use Rattle.base_fixed_point.specs.Conversion.{least_of, greatest_of, over_units}
use Rattle.diagram_blocks.specs.Value.{signed_term}
use Rattle.emit_row_code.specs.declared.ranges.Range.{Range}

-- 64 bits hold a number
abbrev pub fits_64 : ℤ → Bool
fits_64 v = int_le (neg_ℤ (pos (2 ^ 63))) v && int_lt v (pos (2 ^ 63))

-- the numbers from one to another, where 64 bits hold both
abbrev pub range_from : ℤ → ℤ → Option Range
range_from low high =
    if fits_64 low && fits_64 high then Some (record { least = low; greatest = high }) else None

-- one number
abbrev pub just : ℤ → Option Range
just v = Some (record { least = v; greatest = v })

-- those of input i + 1, where its type is known
abbrev pub type_range : FixType → Range
type_range t = record { least = least_of t; greatest = greatest_of t }

abbrev pub input_range : List FixType → ℕ → Option Range
input_range types i = option_map type_range (slice_get types i)

-- sums of two numbers
abbrev pub added : Option Range → Option Range → Option Range
added None b = None
added (Some a) None = None
added (Some a) (Some b) = range_from (a.least +ℤ b.least) (a.greatest +ℤ b.greatest)

-- products of two numbers, which lie between those of the ends
abbrev pub multiplied : Option Range → Option Range → Option Range
multiplied None b = None
multiplied (Some a) None = None
multiplied (Some a) (Some b) =
    let w = a.least *ℤ b.least in let x = a.least *ℤ b.greatest in
    let y = a.greatest *ℤ b.least in let z = a.greatest *ℤ b.greatest in
    range_from (int_min (int_min w x) (int_min y z)) (int_max (int_max w x) (int_max y z))

-- ---- Exact results

-- input 1 times a constant
abbrev pub gain_range : ℤ → List FixType → Option Range
gain_range m types = multiplied (input_range types 0) (just m)

-- the term for input i + 1, of f bits after the point, in units of F bits; bit i of minus subtracts
-- it
abbrev pub term_range : ℕ → ℕ → ℕ → ℕ → List FixType → Option Range
term_range minus F i f types =
    multiplied (input_range types i)
    (just (signed_term (bit_at minus i == 1) (pos (2 ^ (F - f)))))

-- a number of a total and that term
abbrev pub with_term : ℕ → ℕ → ℕ → ℕ → List FixType → Option Range → Option Range
with_term minus F i f types total = added total (term_range minus F i f types)

-- the same with the terms from input i + 1 on
abbrev pub sum_range : ℕ → ℕ → ℕ → List ℕ → List FixType → Option Range → Option Range
sum_range minus F i [] types total = total
sum_range minus F i (f ∷ fs) types total =
    sum_range minus F (suc i) fs types (with_term minus F i f types total)

-- the product of the first inputs
abbrev pub product_range : ℕ → List FixType → Option Range
product_range zero types = just (pos 1)
product_range (suc n) types = multiplied (product_range n types) (input_range types n)

-- ---- Types

-- a type holds each number of a range, of f bits after the point, and so each that these are
-- rounded to: the ends of both are compared in the finer unit
abbrev pub holds : FixType → ℕ → Range → Bool
holds to f range =
    int_le (over_units (least_of to) to.frac f) (over_units range.least f to.frac)
    && int_le (over_units range.greatest f to.frac) (over_units (greatest_of to) to.frac f)

-- this is known
abbrev pub surely_holds : FixType → ℕ → Option Range → Bool
surely_holds to f range = option_map_or (holds to f) range false
