-- Numbers brought from one type into another.
use Rattle.std.specs.Prelude.{◌≡◌, ℕ, zero, suc, ◌-◌, ◌^◌, Bool, true, false, ◌&&◌, List, [], ◌∷◌, map, flat_map, Result, Ok, Err, ℤ, pos, neg_ℤ, ◌+ℤ◌, ◌-ℤ◌, ◌*ℤ◌, ◌≤ℤ◌, int_le, int_lt, if◌then◌else◌}
use Rattle.std.specs.Int.{int_rem_euclid}
use Rattle.base_core.specs.declared.base.Decimal.{Decimal}
use Rattle.base_core.specs.declared.base.NumFault.{NumFault}
use Rattle.base_core.specs.declared.base.NumFault.TheVariants.{Range}
use Rattle.base_fixed_point.specs.declared.types.FixType.{FixType}
use Rattle.base_fixed_point.specs.declared.types.Round.{Round}
use Rattle.base_fixed_point.specs.declared.types.Round.TheVariants.{Ceiling, Convergent, Floor, Nearest, Zero}
use Rattle.base_fixed_point.specs.declared.types.Round.TheVariants as round
use Rattle.base_fixed_point.specs.declared.types.Over.{Over}
use Rattle.base_fixed_point.specs.declared.types.Over.TheVariants.{Saturate, Wrap}
use Rattle.base_fixed_point.specs.declared.types.Case.{Case}
use Rattle.base_fixed_point.specs.Rounding.{IsRounded, rounded, nearest, floor_div, is_even}

-- the least stored number of a type
abbrev pub least_of : FixType → ℤ
least_of t = if t.signed then neg_ℤ (pos (2 ^ (t.bits - 1))) else pos 0

-- and the greatest
abbrev pub greatest_of : FixType → ℤ
greatest_of t = if t.signed then pos (2 ^ (t.bits - 1) - 1) else pos (2 ^ t.bits - 1)

-- v is a stored number of the type
abbrev pub InType : FixType → ℤ → Type 0
InType t v = (least_of t ≤ℤ v) × (v ≤ℤ greatest_of t)

-- q, but the nearer end of the range where it is outside
abbrev pub clamped : FixType → ℤ → ℤ
clamped t q =
    if int_lt q (least_of t) then least_of t else if int_lt (greatest_of t) q then greatest_of t
    else q

-- the number of the range that differs from q by a multiple of 2 ^ bits
abbrev pub wrapped : FixType → ℤ → ℤ
wrapped t q = least_of t +ℤ int_rem_euclid (q -ℤ least_of t) (pos (2 ^ t.bits))

-- q brought into the range of the type, by the overflow mode
abbrev pub cast_into : Over → FixType → ℤ → ℤ
cast_into Saturate t q = clamped t q
cast_into Wrap t q = wrapped t q

-- x is the number of the range that differs from q by a multiple of 2 ^ bits
abbrev pub IsWrapped : FixType → ℤ → ℤ → Type 0
IsWrapped t q x = InType t x × ((k : ℤ) × (q ≡ x +ℤ (k *ℤ pos (2 ^ t.bits))))

-- v with f bits after the point, in units of 2 ^ -g, is this number ..
abbrev pub over_units : ℤ → ℕ → ℕ → ℤ
over_units v f g = v *ℤ pos (2 ^ (g - f))

-- .. over this one; the factor of one of them is 1
abbrev pub under_units : ℕ → ℕ → ℕ
under_units f g = 2 ^ (f - g)

-- v with f bits after the point, as a stored number of the type
abbrev pub conv : ℤ → ℕ → FixType → Round → Over → ℤ
conv v f t r o = cast_into o t (rounded r (over_units v f t.frac) (under_units f t.frac))

-- x is q brought into the range of the type
abbrev pub IsCastInto : Over → FixType → ℤ → ℤ → Type 0
IsCastInto Saturate t q x = x ≡ clamped t q
IsCastInto Wrap t q x = IsWrapped t q x

-- x is v with f bits after the point, first rounded and then brought into the range of the type
abbrev pub IsConverted : ℤ → ℕ → FixType → Round → Over → ℤ → Type 0
IsConverted v f t r o x =
    (q : ℤ) × IsRounded r (over_units v f t.frac) (under_units f t.frac) q × IsCastInto o t q x

-- there is just one such number, it is `conv`, and it lies in the range of the type
abbrev pub ConversionIsOne : Type 0
ConversionIsOne = (v : ℤ) (f : ℕ) (t : FixType) (r : Round) (o : Over) →
    IsConverted v f t r o (conv v f t r o)
    × ((x : ℤ) → IsConverted v f t r o x → x ≡ conv v f t r o) × InType t (conv v f t r o)

-- ---- Constants

-- the nearest stored number of a decimal with f bits after the point
abbrev pub nearest_at : Decimal → ℕ → ℤ
nearest_at d f = nearest (d.num *ℤ pos (2 ^ f)) d.den

-- a decimal in units of the type, to the nearest and within its range
abbrev pub quantize : Decimal → FixType → ℤ
quantize d t = clamped t (nearest_at d t.frac)

-- whether a number lies in 32 signed bits
abbrev pub fits_32 : ℤ → Bool
fits_32 m = int_le (neg_ℤ (pos (2 ^ 31))) m && int_lt m (pos (2 ^ 31))

-- m with f bits after the point, the same number in an odd m or with none
abbrev pub reduced_constant : ℕ → ℤ → ℤ × ℕ
reduced_constant zero m = (m, 0)
reduced_constant (suc f) m = if is_even m then reduced_constant f (floor_div m 2) else (m, suc f)

-- the same of the nearest number at the greatest f below this one at which it fits
abbrev pub constant_below : ℕ → Decimal → Result (ℤ × ℕ) NumFault
constant_below zero d = Err Range
constant_below (suc f) d = if fits_32 (nearest_at d f) then Ok (reduced_constant f (nearest_at d f))
    else constant_below f d

-- a gain's constant with its bits after the point, at most 31, or that none fits
abbrev pub gain_constant : Decimal → Result (ℤ × ℕ) NumFault
gain_constant d = constant_below 32 d

-- ---- All cases

-- the rules of rounding
abbrev pub all_rounds : List Round
all_rounds = Ceiling ∷ Convergent ∷ Floor ∷ Nearest ∷ round.Round ∷ Zero ∷ []

-- every case once, by rounding, then overflow, then sign
abbrev pub all_cases : List Case
all_cases =
    flat_map
    (λ r. flat_map (λ o. map (λ s. record { round = r; over = o; signed = s }) (false ∷ true ∷ []))
    (Saturate ∷ Wrap ∷ [])) all_rounds
