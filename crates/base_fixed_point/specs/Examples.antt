-- Worked conversions.
use Rattle.std.specs.Prelude.{◌≡◌, refl, ◌≤◌, ◌*◌, ◌^◌, [], ◌∷◌, map, length, Ok, Err, pos, negsuc}
use Rattle.base_core.specs.declared.base.NumFault.TheVariants as number
use Rattle.base_core.specs.Numbers.{AreLowest}
use Rattle.base_fixed_point.specs.declared.types.Over.TheVariants.{Saturate, Wrap}
use Rattle.base_fixed_point.specs.declared.types.Round.TheVariants.{Floor}
use Rattle.base_fixed_point.specs.Types.{int8, int32}
use Rattle.base_fixed_point.specs.Conversion.{conv, all_rounds, all_cases, gain_constant}

-- -2.5 and 127.5 by Ceiling, Convergent, Floor, Nearest, Round and Zero
conv-below_zero : map (λ r. conv (negsuc 39) 4 int8 r Saturate) all_rounds
    ≡ negsuc 1 ∷ negsuc 1 ∷ negsuc 2 ∷ negsuc 1 ∷ negsuc 2 ∷ negsuc 1 ∷ []
conv-below_zero = refl

conv-saturated : map (λ r. conv (pos 2040) 4 int8 r Saturate) all_rounds
    ≡ pos 127 ∷ pos 127 ∷ pos 127 ∷ pos 127 ∷ pos 127 ∷ pos 127 ∷ []
conv-saturated = refl

conv-wrapped : map (λ r. conv (pos 2040) 4 int8 r Wrap) all_rounds ≡ negsuc 127 ∷ negsuc 127
    ∷ pos 127 ∷ negsuc 127 ∷ negsuc 127 ∷ pos 127 ∷ []
conv-wrapped = refl

-- the product of the two least numbers
conv-product_saturated : conv (pos (2 ^ 62)) 0 int32 Floor Saturate ≡ pos 2147483647
conv-product_saturated = refl

conv-product_wrapped : conv (pos (2 ^ 62)) 0 int32 Floor Wrap ≡ pos 0
conv-product_wrapped = refl

-- 300 into a type of eight bits
conv-switch_saturated : conv (pos 300) 0 int8 Floor Saturate ≡ pos 127
conv-switch_saturated = refl

conv-switch_wrapped : conv (pos 300) 0 int8 Floor Wrap ≡ pos 44
conv-switch_wrapped = refl

-- the greatest number, -1 and 10 times a tenth
conv-tenth : map (λ v. conv v 31 int32 Floor Saturate) (pos (2147483647 * 214748365)
    ∷ negsuc 214748364 ∷ pos 2147483650 ∷ []) ≡ pos 214748364 ∷ negsuc 0 ∷ pos 1 ∷ []
conv-tenth = refl

gain-tenth : (l : AreLowest 1 10) (a : 1 ≤ 10 ^ 36) (b : 10 ≤ 10 ^ 18) →
    gain_constant (record { num = pos 1; den = 10; lowest = l; num_bound = a; den_bound = b })
    ≡ Ok (pos 214748365, 31)
gain-tenth l a b = refl

gain-two_and_half : (l : AreLowest 5 2) (a : 5 ≤ 10 ^ 36) (b : 2 ≤ 10 ^ 18) →
    gain_constant (record { num = pos 5; den = 2; lowest = l; num_bound = a; den_bound = b })
    ≡ Ok (pos 5, 1)
gain-two_and_half l a b = refl

gain-none : (l : AreLowest 0 1) (a : 0 ≤ 10 ^ 36) (b : 1 ≤ 10 ^ 18) →
    gain_constant (record { num = pos 0; den = 1; lowest = l; num_bound = a; den_bound = b })
    ≡ Ok (pos 0, 0)
gain-none l a b = refl

gain-beyond : (l : AreLowest (2 ^ 31) 1) (a : 2 ^ 31 ≤ 10 ^ 36) (b : 1 ≤ 10 ^ 18) →
    gain_constant (record { num = pos (2 ^ 31); den = 1; lowest = l; num_bound = a; den_bound = b })
    ≡ Err number.Range
gain-beyond l a b = refl

cases-len : length all_cases ≡ 24
cases-len = refl
