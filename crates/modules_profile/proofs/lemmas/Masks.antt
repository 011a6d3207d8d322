-- A bit more of a mask.
use Rattle.std.proofs.Common.{◌≡◌, ℕ, ◌+◌, ◌*◌, ◌^◌, ◌<◌, Bool, true, false, cond, List, [], ◌∷◌, ◌++◌, length, bit_or, refl, ap, ◌∙◌, arith}
use Rattle.std.proofs.Math.Nat.{pow-suc}
use Rattle.std.proofs.lemmas.Nat.{or_disjoint}
use Rattle.std.proofs.lemmas.Nat.Bits.{and_pow, bit_at_above}
use Rattle.modules_profile.specs.Functions.{mask_of}

pub mask-bound : (bits : List Bool) → mask_of bits < 2 ^ length bits
mask-bound [] = omega arith
mask-bound (true ∷ bits) = let rest = mask-bound bits in omega (arith, pow-suc 2 (length bits))
mask-bound (false ∷ bits) = let rest = mask-bound bits in omega (arith, pow-suc 2 (length bits))

pub mask-more : (bits : List Bool) (b : Bool) → mask_of (bits ++ b ∷ []) ≡ mask_of bits + cond b (2 ^ length bits) 0
mask-more [] true = omega arith
mask-more [] false = refl
mask-more (true ∷ bits) true = let rest = mask-more bits true in omega (arith, rest, pow-suc 2 (length bits))
mask-more (true ∷ bits) false = let rest = mask-more bits false in omega (arith, rest)
mask-more (false ∷ bits) true = let rest = mask-more bits true in omega (arith, rest, pow-suc 2 (length bits))
mask-more (false ∷ bits) false = let rest = mask-more bits false in omega (arith, rest)

pub or_next : (n k : ℕ) → n < 2 ^ k → bit_or n (2 ^ k) ≡ n + 2 ^ k
or_next n k below =
    or_disjoint n (2 ^ k) (and_pow n k ∙ ap (λ m. m * 2 ^ k) (bit_at_above n k k below (omega arith))
    ∙ (let e : 0 * 2 ^ k ≡ 0 = omega arith in e))
