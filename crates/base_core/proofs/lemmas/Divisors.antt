-- The greatest common divisor.
use Rattle.std.proofs.Common.{refl, ℕ, zero, suc, ◌%◌, ◌<◌, mod-lt, arith}
use Rattle.std.specs.Int.{IsGcd}
use Rattle.std.proofs.lemmas.Nat.Gcd.{IsGcd-from_zero, IsGcd-from_mod}
use native.Mathlib.Nat.{pos_of_dvd_of_pos}
use Rattle.base_core.specs.Numbers.{gcd_within, gcd}

some : (b : ℕ) → 0 < suc b
some b = omega arith

gcd_within_is : (turns a b : ℕ) → b < turns → IsGcd a b (gcd_within turns a b)
gcd_within_is zero a b h = absurd (omega (arith, h))
gcd_within_is (suc turns) a zero h = IsGcd-from_zero a zero refl
gcd_within_is (suc turns) a (suc b) h =
    IsGcd-from_mod a (suc b) _ (gcd_within_is turns (suc b) (a % suc b) (omega (arith, h, mod-lt a (some b))))

pub gcd_is : (a b : ℕ) → IsGcd a b (gcd a b)
gcd_is a b = gcd_within_is (suc b) a b (omega arith)

pub gcd_pos : (a b : ℕ) → 0 < b → 0 < gcd a b
gcd_pos a b h = pos_of_dvd_of_pos (gcd_is a b).1 h
