-- Constants that find their own type.
use Rattle.std.specs.Prelude.{◌≡◌, ℕ, ◌+◌, ◌^◌, ◌<◌, ◌≤◌, ◌⊎◌, ℤ, pos, neg_ℤ, ◌*ℤ◌, ◌≤ℤ◌, ◌<ℤ◌, int_lt, if◌then◌else◌}
use Rattle.base_core.specs.declared.base.Decimal.{Decimal}
use Rattle.base_fixed_point.specs.Rounding.{IsEven}
use Rattle.base_fixed_point.specs.Conversion.{nearest_at}

-- q, but the nearer end of -2 ^ 40 to 2 ^ 40 where it is outside
abbrev pub capped : ℤ → ℤ
capped q =
    if int_lt q (neg_ℤ (pos (2 ^ 40))) then neg_ℤ (pos (2 ^ 40)) else if int_lt (pos (2 ^ 40)) q
    then pos (2 ^ 40) else q

-- m lies in 32 signed bits
abbrev pub Fits32 : ℤ → Type 0
Fits32 m = (neg_ℤ (pos (2 ^ 31)) ≤ℤ m) × (m <ℤ pos (2 ^ 31))

-- m with f bits after the point is the same number as n with g, and f is 0 or m is odd
pub record IsReduced (n : ℤ) (g : ℕ) (m : ℤ) (f : ℕ) : Type 0 where
  pub same : (k : ℕ) × (f + k ≡ g) × (n ≡ m *ℤ pos (2 ^ k))
  pub least : (f ≡ 0) ⊎ ¬ IsEven m

-- m with f bits after the point is the gain constant of d: the nearest number at the greatest f of
-- 0 to 31 at which it fits 32 signed bits, with the fewest bits after the point that say the same
pub record IsGainConstant (d : Decimal) (m : ℤ) (f : ℕ) : Type 0 where
  -- that greatest f
  pub top : ℕ
  pub bound : top ≤ 31
  pub fits : Fits32 (nearest_at d top)
  pub greatest : (g : ℕ) → top < g → g ≤ 31 → ¬ Fits32 (nearest_at d g)
  pub reduced : IsReduced (nearest_at d top) top m f

-- d has no gain constant: at no f its nearest number fits
abbrev pub HasNoGainConstant : Decimal → Type 0
HasNoGainConstant d = (g : ℕ) → g ≤ 31 → ¬ Fits32 (nearest_at d g)
