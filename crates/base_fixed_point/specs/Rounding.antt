-- A quotient brought to a whole number.
use Rattle.std.specs.Prelude.{◌≡◌, ℕ, ◌*◌, ◌/◌, ◌%◌, ◌≤◌, Bool, ℤ, pos, negsuc, ◌+ℤ◌, ◌-ℤ◌, ◌*ℤ◌, ◌≤ℤ◌, ◌<ℤ◌, neg_ℤ, unsigned_abs, int_le, nat_lt, ◌==◌, MatchBool, if◌then◌else◌}
use Rattle.base_fixed_point.specs.declared.types.Round.{Round}
use Rattle.base_fixed_point.specs.declared.types.Round.TheVariants.{Ceiling, Convergent, Floor, Nearest, Zero}
use Rattle.base_fixed_point.specs.declared.types.Round.TheVariants as round

-- Below, q is n / d brought to a whole number, for a positive d.

-- the greatest whole number that isn't above
abbrev pub IsFloor : ℤ → ℕ → ℤ → Type 0
IsFloor n d q = ((q *ℤ pos d) ≤ℤ n) × (n <ℤ ((q +ℤ pos 1) *ℤ pos d))

-- the least whole number that isn't below
abbrev pub IsCeiling : ℤ → ℕ → ℤ → Type 0
IsCeiling n d q = (((q -ℤ pos 1) *ℤ pos d) <ℤ n) × (n ≤ℤ (q *ℤ pos d))

-- the nearest, and of two equally near the upper one
abbrev pub IsNearest : ℤ → ℕ → ℤ → Type 0
IsNearest n d q =
    (((pos 2 *ℤ q) *ℤ pos d) ≤ℤ ((pos 2 *ℤ n) +ℤ pos d))
    × (((pos 2 *ℤ n) +ℤ pos d) <ℤ ((pos 2 *ℤ (q +ℤ pos 1)) *ℤ pos d))

-- q is a multiple of 2
abbrev pub IsEven : ℤ → Type 0
IsEven q = unsigned_abs q % 2 ≡ 0

-- the nearest, and of two equally near the even one
abbrev pub IsConvergent : ℤ → ℕ → ℤ → Type 0
IsConvergent n d q =
    let distance = unsigned_abs ((pos 2 *ℤ n) -ℤ ((pos 2 *ℤ q) *ℤ pos d)) in
    (distance ≤ d) × (distance ≡ d → IsEven q)

-- q is n / d, rounded so
abbrev pub IsRounded : Round → ℤ → ℕ → ℤ → Type 0
IsRounded Floor n d q = IsFloor n d q
IsRounded Ceiling n d q = IsCeiling n d q
IsRounded Zero n d q = MatchBool (int_le (pos 0) n) (IsFloor n d q) (IsCeiling n d q)
IsRounded Nearest n d q = IsNearest n d q
IsRounded round.Round n d q =
    MatchBool (int_le (pos 0) n) (IsNearest n d q) (IsNearest (neg_ℤ n) d (neg_ℤ q))
IsRounded Convergent n d q = IsConvergent n d q

-- ---- The number that is so rounded

-- the greatest that isn't above
abbrev pub floor_div : ℤ → ℕ → ℤ
floor_div (pos n) d = pos (n / d)
floor_div (negsuc n) d = negsuc (n / d)

-- the least that isn't below
abbrev pub ceiling_div : ℤ → ℕ → ℤ
ceiling_div n d = neg_ℤ (floor_div (neg_ℤ n) d)

-- the nearest, and of two the upper one: the greatest that isn't above n / d and a half
abbrev pub nearest : ℤ → ℕ → ℤ
nearest n d = floor_div ((pos 2 *ℤ n) +ℤ pos d) (2 * d)

-- whether q is a multiple of 2
abbrev pub is_even : ℤ → Bool
is_even q = unsigned_abs q % 2 == 0

-- the nearest, from the greatest q that isn't above and twice the rest
abbrev pub nearest_even : ℤ → ℕ → ℕ → ℤ
nearest_even q twice_rest d =
    if nat_lt twice_rest d then q
    else if nat_lt d twice_rest then q +ℤ pos 1
    else if is_even q then q else q +ℤ pos 1

-- the nearest, and of two the even one
abbrev pub convergent : ℤ → ℕ → ℤ
convergent n d =
    let q = floor_div n d in nearest_even q (2 * unsigned_abs (n -ℤ (q *ℤ pos d))) d

-- n / d, rounded so
abbrev pub rounded : Round → ℤ → ℕ → ℤ
rounded Floor n d = floor_div n d
rounded Ceiling n d = ceiling_div n d
rounded Zero n d = if int_le (pos 0) n then floor_div n d else ceiling_div n d
rounded Nearest n d = nearest n d
rounded round.Round n d = if int_le (pos 0) n then nearest n d else neg_ℤ (nearest (neg_ℤ n) d)
rounded Convergent n d = convergent n d

-- for a positive divisor there is just one such number, and it is that
abbrev pub RoundingIsOne : Type 0
RoundingIsOne = (r : Round) (n : ℤ) (d : ℕ) → 1 ≤ d →
    IsRounded r n d (rounded r n d) × ((q : ℤ) → IsRounded r n d q → q ≡ rounded r n d)
