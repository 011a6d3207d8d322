-- Whole numbers and fractions.
use Rattle.std.specs.Prelude.{ℕ, zero, suc, ◌*◌, ◌/◌, ◌%◌, ◌<◌, min, List, slice_index_or, ℤ, pos}
use Rattle.std.specs.Int.{IsGcd, ◌∣◌}

-- num / den is a fraction in lowest terms: their greatest common divisor is 1
abbrev pub AreLowest : ℕ → ℕ → Type 0
AreLowest num den = (0 < den) × IsGcd num den 1

-- the greatest common divisor, by at most so many divisions
abbrev pub gcd_within : ℕ → ℕ → ℕ → ℕ
gcd_within zero a b = a
gcd_within (suc turns) a zero = a
gcd_within (suc turns) a (suc b) = gcd_within turns (suc b) (a % suc b)

-- the greatest common divisor; of a number and 0 it is that number
abbrev pub gcd : ℕ → ℕ → ℕ
gcd a b = gcd_within (suc b) a b

-- l is the least common multiple of a and b: a multiple of both, which divides each other one
abbrev pub IsLcm : ℕ → ℕ → ℕ → Type 0
IsLcm a b l = (a ∣ l) × (b ∣ l) × ((m : ℕ) → a ∣ m → b ∣ m → l ∣ m)

-- the least common multiple of positive numbers
abbrev pub lcm : ℕ → ℕ → ℕ
lcm a b = (a * b) / gcd a b

-- the number of a line, or a count, as it is reported: what doesn't fit 32 bits is the greatest
-- that does
abbrev pub reported_number : ℕ → ℕ
reported_number n = min n 4294967295

-- the number at a place of a list, and 0 past the end
abbrev pub int_at : List ℤ → ℕ → ℤ
int_at values k = slice_index_or values k (pos 0)
