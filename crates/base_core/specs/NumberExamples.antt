-- Worked divisors and multiples.
use Rattle.std.specs.Prelude.{◌≡◌, refl}
use Rattle.base_core.specs.Numbers.{gcd, lcm, reported_number}

gcd-both : gcd 12 18 ≡ 6
gcd-both = refl

gcd-none : gcd 35 64 ≡ 1
gcd-none = refl

gcd-zero : gcd 0 7 ≡ 7
gcd-zero = refl

lcm-both : lcm 12 18 ≡ 36
lcm-both = refl

reported-fits : reported_number 80003 ≡ 80003
reported-fits = refl

reported-beyond : reported_number 4294967296 ≡ 4294967295
reported-beyond = refl
