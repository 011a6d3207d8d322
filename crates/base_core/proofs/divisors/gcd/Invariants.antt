use Rattle.std.proofs.Common.{ℕ}
use Rattle.std.specs.Int.{IsGcd}
use Rattle.base_core.proofs.divisors.gcd.Given as goal

-- each divisor that is found at the end is that of the first two numbers
abbrev pub invariant-loop-y : goal.invariant-loop-y
invariant-loop-y l = (g : ℕ) → IsGcd l.x l.y g → IsGcd l.fn.a l.fn.b g

abbrev pub decreases-loop-y : goal.decreases-loop-y
decreases-loop-y l = l.y
