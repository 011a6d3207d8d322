use Rattle.std.proofs.Common.{refl, lit≤}
use Rattle.std.proofs.lemmas.Nat.Gcd.{IsGcd-from_mod, IsGcd-from_zero}
use Rattle.test_diagram.proofs.tests.blocks.switch_thresholds.Goals as goal

pub invariant_of-half-clause-lowest : goal.invariant_of-half-clause-lowest
invariant_of-half-clause-lowest g c = (lit≤ tt, IsGcd-from_mod 1 2 1 (IsGcd-from_mod 2 1 1 (IsGcd-from_zero 1 0 refl)))
