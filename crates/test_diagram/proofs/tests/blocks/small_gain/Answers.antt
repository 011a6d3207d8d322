use Rattle.std.proofs.Common.{refl, lit≤}
use Rattle.std.proofs.lemmas.Nat.Gcd.{IsGcd-from_mod, IsGcd-from_zero}
use Rattle.test_diagram.proofs.tests.blocks.small_gain.Goals as goal

pub invariant_of-gain-clause-lowest : goal.invariant_of-gain-clause-lowest
invariant_of-gain-clause-lowest g c = (lit≤ tt, IsGcd-from_mod 1 10 1 (IsGcd-from_mod 10 1 1 (IsGcd-from_zero 1 0 refl)))
