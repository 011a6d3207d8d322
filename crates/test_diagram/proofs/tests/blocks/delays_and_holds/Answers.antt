use Rattle.std.proofs.Common.{refl, lit≤}
use Rattle.std.proofs.lemmas.Nat.Gcd.{IsGcd-from_mod, IsGcd-from_zero}
use Rattle.test_diagram.proofs.tests.blocks.delays_and_holds.Goals as goal

pub invariant_of-seven-clause-lowest : goal.invariant_of-seven-clause-lowest
invariant_of-seven-clause-lowest g c = (lit≤ tt, IsGcd-from_mod 7 1 1 (IsGcd-from_zero 1 0 refl))
