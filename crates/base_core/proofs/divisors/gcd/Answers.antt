use Rattle.std.proofs.Common.{arith}
use Rattle.std.proofs.lemmas.Nat.Gcd.{IsGcd-from_zero, IsGcd-from_mod, same_from_IsGcd}
use Rattle.base_core.proofs.lemmas.Divisors.{gcd_is}
use Rattle.base_core.proofs.divisors.gcd.Goals as goal

pub loop-y-preserved : goal.loop-y-preserved
loop-y-preserved c g h = c.loop-y.invariant g (IsGcd-from_mod _ _ g h)

pub returns : goal.returns
returns c =
    let greatest = c.loop-y.invariant _ (IsGcd-from_zero _ _ (omega arith)) in
    record { greatest = greatest; value = same_from_IsGcd _ _ _ _ greatest (gcd_is _ _) }
