-- The numbers of causes.
use Rattle.std.proofs.Common.{◌≡◌, ap, ℕ, zero, suc, ◌+◌, ◌-◌, ◌≤◌, arith}
use Rattle.lustre_evaluation.specs.declared.outcome.Unmet.TheVariants.{Waits}
use Rattle.lustre_evaluation.specs.Causes.{cause_of}

-- that of a name without a value
pub waits_is : (name : ℕ) → cause_of (name + 5) ≡ Waits name
waits_is name = let more : name + 5 ≡ suc (suc (suc (suc (suc name)))) = omega arith in ap cause_of more

-- the name of a number
pub waiting_is : (code : ℕ) → 5 ≤ code → cause_of code ≡ Waits (code - 5)
waiting_is zero past = absurd (omega arith)
waiting_is (suc zero) past = absurd (omega arith)
waiting_is (suc (suc zero)) past = absurd (omega arith)
waiting_is (suc (suc (suc zero))) past = absurd (omega arith)
waiting_is (suc (suc (suc (suc zero)))) past = absurd (omega arith)
waiting_is (suc (suc (suc (suc (suc name))))) past =
    let less : name ≡ suc (suc (suc (suc (suc name)))) - 5 = omega arith in ap Waits less
