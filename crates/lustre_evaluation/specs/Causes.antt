-- Why an expression has no value, as one number.
use Rattle.std.specs.Prelude.{ℕ, zero, suc}
use Rattle.lustre_flows.specs.declared.stuck.LusWhy.TheVariants.{Overflow, ZeroDivisor, Pre, Cycle}
use Rattle.lustre_evaluation.specs.declared.outcome.Unmet.{Unmet}
use Rattle.lustre_evaluation.specs.declared.outcome.Unmet.TheVariants.{Waits, Never, Fails}

-- the cause with a number
abbrev pub cause_of : ℕ → Unmet
cause_of zero = Fails Overflow
cause_of (suc zero) = Fails ZeroDivisor
cause_of (suc (suc zero)) = Fails Pre
cause_of (suc (suc (suc zero))) = Fails Cycle
cause_of (suc (suc (suc (suc zero)))) = Never
cause_of (suc (suc (suc (suc (suc name))))) = Waits name
