-- Where the machine is stuck, as one number.
use Rattle.std.specs.Prelude.{ℕ, zero, suc, ◌/◌, ◌%◌}
use Rattle.c_syntax.specs.declared.fault.Stuck.{Stuck}
use Rattle.c_syntax.specs.declared.fault.Why.{Why}
use Rattle.c_syntax.specs.declared.fault.Why.TheVariants.{Overflow, ZeroDivisor, Range, Steps, Index}

-- the cause with a number
abbrev pub why_of : ℕ → Why
why_of zero = Overflow
why_of (suc zero) = ZeroDivisor
why_of (suc (suc zero)) = Range
why_of (suc (suc (suc zero))) = Steps
why_of (suc (suc (suc (suc n)))) = Index

-- the place with a number: its line eight times, and its cause
abbrev pub stuck_of : ℕ → Stuck
stuck_of code = record { line = code / 8; why = why_of (code % 8) }
