use Rattle.std.proofs.Common.{◌≡◌, ◌<◌, ℕ, false}
use Rattle.tool_system_driver.specs.Words.{is_named}
use Rattle.tool_system_driver.proofs.system.subsystem_named.Given as goal

abbrev pub invariant-loop-e : goal.invariant-loop-e
invariant-loop-e l = (k : ℕ) → k < l.e → is_named l.rows l.word k ≡ false
