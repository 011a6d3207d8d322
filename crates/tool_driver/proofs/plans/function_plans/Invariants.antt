use Rattle.std.proofs.Common.{◌≡◌, ◌<◌, ℕ, suc, Some, length}
use Rattle.std.specs.Prelude.{slice_get}
use Rattle.c_syntax.specs.Plain.{program_tree}
use Rattle.tool_driver.specs.Shapes.{function_plan}
use Rattle.tool_driver.proofs.plans.function_plans.Given as goal

abbrev pub invariant-loop-at : goal.invariant-loop-at
invariant-loop-at l = (length l.plans.items ≡ l.at)
    × ((k : ℕ) → k < l.at →
    slice_get l.plans.items k ≡ Some (function_plan (program_tree l.program.program) l.shape (suc k)))
