-- Laws of the tests of activity and of the sample time.
use Rattle.std.specs.Prelude.{◌≡◌, ℕ, ◌^◌, ◌<◌, ◌≤◌, Bool, true, false, not, ◌&&◌, List, [], ◌∷◌, Contains, Option, Some, None, ℤ, pos, ⊤}
use Rattle.base_core.specs.declared.Control.{Control}
use Rattle.base_core.specs.declared.Control.TheVariants.{Plain, Enabled, Triggered, Both}
use Rattle.diagram_activity.specs.declared.TrigMem.{TrigMem}
use Rattle.diagram_activity.specs.declared.TrigMem.TheVariants.{NotYet, Low, High}
use Rattle.diagram_activity.specs.Activity.{is_high, active, off, next_memory, memory_number}
use Rattle.diagram_meaning.specs.declared.Time.{Time}
use Rattle.diagram_meaning.specs.SampleTimes.{hit}
use Rattle.c_syntax.specs.declared.Leaf.{Leaf}
use Rattle.c_syntax.specs.Tree.{CondTree}
use Rattle.c_semantics.specs.Values.{gives, eval, eval_cond, Function, Reads}
use Rattle.c_syntax.specs.Limits.{cond_depth}
use Rattle.emit_row_code.specs.Reading.{TestsOnly}
use Rattle.emit_row_code.specs.declared.leaves.ControlLeaves.{ControlLeaves}
use Rattle.emit_row_code.specs.TestCode.{active_by, disabled_by, off_by, hit_test, level_code, both_tests}

-- whether the enable of a system inside an active one is low
abbrev pub disabled : Control → ℤ → Bool
disabled Plain enable = false
disabled (Enabled reset) enable = not (is_high enable)
disabled (Triggered edge) enable = false
disabled (Both reset edge) enable = not (is_high enable)

-- a test comes to this truth value in no step, and isn't stuck; no test stands for `none`
abbrev pub TestIs : List Function → Reads → ℕ → (none : Bool) → Option CondTree → Bool → Type 0
TestIs functions reads line none None b = b ≡ none
TestIs functions reads line none (Some test) b =
    (steps : ℕ) → eval_cond functions reads line test steps ≡ gives b steps

-- whatever its leaves read, the tests of a system inside an active one are its activity, and its
-- trigger remembers its level
pub record IsTested (control : Control) (leaves : ControlLeaves) (memory : TrigMem)
    (functions : List Function) (reads : Reads) (line : ℕ) : Type 0 where
  pub active : TestIs functions reads line true (active_by control leaves)
      (active true control memory (reads.leaf leaves.enable) (reads.leaf leaves.trigger))
  pub disabled : TestIs functions reads line false (disabled_by control leaves)
      (disabled control (reads.leaf leaves.enable))
  pub off : TestIs functions reads line false (off_by control leaves)
      (off true control (reads.leaf leaves.enable))
  pub level : (steps : ℕ) → eval functions reads line (level_code leaves.trigger) steps ≡ gives
      (memory_number (next_memory true memory (reads.leaf leaves.trigger))) steps

abbrev pub ActivityIsTested : Type 0
ActivityIsTested =
    (control : Control) (leaves : ControlLeaves) (memory : TrigMem) (functions : List Function)
    (reads : Reads) (line : ℕ) →
    reads.leaf leaves.remembers ≡ memory_number memory →
    IsTested control leaves memory functions reads line

-- the test of a sample time is whether it hits the tick
abbrev pub HitsAreTested : Type 0
HitsAreTested =
    (time : Time) (now : Leaf) (t : ℕ) (functions : List Function) (reads : Reads) (line : ℕ) →
    reads.leaf now ≡ pos t → t < 2 ^ 63 →
    TestIs functions reads line true (hit_test time now) (hit time t)

-- two tests in one hold where both do
abbrev pub BothAreTested : Type 0
BothAreTested =
    (first second : Option CondTree) (p q : Bool) (functions : List Function) (reads : Reads)
    (line : ℕ) →
    TestIs functions reads line true first p → TestIs functions reads line true second q →
    TestIs functions reads line true (both_tests first second) (p && q)

-- ---- Leaves and depth

-- P holds of a test, where there is one
abbrev pub OnTest : (CondTree → Type 0) → Option CondTree → Type 0
OnTest P None = ⊤
OnTest P (Some test) = P test

-- the leaves that the controls of a system have
abbrev pub control_leaves : Control → ControlLeaves → List Leaf
control_leaves Plain leaves = []
control_leaves (Enabled reset) leaves = leaves.enable ∷ []
control_leaves (Triggered edge) leaves = leaves.trigger ∷ leaves.remembers ∷ []
control_leaves (Both reset edge) leaves = leaves.enable ∷ leaves.trigger ∷ leaves.remembers ∷ []

-- a test reads only these leaves, and it is 10 deep at most
abbrev pub IsPlainTest : List Leaf → Option CondTree → Type 0
IsPlainTest leaves = OnTest (λ test. TestsOnly (Contains leaves) test × (cond_depth test ≤ 10))

-- tests of activity read the controls and what the trigger remembers, that of a sample time the
-- tick
pub record TestsArePlain (control : Control) (leaves : ControlLeaves) (time : Time)
    (now : Leaf) : Type 0 where
  pub active : IsPlainTest (control_leaves control leaves) (active_by control leaves)
  pub disabled : IsPlainTest (control_leaves control leaves) (disabled_by control leaves)
  pub off : IsPlainTest (control_leaves control leaves) (off_by control leaves)
  pub hit : IsPlainTest (now ∷ []) (hit_test time now)

abbrev pub AllTestsArePlain : Type 0
AllTestsArePlain = (control : Control) (leaves : ControlLeaves) (time : Time) (now : Leaf) →
    TestsArePlain control leaves time now
