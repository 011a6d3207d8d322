-- The tests of a system come to its activity in a tick, and those of a sample time to whether the tick is one of it.
use Rattle.std.specs.Prelude.{◌≡◌, ℕ, ◌%◌, ◌^◌, ◌<◌, ◌≤◌, Bool, true, false, not, ◌&&◌, ◌==◌, List, ℤ, pos, refl}
use Rattle.std.proofs.Common.{sym, subst, arith, true≢false}
use Rattle.std.proofs.Math.Nat.{mod-mod_of_dvd}
use Rattle.std.proofs.lemmas.Nat.Gcd.{dvd_of_mod-eq-zero}
use Rattle.base_core.specs.declared.base.Control.{Control}
use Rattle.base_core.specs.declared.base.Control.TheVariants.{Plain, Enabled, Triggered, Both}
use Rattle.diagram_activity.specs.declared.memory.TrigMem.{TrigMem}
use Rattle.diagram_activity.specs.declared.memory.TrigMem.TheVariants.{NotYet, Low, High}
use Rattle.diagram_activity.specs.Activity.{is_high, edge, memory_number}
use Rattle.diagram_meaning.specs.declared.times.Time.{Time}
use Rattle.diagram_meaning.specs.SampleTimes.{hit}
use Rattle.diagram_meaning.specs.ControlValues.{enable_in, trigger_in, is_active_by, is_off_by, is_disabled_by}
use Rattle.diagram_meaning.specs.Rows.{is_enabled, is_triggered}
use Rattle.c_syntax.specs.declared.code.Leaf.{Leaf}
use Rattle.c_semantics.specs.Values.{Function, Reads}
use Rattle.emit_row_code.specs.declared.leaves.ControlLeaves.{ControlLeaves}
use Rattle.emit_row_code.specs.TestCode.{active_by, disabled_by, off_by, hit_test}
use Rattle.emit_row_code.specs.TestLaws.{TestIs, IsTested, ActivityIsTested, HitsAreTested}

pub number-is : (memory : TrigMem) → memory_number memory ≡ memory_number memory
number-is NotYet = refl
number-is Low = refl
number-is High = refl

-- what leaves read of the controls and of what the trigger remembers, where there is such a control
pub record AreRead (control : Control) (leaves : ControlLeaves) (memory : TrigMem) (controls : List ℤ)
    (given : Reads) : Type 0 where
  pub enable : is_enabled control ≡ true → given.leaf leaves.enable ≡ enable_in control controls
  pub trigger : is_triggered control ≡ true → given.leaf leaves.trigger ≡ trigger_in control controls
  pub remembers : is_triggered control ≡ true → given.leaf leaves.remembers ≡ memory_number memory
  pub nothing : Leaf
  pub is_nothing : given.leaf nothing ≡ pos 0

-- the tests inside an active system
pub record AreTests (control : Control) (leaves : ControlLeaves) (memory : TrigMem) (controls : List ℤ) (functions : List Function)
    (given : Reads) (parent : Bool) : Type 0 where
  pub active : TestIs functions given 0 true (active_by control leaves) (is_active_by parent control memory controls)
  pub off : TestIs functions given 0 false (off_by control leaves) (is_off_by parent control controls)
  pub disabled : TestIs functions given 0 false (disabled_by control leaves) (is_disabled_by parent control controls)

module _ (law : ActivityIsTested) (leaves : ControlLeaves) (memory : TrigMem) (controls : List ℤ) (functions : List Function)
    (given : Reads) (parent : Bool) (callable : parent ≡ true) where
  pub are-tests : (control : Control) → AreRead control leaves memory controls given →
      AreTests control leaves memory controls functions given parent
  are-tests Plain read = record { active = callable; off = refl; disabled = refl }
  are-tests (Enabled reset) read = record {
    active = subst (TestIs functions given 0 true (active_by (Enabled reset) leaves))
        (λ i. sym callable i && is_high (enable i)) tested.active;
    off = subst (TestIs functions given 0 false (off_by (Enabled reset) leaves))
        (λ i. reset && (sym callable i && not (is_high (enable i)))) tested.off;
    disabled = subst (TestIs functions given 0 false (disabled_by (Enabled reset) leaves))
        (λ i. sym callable i && not (is_high (enable i))) tested.disabled;
  }
    where
      -- an enable alone has no memory
      bare : ControlLeaves
      bare = record { enable = leaves.enable; trigger = leaves.trigger; remembers = read.nothing }

      tested : IsTested (Enabled reset) bare NotYet functions given 0
      tested = law (Enabled reset) bare NotYet functions given 0 read.is_nothing

      enable : given.leaf leaves.enable ≡ enable_in (Enabled reset) controls
      enable = read.enable refl
  are-tests (Triggered e) read = record {
    active = subst (TestIs functions given 0 true (active_by (Triggered e) leaves))
        (λ i. sym callable i && edge e memory (trigger i)) tested.active;
    off = refl;
    disabled = refl;
  }
    where
      tested : IsTested (Triggered e) leaves memory functions given 0
      tested = law (Triggered e) leaves memory functions given 0 (read.remembers refl)

      trigger : given.leaf leaves.trigger ≡ trigger_in (Triggered e) controls
      trigger = read.trigger refl
  are-tests (Both reset e) read = record {
    active = subst (TestIs functions given 0 true (active_by (Both reset e) leaves))
        (λ i. sym callable i && (is_high (enable i) && edge e memory (trigger i))) tested.active;
    off = subst (TestIs functions given 0 false (off_by (Both reset e) leaves))
        (λ i. reset && (sym callable i && not (is_high (enable i)))) tested.off;
    disabled = subst (TestIs functions given 0 false (disabled_by (Both reset e) leaves))
        (λ i. sym callable i && not (is_high (enable i))) tested.disabled;
  }
    where
      tested : IsTested (Both reset e) leaves memory functions given 0
      tested = law (Both reset e) leaves memory functions given 0 (read.remembers refl)

      enable : given.leaf leaves.enable ≡ enable_in (Both reset e) controls
      enable = read.enable refl

      trigger : given.leaf leaves.trigger ≡ trigger_in (Both reset e) controls
      trigger = read.trigger refl

-- ---- What excludes activity

low : (p h : Bool) → (p && not h) ≡ true → (p && h) ≡ false
low true true is = sym is
low true false is = refl
low false h is = absurd (true≢false (sym is))

both-low : (p h x : Bool) → (p && not h) ≡ true → (p && (h && x)) ≡ false
both-low true true x is = absurd (true≢false (sym is))
both-low true false x is = refl
both-low false h x is = absurd (true≢false (sym is))

second : (r b : Bool) → (r && b) ≡ true → b ≡ true
second true b is = is
second false b is = absurd (true≢false (sym is))

-- a system that its enable disables, or that is off, isn't active
pub disabled-rests : (parent : Bool) (control : Control) (memory : TrigMem) (controls : List ℤ) →
    is_disabled_by parent control controls ≡ true →
    is_active_by parent control memory controls ≡ false
disabled-rests parent Plain memory controls is = absurd (true≢false (sym is))
disabled-rests parent (Enabled reset) memory controls is = low parent (is_high (enable_in (Enabled reset) controls)) is
disabled-rests parent (Triggered e) memory controls is = absurd (true≢false (sym is))
disabled-rests parent (Both reset e) memory controls is =
    both-low parent (is_high (enable_in (Both reset e) controls)) (edge e memory (trigger_in (Both reset e) controls)) is

pub off-rests : (parent : Bool) (control : Control) (memory : TrigMem) (controls : List ℤ) →
    is_off_by parent control controls ≡ true →
    is_active_by parent control memory controls ≡ false
off-rests parent Plain memory controls is = absurd (true≢false (sym is))
off-rests parent (Enabled reset) memory controls is =
    low parent (is_high (enable_in (Enabled reset) controls))
    (second reset (parent && not (is_high (enable_in (Enabled reset) controls))) is)
off-rests parent (Triggered e) memory controls is = absurd (true≢false (sym is))
off-rests parent (Both reset e) memory controls is =
    both-low parent (is_high (enable_in (Both reset e) controls)) (edge e memory (trigger_in (Both reset e) controls))
    (second reset (parent && not (is_high (enable_in (Both reset e) controls))) is)

-- ---- Sample times

-- the tick's number modulo a cycle says whether it is a hit
pub hit-is : (law : HitsAreTested) (time : Time) (now : Leaf) (t cycle : ℕ) (functions : List Function) (given : Reads) →
    given.leaf now ≡ pos (t % cycle) → 0 < cycle → cycle ≤ 2 ^ 30 → cycle % time.period ≡ 0 →
    TestIs functions given 0 true (hit_test time now) (hit time t)
hit-is law time now t cycle functions given reads some short repeats =
    subst (λ n. TestIs functions given 0 true (hit_test time now) (n == time.offset))
    (mod-mod_of_dvd time.period t (dvd_of_mod-eq-zero time.period repeats))
    (law time now (t % cycle) functions given 0 reads
    (let below : t % cycle < cycle = omega (arith, some) in omega (arith, below, short)))
