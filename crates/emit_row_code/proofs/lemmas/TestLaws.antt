-- The tests of a system are its activity.
use Rattle.std.proofs.Common.{◌≡◌, refl, ap, ◌∙◌, subst, ℕ, ◌%◌, ◌<◌, ◌≤◌, ◌==◌, Bool, true, false, not, ◌&&◌, ◌||◌, cond, if◌then◌else◌, List, Some, None, ℤ, pos, [], ◌∷◌, sym, arith}
use Rattle.std.specs.Prelude.{int_rem, Contains}
use Rattle.std.specs.Ordering.{int_eq}
use Rattle.std.proofs.lemmas.Bool.Decides.{nat_tests}
use Rattle.std.proofs.Math.Nat.{div-le_self}
use Rattle.std.proofs.lemmas.Int.{ints}
use Rattle.base_core.specs.declared.Compare.{Compare}
use Rattle.base_core.specs.declared.Compare.TheVariants.{Eq, Gt}
use Rattle.base_core.specs.declared.Control.{Control}
use Rattle.base_core.specs.declared.Control.TheVariants.{Plain, Enabled, Triggered, Both}
use Rattle.base_core.specs.declared.Edge.{Edge}
use Rattle.base_core.specs.declared.Edge.TheVariants.{Rising, Falling, Either}
use Rattle.diagram_activity.specs.declared.TrigMem.{TrigMem}
use Rattle.diagram_activity.specs.declared.TrigMem.TheVariants.{NotYet, Low, High}
use Rattle.diagram_activity.specs.Activity.{is_high, edge, active, off, next_memory, memory_number}
use Rattle.c_syntax.specs.declared.BinOp.TheVariants.{Rem}
use Rattle.c_syntax.specs.declared.Leaf.{Leaf}
use Rattle.c_syntax.specs.Tree.{CondTree, literal, read, binary, compare, negated}
use Rattle.c_semantics.specs.Values.{gives, compares, Function, Reads}
use Rattle.c_semantics.specs.EvaluationLaws.{Gives, Holds}
use Rattle.c_semantics.proofs.lemmas.WithoutSteps.{gives_literal, gives_read, gives_pick, gives_rem, holds_compare, holds_both, holds_either, holds_negated}
use Rattle.emit_row_code.specs.declared.leaves.ControlLeaves.{ControlLeaves}
use Rattle.emit_row_code.specs.TestCode.{is_high_code, was, rises, falls, event_test, active_by, disabled_by, off_by, hit_test, level_code}
use Rattle.c_syntax.specs.Limits.{cond_depth}
use Rattle.emit_row_code.specs.Reading.{TestsOnly}
use Rattle.diagram_meaning.specs.declared.Time.{Time}
use Rattle.emit_row_code.specs.TestLaws.{disabled, TestIs, ActivityIsTested, HitsAreTested, BothAreTested, control_leaves, IsPlainTest, AllTestsArePlain}

-- what one leaf says
module _ (functions : List Function) (reads : Reads) (line : ℕ) (l : Leaf) where
  read_holds : (how : Compare) (n : ℕ) → Holds functions reads line (compare how (read l) (literal (pos n)))
      (compares how (reads.leaf l) (pos n))
  read_holds how n = holds_compare functions reads line how (read l) (literal (pos n)) (reads.leaf l) (pos n)
      (gives_read functions reads line l) (gives_literal functions reads line (pos n))

  high_holds : Holds functions reads line (is_high_code l) (is_high (reads.leaf l))
  high_holds = read_holds Gt 0

  -- the level of a trigger is what it remembers next
  pub level_gives : (memory : TrigMem) → Gives functions reads line (level_code l) (memory_number (next_memory true memory (reads.leaf l)))
  level_gives memory = subst (Gives functions reads line (level_code l)) (by (is_high (reads.leaf l)))
      (gives_pick functions reads line (is_high_code l) (literal (pos 2)) (literal (pos 1)) (is_high (reads.leaf l)) (pos 2) (pos 1)
      high_holds (gives_literal functions reads line (pos 2)) (gives_literal functions reads line (pos 1)))
    where
      by : (b : Bool) → cond b (pos 2) (pos 1) ≡ memory_number (if b then High else Low)
      by true = refl
      by false = refl

module _ (leaves : ControlLeaves) (memory : TrigMem) (functions : List Function) (reads : Reads) (line : ℕ)
    (remembers : reads.leaf leaves.remembers ≡ memory_number memory) where
  abbrev Has : CondTree → Bool → Type 0
  Has t b = Holds functions reads line t b

  abbrev trigger : ℤ
  trigger = reads.leaf leaves.trigger

  low_enable : Has (negated (is_high_code leaves.enable)) (not (is_high (reads.leaf leaves.enable)))
  low_enable = holds_negated functions reads line (is_high_code leaves.enable) (is_high (reads.leaf leaves.enable))
      (high_holds functions reads line leaves.enable)

  was_holds : (level : ℕ) → Has (was leaves level) (int_eq (memory_number memory) (pos level))
  was_holds level =
      subst (λ v. Has (was leaves level) (int_eq v (pos level))) remembers
      (read_holds functions reads line leaves.remembers Eq level)

  rises_hold : Has (rises leaves) (int_eq (memory_number memory) (pos 1) && is_high trigger)
  rises_hold =
      holds_both functions reads line (was leaves 1) (is_high_code leaves.trigger)
      (int_eq (memory_number memory) (pos 1)) (is_high trigger) (was_holds 1)
      (high_holds functions reads line leaves.trigger)

  falls_hold : Has (falls leaves) (int_eq (memory_number memory) (pos 2) && not (is_high trigger))
  falls_hold =
      holds_both functions reads line (was leaves 2) (negated (is_high_code leaves.trigger))
      (int_eq (memory_number memory) (pos 2)) (not (is_high trigger)) (was_holds 2)
      (holds_negated functions reads line (is_high_code leaves.trigger) (is_high trigger) (high_holds functions reads line leaves.trigger))

  either_holds : Has (event_test Either leaves) ((int_eq (memory_number memory) (pos 1) && is_high trigger)
      || (int_eq (memory_number memory) (pos 2) && not (is_high trigger)))
  either_holds =
      holds_either functions reads line (rises leaves) (falls leaves) (int_eq (memory_number memory) (pos 1)
      && is_high trigger) (int_eq (memory_number memory) (pos 2) && not (is_high trigger)) rises_hold falls_hold

-- what the three tests come to is an event
rise_is : (memory : TrigMem) (v : ℤ) → (int_eq (memory_number memory) (pos 1) && is_high v) ≡ edge Rising memory v
rise_is NotYet v = refl
rise_is Low v = refl
rise_is High v = refl

fall_is : (memory : TrigMem) (v : ℤ) → (int_eq (memory_number memory) (pos 2) && not (is_high v)) ≡ edge Falling memory v
fall_is NotYet v = refl
fall_is Low v = refl
fall_is High v = refl

or_false : (b : Bool) → (b || false) ≡ b
or_false true = refl
or_false false = refl

either_is : (memory : TrigMem) (v : ℤ) →
    ((int_eq (memory_number memory) (pos 1) && is_high v) || (int_eq (memory_number memory) (pos 2) && not (is_high v)))
    ≡ edge Either memory v
either_is NotYet v = refl
either_is Low v = or_false (is_high v)
either_is High v = refl

module _ (leaves : ControlLeaves) (memory : TrigMem) (functions : List Function) (reads : Reads) (line : ℕ)
    (remembers : reads.leaf leaves.remembers ≡ memory_number memory) where
  event_holds : (e : Edge) → Holds functions reads line (event_test e leaves) (edge e memory (reads.leaf leaves.trigger))
  event_holds Rising =
      subst (Holds functions reads line (event_test Rising leaves)) (rise_is memory (reads.leaf leaves.trigger))
      (rises_hold leaves memory functions reads line remembers)
  event_holds Falling =
      subst (Holds functions reads line (event_test Falling leaves)) (fall_is memory (reads.leaf leaves.trigger))
      (falls_hold leaves memory functions reads line remembers)
  event_holds Either =
      subst (Holds functions reads line (event_test Either leaves)) (either_is memory (reads.leaf leaves.trigger))
      (either_holds leaves memory functions reads line remembers)

  active_is : (control : Control) →
      TestIs functions reads line true (active_by control leaves)
      (active true control memory (reads.leaf leaves.enable) (reads.leaf leaves.trigger))
  active_is Plain = refl
  active_is (Enabled reset) = high_holds functions reads line leaves.enable
  active_is (Triggered e) = event_holds e
  active_is (Both reset e) =
      holds_both functions reads line (is_high_code leaves.enable) (event_test e leaves)
      (is_high (reads.leaf leaves.enable)) (edge e memory (reads.leaf leaves.trigger))
      (high_holds functions reads line leaves.enable) (event_holds e)

  disabled_is : (control : Control) →
      TestIs functions reads line false (disabled_by control leaves) (disabled control (reads.leaf leaves.enable))
  disabled_is Plain = refl
  disabled_is (Enabled reset) = low_enable leaves memory functions reads line remembers
  disabled_is (Triggered e) = refl
  disabled_is (Both reset e) = low_enable leaves memory functions reads line remembers

  off_is : (control : Control) → TestIs functions reads line false (off_by control leaves) (off true control (reads.leaf leaves.enable))
  off_is (Enabled true) = low_enable leaves memory functions reads line remembers
  off_is (Both true e) = low_enable leaves memory functions reads line remembers
  off_is _ = refl

pub activity_is_tested : ActivityIsTested
activity_is_tested control leaves memory functions reads line remembers = record {
  active = active_is leaves memory functions reads line remembers control;
  disabled = disabled_is leaves memory functions reads line remembers control;
  off = off_is leaves memory functions reads line remembers control;
  level = level_gives functions reads line leaves.trigger memory;
}

-- ---- Sample times

rest_is : (t p o : ℕ) → int_eq (int_rem (pos t) (pos p)) (pos o) ≡ (t % p == o)
rest_is t p o = same_natural (t % p) o
  where
    same_natural : (a b : ℕ) → int_eq (pos a) (pos b) ≡ (a == b)
    same_natural a b = grind (arith, ints, nat_tests)

each_tick : (t p o : ℕ) → (p == 1) ≡ true → o < p → (t % p == o) ≡ true
each_tick t p o e h =
    let one : p ≡ 1 = grind (arith, nat_tests) in
    let first : o ≡ 0 = omega (arith, one, h) in
    let none : t % p ≡ 0 = ap (λ n. t % n) one ∙ (let all : t % 1 ≡ 0 = omega arith in all) in
    grind (arith, nat_tests)

pub hits_are_tested : HitsAreTested
hits_are_tested time now t functions reads line is small = by (time.period == 1) refl
  where
    some : 1 ≤ time.period
    some = omega (arith, time.in_period)

    by : (b : Bool) → (time.period == 1) ≡ b →
        TestIs functions reads line true
        (if b then None
        else Some (compare Eq (binary Rem (read now) (literal (pos time.period))) (literal (pos time.offset))))
        (t % time.period == time.offset)
    by true one = each_tick t time.period time.offset one time.in_period
    by false other =
        subst (Holds functions reads line
        (compare Eq (binary Rem (read now) (literal (pos time.period))) (literal (pos time.offset))))
        (rest_is t time.period time.offset)
        (holds_compare functions reads line Eq (binary Rem (read now) (literal (pos time.period)))
        (literal (pos time.offset)) (int_rem (pos t) (pos time.period)) (pos time.offset)
        (gives_rem functions reads line (read now) (literal (pos time.period)) (pos t) time.period
        (subst (Gives functions reads line (read now)) is (gives_read functions reads line now))
        (gives_literal functions reads line (pos time.period)) some (omega (arith, div-le_self t time.period, small)))
        (gives_literal functions reads line (pos time.offset)))

-- ---- Two tests in one

pub both_are_tested : BothAreTested
both_are_tested None second p q functions reads line f g = subst (λ b. TestIs functions reads line true second (b && q)) (sym f) g
both_are_tested (Some test) None p q functions reads line f g = λ steps. f steps ∙ ap (λ b. gives b steps) (sym (with_true p q g))
  where
    with_true : (p q : Bool) → q ≡ true → (p && q) ≡ p
    with_true true q e = e
    with_true false q e = refl
both_are_tested (Some test) (Some other) p q functions reads line f g = holds_both functions reads line test other p q f g

-- ---- Leaves and depth

module _ (leaves : ControlLeaves) where
  first_of : (l : Leaf) (ls : List Leaf) → Contains (l ∷ ls) l
  first_of l ls = (0, omega arith, refl)

  second_of : (k l : Leaf) (ls : List Leaf) → Contains (k ∷ l ∷ ls) l
  second_of k l ls = (1, omega arith, refl)

  third_of : (j k l : Leaf) (ls : List Leaf) → Contains (j ∷ k ∷ l ∷ ls) l
  third_of j k l ls = (2, omega arith, refl)

  event_plain : (e : Edge) (given : List Leaf) → Contains given leaves.trigger → Contains given leaves.remembers →
      TestsOnly (Contains given) (event_test e leaves) × (cond_depth (event_test e leaves) ≤ 9)
  event_plain Rising given h k = (((k, tt), (h, tt)), omega arith)
  event_plain Falling given h k = (((k, tt), (h, tt)), omega arith)
  event_plain Either given h k = ((((k, tt), (h, tt)), ((k, tt), (h, tt))), omega arith)

  trigger_plain : (e : Edge) → IsPlainTest (leaves.trigger ∷ leaves.remembers ∷ []) (active_by (Triggered e) leaves)
  trigger_plain e =
      let event =
      event_plain e (leaves.trigger ∷ leaves.remembers ∷ []) (first_of leaves.trigger (leaves.remembers ∷ []))
      (second_of leaves.trigger leaves.remembers []) in
      (event.0, omega (arith, event.1))

  both_plain : (reset : Bool) (e : Edge) →
      IsPlainTest (leaves.enable ∷ leaves.trigger ∷ leaves.remembers ∷ []) (active_by (Both reset e) leaves)
  both_plain reset e =
      let given = leaves.enable ∷ leaves.trigger ∷ leaves.remembers ∷ [] in
      let event =
      event_plain e given (second_of leaves.enable leaves.trigger (leaves.remembers ∷ []))
      (third_of leaves.enable leaves.trigger leaves.remembers []) in
      (((first_of leaves.enable (leaves.trigger ∷ leaves.remembers ∷ []), tt), event.0), omega (arith, event.1))

  active_plain : (control : Control) → IsPlainTest (control_leaves control leaves) (active_by control leaves)
  active_plain Plain = tt
  active_plain (Enabled reset) = ((first_of leaves.enable [], tt), omega arith)
  active_plain (Triggered e) = trigger_plain e
  active_plain (Both reset e) = both_plain reset e

  disabled_plain : (control : Control) → IsPlainTest (control_leaves control leaves) (disabled_by control leaves)
  disabled_plain Plain = tt
  disabled_plain (Enabled reset) = ((first_of leaves.enable [], tt), omega arith)
  disabled_plain (Triggered e) = tt
  disabled_plain (Both reset e) = ((first_of leaves.enable (leaves.trigger ∷ leaves.remembers ∷ []), tt), omega arith)

  off_plain : (control : Control) → IsPlainTest (control_leaves control leaves) (off_by control leaves)
  off_plain (Enabled true) = ((first_of leaves.enable [], tt), omega arith)
  off_plain (Both true e) = ((first_of leaves.enable (leaves.trigger ∷ leaves.remembers ∷ []), tt), omega arith)
  off_plain _ = tt

hit_plain : (time : Time) (now : Leaf) → IsPlainTest (now ∷ []) (hit_test time now)
hit_plain time now = by (time.period == 1)
  where
    by : (b : Bool) →
        IsPlainTest (now ∷ [])
        (if b then None
        else Some (compare Eq (binary Rem (read now) (literal (pos time.period))) (literal (pos time.offset))))
    by true = tt
    by false = ((((0, omega arith, refl), tt), tt), omega arith)

pub all_tests_are_plain : AllTestsArePlain
all_tests_are_plain control leaves time now = record {
  active = active_plain leaves control;
  disabled = disabled_plain leaves control;
  off = off_plain leaves control;
  hit = hit_plain time now;
}
