-- What each answer of a driver's call is.
use Rattle.std.specs.Prelude.{◌≡◌, ℕ, suc, ◌-◌, ◌<◌, ◌≤◌, ◌==◌, Bool, true, false, cond, if◌then◌else◌, List, [], ◌∷◌, zip, filter, length, slice_index_or, Option, Some, None, Ok, Err, ℤ, refl}
use Rattle.std.specs.Ordering.{int_eq}
use Rattle.std.specs.Option.{option_or}
use Rattle.std.proofs.Common.{sym, ap, subst, ◌∙◌, arith}
use Rattle.modules_profile.specs.declared.Function.{Function}
use Rattle.base_core.specs.Ports.{has_bit, bit_of}
use Rattle.c_syntax.specs.declared.fault.Cost.{Cost}
use Rattle.c_syntax.specs.declared.fault.Stuck.{Stuck}
use Rattle.c_syntax.specs.Plain.{program_tree}
use Rattle.c_syntax.specs.Tree.{ProgramTree}
use Rattle.c_checked.specs.Checked.{CheckedProgram}
use Rattle.right_claim.specs.Scripts.{Call, out_with, update_with}
use Rattle.tool_driver.specs.declared.inputs.Input.{Input}
use Rattle.tool_driver.specs.declared.fault.DriveFault.{DriveFault}
use Rattle.tool_driver.specs.declared.fault.DriveFault.TheVariants as fault
use Rattle.tool_driver.specs.Shapes.{Shape, CallPlan, inputs_of, inputs_taken, function_plan, update_plan}
use Rattle.tool_driver.specs.Drivable.{IsDrivable}
use Rattle.tool_driver.specs.States.{DriverState, IsDriver, program_of, plan_of, plan_of_update}
use Rattle.tool_driver.specs.Judging.{first_fault, value_fault, unlike_fault, fault_beside, values_fault, twice_fault, early_fault, missing, call_fault, update_fault, fault_unless_stuck, is_of_type}
use Rattle.tool_driver.specs.Calling.{IsCallFor, IsUpdateFor, IsCallOf, IsUpdate, IsStuckIn, Leaves}
use Rattle.tool_driver.specs.Driven.{Driven, StandsFor, AnswersRight, StandsAfter}
use Rattle.tool_driver.specs.Laws.{CallsGoOn, UpdatesGoOn}

-- ---- Refusals

-- an error that is none of the machine
abbrev pub IsRefusal : DriveFault → Type 0
IsRefusal why = fault_unless_stuck why ≡ Some why

abbrev Refuses : Option DriveFault → Type 0
Refuses o = (why : DriveFault) → o ≡ Some why → IsRefusal why

refuses-none : Refuses None
refuses-none why e = absurd (cc)

refuses-or : (a b : Option DriveFault) → Refuses a → Refuses b → Refuses (option_or a b)
refuses-or None b h k = k
refuses-or (Some x) b h k = h

refuses-if : (b : Bool) (x : DriveFault) → IsRefusal x → Refuses (if b then Some x else None)
refuses-if true x h why e = let same : x ≡ why = cc in subst IsRefusal same h
refuses-if false x h why e = absurd (cc)

refuses-unless : (b : Bool) (x : DriveFault) → IsRefusal x → Refuses (if b then None else Some x)
refuses-unless true x h why e = absurd (cc)
refuses-unless false x h why e = let same : x ≡ why = cc in subst IsRefusal same h

refuses-first : {A : Type 0} (f : A → Option DriveFault) → ((x : A) → Refuses (f x)) → (xs : List A) → Refuses (first_fault f xs)
refuses-first f each [] = refuses-none
refuses-first f each (x ∷ xs) = refuses-or (f x) (first_fault f xs) (each x) (refuses-first f each xs)

refuses-beside : (i : Input) (o : Option ℤ) (v : ℤ) → Refuses (fault_beside i o v)
refuses-beside i None v = refuses-none
refuses-beside i (Some first) v = refuses-unless (int_eq first v) (fault.Unlike i.port first v) refl

refuses-values : (given : List (Option ℤ)) (ins : List Input) (vs : List ℤ) → Refuses (values_fault given ins vs)
refuses-values given ins vs =
    refuses-or (first_fault value_fault (zip ins vs)) (first_fault (unlike_fault given) (zip ins vs))
    (refuses-first value_fault (λ (e : Input × ℤ). refuses-unless (is_of_type e.0.of e.1) (fault.Value e.0.port) refl) (zip ins vs))
    (refuses-first (unlike_fault given) (λ (e : Input × ℤ). refuses-beside e.0 (slice_index_or given e.0.place None) e.1) (zip ins vs))

pub call_refuses : (d : DriverState) (j : ℕ) (vs : List ℤ) (ins : List Input) (why : DriveFault) →
    Some why ≡ option_or (twice_fault d.called j) (values_fault d.given ins vs) → IsRefusal why
call_refuses d j vs ins why e =
    refuses-or (twice_fault d.called j) (values_fault d.given ins vs)
    (refuses-if (slice_index_or d.called (j - 1) false) (fault.Twice j) refl) (refuses-values d.given ins vs) why
    (sym e)

pub update_refuses : (d : DriverState) (vs : List ℤ) (ins : List Input) (why : DriveFault) →
    Some why ≡ option_or (early_fault d.called) (values_fault d.given ins vs) → IsRefusal why
update_refuses d vs ins why e =
    refuses-or (early_fault d.called) (values_fault d.given ins vs)
    (refuses-unless (missing d.called == 0) (fault.Early (missing d.called)) refl)
    (refuses-values d.given ins vs) why (sym e)

pub refusal_leaves : (why : DriveFault) (plan : CallPlan) (values : List ℤ) (before after : DriverState) →
    IsRefusal why → after ≡ before → Leaves why plan values before after
refusal_leaves (fault.Stuck at) plan values before after h same = absurd (cc)
refusal_leaves _ plan values before after h same = same

refusal_stands : (w : Driven) (script : List Call) (why : DriveFault) (after : DriverState) → IsRefusal why →
    StandsFor w after script → StandsAfter w script why after
refusal_stands w script (fault.Stuck at) after h stands = absurd (cc)
refusal_stands w script _ after h stands = stands

-- ---- Scripts

pub refusal_right : (before after : DriverState) (c : Call) (out : List ℤ) (why : DriveFault) → IsRefusal why →
    after ≡ before → AnswersRight before c out after (Err why)
refusal_right before after c out why h same w script stands =
    refusal_stands w script why after h (subst (λ d. StandsFor w d script) (sym same) stands)

module _ (law : CallsGoOn) (before after : DriverState)
    (drivable : IsDrivable (program_of before) before.instance before.shape) (j : ℕ) (values old out : List ℤ)
    (call : IsCallFor before j values old) (same : length out ≡ length old) (none : call_fault before j values ≡ None) where
  call-for : IsCallFor before j values out
  call-for = record { least = call.least; most = call.most; values_each = call.values_each; out_each = same ∙ call.out_each }

  pub call_right : (cost : Cost) → IsCallOf j values out cost before after → AnswersRight before (out_with j values) out after (Ok cost)
  call_right cost made w script stands = law.made w script j values out cost before after stands drivable call-for none made

  pub call_stuck_right : (at : Stuck) → IsStuckIn (plan_of before j) values at before after →
      AnswersRight before (out_with j values) out after (Err (fault.Stuck at))
  call_stuck_right at is w script stands = law.not_stuck w script j values out at before after stands drivable call-for none is

module _ (law : UpdatesGoOn) (before after : DriverState)
    (drivable : IsDrivable (program_of before) before.instance before.shape) (values : List ℤ)
    (call : IsUpdateFor before values) (none : update_fault before values ≡ None) where
  pub update_right : (cost : Cost) → IsUpdate values cost before after → AnswersRight before (update_with values) [] after (Ok cost)
  update_right cost made w script stands = law.made w script values cost before after stands drivable call none made

  pub update_stuck_right : (at : Stuck) → IsStuckIn (plan_of_update before) values at before after →
      AnswersRight before (update_with values) [] after (Err (fault.Stuck at))
  update_stuck_right at is w script stands = law.not_stuck w script values at before after stands drivable call none is

-- ---- What a driver keeps

-- it keeps it where the program, the instance and the shape stay
pub driver_stays : (d e : DriverState) (plans : List CallPlan) (update : CallPlan) (room more : List ℤ) →
    IsDriver d plans update room → e.machine.program ≡ d.machine.program →
    e.instance ≡ d.instance → e.shape ≡ d.shape → length more ≡ length room → e.now < e.shape.hyper →
    length e.called ≡ length e.shape.functions → length e.given ≡ length (inputs_of e.shape) →
    IsDriver e plans update more
driver_stays d e plans update room more is program instance shape same cycle called given =
    let tree : program_of e ≡ program_of d = ap (λ (c : CheckedProgram). program_tree c.program) program in record {
      drivable =
          subst (λ p. IsDrivable p e.instance e.shape) (sym tree)
          (subst (λ n. IsDrivable (program_of d) n e.shape) (sym instance)
          (subst (λ s. IsDrivable (program_of d) d.instance s) (sym shape) is.drivable));
      plan_each = is.plan_each ∙ ap (λ (s : Shape). length s.functions) (sym shape);
      plans_are = λ k below. is.plans_are k below
          ∙ ap Some (ap (λ (p : ProgramTree). function_plan p d.shape (suc k)) (sym tree)
          ∙ ap (λ s. function_plan (program_of e) s (suc k)) (sym shape));
      update_is = is.update_is ∙ ap (λ (p : ProgramTree). update_plan p d.shape) (sym tree)
          ∙ ap (λ s. update_plan (program_of e) s) (sym shape);
      room = same ∙ is.room ∙ ap (λ (s : Shape). suc (length (inputs_of s))) (sym shape);
      in_cycle = cycle;
      called_each = called;
      given_each = given;
    }

-- a function takes no more than all inputs
filter-short : (p : Input → Bool) (ins : List Input) → length (filter p ins) ≤ length ins
filter-short p [] = omega arith
filter-short p (i ∷ ins) = by (p i) (filter-short p ins)
  where
    by : (b : Bool) → length (filter p ins) ≤ length ins → length (cond b (i ∷ filter p ins) (filter p ins)) ≤ length (i ∷ ins)
    by true h = omega (arith, h)
    by false h = omega (arith, h)

pub taken_short : (f : Function) (ins : List Input) → length (inputs_taken f ins) ≤ length ins
taken_short f ins = filter-short (λ i. has_bit f.inputs (bit_of i.port)) ins
