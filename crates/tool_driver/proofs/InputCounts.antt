-- How many inputs and outputs the calls of a driver have.
use Rattle.std.proofs.Common.{◌≡◌, refl, ◌∙◌, ap, ℕ, zero, suc, ◌+◌, ◌<◌, ◌≤◌, Bool, true, false, List, [], ◌∷◌, length, map, Some, arith}
use Rattle.std.specs.Prelude.{ℤ, cond, filter, slice_get, slice_index_or}
use Rattle.std.specs.List.{enumerate_from}
use Rattle.std.proofs.lemmas.List.{length-append}
use Rattle.base_core.specs.declared.Port.{Port}
use Rattle.base_core.specs.declared.Port.TheVariants.{Number, Enable, Trigger}
use Rattle.base_fixed_point.specs.declared.FixType.{FixType}
use Rattle.modules_profile.specs.declared.profile.Function.{Function}
use Rattle.modules_profile.specs.Headers.{idle_function}
use Rattle.base_core.specs.Ports.{has_bit, AreControls}
use Rattle.tool_driver.specs.declared.inputs.Input.{Input}
use Rattle.tool_driver.specs.Shapes.{Shape, CallPlan, numbered_input, control_input, numbered_inputs, control_inputs, inputs_of, inputs_taken, outputs_given}
use Rattle.tool_driver.specs.Drivable.{IsShape}
use Rattle.tool_driver.specs.States.{DriverState, IsDriver, plan_of}
use Rattle.tool_driver.proofs.Answering.{taken_short}

-- at each place of some plans the inputs are those that the function there takes
abbrev pub TakeInputs : List Function → List Input → List CallPlan → Type 0
TakeInputs fs ins plans = (k : ℕ) → k < length plans →
    (q : CallPlan) × (slice_get plans k ≡ Some q) × (q.inputs ≡ inputs_taken (slice_index_or fs k idle_function) ins)

pub counts-same : (ins : List Input) (fs : List Function) (plans : List CallPlan) → length plans ≡ length fs → TakeInputs fs ins plans →
    map (λ (q : CallPlan). length q.inputs) plans ≡ map (λ f. length (inputs_taken f ins)) fs
counts-same ins [] [] size take = refl
counts-same ins [] (q ∷ plans) size take = absurd (omega arith)
counts-same ins (f ∷ fs) [] size take = absurd (omega arith)
counts-same ins (f ∷ fs) (q ∷ plans) size take =
    let first = take 0 (omega arith) in
    let same : q ≡ first.0 = let there = first.1 in cc in
    let here : length q.inputs ≡ length (inputs_taken f ins) = ap (λ (p : CallPlan). length p.inputs) same ∙ ap length first.2 in
    let rest = counts-same ins fs plans (omega arith) (λ k less. take (suc k) (omega arith)) in
    λ i. here i ∷ rest i

-- the outputs that a function gives are some of all
kept-short : {A : Type 0} (p : A → Bool) (xs : List A) → length (filter p xs) ≤ length xs
kept-short p [] = omega arith
kept-short {A} p (x ∷ xs) = by (p x) (kept-short p xs)
  where
    by : (b : Bool) → length (filter p xs) ≤ length xs → length (cond b (x ∷ filter p xs) (filter p xs)) ≤ suc (length xs)
    by true less = omega arith
    by false less = omega arith

numbered-length : {A : Type 0} (n : ℕ) (xs : List A) → length (enumerate_from n xs) ≡ length xs
numbered-length n [] = refl
numbered-length n (x ∷ xs) = ap suc (numbered-length (n + 1) xs)

mapped-length : {A B : Type 0} (f : A → B) (xs : List A) → length (map f xs) ≡ length xs
mapped-length f [] = refl
mapped-length f (x ∷ xs) = ap suc (mapped-length f xs)

pub given_short : (f : Function) (names : List (List ℕ)) → length (outputs_given f names) ≤ length names
given_short f names =
    omega (
      arith,
      mapped-length (λ (e : ℕ × List ℕ). e.1) (filter (λ (e : ℕ × List ℕ). has_bit f.outputs e.0) (enumerate_from 0 names)),
      kept-short (λ (e : ℕ × List ℕ). has_bit f.outputs e.0) (enumerate_from 0 names),
      numbered-length 0 names,
    )

-- ---- A driver's plans

-- a driver has at most 34 inputs
few_controls : (ports : List Port) → AreControls ports → length ports ≤ 2
few_controls [] are = omega arith
few_controls (Number k ∷ ports) are = absurd are
few_controls (Enable ∷ []) are = omega arith
few_controls (Enable ∷ Number k ∷ ports) are = absurd are
few_controls (Enable ∷ Enable ∷ ports) are = absurd are
few_controls (Enable ∷ Trigger ∷ []) are = omega arith
few_controls (Enable ∷ Trigger ∷ p ∷ ports) are = absurd are
few_controls (Trigger ∷ []) are = omega arith
few_controls (Trigger ∷ p ∷ ports) are = absurd are

few_inputs : (s : Shape) → IsShape s → length (inputs_of s) ≤ 34
few_inputs s is =
    let controls = few_controls (map (λ (c : Port × FixType). c.0) s.controls) is.controls in
    omega (
      arith,
      is.inputs,
      controls,
      mapped-length (λ (c : Port × FixType). c.0) s.controls,
      length-append (numbered_inputs s.inputs) (control_inputs (length s.inputs) s.controls),
      mapped-length numbered_input (enumerate_from 0 s.inputs),
      numbered-length 0 s.inputs,
      mapped-length control_input (enumerate_from (length s.inputs) s.controls),
      numbered-length (length s.inputs) s.controls,
    )

pub plans_take : (d : DriverState) (plans : List CallPlan) (update : CallPlan) (room : List ℤ) →
    IsDriver d plans update room → TakeInputs d.shape.functions (inputs_of d.shape) plans
plans_take d plans update room is = λ k less. (plan_of d (suc k), is.plans_are k less, refl)

pub get-there : (plans : List CallPlan) (k : ℕ) (q other : CallPlan) → slice_get plans k ≡ Some q → slice_index_or plans k other ≡ q
get-there [] k q other there = cc
get-there (p ∷ plans) zero q other there = cc
get-there (p ∷ plans) (suc k) q other there = get-there plans k q other there

pub few_taken : (d : DriverState) (plans : List CallPlan) (update : CallPlan) (room : List ℤ) → IsDriver d plans update room →
    (k : ℕ) (other : CallPlan) → k < length plans → length (slice_index_or plans k other).inputs < 4294967296
few_taken d plans update room is = λ k other less.
    let there = plans_take d plans update room is k less in
    let same = get-there plans k there.0 other there.1 in
    omega (
      arith,
      ap (λ (q : CallPlan). length q.inputs) same,
      ap length there.2,
      taken_short (slice_index_or d.shape.functions k idle_function) (inputs_of d.shape),
      few_inputs d.shape is.drivable.shape,
    )
