-- One call of a driver, as a list of one answer.
use Rattle.std.proofs.Common.{◌≡◌, refl, sym, ◌∙◌, subst, ℕ, zero, suc, ◌<◌, ◌≤◌, Bool, true, false, List, [], ◌∷◌, length, map, arith}
use Rattle.std.specs.Prelude.{ℤ, pos, cond, filter, slice_index_or, Result, Ok, Err, IfOk, IfErr, MatchResult}
use Rattle.c_syntax.specs.declared.fault.Cost.{Cost}
use Rattle.right_claim.specs.Scripts.{out_with, update_with}
use Rattle.tool_runner.specs.declared.outcome.Totals.{Totals}
use Rattle.tool_runner.specs.Runs.{added}
use Rattle.modules_profile.specs.declared.profile.Function.{Function}
use Rattle.base_core.specs.Ports.{has_bit, bit_of}
use Rattle.tool_driver.specs.declared.inputs.Input.{Input}
use Rattle.tool_driver.specs.declared.fault.DriveFault.{DriveFault}
use Rattle.tool_driver.specs.Shapes.{Shape, inputs_of, inputs_taken}
use Rattle.tool_driver.specs.States.{DriverState, plan_of, plan_of_update}
use Rattle.tool_driver.specs.Judging.{refusal_of, call_fault, update_fault}
use Rattle.tool_driver.specs.Calling.{IsCallOf, IsUpdate, Leaves}
use Rattle.tool_driver.specs.Driven.{updates, AnswersRight}
use Rattle.tool_script_runner.specs.Answers.{Answered, IsAnswer, IsRefused}
use Rattle.tool_script_runner.specs.Standings.{AreCounted}
use Rattle.tool_script_runner.specs.Walks.{IsTold, HasTold, IsUpdated, HasUpdated, AreCounts}
use Rattle.tool_script_runner.proofs.Answering.{added-one}

-- one answer, counted
one_counted : (a : Answered) (d d' : DriverState) (t t' : Totals) (ticks : ℕ) → IsAnswer a d d' → ticks ≡ updates (a.call ∷ []) →
    t' ≡ added t (record { ticks = ticks; steps = a.cost.steps; calls = a.cost.calls }) → AreCounted (a ∷ []) d d' t t'
one_counted a d d' t t' ticks answer is totals = record { answered = (d', answer, refl); totals = totals ∙ added-one t a ticks is }

-- ---- A call of a function

-- what a driver says of a call of function j
pub record SaysOut (result : Result Cost DriveFault) (j : ℕ) (values out : List ℤ) (d d' : DriverState) : Type 0 where
  pub refused : refusal_of result ≡ call_fault d j values
  pub made : IfOk result (λ cost. IsCallOf j values out cost d d')
  pub left : IfErr result (λ why. Leaves why (plan_of d j) values d d')
  pub stands : AnswersRight d (out_with j values) out d' result

pub out_told : (result : Result Cost DriveFault) (j : ℕ) (values numbers out : List ℤ) (d d' : DriverState) → numbers ≡ pos j ∷ out →
    SaysOut result j values out d d' →
    MatchResult result (λ cost. IsTold j values numbers cost d d') (λ why. IsRefused why (out_with j values) d d')
out_told (Ok cost) j values numbers out d d' front says = record {
  outputs = out;
  told = front;
  answer = record { made = record { allowed = sym says.refused; made = says.made }; right = says.stands };
}
out_told (Err why) j values numbers out d d' front says = record {
  refused = record { cause = says.refused; leaves = says.left };
  right = says.stands;
}

-- its numbers, counted
pub told_counted : (j : ℕ) (values numbers : List ℤ) (cost : Cost) (d d' : DriverState) (t t' : Totals) →
    IsTold j values numbers cost d d' →
    t' ≡ added t (record { ticks = 0; steps = cost.steps; calls = cost.calls }) → HasTold j values numbers d d' t t'
told_counted j values numbers cost d d' t t' told totals =
    let a : Answered = record { call = out_with j values; outputs = told.outputs; cost = cost } in
    record { answer = a; of_call = refl; told = told.told; counted = one_counted a d d' t t' 0 told.answer refl totals }

-- ---- An update

pub record SaysUpdate (result : Result Cost DriveFault) (values : List ℤ) (d d' : DriverState) : Type 0 where
  pub refused : refusal_of result ≡ update_fault d values
  pub made : IfOk result (λ cost. IsUpdate values cost d d')
  pub left : IfErr result (λ why. Leaves why (plan_of_update d) values d d')
  pub stands : AnswersRight d (update_with values) [] d' result

pub update_told : (result : Result Cost DriveFault) (values : List ℤ) (d d' : DriverState) → SaysUpdate result values d d' →
    MatchResult result (λ cost. IsUpdated values cost d d') (λ why. IsRefused why (update_with values) d d')
update_told (Ok cost) values d d' says = record {
  made = record { allowed = sym says.refused; nothing = refl; made = says.made };
  right = says.stands;
}
update_told (Err why) values d d' says = record { refused = record { cause = says.refused; leaves = says.left }; right = says.stands }

pub update_counted : (values : List ℤ) (cost : Cost) (d d' : DriverState) (t t' : Totals) → IsUpdated values cost d d' →
    t' ≡ added t (record { ticks = 1; steps = cost.steps; calls = cost.calls }) → HasUpdated values d d' t t'
update_counted values cost d d' t t' updated totals =
    let a : Answered = record { call = update_with values; outputs = []; cost = cost } in
    record { cost = cost; counted = one_counted a d d' t t' 1 updated refl totals }

-- ---- The inputs of a function

-- none of the counts is above that of all inputs
kept-short : (p : Input → Bool) (ins : List Input) → length (filter p ins) ≤ length ins
kept-short p [] = omega arith
kept-short p (i ∷ ins) = by (p i) (kept-short p ins)
  where
    by : (b : Bool) → length (filter p ins) ≤ length ins → length (cond b (i ∷ filter p ins) (filter p ins)) ≤ suc (length ins)
    by true less = omega arith
    by false less = omega arith

count_within : (ins : List Input) (fs : List Function) (k d : ℕ) → k < length (map (λ f. length (inputs_taken f ins)) fs) →
    slice_index_or (map (λ f. length (inputs_taken f ins)) fs) k d ≤ length ins
count_within ins [] k d less = absurd (omega arith)
count_within ins (f ∷ fs) zero d less = kept-short (λ i. has_bit f.inputs (bit_of i.port)) ins
count_within ins (f ∷ fs) (suc k) d less = count_within ins fs k d (omega arith)

pub counts_within : (counts : List ℕ) (shape : Shape) (values : List ℤ) → AreCounts counts shape →
    length values ≡ length (inputs_of shape) →
    (k d : ℕ) → k < length counts → slice_index_or counts k d ≤ length values
counts_within counts shape values are room = λ k d less.
    subst (λ n. slice_index_or counts k d ≤ n) (sym room)
    (subst (λ (cs : List ℕ). slice_index_or cs k d ≤ length (inputs_of shape)) (sym are.are)
    (count_within (inputs_of shape) shape.functions k d (subst (λ (cs : List ℕ). k < length cs) are.are less)))
