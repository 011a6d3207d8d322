-- The calls that a driver answered, one after another.
use Rattle.std.specs.Prelude.{◌≡◌, ℕ, List, [], ◌∷◌, map, ℤ, None, Ok}
use Rattle.c_syntax.specs.declared.fault.Cost.{Cost}
use Rattle.right_claim.specs.Scripts.{Call, out_with, update_with}
use Rattle.tool_driver.specs.declared.fault.DriveFault.{DriveFault}
use Rattle.tool_driver.specs.States.{DriverState, plan_of, plan_of_update}
use Rattle.tool_driver.specs.Judging.{call_fault, update_fault, fault_unless_stuck}
use Rattle.tool_driver.specs.Calling.{IsCallOf, IsUpdate, Leaves}
use Rattle.tool_driver.specs.Driven.{Driven, StandsFor, StandsAfter, AnswersRight}

-- a call that was answered: what it reported, which is nothing for an update, and what it took
pub record Answered : Type 0 where
  pub call : Call
  pub outputs : List ℤ
  pub cost : Cost

-- the calls that were answered
abbrev pub calls_in : List Answered → List Call
calls_in answers = map (λ a. a.call) answers

-- ---- One call

-- a call of function j isn't refused, and was made
pub record OutMade (j : ℕ) (values outputs : List ℤ) (cost : Cost)
    (d d' : DriverState) : Type 0 where
  pub allowed : call_fault d j values ≡ None
  pub made : IsCallOf j values outputs cost d d'

-- the same of an update, which reports nothing
pub record UpdateMade (values outputs : List ℤ) (cost : Cost) (d d' : DriverState) : Type 0 where
  pub allowed : update_fault d values ≡ None
  pub nothing : outputs ≡ []
  pub made : IsUpdate values cost d d'

abbrev pub IsMade : Call → (outputs : List ℤ) → Cost → DriverState → DriverState → Type 0
IsMade (out_with j values) outputs cost d d' = OutMade j values outputs cost d d'
IsMade (update_with values) outputs cost d d' = UpdateMade values outputs cost d d'

-- the driver answered a call, and right so for each script that it stood for
pub record IsAnswer (a : Answered) (d d' : DriverState) : Type 0 where
  pub made : IsMade a.call a.outputs a.cost d d'
  pub right : AnswersRight d a.call a.outputs d' (Ok a.cost)

-- a call of function j is refused for this, or the machine is stuck in it
pub record OutRefused (j : ℕ) (values : List ℤ) (why : DriveFault)
    (d d' : DriverState) : Type 0 where
  pub cause : fault_unless_stuck why ≡ call_fault d j values
  pub leaves : Leaves why (plan_of d j) values d d'

-- the same of an update
pub record UpdateRefused (values : List ℤ) (why : DriveFault) (d d' : DriverState) : Type 0 where
  pub cause : fault_unless_stuck why ≡ update_fault d values
  pub leaves : Leaves why (plan_of_update d) values d d'

abbrev pub IsRefusedFor : DriveFault → Call → DriverState → DriverState → Type 0
IsRefusedFor why (out_with j values) d d' = OutRefused j values why d d'
IsRefusedFor why (update_with values) d d' = UpdateRefused values why d d'

-- the driver refused a call, and stands for what it stood for
pub record IsRefused (why : DriveFault) (call : Call) (d d' : DriverState) : Type 0 where
  pub refused : IsRefusedFor why call d d'
  pub right : (w : Driven) (script : List Call) → StandsFor w d script → StandsAfter w script why d'

-- ---- Calls one after another

-- the driver answered these calls
abbrev pub Answers : List Answered → DriverState → DriverState → Type 0
Answers [] d d' = d' ≡ d
Answers (a ∷ answers) d d' = (next : DriverState) × IsAnswer a d next × Answers answers next d'

-- it refused the first of these calls
pub record RefusesFirst (why : DriveFault) (calls : List Call) (d d' : DriverState) : Type 0 where
  pub call : Call
  pub behind : List Call
  pub parts : calls ≡ call ∷ behind
  pub refused : IsRefused why call d d'
