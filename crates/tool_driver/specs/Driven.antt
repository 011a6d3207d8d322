-- What a driver of a system of right code stands for: a script of the calls that it answered.
use Rattle.std.specs.Prelude.{◌≡◌, ℕ, suc, ◌%◌, ◌==◌, Bool, true, false, List, [], ◌∷◌, ◌++◌, length, map, find, ⊤, slice_index_or, Contains, Result, Ok, Err, Option, Some, option_map, ℤ}
use Rattle.std.specs.List.{AllByRecursion, list_any, range_with_len}
use Rattle.base_core.specs.declared.Port.{Port}
use Rattle.base_core.specs.declared.Port.TheVariants.{Number, Enable, Trigger}
use Rattle.diagram_meaning.specs.Rows.{inports_of, outports_of, system_control}
use Rattle.diagram_meaning.specs.Diagram.{Diagram}
use Rattle.base_core.specs.Ports.{control_ports}
use Rattle.diagram_meaning.specs.Needs.{needs_of, HasNoLoop, AreTrueNeeds}
use Rattle.diagram_meaning.specs.Run.{value_at}
use Rattle.diagram_meaning.specs.Laws.{Run, IsRunOver, HasOneRun}
use Rattle.diagram_meaning.specs.Traces.{IsTrace, input_type_of}
use Rattle.modules_profile.specs.declared.Function.{Function}
use Rattle.modules_profile.specs.Systems.{systems, system_name}
use Rattle.modules_profile.specs.Functions.{functions_for}
use Rattle.modules_profile.specs.Headers.{numbered_function, given_by_function}
use Rattle.c_syntax.specs.declared.fault.Cost.{Cost}
use Rattle.c_syntax.specs.Tree.{ProgramTree}
use Rattle.c_semantics.specs.Cells.{Cells}
use Rattle.c_semantics.specs.Machine.{Outcome, cost_of}
use Rattle.c_semantics.specs.Rows.{start_run}
use Rattle.c_interpreter.specs.Instances.{instance_at}
use Rattle.c_interpreter.specs.Machines.{IsStarted}
use Rattle.c_interpreter.specs.States.{MachineState, tree_of, fields_of}
use Rattle.emit_shape.specs.Names.{value_name, out_name, update_name}
use Rattle.emit_shape.specs.Programs.{struct_place}
use Rattle.right_relation.specs.Instances.{OnDone}
use Rattle.right_claim.specs.Paths.{path_to}
use Rattle.right_claim.specs.Scripts.{Call, out_with, update_with, Given, TickSoFar, nothing_yet, IsLawfulScript, Fits}
use Rattle.right_claim.specs.DriveLaws.{tick_behind}
use Rattle.right_claim.specs.Driving.{call_in_tick, DrivenFrom}
use Rattle.right_claim.specs.Right.{IsCodeFor}
use Rattle.tool_driver.specs.declared.inputs.Input.{Input}
use Rattle.tool_driver.specs.declared.fault.DriveFault.{DriveFault}
use Rattle.tool_driver.specs.declared.fault.DriveFault.TheVariants as fault
use Rattle.tool_driver.specs.Shapes.{Shape, inputs_of}
use Rattle.tool_driver.specs.States.{DriverState, program_of}

-- a system of a diagram without a loop, and code for the diagram
pub record Driven : Type 0 where
  pub program : ProgramTree
  pub diagram : Diagram
  pub delays : List Bool
  pub hyper : ℕ
  pub system : Option ℕ
  pub needs : List ℕ
  pub code : IsCodeFor program diagram delays hyper
  pub in_diagram : Contains (systems diagram.rows) system
  pub are_needs : AreTrueNeeds diagram system needs
  pub no_loop : HasNoLoop (needs_of diagram)

-- its functions
abbrev pub functions_of : Driven → List Function
functions_of w = functions_for w.needs

-- its shape
abbrev pub shape_of : Driven → Shape
shape_of w = record {
  name = system_name w.system;
  functions = functions_of w;
  inputs =
      map (λ k. input_type_of w.diagram w.system (Number k))
      (range_with_len 1 (length (inports_of w.diagram.rows w.system)));
  controls =
      map (λ p. (p, input_type_of w.diagram w.system p))
      (control_ports (system_control w.diagram.rows w.system));
  outputs = map value_name (outports_of w.diagram.rows w.system);
  hyper = w.hyper;
}

-- ---- Scripts

-- how many updates a script has
abbrev pub updates : List Call → ℕ
updates [] = 0
updates (out_with j values ∷ cs) = updates cs
updates (update_with values ∷ cs) = suc (updates cs)

-- the path of the system's instance from the root
abbrev pub path_of : Driven → List ℕ
path_of w = path_to w.program w.diagram.rows w.system

-- what a call does in tick t, from these fields
abbrev pub call_at : Driven → ℕ → Call → Cells → Outcome
call_at w t (out_with j values) cells =
    call_in_tick w.program w.hyper (path_of w) t (out_name w.system j) values cells
call_at w t (update_with values) cells =
    call_in_tick w.program w.hyper (path_of w) t (update_name w.system) values cells

-- from these fields the calls of a script, from tick t on, are not stuck and leave those
abbrev pub LeavesFields : Driven → ℕ → Cells → List Call → Cells → Type 0
LeavesFields w t cells [] end = end ≡ cells
LeavesFields w t cells (out_with j values ∷ cs) end =
    OnDone (call_in_tick w.program w.hyper (path_of w) t (out_name w.system j) values cells)
    (λ a. LeavesFields w t a.cells cs end)
LeavesFields w t cells (update_with values ∷ cs) end =
    OnDone (call_in_tick w.program w.hyper (path_of w) t (update_name w.system) values cells)
    (λ a. LeavesFields w (suc t) a.cells cs end)

-- ---- The present tick

abbrev pub same_port : Port → Port → Bool
same_port (Number k) (Number n) = k == n
same_port (Number k) Enable = false
same_port (Number k) Trigger = false
same_port Enable (Number n) = false
same_port Enable Enable = true
same_port Enable Trigger = false
same_port Trigger (Number n) = false
same_port Trigger Enable = false
same_port Trigger Trigger = true

-- the value that an input was given, if it was
abbrev pub value_given : List Given → Port → Option ℤ
value_given given p = option_map (λ g. g.value) (find (λ (g : Given). same_port g.input p) given)

-- of each function whether it was called, and for each input the value that it was given
abbrev pub functions_called : ℕ → List ℕ → List Bool
functions_called count called = map (λ j. list_any (λ i. i == j) called) (range_with_len 1 count)

abbrev pub values_given : List Input → List Given → List (Option ℤ)
values_given inputs given = map (λ i. value_given given i.port) inputs

-- a driver has done in its tick what a script did after its last update, where each input has one
-- value
pub record HasDone (d : DriverState) (tick : TickSoFar) : Type 0 where
  pub called : d.called ≡ functions_called (length d.shape.functions) tick.called
  pub given : d.given ≡ values_given (inputs_of d.shape) tick.given
  pub one_each : AllByRecursion (λ g. value_given tick.given g.input ≡ Some g.value) tick.given

-- ---- The whole

-- A driver of the system's instance that made the calls of a lawful script, from `root_start` on.
pub record StandsFor (w : Driven) (d : DriverState) (script : List Call) : Type 0 where
  pub program : program_of d ≡ w.program
  pub shape : d.shape ≡ shape_of w
  pub instance : instance_at w.program d.instance
      ≡ Some (record {
        path = path_of w;
        struct = struct_place w.program w.system;
      })
  pub lawful : IsLawfulScript w.diagram w.system (functions_of w) script
  pub fields : OnDone (start_run w.program)
      (λ started. LeavesFields w 0 started.cells script (fields_of d.machine))
  pub now : d.now ≡ updates script % w.hyper
  pub tick : HasDone d (tick_behind w.diagram w.system (functions_of w) nothing_yet script)

-- what a driver is made of, where it is to stand for the empty script: a machine as `root_start`
-- left it
pub record IsReadyFor (w : Driven) (machine : MachineState) (instance : ℕ)
    (shape : Shape) : Type 0 where
  pub started : IsStarted machine.program machine
  pub program : tree_of machine ≡ w.program
  pub shape_is : shape ≡ shape_of w
  pub instance_is : instance_at w.program instance
      ≡ Some (record {
        path = path_of w;
        struct = struct_place w.program w.system;
      })

-- ---- Answers

-- a run of the system over a trace that fits a script
pub record RunsOver (w : Driven) (script : List Call) (xs : List (List ℤ))
    (run : Run) : Type 0 where
  pub is_trace : IsTrace w.diagram w.system xs
  pub fits : Fits w.diagram w.system (functions_of w) xs script
  pub is_run : IsRunOver w.diagram w.system xs run

-- some trace fits a script, and over it there is one run
pub record HasRun (w : Driven) (script : List Call) : Type 0 where
  pub trace : List (List ℤ)
  pub one : HasOneRun w.diagram w.system trace
  pub over : RunsOver w script trace one.run

-- the outputs of function j in tick t of a run
abbrev pub outputs_in : Driven → Run → ℕ → ℕ → List ℤ
outputs_in w run t j =
    map (value_at (slice_index_or run.values t []))
    (given_by_function (numbered_function (functions_of w) j)
    (outports_of w.diagram.rows w.system))

-- Over a run of the system, the calls of a script are answered from `root_start` on: none is stuck,
-- after each `out` the outputs of all functions called in the tick have the run's values in their
-- fields, and in each completed tick the systems inside have their calls, and each field inside
-- holds what the run has.
abbrev pub IsDrivenOver : Driven → List Call → List (List ℤ) → Run → Type 0
IsDrivenOver w script xs run =
    OnDone (start_run w.program)
    (λ started. DrivenFrom w.program w.diagram w.hyper (path_of w) w.system
    (functions_of w) xs run 0 started.cells [] [] [] script)

-- what a call reported is what the system gives over every trace that fits a script; an update reports
-- nothing
abbrev pub Tells : Driven → List Call → Call → List ℤ → Type 0
Tells w script (out_with j values) out =
    (xs : List (List ℤ)) (run : Run) → RunsOver w (script ++ out_with j values ∷ []) xs run →
    out ≡ outputs_in w run (updates script) j
Tells w script (update_with values) out = ⊤

-- a call after a script took this, from the fields that the calls of the script leave
pub record TakesBehind (w : Driven) (script : List Call) (c : Call) (cost : Cost) : Type 0 where
  pub cells : Cells
  pub leaves : OnDone (start_run w.program) (λ started. LeavesFields w 0 started.cells script cells)
  pub takes : OnDone (call_at w (updates script) c cells) (λ left. cost ≡ cost_of left)

-- a call went on a script: the driver stands for it with the call, what it reported and took is right,
-- and the calls so far are answered over each run
pub record GoesOn (w : Driven) (script : List Call) (c : Call) (out : List ℤ) (cost : Cost)
    (after : DriverState) : Type 0 where
  pub stands : StandsFor w after (script ++ c ∷ [])
  pub tells : Tells w script c out
  pub takes : TakesBehind w script c cost
  pub driven : (xs : List (List ℤ)) (run : Run) → RunsOver w (script ++ c ∷ []) xs run →
      IsDrivenOver w (script ++ c ∷ []) xs run
  pub runs : HasRun w (script ++ c ∷ [])

-- after a refusal the driver stands for the same scripts, and where it stands for one it is never
-- stuck
abbrev pub StandsAfter : Driven → List Call → DriveFault → DriverState → Type 0
StandsAfter w script (fault.Stuck at) after = ⊥
StandsAfter w script _ after = StandsFor w after script

abbrev pub AnswersFor : Driven → List Call → Call → List ℤ → DriverState → Result Cost DriveFault →
    Type 0
AnswersFor w script c out after (Ok cost) = GoesOn w script c out cost after
AnswersFor w script c out after (Err why) = StandsAfter w script why after

-- whatever scripts a driver stood for, it answers a call right
abbrev pub AnswersRight : DriverState → Call → List ℤ → DriverState → Result Cost DriveFault →
    Type 0
AnswersRight before c out after result =
    (w : Driven) (script : List Call) → StandsFor w before script →
    AnswersFor w script c out after result
