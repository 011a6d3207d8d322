-- What the calls of a machine do.
use Rattle.std.specs.Prelude.{◌≡◌, ℕ, List, ℤ, true, ⊤, Some, slice_get}
use Rattle.std.specs.List.{AllZip}
use Rattle.base_fixed_point.specs.Conversion.{InType}
use Rattle.c_syntax.specs.declared.fault.Cost.{Cost}
use Rattle.c_syntax.specs.declared.fault.Stuck.{Stuck}
use Rattle.c_semantics.specs.Cells.{Cells}
use Rattle.c_semantics.specs.Machine.{After, done, stuck, cost_of, call_from_outside}
use Rattle.c_syntax.specs.Plain.{program_tree}
use Rattle.c_semantics.specs.Rows.{start_run, step_run, tick_row}
use Rattle.c_syntax.specs.Tree.{ParamTree, ProcedureTree}
use Rattle.c_semantics.specs.Values.{is_in_type}
use Rattle.c_checked.specs.Checked.{CheckedProgram}
use Rattle.c_interpreter.specs.Instances.{StructInstance, instance_at}
use Rattle.c_interpreter.specs.States.{MachineState, tree_of, fields_of}
use Rattle.c_interpreter.specs.declared.machine.NewFault.{NewFault}
use Rattle.c_interpreter.specs.declared.machine.NewFault.TheVariants as fault

-- a machine of the program after its `root_start`
pub record IsStarted (program : CheckedProgram) (m : MachineState) : Type 0 where
  pub same : m.program ≡ program
  pub after : After
  pub run : start_run (tree_of m) ≡ done after
  pub cells : fields_of m ≡ after.cells

-- `root_start` is stuck there; of memory that runs out nothing is said
abbrev pub IsStartFault : CheckedProgram → NewFault → Type 0
IsStartFault program (fault.Stuck at) =
    (cells : Cells) × (start_run (program_tree program.program) ≡ stuck at cells)
IsStartFault program fault.Memory = ⊤

-- numbers for the inputs, each in its type
abbrev pub IsRow : MachineState → List ℤ → Type 0
IsRow m row = AllZip InType m.program.inputs row

-- a tick on a row, which gives these outputs and takes this
pub record IsTick (before after : MachineState) (row outputs : List ℤ) (cost : Cost) : Type 0 where
  pub left : After
  pub run : step_run (tree_of before) row (fields_of before) ≡ done left
  pub cells : fields_of after ≡ left.cells
  pub outputs_are : outputs ≡ (tick_row (tree_of before) left).outputs
  pub cost_is : cost ≡ cost_of left

-- a tick on a row is stuck there
abbrev pub IsStuckTick : (before after : MachineState) → List ℤ → Stuck → Type 0
IsStuckTick before after row at =
    step_run (tree_of before) row (fields_of before) ≡ stuck at (fields_of after)

-- there is such an instance, the procedure is one of its struct, and the numbers are arguments of
-- it, each in its parameter's type
pub record IsCallable (m : MachineState) (procedure instance : ℕ) (values : List ℤ) : Type 0 where
  pub instance_is : StructInstance
  pub instance_there : instance_at (tree_of m) instance ≡ Some instance_is
  pub procedure_is : ProcedureTree
  pub procedure_there : slice_get (tree_of m).procedures procedure ≡ Some procedure_is
  pub of_is : procedure_is.of ≡ instance_is.struct
  pub fit : AllZip (λ (q : ParamTree) v. is_in_type q.type v ≡ true) procedure_is.params values

-- a call from outside on an instance, which takes this
pub record IsCall (before after : MachineState) (procedure instance : ℕ) (values : List ℤ)
    (cost : Cost) : Type 0 where
  pub instance_is : StructInstance
  pub there : instance_at (tree_of before) instance ≡ Some instance_is
  pub left : After
  pub run : call_from_outside (tree_of before) procedure instance_is.path values (fields_of before)
      ≡ done left
  pub cells : fields_of after ≡ left.cells
  pub cost_is : cost ≡ cost_of left

-- a call from outside on an instance is stuck there
pub record IsStuckCall (before after : MachineState) (procedure instance : ℕ) (values : List ℤ)
    (at : Stuck) : Type 0 where
  pub instance_is : StructInstance
  pub there : instance_at (tree_of before) instance ≡ Some instance_is
  pub run : call_from_outside (tree_of before) procedure instance_is.path values (fields_of before)
      ≡ stuck at (fields_of after)
