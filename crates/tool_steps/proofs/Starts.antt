-- A machine after its start, by what its making says.
use Rattle.std.specs.Prelude.{List, ℕ}
use Rattle.std.proofs.Common.{sym, subst}
use Rattle.c_syntax.specs.Plain.{program_tree}
use Rattle.c_rules.specs.Reading.{CText}
use Rattle.c_checked.specs.Checked.{CheckedProgram, IsChecked}
use Rattle.c_reader.specs.Reading.{IsRead}
use Rattle.c_interpreter.specs.States.{MachineState}
use Rattle.c_interpreter.specs.Machines.{IsStarted}
use Rattle.tool_endings.specs.Runs.{HasStepTypes}
use Rattle.tool_endings.specs.Acting.{StartsFrom}

step-types_of : (checked : CheckedProgram) → IsChecked checked → HasStepTypes (program_tree checked.program) checked.inputs
step-types_of checked right = record {
  place = right.lawful.root.step;
  step = right.lawful.root.step_procedure;
  there = right.lawful.root.step_there;
  named = right.lawful.root.step_name;
  inputs = right.inputs;
}

pub starts : (bytes : List ℕ) (checked : CheckedProgram) (m : MachineState) → IsChecked checked → IsRead bytes checked →
    IsStarted checked m → StartsFrom bytes m
starts bytes checked m right read started = record {
  reading = subst (λ (c : CheckedProgram). CText bytes (program_tree c.program)) (sym started.same) read;
  started = (started.after, started.run, started.cells);
  inputs = subst (λ (c : CheckedProgram). HasStepTypes (program_tree c.program) c.inputs) (sym started.same) (step-types_of checked right);
}
