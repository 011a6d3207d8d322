-- The program of a machine that was read from right bytes is the code that they are.
use Rattle.std.specs.Prelude.{◌≡◌, ℕ, List, refl}
use Rattle.std.proofs.Common.{sym, subst}
use Rattle.diagram_meaning.specs.ResolvedTable.{ResolvedTable, diagram_of_table}
use Rattle.c_syntax.specs.Plain.{program_tree}
use Rattle.c_syntax.specs.Lawful.{IsLawful}
use Rattle.c_rules.specs.Reading.{CText}
use Rattle.c_checked.specs.Checked.{CheckedProgram}
use Rattle.c_reading_laws.specs.Agreement.{ReadingsAgree}
use Rattle.c_interpreter.specs.Machines.{IsStarted}
use Rattle.c_interpreter.specs.States.{MachineState, tree_of}
use Rattle.emit_shape.specs.ProgramShape.{HasShape}
use Rattle.tool_driver.specs.Drivable.{IsDrivable}
use Rattle.tool_driver.specs.Driven.{shape_of}
use Rattle.right_driving.specs.Found.{InstancesAreFound, IsInstanceOf}
use Rattle.right_driving.specs.DrivenSystems.{RightCodeIsDrivable}
use Rattle.right_driving.specs.DrivenMachines.{IsOfRightBytes, driven_in, MachinesCanBeDriven}

module _ (m : MachineState) (bytes : List ℕ) (r : ResolvedTable) (of_right : IsOfRightBytes m bytes r) where
  reading : CText bytes (tree_of m)
  reading = subst (λ (c : CheckedProgram). CText bytes (program_tree c.program)) (sym of_right.started.same) of_right.read

  program-is : tree_of m ≡ of_right.right.program
  program-is = of_right.right.only (tree_of m) reading

  shape-there : HasShape (tree_of m) (diagram_of_table r) r.times.delays r.times.hyper
  shape-there = subst (λ p. HasShape p (diagram_of_table r) r.times.delays r.times.hyper) (sym program-is) of_right.right.code.shape

  started : IsStarted m.program m
  started = record { same = refl; after = of_right.started.after; run = of_right.started.run; cells = of_right.started.cells }

pub machines_can_be_driven : ReadingsAgree → InstancesAreFound → RightCodeIsDrivable → MachinesCanBeDriven
machines_can_be_driven readings found drivable = record {
  top = λ m bytes r child of_right answer.
      found.top (tree_of m) (diagram_of_table r) r.times.delays r.times.hyper child
      (readings.lawful bytes (tree_of m) (reading m bytes r of_right)) (shape-there m bytes r of_right) answer;
  inside = λ m bytes r e number child of_right below subsystem at answer.
      found.inside (tree_of m) (diagram_of_table r) r.times.delays r.times.hyper e number child
      (readings.lawful bytes (tree_of m) (reading m bytes r of_right)) (shape-there m bytes r of_right) of_right.formed.nested
      below subsystem at answer;
  behind = λ m bytes r s of_right has.
      found.behind (tree_of m) (diagram_of_table r) r.times.delays r.times.hyper s
      (readings.lawful bytes (tree_of m) (reading m bytes r of_right)) (shape-there m bytes r of_right) of_right.formed.nested has;
  drivable = λ m bytes r s needs number of_right of_model at.
      let same = program-is m bytes r of_right in
      let w = driven_in of_right of_model in
      subst (λ p. IsDrivable p number (shape_of w)) (sym same)
      (drivable w r number (record { formed = of_right.formed; resolved = of_right.resolved; diagram = refl; hyper = refl })
      (subst IsLawful same (readings.lawful bytes (tree_of m) (reading m bytes r of_right)))
      (subst (λ p. IsInstanceOf p r.table.rows s number) same at));
  ready = λ m bytes r s needs number of_right of_model at. record {
    started = started m bytes r of_right;
    program = program-is m bytes r of_right;
    shape_is = refl;
    instance_is = subst (λ p. IsInstanceOf p r.table.rows s number) (program-is m bytes r of_right) at;
  };
}
