-- Machines of right bytes, of whose systems drivers can be made.
use Rattle.std.specs.Prelude.{◌≡◌, ℕ, ◌<◌, true, List, length, Contains, Option, Some, None}
use Rattle.diagram_meaning.specs.Rows.{row_at}
use Rattle.diagram_blocks.specs.Kinds.{is_subsystem}
use Rattle.diagram_meaning.specs.Needs.{needs_of, HasNoLoop, AreTrueNeeds}
use Rattle.diagram_meaning.specs.ResolvedTable.{ResolvedTable, IsResolvedTable, diagram_of_table}
use Rattle.diagram_meaning.specs.WellFormed.{IsWellFormed}
use Rattle.modules_profile.specs.Systems.{systems, system_name}
use Rattle.c_syntax.specs.Plain.{program_tree}
use Rattle.c_rules.specs.Reading.{CText}
use Rattle.c_checked.specs.Checked.{CheckedProgram}
use Rattle.c_interpreter.specs.Machines.{IsStarted}
use Rattle.c_interpreter.specs.States.{MachineState, tree_of}
use Rattle.c_interpreter.specs.Instances.{instance_at}
use Rattle.emit_shape.specs.Names.{child_name}
use Rattle.right_claim.specs.Right.{IsRightFor}
use Rattle.tool_driver.specs.Drivable.{IsDrivable}
use Rattle.tool_driver.specs.Driven.{Driven, shape_of, IsReadyFor}
use Rattle.right_driving.specs.Found.{system_instance, IsInstanceOf, IsChildAnswer, IsFound, way_to, instance_behind}

-- a machine as it was made of a program that was read from bytes, which are right for a model
-- without a loop that is within the limits
pub record IsOfRightBytes (m : MachineState) (bytes : List ℕ) (r : ResolvedTable) : Type 0 where
  pub program : CheckedProgram
  pub read : CText bytes (program_tree program.program)
  pub started : IsStarted program m
  pub right : IsRightFor bytes r
  pub formed : IsWellFormed r.table
  pub resolved : IsResolvedTable r
  pub no_loop : HasNoLoop (needs_of (diagram_of_table r))

-- a system of the model, by what its outputs need
pub record IsSystemOf (r : ResolvedTable) (s : Option ℕ) (needs : List ℕ) : Type 0 where
  pub in_model : Contains (systems r.table.rows) s
  pub are_needs : AreTrueNeeds (diagram_of_table r) s needs

-- what a driver of the system stands for
abbrev pub driven_in : {m : MachineState} {bytes : List ℕ} {r : ResolvedTable} {s : Option ℕ}
    {needs : List ℕ} →
    IsOfRightBytes m bytes r → IsSystemOf r s needs → Driven
driven_in {m} {bytes} {r} {s} {needs} of_right of_model = record {
  program = of_right.right.program;
  diagram = diagram_of_table r;
  delays = r.times.delays;
  hyper = r.times.hyper;
  system = s;
  needs = needs;
  code = of_right.right.code;
  in_diagram = of_model.in_model;
  are_needs = of_model.are_needs;
  no_loop = of_right.no_loop;
}

-- Such a machine finds the instance of each system, from its instance 0 on; of this a driver can be
-- made, which stands for the empty script.
pub record MachinesCanBeDriven : Type 0 where
  pub top : (m : MachineState) (bytes : List ℕ) (r : ResolvedTable) (child : Option ℕ) →
      IsOfRightBytes m bytes r →
      IsChildAnswer (tree_of m) 0 (system_name None) child →
      IsFound (tree_of m) r.table.rows None child
  pub inside : (m : MachineState) (bytes : List ℕ) (r : ResolvedTable) (e number : ℕ)
      (child : Option ℕ) →
      IsOfRightBytes m bytes r →
      e < length r.table.rows → is_subsystem (row_at r.table.rows e).kind ≡ true →
      IsInstanceOf (tree_of m) r.table.rows (row_at r.table.rows e).owner number →
      IsChildAnswer (tree_of m) number (child_name e) child →
      IsFound (tree_of m) r.table.rows (Some e) child
  pub behind : (m : MachineState) (bytes : List ℕ) (r : ResolvedTable) (s : Option ℕ) →
      IsOfRightBytes m bytes r →
      Contains (systems r.table.rows) s →
      instance_behind (tree_of m) (instance_at (tree_of m) 0) (way_to r.table.rows s)
      ≡ Some (system_instance (tree_of m) r.table.rows s)
  pub drivable : (m : MachineState) (bytes : List ℕ) (r : ResolvedTable) (s : Option ℕ)
      (needs : List ℕ) (number : ℕ) →
      (of_right : IsOfRightBytes m bytes r) (of_model : IsSystemOf r s needs) →
      IsInstanceOf (tree_of m) r.table.rows s number →
      IsDrivable (tree_of m) number (shape_of (driven_in of_right of_model))
  pub ready : (m : MachineState) (bytes : List ℕ) (r : ResolvedTable) (s : Option ℕ)
      (needs : List ℕ) (number : ℕ) →
      (of_right : IsOfRightBytes m bytes r) (of_model : IsSystemOf r s needs) →
      IsInstanceOf (tree_of m) r.table.rows s number →
      IsReadyFor (driven_in of_right of_model) m number (shape_of (driven_in of_right of_model))
