-- What a call from outside leaves, and what a machine keeps.
use Rattle.std.specs.Prelude.{◌≡◌, ◌<◌, ◌^◌, ℕ, ℤ, Bool, List, length, Result, Ok, Err, unwrap_or, codes}
use Rattle.c_syntax.specs.declared.fault.Cost.{Cost}
use Rattle.c_syntax.specs.declared.fault.Stuck.{Stuck}
use Rattle.c_semantics.specs.Cells.{Cells}
use Rattle.c_syntax.specs.Plain.{program_tree}
use Rattle.c_syntax.specs.Tree.{ProgramTree}
use Rattle.c_syntax.specs.RootFields.{root_struct, root_fields, output_fields, procedure_named}
use Rattle.c_checked.specs.Checked.{CheckedProgram}
use Rattle.c_interpreter.specs.declared.roots.Tables.{Tables}
use Rattle.c_interpreter.specs.Numbering.{AreNumbered, instances_of}
use Rattle.c_interpreter.specs.Seen.{Seen, ran, halted}
use Rattle.c_interpreter.specs.Slots.{StructLayout, layout_at}
use Rattle.c_interpreter.specs.Sound.{IsReady, IsProcedureOf}
use Rattle.c_interpreter.specs.States.{filled}

-- what a call from outside left of an instance with these zeros, and what it took
abbrev pub root_ended : Cells → Result Cost Stuck → List ℤ → Seen
root_ended zeros (Ok cost) numbers = ran (filled zeros numbers) cost.steps cost.calls
root_ended zeros (Err at) numbers = halted at (filled zeros numbers)

-- the tables of a lawful program
pub record AreTables (p : ProgramTree) (layouts : List StructLayout) (logged : List Bool)
    (root start step : ℕ) (outputs : List ℕ) : Type 0 where
  pub ready : IsReady p layouts logged
  pub root_is : root ≡ root_struct p
  pub start_is : start ≡ unwrap_or (procedure_named p (codes "root_start")) 0
  pub start_there : IsProcedureOf p start root
  pub step_is : step ≡ unwrap_or (procedure_named p (codes "root_step")) 0
  pub step_there : IsProcedureOf p step root
  pub outputs_are : outputs ≡ output_fields (root_fields p)

-- how many instances the structs of a program hold, where the root's struct is the one at this
-- position
pub record AreCounts (p : ProgramTree) (counts : List ℕ) (root : ℕ) : Type 0 where
  pub numbered : AreNumbered p.structs counts (instances_of p)
  pub root_known : root < length p.structs

-- a program's tables, where the numbers of its root can be counted
pub record HasTables (c : CheckedProgram) (t : Tables) : Type 0 where
  pub tables : AreTables (program_tree c.program) t.layouts.items t.logged.items t.root t.start
      t.step t.outputs.items
  pub counts : AreCounts (program_tree c.program) t.counts.items t.root
  pub sized : (layout_at t.layouts.items t.root).size < 2 ^ 64

-- what a machine keeps: a program's tables, as many numbers as its root has, and as many outputs as
-- it gives
pub record IsMachine (c : CheckedProgram) (t : Tables) (numbers : List ℤ) : Type 0 where
  pub tables : AreTables (program_tree c.program) t.layouts.items t.logged.items t.root t.start
      t.step t.outputs.items
  pub counts : AreCounts (program_tree c.program) t.counts.items t.root
  pub outputs_count : c.outputs ≡ length t.outputs.items
  pub room : length numbers ≡ (layout_at t.layouts.items t.root).size
