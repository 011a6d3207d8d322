-- A program with the tables that the machine made for it.
use Rattle.std.specs.Prelude.{Bool, List}
use Rattle.c_syntax.specs.declared.program.Program.{Program}
use Rattle.c_syntax.specs.Plain.{program_tree}
use Rattle.c_syntax.specs.Tree.{ProgramTree}
use Rattle.c_interpreter.specs.Slots.{StructLayout}
use Rattle.c_interpreter.specs.Sound.{IsReady}

-- the program, the places of the fields of its structs, and which procedures' calls are counted
pub record ReadyCode : Type 0 where
  pub program : Program
  pub layouts : List StructLayout
  pub logged : List Bool

-- the plain tree of the program
abbrev pub code_tree : ReadyCode → ProgramTree
code_tree c = program_tree c.program

-- the machine can run it
abbrev pub IsReadyCode : ReadyCode → Type 0
IsReadyCode c = IsReady (code_tree c) c.layouts c.logged
