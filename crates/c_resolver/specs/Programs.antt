-- The definitions of a program, in turn.
use Rattle.std.specs.Prelude.{ℕ, Result, Ok}
use Rattle.c_syntax.specs.declared.fault.CFault.{CFault}
use Rattle.c_syntax.specs.declared.fault.CKind.TheVariants.{Name}
use Rattle.c_syntax.specs.Tree.{ProgramTree}
use Rattle.base_core.specs.Results.{◌>>=◌, ◌>>◌}
use Rattle.c_grammar.specs.Written.{WrittenProgram}
use Rattle.c_rules.specs.Resolve.{Known, on_line, unless_fault, has_root, resolve_pures, resolve_structs, resolve_procedures}

-- the program of what is known
abbrev pub program_with : Known → ProgramTree
program_with known =
    record { pures = known.pures; structs = known.structs; procedures = known.procedures }

-- the program that definitions after what is known stand for, where the root's are among them;
-- `last` is the text's last line
abbrev pub program_behind : ℕ → Known → WrittenProgram → Result ProgramTree CFault
program_behind last known p = do
  with_pures ← resolve_pures known p.pures
  with_structs ← resolve_structs with_pures p.structs
  all ← resolve_procedures with_structs p.procedures
  on_line last (unless_fault (has_root all) Name)
  Ok (program_with all)
