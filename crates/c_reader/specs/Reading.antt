-- What a text of C is read as.
use Rattle.std.specs.Prelude.{ℕ, List, ⊤}
use Rattle.c_syntax.specs.Plain.{program_tree}
use Rattle.c_rules.specs.Reading.{CText, CFaultOf}
use Rattle.c_grammar.specs.declared.fault.ReadCFault.{ReadCFault}
use Rattle.c_grammar.specs.declared.fault.ReadCFault.TheVariants.{Refused, Memory}
use Rattle.c_checked.specs.Checked.{CheckedProgram}

-- the bytes are no text of a program, and this is their first error; of memory that runs out nothing is
-- said
abbrev pub IsReadFault : List ℕ → ReadCFault → Type 0
IsReadFault bytes (Refused fault) = CFaultOf bytes fault
IsReadFault bytes Memory = ⊤

-- the bytes are a text of this program
abbrev pub IsRead : List ℕ → CheckedProgram → Type 0
IsRead bytes c = CText bytes (program_tree c.program)
