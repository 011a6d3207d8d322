-- What the reading of a whole file answers.
use Rattle.std.specs.Prelude.{◌≡◌, Result, Ok, Err, ⊤}
use Rattle.c_syntax.specs.declared.fault.CFault.{CFault}
use Rattle.c_grammar.specs.Written.{WrittenProgram}
use Rattle.c_grammar.specs.declared.fault.ReadCFault.{ReadCFault}
use Rattle.c_grammar.specs.declared.fault.ReadCFault.TheVariants.{Refused, Memory}
use Rattle.c_grammar.specs.declared.written.WrittenProgram.{WrittenProgram as Program}
use Rattle.c_grammar.specs.WrittenTrees.{program_of}

-- an answer is this program or this error, unless memory ran out
abbrev pub GivesProgram : Result Program ReadCFault → Result WrittenProgram CFault → Type 0
GivesProgram (Ok program) parsed = parsed ≡ Ok (program_of program)
GivesProgram (Err (Refused fault)) parsed = parsed ≡ Err fault
GivesProgram (Err Memory) parsed = ⊤
