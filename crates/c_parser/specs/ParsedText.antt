-- The written program of a text, or its first error of the grammar.
use Rattle.std.specs.Prelude.{◌≡◌, ℕ, List, Result, Ok, Err, ⊤}
use Rattle.c_grammar.specs.ParsedText.{parse_text}
use Rattle.c_grammar.specs.declared.fault.ReadCFault.{ReadCFault}
use Rattle.c_grammar.specs.declared.fault.ReadCFault.TheVariants.{Refused, Memory}
use Rattle.c_grammar.specs.declared.written.WrittenProgram.{WrittenProgram as Program}
use Rattle.c_grammar.specs.WrittenTrees.{program_of}

-- an answer is that of the text, unless memory ran out
abbrev pub GivesText : List ℕ → Result Program ReadCFault → Type 0
GivesText bytes (Ok program) = parse_text bytes ≡ Ok (program_of program)
GivesText bytes (Err (Refused fault)) = parse_text bytes ≡ Err fault
GivesText bytes (Err Memory) = ⊤
