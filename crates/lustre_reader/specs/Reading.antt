-- Why a text of Lustre is not read.
use Rattle.std.specs.Prelude.{ℕ, List, ⊤}
use Rattle.c_grammar.specs.declared.fault.ReadCFault.{ReadCFault}
use Rattle.c_grammar.specs.declared.fault.ReadCFault.TheVariants.{Refused, Memory}
use Rattle.lustre_rules.specs.Reading.{LustreFaultOf}

-- the bytes are no text of a file, and this is their first error; of running out of memory nothing is said
abbrev pub IsReadFault : List ℕ → ReadCFault → Type 0
IsReadFault bytes (Refused fault) = LustreFaultOf bytes fault
IsReadFault bytes Memory = ⊤
