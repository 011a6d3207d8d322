-- What a part of the reading answers: what the rules give, or that memory ran out.
use Rattle.std.specs.Prelude.{◌≡◌, Result, Ok, Err, ⊤}
use Rattle.c_syntax.specs.declared.fault.CFault.{CFault}
use Rattle.c_grammar.specs.declared.fault.ReadCFault.{ReadCFault}
use Rattle.c_grammar.specs.declared.fault.ReadCFault.TheVariants.{Refused, Memory}

-- this is the error, unless memory ran out
abbrev pub Fails : {B : Type 0} → ReadCFault → Result B CFault → Type 0
Fails (Refused fault) ruled = ruled ≡ Err fault
Fails Memory ruled = ⊤

-- an answer is this one, seen so, unless memory ran out
abbrev pub Gives : {A B : Type 0} → (A → B) → Result A ReadCFault → Result B CFault → Type 0
Gives view (Ok x) ruled = ruled ≡ Ok (view x)
Gives view (Err fault) ruled = Fails fault ruled
