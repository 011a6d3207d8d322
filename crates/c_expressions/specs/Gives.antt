-- What a part of the reading answers: what the grammar gives, or that memory ran out.
use Rattle.std.specs.Prelude.{◌≡◌, List, ◌++◌, Option, Some, None, Result, Ok, Err, ⊤}
use Rattle.c_syntax.specs.declared.fault.CFault.{CFault}
use Rattle.c_grammar.specs.Tokens.{Token}
use Rattle.c_grammar.specs.Parsing.{Parsed, Step, one_more, the_end}
use Rattle.c_grammar.specs.declared.fault.ReadCFault.{ReadCFault}
use Rattle.c_grammar.specs.declared.fault.ReadCFault.TheVariants.{Refused, Memory}

-- a token that is passed
abbrev pub passed : Result (List Token) CFault → Parsed (Unit {0})
passed (Ok rest) = Ok (tt, rest)
passed (Err fault) = Err fault

-- something that is read, seen as something else
abbrev pub read_as : {A B : Type 0} → (A → B) → Result (A × List Token) CFault → Parsed B
read_as view (Ok read) = Ok (view read.0, read.1)
read_as view (Err fault) = Err fault

-- an answer is this one, seen so, unless memory ran out
abbrev pub Gives : {A B : Type 0} → (A → B) → Result (A × List Token) ReadCFault → Parsed B → Type 0
Gives view (Ok read) parsed = parsed ≡ Ok (view read.0, read.1)
Gives view (Err (Refused fault)) parsed = parsed ≡ Err fault
Gives view (Err Memory) parsed = ⊤

-- one more element of a list or its end, unless memory ran out
abbrev pub GivesMore : {A B : Type 0} → (A → B) → Result (Option A × List Token) ReadCFault →
    Result (Step B) CFault → Type 0
GivesMore view (Ok (Some x, rest)) step = step ≡ Ok (one_more (view x) rest)
GivesMore view (Ok (None, rest)) step = step ≡ Ok (the_end rest)
GivesMore view (Err (Refused fault)) step = step ≡ Err fault
GivesMore view (Err Memory) step = ⊤

-- elements that are read after others
abbrev pub behind : {A : Type 0} → List A → Parsed (List A) → Parsed (List A)
behind xs (Ok read) = Ok (xs ++ read.0, read.1)
behind xs (Err fault) = Err fault
