-- What a step of reading answers.
use Rattle.std.specs.Prelude.{ℕ, Result, Ok, Err, ⊤}
use Rattle.base_refusals.specs.declared.refusal.SyntaxKind.{SyntaxKind}
use Rattle.mdl_reader.specs.declared.fault.ReadFault.{ReadFault}
use Rattle.mdl_reader.specs.declared.fault.ReadFault.TheVariants.{Syntax, Memory}

-- this holds of the value, or that of the error's line and kind; nothing is said where memory runs out
abbrev pub Answers : {X : Type 0} → Result X ReadFault → (X → Type 0) → (ℕ → SyntaxKind → Type 0) →
    Type 0
Answers (Ok value) OfValue OfFault = OfValue value
Answers (Err (Syntax line kind)) OfValue OfFault = OfFault line kind
Answers (Err Memory) OfValue OfFault = ⊤
