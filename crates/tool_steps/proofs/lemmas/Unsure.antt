-- Where a call ended with an error of reading, its host was not sure of a file that it reads.
use Rattle.std.proofs.Common.{◌≡◌, ℕ, inr, List, sym, subst}
use Rattle.std.specs.Prelude.{Bool, false, Option, Some, IsSomeAnd}
use Rattle.base_host.specs.Files.{File}
use Rattle.tool_endings.specs.declared.ending.Ending.{Ending}
use Rattle.tool_endings.specs.declared.ending.Ending.TheVariants.{ReadFault}
use Rattle.tool_words.specs.Words.{Asked}
use Rattle.tool_endings.specs.Completeness.{IfReadFault, IsUnsureOf, BecomesUnsureOf, second_file}

-- what follows from an error of reading
pub if_fault : (e : Ending) {P Q : Type 0} → (P → Q) → IfReadFault e P → IfReadFault e Q
if_fault ReadFault f h = f h
if_fault _ f h = tt

-- an error of reading the second file, as the host became with its files
pub unsure_second : {H : Type 0} (files : H → Option (List File)) (sure : H → List ℕ → Bool) (h later : H) (e : Ending)
    (a : Asked) (name : List ℕ) → second_file a ≡ Some name → files later ≡ files h →
    IfReadFault e (sure later name ≡ false) → IfReadFault e (IsUnsureOf files sure h a)
unsure_second files sure h later e a name second same fault =
    if_fault e {P = sure later name ≡ false} {Q = IsUnsureOf files sure h a} (λ unsure.
    inr (subst (λ (o : Option (List ℕ)). IsSomeAnd o (BecomesUnsureOf files sure h)) (sym second)
    (record { later = later; same = same; unsure = unsure }))) fault
