-- Blocks that are read one by one.
use Rattle.std.proofs.Common.{◌≡◌, sym, ◌∙◌, ap, subst, ℕ, ◌+◌, ◌<◌, List, [], ◌∷◌, ◌++◌, length, drop, slice_index_or, append_assoc, Option, None, Ok, Err}
use Rattle.std.specs.Prelude.{Result}
use Rattle.std.specs.List.{AllZip}
use Rattle.base_refusals.specs.Refusals.{PlainRefusal}
use Rattle.base_refusals.specs.FirstRefusal.{earlier_of}
use Rattle.base_refusals.proofs.lemmas.FirstRefusals.{earlier-none, none-later}
use Rattle.mdl_params.specs.Defaults.{DefaultTexts}
use Rattle.mdl_blocks.specs.declared.fault.Fault.{Fault}
use Rattle.mdl_blocks.specs.declared.fault.Fault.TheVariants.{Unsupported, Parameter, Continuous, FloatType}
use Rattle.mdl_blocks.specs.Blocks.{BlockText}
use Rattle.mdl_systems.specs.declared.outline.Outline as held
use Rattle.mdl_systems.specs.declared.placed.PlacedBlock.{PlacedBlock}
use Rattle.mdl_systems.specs.Refusals.{unread_at, misformed_at, unread, misformed}
use Rattle.mdl_systems.specs.Reading.{IsRead}
use Rattle.mdl_systems.specs.Held.{seen, all_seen}
use Rattle.mdl_systems.proofs.PassLemmas.{items-from}

-- a block that is read is reported by none
pub none-read : (line : ℕ) (found : ℕ → Result BlockText Fault → Option PlainRefusal) (b : BlockText)
    (r : Result BlockText Fault) (before : Option PlainRefusal) →
    r ≡ Ok b → found line (Ok b) ≡ None → before ≡ earlier_of before (found line r)
none-read line found b r before e none =
    sym (ap (λ x. earlier_of before (found line x)) e ∙ ap (earlier_of before) none ∙ earlier-none before)

-- an error is reported
pub some-told : (line : ℕ) (fault : Fault) (unread misformed : Option PlainRefusal) →
    earlier_of unread (unread_at line (Err fault)) ≡ None →
    earlier_of misformed (misformed_at line (Err fault)) ≡ None → ⊥
some-told line Unsupported unread misformed u m =
    let none : unread_at line (Err Unsupported) ≡ None = none-later unread _ u in let wrong : ⊥ = cc none in wrong
some-told line (Parameter parameter) unread misformed u m = let none : misformed_at line (Err (Parameter parameter))
    ≡ None = none-later misformed _ m in let wrong : ⊥ = cc none in wrong
some-told line Continuous unread misformed u m =
    let none : misformed_at line (Err Continuous) ≡ None = none-later misformed _ m in let wrong : ⊥ = cc none in wrong
some-told line FloatType unread misformed u m =
    let none : misformed_at line (Err FloatType) ≡ None = none-later misformed _ m in let wrong : ⊥ = cc none in wrong

-- one block more is read
pub read-more : (defaults : DefaultTexts) (outlines : List held.Outline) (i : ℕ) (o : held.Outline)
    (olds news : List PlacedBlock) (placed : PlacedBlock) →
    i < length outlines → o ≡ slice_index_or outlines i o → IsRead defaults (seen o) placed → news ≡ olds ++ placed ∷ [] →
    ((rest : List PlacedBlock) → AllZip (IsRead defaults) (all_seen (drop i outlines)) rest →
    AllZip (IsRead defaults) (all_seen outlines) (olds ++ rest)) →
    (rest : List PlacedBlock) → AllZip (IsRead defaults) (all_seen (drop (i + 1) outlines)) rest →
    AllZip (IsRead defaults) (all_seen outlines) (news ++ rest)
read-more defaults outlines i o olds news placed h e is pushed all rest zip =
    let front = items-from seen outlines i o h ∙ ap (λ x. seen x ∷ all_seen (drop (i + 1) outlines)) (sym e) in
    subst (λ xs. AllZip (IsRead defaults) (all_seen outlines) xs)
    (sym (ap (λ xs. xs ++ rest) pushed ∙ append_assoc olds (placed ∷ []) rest))
    (all (placed ∷ rest) (subst (λ xs. AllZip (IsRead defaults) xs (placed ∷ rest)) (sym front) (is, zip)))
