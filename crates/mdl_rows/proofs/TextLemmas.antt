-- What rows say, one by one.
use Rattle.std.proofs.Common.{◌≡◌, refl, sym, ◌∙◌, ap, ℕ, zero, suc, ◌+◌, ◌<◌, true, List, [], ◌∷◌, ◌++◌, length, drop, slice_index_or, Option, None, Some, map, arith}
use Rattle.std.specs.Prelude.{is_some, option_to_list, MatchOption}
use Rattle.std.specs.List.{AllZip}
use Rattle.base_refusals.specs.Refusals.{PlainRefusal}
use Rattle.mdl_blocks.specs.declared.row.RowText.{RowText}
use Rattle.base_refusals.specs.Order.{first_of}
use Rattle.mdl_rows.proofs.FirstLemmas.{none-left, none-right}
use Rattle.mdl_rows.proofs.PassLemmas.{zip-at}

some-text : {A B : Type 0} (R : B → RowText → Type 0) (show : A → B) (xs : List A) (i : ℕ) (d : A)
    (olds news : List RowText) (text : Option RowText)
    (found : Option PlainRefusal) (front : List B) → i < length xs →
    MatchOption text (is_some found ≡ true) (R (show (slice_index_or xs i d))) → news ≡ olds ++ option_to_list text → found ≡ None →
    ((rest : List RowText) → AllZip R (map show (drop i xs)) rest → AllZip R front (olds ++ rest)) →
    (rest : List RowText) → AllZip R (map show (drop (i + 1) xs)) rest → AllZip R front (news ++ rest)
some-text R show xs i d olds news None found front h is pushed none all = absurd (some-none found is none)
  where
    some-none : (o : Option PlainRefusal) → is_some o ≡ true → o ≡ None → ⊥
    some-none None is none = cc
    some-none (Some r) is none = cc
some-text R show xs i d olds news (Some t) found front h is pushed none all = zip-at R show xs i d olds news t front h is pushed all

-- one row more says what it says, where none is refused
pub texts-step : {A B : Type 0} (R : B → RowText → Type 0) (show : A → B) (xs : List A) (i : ℕ) (d : A)
    (olds news : List RowText) (text : Option RowText)
    (before now found : Option PlainRefusal) (front : List B) → i < length xs →
    MatchOption text (is_some found ≡ true) (R (show (slice_index_or xs i d))) → news ≡ olds ++ option_to_list text →
    now ≡ first_of before found →
    (before ≡ None → (rest : List RowText) → AllZip R (map show (drop i xs)) rest → AllZip R front (olds ++ rest)) →
    now ≡ None → (rest : List RowText) → AllZip R (map show (drop (i + 1) xs)) rest → AllZip R front (news ++ rest)
texts-step R show xs i d olds news text before now found front h is pushed e all none =
    some-text R show xs i d olds news text found front h is pushed (none-right before found (sym e ∙ none))
    (all (none-left before found (sym e ∙ none)))

-- what is paired with the item at a place
pub paired-at : {A B C : Type 0} (R : B → C → Type 0) (show : A → B) (xs : List A) (ys : List C) (i : ℕ) (d : A)
    (e : C) → AllZip R (map show xs) ys →
    i < length xs → (i < length ys) × R (show (slice_index_or xs i d)) (slice_index_or ys i e)
paired-at R show [] ys i d e all h = absurd (omega arith)
paired-at R show (x ∷ xs) [] i d e all h = absurd all
paired-at R show (x ∷ xs) (y ∷ ys) zero d e all h = (omega arith, all.0)
paired-at R show (x ∷ xs) (y ∷ ys) (suc i) d e all h =
    let rest = paired-at R show xs ys i d e all.1 (omega arith) in
    let below = rest.0 in (omega (arith, below), rest.1)

-- there are as many
pub paired-long : {A B C : Type 0} (R : B → C → Type 0) (show : A → B) (xs : List A) (ys : List C) →
    AllZip R (map show xs) ys → length ys ≡ length xs
paired-long R show [] [] all = refl
paired-long R show [] (y ∷ ys) all = absurd all
paired-long R show (x ∷ xs) [] all = absurd all
paired-long R show (x ∷ xs) (y ∷ ys) all = ap suc (paired-long R show xs ys all.1)
