-- How many words come before one.
use Rattle.std.proofs.Common.{◌≡◌, ℕ, suc, ◌+◌, Bool, true, false, not, cond, List, [], ◌∷◌, ◌++◌, length, map, refl, sym, ap, ◌∙◌, arith}
use Rattle.std.specs.Prelude.{bytes_eq}
use Rattle.std.specs.List.{AllByRecursion, prefix_len}
use Rattle.std.proofs.lemmas.Slice.Eq.{bytes_eq-Decides}
use Rattle.modules_report.proofs.LineWords.{same-first, same-others}

module _ {X : Type 0} (text : X → List ℕ) (word : List ℕ) where
  abbrev is-other : X → Bool
  is-other x = not (bytes_eq (text x) word)

  one : (x : X) (xs : List X) (t : Bool) → bytes_eq (text x) word ≡ t →
      prefix_len is-other (x ∷ xs) ≡ cond (not t) (1 + prefix_len is-other xs) 0
  one x xs t is = ap (λ (u : Bool). cond (not u) (1 + prefix_len is-other xs) 0) is

  other : (x : X) (xs : List X) (n : ℕ) → (text x ≡ word → ⊥) → prefix_len is-other xs ≡ n → prefix_len is-other (x ∷ xs) ≡ suc n
  other x xs n not_word e = by (bytes_eq (text x) word) refl
    where
      by : (t : Bool) → bytes_eq (text x) word ≡ t → prefix_len is-other (x ∷ xs) ≡ suc n
      by true is = absurd (not_word ((bytes_eq-Decides (text x) word).0 is))
      by false is = one x xs false is ∙ omega (arith, e)

  none : (before after : List (List ℕ)) → [] ≡ before ++ word ∷ after → ⊥
  none [] after e = let long : 0 ≡ suc (length after) = ap length e in omega (arith, long)
  none (b ∷ before) after e = let long : 0 ≡ suc (length (before ++ word ∷ after)) = ap length e in omega (arith, long)

  pub place_told : (xs : List X) (before after : List (List ℕ)) → AllByRecursion (λ w. w ≡ word → ⊥) before →
      map text xs ≡ before ++ word ∷ after → prefix_len is-other xs ≡ length before
  place_told [] before after a e = absurd (none before after e)
  place_told (x ∷ xs) [] after a e = one x xs true ((bytes_eq-Decides (text x) word).1 (same-first (text x) word (map text xs) after e))
  place_told (x ∷ xs) (b ∷ before) after a e =
      other x xs (length before) (λ is. a.0 (sym (same-first (text x) b (map text xs) (before ++ word ∷ after) e) ∙ is))
      (place_told xs before after a.1 (same-others (text x) b (map text xs) (before ++ word ∷ after) e))
