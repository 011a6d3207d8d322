-- Lists of what each row has, one row after another.
use Rattle.std.proofs.Common.{◌≡◌, ℕ, ◌+◌, ◌-◌, ◌<◌, List, [], ◌∷◌, ◌++◌, length, get_or, sym, ap, subst, arith, inl, inr, ◌∙◌, length-append}
use Rattle.std.proofs.lemmas.Bool.{cases_lt}
use Rattle.std.proofs.lemmas.List.{get_or_append_left, get_or-append_right}

-- one more item has what the next row asks for
pub each-more : {A : Type 0} (P : ℕ → A → Type 0) (none : A) (n : ℕ) (items later : List A) (item : A) →
    length items ≡ n → P n item → later ≡ items ++ item ∷ [] →
    ((b : ℕ) → b < n → P b (get_or items b none)) → (b : ℕ) → b < n + 1 → P b (get_or later b none)
each-more P none n items later item len is e each b below = subst (λ xs. P b (get_or xs b none)) (sym e) (elim (cases_lt b n) [
  | inl before ↦ subst (P b) (sym (get_or_append_left items (item ∷ []) none b (omega arith))) (each b before)
  | inr last ↦
      let same : n ≡ b = omega arith in
      subst (λ k. P k (get_or (items ++ item ∷ []) k none)) same
      (subst (P n)
      (sym (get_or-append_right items (item ∷ []) n n none len (omega arith)
      ∙ ap (λ k. get_or (item ∷ []) k none) (let z : n - n ≡ 0 = omega arith in z))) is)
])

pub len-more : {A : Type 0} (n : ℕ) (items later : List A) (item : A) → length items ≡ n → later ≡ items ++ item ∷ [] → length later ≡ n + 1
len-more n items later item len e = ap length e ∙ length-append items (item ∷ []) ∙ omega arith
