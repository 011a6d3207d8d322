-- All pairs of places: which there are.
use Rattle.std.proofs.Common.{◌≡◌, ◌↔◌, ℕ, zero, suc, ◌+◌, ◌-◌, ◌<◌, ◌==◌, IsTrue, List, [], ◌∷◌, ◌++◌, length, length-append, get_or, take, drop, map, refl, sym, ap, ap₂, ◌∙◌, arith, inl, inr}
use Rattle.std.specs.List.{Contains}
use Rattle.std.proofs.lemmas.Bool.{cases_eq, eqb-true}
use Rattle.std.proofs.lemmas.List.Elements.{Contains-append_left, Contains-append_right, Contains-append_cases}
use Rattle.std.proofs.lemmas.List.{append_cancel_left, get_or-map, length-map, map-append, map_more, take-append-drop, take-map}
use Rattle.std.proofs.Math.Seq.{take-append_seam}
use Rattle.std.proofs.lemmas.List.FromFn.{length-map-range_with_len, get_or-map-range_with_len, map-range_with_len_more}
use Rattle.modules_certificate.specs.declared.certificate.Difference.{Difference}
use Rattle.modules_certificate.specs.Sound.{pairs_with, pairs_from, pairs_below, positions}

-- each two places are a pair
pub has-pair : (n first i j : ℕ) → first < i + 1 → i < j → j < first + n → Contains (pairs_from first n) (i, j)
has-pair zero first i j low before high = absurd (omega arith)
has-pair (suc n) first i j low before high = elim (cases_eq i first) [
  | inl here ↦
      let own : Contains (pairs_with first n) (i, j) = (
        j - (first + 1),
        (let e : length (pairs_with first n) ≡ n = length-map-range_with_len (λ (second : ℕ). (first, second))
            (first + 1) n in omega arith),
        get_or-map-range_with_len (λ (second : ℕ). (first, second)) (first + 1) n (j - (first + 1)) j (i, j) (omega arith)
            (omega arith) ∙ ap (λ (k : ℕ). (k, j)) (sym here),
      ) in
      Contains-append_left (pairs_with first n) (pairs_from (first + 1) n) (i, j) own
  | inr later ↦ Contains-append_right (pairs_with first n) (pairs_from (first + 1) n) (i, j) (has-pair n (first + 1) i j
      (omega arith) before (omega arith))
]

-- each pair is of two of the places, the lesser one first
pub pair-below : (n first i j : ℕ) → Contains (pairs_from first n) (i, j) → (i < j) × (j < first + n)
pair-below zero first i j (k, within, is) = absurd (omega arith)
pair-below (suc n) first i j has = elim (Contains-append_cases (pairs_with first n) (pairs_from (first + 1) n) (i, j) has) [
  | inl (k, within, is) ↦
      let low : k < n = let e : length (pairs_with first n) ≡ n = length-map-range_with_len (λ (second : ℕ). (first, second))
      (first + 1) n in omega arith in
      let at : ◌≡◌ {A = ℕ × ℕ} (first, first + 1 + k) (i, j) =
      sym (get_or-map-range_with_len (λ (second : ℕ). (first, second)) (first + 1) n k
      (first + 1 + k) (i, j) low refl) ∙ is in
      let left : first ≡ i = ap (λ (pair : ℕ × ℕ). pair.0) at in
      let right : first + 1 + k ≡ j = ap (λ (pair : ℕ × ℕ). pair.1) at in
      (omega arith, omega arith)
  | inr more ↦ let r = pair-below n (first + 1) i j more in (r.0, (let h = r.1 in omega arith))
]

-- ---- Differences that stand for the pairs of one place

pub pairs-more : (differ : List Difference) (first k : ℕ) (d : Difference) → k < length differ →
    map positions (take k differ) ≡ pairs_with first k →
    (get_or differ k d).first ≡ first → (get_or differ k d).second ≡ first + 1 + k →
    map positions (take (k + 1) differ) ≡ pairs_with first (k + 1)
pairs-more differ first k d within so_far left right =
    map_more positions differ k d within ∙ ap₂ (λ (front : List (ℕ × ℕ)) (last : ℕ × ℕ). front ++ last ∷ []) so_far (ap₂ (λ (a b : ℕ).
    (a, b)) left right)
    ∙ sym (map-range_with_len_more (λ (second : ℕ). (first, second)) (first + 1) k (first + 1 + k) refl)

pub pairs-at : (differ : List Difference) (first k : ℕ) (d : Difference) → k < length differ →
    map positions differ ≡ pairs_with first (length differ) →
    positions (get_or differ k d) ≡ (first, first + 1 + k)
pairs-at differ first k d within are =
    sym (get_or-map positions differ k d (first, first + 1 + k) within)
    ∙ ap (λ (pairs : List (ℕ × ℕ)). get_or pairs k (first, first + 1 + k)) are
    ∙ get_or-map-range_with_len (λ (second : ℕ). (first, second)) (first + 1) (length differ) k (first + 1 + k)
    (first, first + 1 + k) within refl

-- a list of differences that begins so, up to where the others begin
pub front-pairs : (differ : List Difference) (first others : ℕ) (more : List (ℕ × ℕ)) →
    map positions differ ≡ pairs_with first others ++ more →
    map positions (take others differ) ≡ pairs_with first others
front-pairs differ first others more e =
    sym (take-map positions others differ) ∙ ap (take others) e ∙ ap (λ n. take n (pairs_with first others ++ more)) (sym len)
    ∙ take-append_seam (pairs_with first others) more
  where
    len : length (pairs_with first others) ≡ others
    len = length-map-range_with_len (λ (second : ℕ). (first, second)) (first + 1) others

pub split-pairs : (differ : List Difference) (first others : ℕ) → map positions (take others differ) ≡ pairs_with first others →
    map positions differ ≡ pairs_with first others ++ map positions (drop others differ)
split-pairs differ first others e =
    ap (map positions) (sym (take-append-drop others differ)) ∙ map-append positions (take others differ) (drop others differ)
    ∙ ap (λ (front : List (ℕ × ℕ)). front ++ map positions (drop others differ)) e

pub too-few : (differ : List Difference) (first others : ℕ) (more : List (ℕ × ℕ)) → length differ < others →
    map positions differ ≡ pairs_with first others ++ more → ⊥
too-few differ first others more few e =
    let whole : length (map positions differ) ≡ length differ = length-map differ positions in
    let own : length (pairs_with first others) ≡ others = length-map-range_with_len (λ (second : ℕ). (first, second)) (first + 1) others in
    let both : length (pairs_with first others ++ more) ≡ length (pairs_with first others) + length more = length-append
    (pairs_with first others) more in
    let same : length (map positions differ) ≡ length (pairs_with first others ++ more) = ap length e in
    omega arith

-- ---- Differences that stand for all pairs from one place on

-- the differences of one place are gone, and those from the next one on remain
pub pairs-step : (rest more : List Difference) (first n others : ℕ) → n ≡ suc others →
    map positions rest ≡ pairs_with first others ++ map positions more →
    (map positions rest ≡ pairs_from first n) ↔ (map positions more ≡ pairs_from (first + 1) others)
pairs-step rest more first n others count own = (
  (λ e. append_cancel_left (pairs_with first others) (map positions more) (pairs_from (first + 1) others) (sym own ∙ e
      ∙ ap (pairs_from first) count)),
  (λ e. own ∙ ap (λ (pairs : List (ℕ × ℕ)). pairs_with first others ++ pairs) e ∙ ap (pairs_from first) (sym count)),
)

pub no-pairs : (rest : List Difference) (first n others : ℕ) → n ≡ suc others → ((more : List (ℕ × ℕ)) →
    map positions rest ≡ pairs_with first others ++ more → ⊥) →
    map positions rest ≡ pairs_from first n → ⊥
no-pairs rest first n others count none e = none (pairs_from (first + 1) others) (e ∙ ap (pairs_from first) count)

pub pairs-end : (rest : List Difference) (first n : ℕ) → n ≡ 0 → IsTrue (length rest == 0) ↔ (map positions rest ≡ pairs_from first n)
pairs-end [] first n none = ((λ h. ap (pairs_from first) (sym none)), (λ e. refl))
pairs-end (d ∷ rest) first n none = (
  (λ h. absurd (let e = eqb-true (suc (length rest)) 0 h in omega (arith, e))),
  (λ e. absurd
      (let long : suc (length (map positions rest)) ≡ 0 = ap length (e ∙ ap (pairs_from first) none) in omega arith)),
)

-- the places of each difference are places
pub places-below : (differ : List Difference) (n k : ℕ) (d : Difference) → map positions differ ≡ pairs_below n → k < length differ →
    ((get_or differ k d).first < (get_or differ k d).second) × ((get_or differ k d).second < n)
places-below differ n k d e within =
    let r = pair-below n 0 (get_or differ k d).first (get_or differ k d).second (
      k,
      (let len : length (map positions differ) ≡ length differ = length-map differ positions in let same : length
          (map positions differ) ≡ length (pairs_below n) = ap length e in omega arith),
      ap (λ (pairs : List (ℕ × ℕ)). get_or pairs k (positions (get_or differ k d))) (sym e)
          ∙ get_or-map positions differ k d (positions (get_or differ k d)) within,
    ) in (r.0, (let h = r.1 in omega (arith, h)))
