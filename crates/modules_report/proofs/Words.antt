-- Words after spaces, one more.
use Rattle.std.proofs.Common.{◌≡◌, ℕ, zero, suc, ◌+◌, ◌-◌, ◌*◌, ◌^◌, ◌<◌, ◌≤◌, Bool, true, false, not, cond, List, [], ◌∷◌, ◌++◌, length, map, filter, get_or, take, bit_and, refl, sym, ap, ap₂, ◌∙◌, append-nil, append_assoc, arith}
use Rattle.std.specs.Prelude.{codes, flat_map}
use Rattle.std.specs.List.{enumerate_from, range_with_len}
use Rattle.std.proofs.lemmas.Bool.{eq-eqb}
use Rattle.std.proofs.lemmas.Grind.{flat_map-append}
use Rattle.std.proofs.lemmas.List.{flat_map_more, length-take-le, map-append, take_more}
use Rattle.std.proofs.lemmas.List.Elements.{filter-append}
use Rattle.std.proofs.lemmas.Nat.Bits.{and_pow, bit_at_above}
use Rattle.base_core.specs.Ports.{has_bit}
use Rattle.modules_report.specs.Texts.{list_words, spaced}

-- one word more
pub spaced-more : (old now next : List ℕ) (words : List (List ℕ)) (word : List ℕ) → now ≡ old ++ spaced words →
    next ≡ now ++ 32 ∷ word → next ≡ old ++ spaced (words ++ word ∷ [])
spaced-more old now next words word before is =
    is ∙ ap (λ (bytes : List ℕ). bytes ++ 32 ∷ word) before ∙ append_assoc old (spaced words) (32 ∷ word)
    ∙ ap (λ (bytes : List ℕ). old ++ bytes) (ap (λ (last : List ℕ). spaced words ++ last) (sym (append-nil (32 ∷ word)))
    ∙ sym (flat_map-append (λ (w : List ℕ). 32 ∷ w) words (word ∷ [])))

-- whether there is a word
abbrev pub has_word : List (List ℕ) → Bool
has_word [] = false
has_word (word ∷ words) = true

pub has_word-more : (words : List (List ℕ)) (word : List ℕ) → has_word (words ++ word ∷ []) ≡ true
has_word-more [] word = refl
has_word-more (w ∷ words) word = refl

-- a list that is said to be empty where it is
pub listed : (words : List (List ℕ)) (any : Bool) (old now next : List ℕ) → any ≡ has_word words →
    now ≡ old ++ spaced words → next ≡ now ++ cond any [] (codes " none") →
    next ≡ old ++ spaced (list_words words)
listed [] any old now next told before is =
    is ∙ ap₂ (λ (bytes : List ℕ) (t : Bool). bytes ++ cond t [] (codes " none")) (before ∙ append-nil old) told
listed (word ∷ words) any old now next told before is =
    is ∙ ap₂ (λ (bytes : List ℕ) (t : Bool). bytes ++ cond t [] (codes " none")) before told
    ∙ append-nil (old ++ spaced (word ∷ words))

-- ---- The words of the members that pass a test

module _ {X : Type 0} (p : X → Bool) (word : X → List ℕ) where
  pub kept-more : (xs : List X) (i : ℕ) (d : X) → i < length xs →
      map word (filter p (take (i + 1) xs)) ≡ map word (filter p (take i xs)) ++ cond (p (get_or xs i d)) (word (get_or xs i d) ∷ []) []
  kept-more xs i d within =
      ap (λ (ys : List X). map word (filter p ys)) (take_more xs i d within)
      ∙ ap (map word) (filter-append p (take i xs) (get_or xs i d ∷ []))
      ∙ map-append word (filter p (take i xs)) (cond (p (get_or xs i d)) (get_or xs i d ∷ []) [])
      ∙ ap (λ (last : List (List ℕ)). map word (filter p (take i xs)) ++ last) (by (p (get_or xs i d)))
    where
      by : (t : Bool) → map word (cond t (get_or xs i d ∷ []) []) ≡ cond t (word (get_or xs i d) ∷ []) []
      by true = refl
      by false = refl

range-more : (a n j : ℕ) → a + n ≡ j → range_with_len a (suc n) ≡ range_with_len a n ++ j ∷ []
range-more a zero j e = ap (λ k. k ∷ []) (let same : a ≡ j = omega arith in same)
range-more a (suc n) j e = ap (λ ks. a ∷ ks) (range-more (a + 1) n j (omega arith))

module _ (p : ℕ → Bool) (word : ℕ → List ℕ) where
  pub kept_numbers-more : (k : ℕ) → 0 < k → map word (filter p (range_with_len 1 (k + 1 - 1))) ≡ map word (filter p (range_with_len 1
      (k - 1))) ++ cond (p k) (word k ∷ []) []
  kept_numbers-more k some =
      ap (λ n. map word (filter p (range_with_len 1 n))) (let e : k + 1 - 1 ≡ suc (k - 1) = omega arith in e)
      ∙ ap (λ ks. map word (filter p ks)) (range-more 1 (k - 1) k (omega arith))
      ∙ ap (map word) (filter-append p (range_with_len 1 (k - 1)) (k ∷ []))
      ∙ map-append word (filter p (range_with_len 1 (k - 1))) (cond (p k) (k ∷ []) [])
      ∙ ap (λ (last : List (List ℕ)). map word (filter p (range_with_len 1 (k - 1))) ++ last) (by (p k))
    where
      by : (t : Bool) → map word (cond t (k ∷ []) []) ≡ cond t (word k ∷ []) []
      by true = refl
      by false = refl

pub numbers-more : {X : Type 0} (f : ℕ → X) (k : ℕ) → 0 < k →
    map f (range_with_len 1 (k + 1 - 1)) ≡ map f (range_with_len 1 (k - 1)) ++ f k ∷ []
numbers-more f k some =
    ap (λ n. map f (range_with_len 1 n)) (let e : k + 1 - 1 ≡ suc (k - 1) = omega arith in e)
    ∙ ap (map f) (range-more 1 (k - 1) k (omega arith))
    ∙ map-append f (range_with_len 1 (k - 1)) (k ∷ [])

-- one word more, or none
module _ (old now next : List ℕ) (words more : List (List ℕ)) (word : List ℕ) (any any' : Bool) where
  pub with-word : more ≡ words ++ cond true (word ∷ []) [] → now ≡ old ++ spaced words → next ≡ now ++ 32 ∷ word → any' ≡ true →
      (next ≡ old ++ spaced more) × (any' ≡ has_word more)
  with-word e before is told = (
    spaced-more old now next words word before is ∙ ap (λ (ws : List (List ℕ)). old ++ spaced ws) (sym e),
    told ∙ sym (has_word-more words word) ∙ ap has_word (sym e),
  )

  pub without-word : more ≡ words ++ cond false (word ∷ []) [] → (now ≡ old ++ spaced words) × (any ≡ has_word words) → next ≡ now →
      any' ≡ any → (next ≡ old ++ spaced more) × (any' ≡ has_word more)
  without-word e before is told = let same : words ≡ more = sym (append-nil words) ∙ sym e in (
    is ∙ before.0 ∙ ap (λ (ws : List (List ℕ)). old ++ spaced ws) same,
    told ∙ before.1 ∙ ap has_word same,
  )

-- ---- No bit from 64 on

pub high_bit : (mask bit : ℕ) → mask < 2 ^ 64 → 64 ≤ bit → false ≡ has_bit mask bit
high_bit mask bit fits high = sym (ap not (eq-eqb (bit_and mask (2 ^ bit)) 0 (and_pow mask bit
    ∙ ap (λ b. b * 2 ^ bit) (bit_at_above mask 64 bit fits high) ∙ none)))
  where
    none : 0 * 2 ^ bit ≡ 0
    none = omega arith

-- ---- The lines of members, one more

pub lines-more : {X : Type 0} (line : X → List ℕ) (old now next : List ℕ) (xs : List X) (i : ℕ) (d : X) → i < length xs →
    now ≡ old ++ flat_map line (take i xs) →
    next ≡ now ++ line (get_or xs i d) → next ≡ old ++ flat_map line (take (i + 1) xs)
lines-more line old now next xs i d within before is =
    is ∙ ap (λ (bytes : List ℕ). bytes ++ line (get_or xs i d)) before ∙ flat_map_more line old (take i xs) (get_or xs i d)
    ∙ ap (λ ys. old ++ flat_map line ys) (sym (take_more xs i d within))

numbered-more : {X : Type 0} (xs : List X) (a : ℕ) (x : X) →
    enumerate_from a (xs ++ x ∷ []) ≡ enumerate_from a xs ++ (a + length xs, x) ∷ []
numbered-more [] a x = ap (λ k. (k, x) ∷ []) (let e : a ≡ a + 0 = omega arith in e)
numbered-more (y ∷ xs) a x = ap (λ ys. (a, y) ∷ ys) (numbered-more xs (a + 1) x
    ∙ ap (λ k. enumerate_from (a + 1) xs ++ (k, x) ∷ []) (let e : a + 1 + length xs ≡ a + suc (length xs) = omega arith in e))

pub numbered_lines-more : {X : Type 0} (line : ℕ × X → List ℕ) (old now next : List ℕ) (xs : List X) (i : ℕ) (d : X) → i < length xs →
    now ≡ old ++ flat_map line (enumerate_from 1 (take i xs)) → next ≡ now ++ line (i + 1, get_or xs i d) →
    next ≡ old ++ flat_map line (enumerate_from 1 (take (i + 1) xs))
numbered_lines-more line old now next xs i d within before is =
    is ∙ ap (λ (bytes : List ℕ). bytes ++ line (i + 1, get_or xs i d)) before
    ∙ flat_map_more line old (enumerate_from 1 (take i xs)) (i + 1, get_or xs i d)
    ∙ ap (λ ys. old ++ flat_map line ys) (sym (ap (enumerate_from 1) (take_more xs i d within) ∙ numbered-more (take i xs) 1 (get_or xs i d)
    ∙ ap (λ k. enumerate_from 1 (take i xs) ++ (k, get_or xs i d) ∷ []) (let len = length-take-le i xs
    (omega arith) in let e : 1 + length (take i xs) ≡ i + 1 = omega (arith, len) in e)))
