-- The words of the lines of a report, and that lines say their words.
use Rattle.std.proofs.Common.{◌≡◌, ℕ, suc, ◌^◌, ◌<◌, Bool, true, false, cond, ltb, List, [], ◌∷◌, ◌++◌, length, map, refl, sym, ap, ap₂, subst, arith}
use Rattle.std.specs.Prelude.{⊤, codes, decimal}
use Rattle.std.specs.List.{AllByRecursion}
use Rattle.std.specs.Str.Parse.{AllDigits}
use Rattle.std.proofs.lemmas.Bool.{ltb-true, false≢true}
use Rattle.std.proofs.lemmas.Fmt.{decimal_injective, decimal_is_IsNumeral}
use Rattle.std.proofs.lemmas.Str.Parse.{digit_from_value}
use Rattle.base_core.specs.declared.Port.{Port}
use Rattle.base_core.specs.declared.Port.TheVariants.{Number, Enable, Trigger}
use Rattle.base_core.specs.Words.{port_word}
use Rattle.modules_report.specs.Texts.{list_words}
use Rattle.modules_report.proofs.Cuts.{IsWord, AreWords, same-head}

-- ---- Which texts are words

abbrev above : List ℕ → Bool
above [] = true
above (b ∷ bs) = cond (ltb 32 b) (above bs) false

pub word : (w : List ℕ) → above w ≡ true → IsWord w
word [] e = tt
word (b ∷ bs) e = by (ltb 32 b) refl (λ h. word bs h) e
  where
    by : (t : Bool) → ltb 32 b ≡ t → (above bs ≡ true → IsWord bs) → cond t (above bs) false ≡ true → IsWord (b ∷ bs)
    by true is more e = (ltb-true 32 b is, more e)
    by false is more e = absurd (false≢true e)

word-digits : (ds : List ℕ) → AllDigits 10 ds → IsWord ds
word-digits [] d = tt
word-digits (c ∷ cs) d = ((let r = digit_from_value c d.0 in omega (arith, r)), word-digits cs d.1)

pub word-decimal : (n : ℕ) → n < 2 ^ 64 → IsWord (decimal n)
word-decimal n h = word-digits (decimal n) (decimal_is_IsNumeral n h).0.1

-- a number begins with a digit
pub digit-first : (n c : ℕ) (w : List ℕ) → n < 2 ^ 64 → 57 < c → decimal n ≡ c ∷ w → ⊥
digit-first n c w h high e =
    let r = digit_from_value c (subst (AllDigits 10) e (decimal_is_IsNumeral n h).0.1).0 in omega (arith, r, high)

-- ---- Ports

-- a number of a port is small
abbrev pub IsSmall : Port → Type 0
IsSmall (Number k) = k < 2 ^ 32
IsSmall Enable = ⊤
IsSmall Trigger = ⊤

small : (k : ℕ) → k < 2 ^ 32 → k < 2 ^ 64
small k h = omega arith

pub word-port : (p : Port) → IsSmall p → IsWord (port_word p)
word-port (Number k) s = word-decimal k (small k s)
word-port Enable s = word (codes "enable") refl
word-port Trigger s = word (codes "trigger") refl

pub port_injective : (p q : Port) → IsSmall p → IsSmall q → port_word p ≡ port_word q → p ≡ q
port_injective (Number j) (Number k) s t e = ap Number (decimal_injective j k (small j s) (small k t) e)
port_injective (Number j) Enable s t e = absurd (digit-first j 101 _ (small j s) (omega arith) e)
port_injective (Number j) Trigger s t e = absurd (digit-first j 116 _ (small j s) (omega arith) e)
port_injective Enable (Number k) s t e = absurd (digit-first k 101 _ (small k t) (omega arith) (sym e))
port_injective Enable Enable s t e = refl
port_injective Enable Trigger s t e = absurd (let h = same-head 101 116 _ _ e in omega (arith, h))
port_injective Trigger (Number k) s t e = absurd (digit-first k 116 _ (small k t) (omega arith) (sym e))
port_injective Trigger Enable s t e = absurd (let h = same-head 116 101 _ _ e in omega (arith, h))
port_injective Trigger Trigger s t e = refl

-- a word that is no port's begins with a letter that no port's word begins with
pub other-port : (p : Port) (c : ℕ) (w : List ℕ) → IsSmall p → 57 < c → (c ≡ 101 → ⊥) → (c ≡ 116 → ⊥) → port_word p ≡ c ∷ w → ⊥
other-port (Number k) c w s high e t is = digit-first k c w (small k s) high is
other-port Enable c w s high e t is = e (sym (same-head 101 c _ w is))
other-port Trigger c w s high e t is = t (sym (same-head 116 c _ w is))

-- ---- Lists of words

abbrev heads : List (List ℕ) → List ℕ → List ℕ
heads [] w = w
heads (v ∷ vs) w = v

abbrev tails : List (List ℕ) → List (List ℕ)
tails [] = []
tails (v ∷ vs) = vs

pub same-first : (v w : List ℕ) (vs ws : List (List ℕ)) → v ∷ vs ≡ w ∷ ws → v ≡ w
same-first v w vs ws e = ap (λ us. heads us v) e

pub same-others : (v w : List ℕ) (vs ws : List (List ℕ)) → v ∷ vs ≡ w ∷ ws → vs ≡ ws
same-others v w vs ws e = ap tails e

some-none : (v : List ℕ) (vs : List (List ℕ)) → v ∷ vs ≡ [] → ⊥
some-none v vs e = let long : suc (length vs) ≡ 0 = ap length e in omega (arith, long)

-- a word that ends a list, where it is none of the list's words
pub until : (w : List ℕ) (us vs x y : List (List ℕ)) → AllByRecursion (λ u. u ≡ w → ⊥) us → AllByRecursion (λ u. u ≡ w → ⊥) vs →
    us ++ w ∷ x ≡ vs ++ w ∷ y → (us ≡ vs) × (x ≡ y)
until w [] [] x y a b e = (refl, same-others w w x y e)
until w [] (v ∷ vs) x y a b e = absurd (b.0 (sym (same-first w v x (vs ++ w ∷ y) e)))
until w (u ∷ us) [] x y a b e = absurd (a.0 (same-first u w (us ++ w ∷ x) y e))
until w (u ∷ us) (v ∷ vs) x y a b e =
    let more = until w us vs x y a.1 b.1 (same-others u v (us ++ w ∷ x) (vs ++ w ∷ y) e) in
    (ap₂ (λ (k : List ℕ) (ks : List (List ℕ)). k ∷ ks) (same-first u v (us ++ w ∷ x) (vs ++ w ∷ y) e) more.0, more.1)

-- ---- The words of members, and of none

module _ {X : Type 0} (Is : X → Type 0) (f : X → List ℕ) (one : (x y : X) → Is x → Is y → f x ≡ f y → x ≡ y)
    (some : (x : X) → Is x → f x ≡ codes "none" → ⊥) where
  pub same-members : (xs ys : List X) → AllByRecursion Is xs → AllByRecursion Is ys → map f xs ≡ map f ys → xs ≡ ys
  same-members [] [] a b e = refl
  same-members [] (y ∷ ys) a b e = absurd (some-none (f y) (map f ys) (sym e))
  same-members (x ∷ xs) [] a b e = absurd (some-none (f x) (map f xs) e)
  same-members (x ∷ xs) (y ∷ ys) a b e =
      ap₂ (λ (k : X) (ks : List X). k ∷ ks) (one x y a.0 b.0 (same-first (f x) (f y) (map f xs) (map f ys) e))
      (same-members xs ys a.1 b.1 (same-others (f x) (f y) (map f xs) (map f ys) e))

  pub same-listed : (xs ys : List X) → AllByRecursion Is xs → AllByRecursion Is ys → list_words (map f xs) ≡ list_words (map f ys) → xs ≡ ys
  same-listed [] [] a b e = refl
  same-listed [] (y ∷ ys) a b e = absurd (some y b.0 (sym (same-first (codes "none") (f y) [] (map f ys) e)))
  same-listed (x ∷ xs) [] a b e = absurd (some x a.0 (same-first (f x) (codes "none") (map f xs) [] e))
  same-listed (x ∷ xs) (y ∷ ys) a b e = same-members (x ∷ xs) (y ∷ ys) a b e

  pub none-listed : (w : List ℕ) (xs : List X) → AllByRecursion Is xs → ((x : X) → Is x → f x ≡ w → ⊥) → (codes "none" ≡ w → ⊥) →
      AllByRecursion (λ u. u ≡ w → ⊥) (list_words (map f xs))
  none-listed w [] a differ none = (none, tt)
  none-listed w (x ∷ xs) a differ none = (differ x a.0, each xs a.1)
    where
      each : (ys : List X) → AllByRecursion Is ys → AllByRecursion (λ u. u ≡ w → ⊥) (map f ys)
      each [] b = tt
      each (y ∷ ys) b = (differ y b.0, each ys b.1)

  pub words-listed : ((x : X) → Is x → IsWord (f x)) → (xs : List X) → AllByRecursion Is xs → AreWords (list_words (map f xs))
  words-listed is [] a = (word (codes "none") refl, tt)
  words-listed is (x ∷ xs) a = (is x a.0, each xs a.1)
    where
      each : (ys : List X) → AllByRecursion Is ys → AreWords (map f ys)
      each [] b = tt
      each (y ∷ ys) b = (is y b.0, each ys b.1)

pub words-append : (vs ws : List (List ℕ)) → AreWords vs → AreWords ws → AreWords (vs ++ ws)
words-append [] ws v w = w
words-append (u ∷ vs) ws v w = (v.0, words-append vs ws v.1 w)
