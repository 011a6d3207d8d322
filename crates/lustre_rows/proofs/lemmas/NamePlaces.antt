-- Texts in lists of different ones, and their places.
use Rattle.std.specs.Prelude.{◌≡◌, ℕ, zero, suc, ◌+◌, ◌<◌, Bool, true, false, cond, List, [], ◌∷◌, map, length, slice_get, Contains, Option, Some, None, unwrap_or, bytes_eq, refl}
use Rattle.std.specs.List.{position_from}
use Rattle.std.proofs.Common.{sym, ap, subst, ◌∙◌, arith, true≢false}
use Rattle.std.proofs.lemmas.Slice.Eq.{bytes_eq-Decides}
use Rattle.c_syntax.specs.Outputs.{has_name}
use Rattle.c_syntax.proofs.lemmas.NamePlaces.{bytes_eq-same, or-left, or-right}
use Rattle.modules_profile.proofs.lemmas.Members.{at-map, at-in}
use Rattle.lustre_syntax.specs.Tree.{texts_of}
use Rattle.lustre_syntax.specs.Lawful.{AreDistinct}
use Rattle.lustre_syntax.specs.Named.{place_of}
use Rattle.lustre_system.specs.Functions.{int_name}

pub texts-int : (ts : List (List ℕ)) → texts_of (map int_name ts) ≡ ts
texts-int [] = refl
texts-int (t ∷ ts) = ap (λ us. t ∷ us) (texts-int ts)

-- ---- Searches

-- this is the place of something that passes the test, counted from i
abbrev pub Found : {A : Type 0} → (A → Bool) → ℕ → List A → Option ℕ → Type 0
Found {A = A} t i xs o = (j : ℕ) × (y : A) × (o ≡ Some (i + j)) × (slice_get xs j ≡ Some y) × (t y ≡ true)

-- what is there is found
pub found : {A : Type 0} (t : A → Bool) (i : ℕ) (xs : List A) (k : ℕ) (x : A) → slice_get xs k ≡ Some x → t x ≡ true →
    Found t i xs (position_from t i xs)
found t i [] k x at passes = absurd (let wrong : ⊥ = cc at in wrong)
found t i (z ∷ zs) k x at passes = by k at (t z) refl (λ m later. found t (i + 1) zs m x later passes)
  where
    by : (k : ℕ) → slice_get (z ∷ zs) k ≡ Some x → (b : Bool) → t z ≡ b →
        ((m : ℕ) → slice_get zs m ≡ Some x → Found t (i + 1) zs (position_from t (i + 1) zs)) →
        Found t i (z ∷ zs) (cond b (Some i) (position_from t (i + 1) zs))
    by k at true e later = (0, z, (let none_more : i ≡ i + 0 = omega arith in ap Some none_more), refl, e)
    by zero at false e later = let same : z ≡ x = cc at in absurd (true≢false (sym passes ∙ sym (ap t same) ∙ e))
    by (suc k) at false e later =
        let (j, y, is, there, holds) = later k at in
        (suc j, y, is ∙ (let next : i + 1 + j ≡ i + suc j = omega arith in ap Some next), there, holds)

-- what is found is there
at-found : {A : Type 0} (t : A → Bool) (i : ℕ) (xs : List A) (p : ℕ) → position_from t i xs ≡ Some p → Found t i xs (Some p)
at-found t i [] p e = absurd (let wrong : ⊥ = cc e in wrong)
at-found t i (z ∷ zs) p e = by (t z) refl e (λ later. at-found t (i + 1) zs p later)
  where
    by : (b : Bool) → t z ≡ b → cond b (Some i) (position_from t (i + 1) zs) ≡ Some p →
        (position_from t (i + 1) zs ≡ Some p → Found t (i + 1) zs (Some p)) → Found t i (z ∷ zs) (Some p)
    by true q e later = (0, z, sym e ∙ (let none_more : i ≡ i + 0 = omega arith in ap Some none_more), refl, q)
    by false q e later =
        let (j, y, is, there, holds) = later e in
        (suc j, y, is ∙ (let next : i + 1 + j ≡ i + suc j = omega arith in ap Some next), there, holds)

-- ---- Texts that are apart

-- no two places of a list have one text
abbrev pub AreApart : List (List ℕ) → Type 0
AreApart texts =
    (i j : ℕ) (text : List ℕ) → slice_get texts i ≡ Some text → slice_get texts j ≡ Some text → i ≡ j

same-text : (a b : List ℕ) → bytes_eq a b ≡ true → a ≡ b
same-text a b e = (bytes_eq-Decides a b).0 e

pub place-at : (texts : List (List ℕ)) (k : ℕ) (text : List ℕ) → AreApart texts → slice_get texts k ≡ Some text → place_of texts text ≡ k
place-at texts k text apart at =
    let (j, y, is, there, holds) = found (bytes_eq text) 0 texts k text at (bytes_eq-same text) in
    ap (λ (o : Option ℕ). unwrap_or o (length texts)) is ∙ (let none_before : 0 + j ≡ j = omega arith in none_before)
    ∙ apart j k text (there ∙ ap Some (sym (same-text text y holds))) at

-- a place within the list is that of the text
pub text-there : (texts : List (List ℕ)) (text : List ℕ) → place_of texts text < length texts →
    slice_get texts (place_of texts text) ≡ Some text
text-there texts text below = by (position_from (bytes_eq text) 0 texts) refl below
  where
    by : (o : Option ℕ) → position_from (bytes_eq text) 0 texts ≡ o → unwrap_or o (length texts) < length texts →
        slice_get texts (unwrap_or o (length texts)) ≡ Some text
    by None e below = absurd (omega arith)
    by (Some p) e below =
        let (j, y, is, there, holds) = at-found (bytes_eq text) 0 texts p e in
        let from_first : p ≡ 0 + j = cc is in
        let same : j ≡ p = omega arith in
        subst (λ i. slice_get texts i ≡ Some text) same (there ∙ ap Some (sym (same-text text y holds)))

pub one-text : (texts : List (List ℕ)) (a b : List ℕ) → place_of texts b < length texts → place_of texts a ≡ place_of texts b → a ≡ b
one-text texts a b below same =
    let within : place_of texts a < length texts = omega arith in
    let first = text-there texts a within in
    let second = text-there texts b below in
    let both : Some a ≡ Some b = sym first ∙ ap (slice_get texts) same ∙ second in cc both

pub not-there : (texts : List (List ℕ)) (text : List ℕ) (j : ℕ) → has_name texts text ≡ false → slice_get texts j ≡ Some text → ⊥
not-there [] text j none at = let wrong : ⊥ = cc at in wrong
not-there (t ∷ ts) text zero none at =
    let same : t ≡ text = cc at in
    true≢false (sym (bytes_eq-same text) ∙ ap (bytes_eq text) (sym same) ∙ or-left (bytes_eq text t) (has_name ts text) none)
not-there (t ∷ ts) text (suc j) none at = not-there ts text j (or-right (bytes_eq text t) (has_name ts text) none) at

pub distinct-apart : (texts : List (List ℕ)) → AreDistinct texts → AreApart texts
distinct-apart [] distinct i j text first second = absurd (let wrong : ⊥ = cc first in wrong)
distinct-apart (t ∷ ts) distinct zero zero text first second = refl
distinct-apart (t ∷ ts) distinct zero (suc j) text first second =
    let same : t ≡ text = cc first in absurd (not-there ts t j distinct.1 (second ∙ ap Some (sym same)))
distinct-apart (t ∷ ts) distinct (suc i) zero text first second =
    let same : t ≡ text = cc second in absurd (not-there ts t i distinct.1 (first ∙ ap Some (sym same)))
distinct-apart (t ∷ ts) distinct (suc i) (suc j) text first second =
    ap suc (distinct-apart ts distinct.2 i j text first second)

-- an item is at the place of its name
pub at-name : {A : Type 0} (text_of : A → List ℕ) (xs : List A) (x : A) → AreDistinct (map text_of xs) → Contains xs x →
    slice_get xs (place_of (map text_of xs) (text_of x)) ≡ Some x
at-name text_of xs x distinct here =
    let (k, at) = at-in xs x here in
    let apart = distinct-apart (map text_of xs) distinct in
    subst (λ i. slice_get xs i ≡ Some x) (sym (place-at (map text_of xs) k (text_of x) apart (at-map text_of xs k x at))) at
