-- Names with numbers: where the names are different, the number at the place of a name is the one that stands with it.
use Rattle.std.proofs.Common.{◌≡◌, refl, sym, ap, ◌∙◌, subst, ℕ, Bool, true, false, List, [], ◌∷◌, ◌++◌, length, map, Option, Some, None, ℤ}
use Rattle.std.specs.Prelude.{Contains}
use Rattle.std.specs.List.{flat_map}
use Rattle.std.proofs.lemmas.List.{map-append, length-map}
use Rattle.std.proofs.lemmas.Option.{get_or_from_slice_get}
use Rattle.modules_profile.proofs.lemmas.Members.{at-map, of-map}
use Rattle.lustre_syntax.specs.Lawful.{AreDistinct}
use Rattle.lustre_syntax.specs.Named.{place_of}
use Rattle.lustre_syntax.specs.Tree.{Declared, texts_of}
use Rattle.lustre_flows.specs.Values.{value_at}
use Rattle.lustre_system.specs.Functions.{int_name}
use Rattle.lustre_system.specs.RowEquations.{only_if}
use Rattle.lustre_rows.proofs.lemmas.NamePlaces.{at-name}

-- a name, and the number that it has
pub record Held : Type 0 where
  pub text : List ℕ
  pub number : ℤ

abbrev pub has : List ℕ → ℤ → Held
has text number = record { text = text; number = number }

abbrev pub texts : List Held → List (List ℕ)
texts hs = map (λ (h : Held). h.text) hs

abbrev pub numbers : List Held → List (Option ℤ)
numbers hs = map (λ (h : Held). Some h.number) hs

-- ---- Places

-- the number that stands with a name
pub number-found : (ts : List (List ℕ)) (hs : List Held) (h : Held) → texts hs ≡ ts → AreDistinct ts → Contains hs h →
    value_at (numbers hs) (place_of ts h.text) ≡ Some h.number
number-found ts hs h same distinct here =
    subst (λ (us : List (List ℕ)). value_at (numbers hs) (place_of us h.text) ≡ Some h.number) same found
  where
    found : value_at (numbers hs) (place_of (texts hs) h.text) ≡ Some h.number
    found =
        let i = place_of (texts hs) h.text in
        get_or_from_slice_get (numbers hs) i (Some h.number) None (at-map (λ (x : Held). Some x.number) hs i h
        (at-name (λ (x : Held). x.text) hs h (subst AreDistinct (sym same) distinct) here))

-- each name has a number
pub each-found : (ts : List (List ℕ)) (hs : List Held) → texts hs ≡ ts → AreDistinct ts → (text : List ℕ) → Contains ts text →
    (v : ℤ) × (value_at (numbers hs) (place_of ts text) ≡ Some v)
each-found ts hs same distinct text there =
    let (h, here, is) = of-map (λ (x : Held). x.text) hs text (subst (λ (us : List (List ℕ)). Contains us text) (sym same) there) in (
      h.number,
      subst (λ (w : List ℕ). value_at (numbers hs) (place_of ts w) ≡ Some h.number) is (number-found ts hs h same distinct here),
    )

-- there are as many numbers as names
pub count-of_numbers : (ts : List (List ℕ)) (hs : List Held) → texts hs ≡ ts → length (numbers hs) ≡ length ts
count-of_numbers ts hs same =
    length-map hs (λ (h : Held). Some h.number) ∙ sym (length-map hs (λ (h : Held). h.text)) ∙ ap (λ (us : List (List ℕ)). length us) same

-- ---- The same names

-- names with numbers are those of declared names
abbrev pub AreNamed : List Held → List Declared → Type 0
AreNamed hs ns = texts hs ≡ texts_of ns

pub named-after : (hs gs : List Held) (ns ms : List Declared) → AreNamed hs ns → AreNamed gs ms → AreNamed (hs ++ gs) (ns ++ ms)
named-after hs gs ns ms first second =
    map-append (λ (h : Held). h.text) hs gs
    ∙ ap (λ (ts : List (List ℕ)). ts ++ texts gs) first ∙ ap (λ (ts : List (List ℕ)). texts_of ns ++ ts) second
    ∙ sym (map-append (λ (n : Declared). n.text) ns ms)

pub named-only : (b : Bool) (hs : List Held) (ns : List Declared) → AreNamed hs ns → AreNamed (only_if b hs) (only_if b ns)
named-only true hs ns same = same
named-only false hs ns same = refl

pub named-each : {A : Type 0} (f : A → List ℕ) (v : A → ℤ) (xs : List A) →
    AreNamed (map (λ x. has (f x) (v x)) xs) (map (λ x. int_name (f x)) xs)
named-each f v [] = refl
named-each f v (x ∷ xs) = ap (λ (ts : List (List ℕ)). f x ∷ ts) (named-each f v xs)

pub named-texts : {A : Type 0} (f : A → List ℕ) (v : A → ℤ) (xs : List A) →
    AreNamed (map (λ x. has (f x) (v x)) xs) (map int_name (map f xs))
named-texts f v [] = refl
named-texts f v (x ∷ xs) = ap (λ (ts : List (List ℕ)). f x ∷ ts) (named-texts f v xs)

pub named-joined : {A : Type 0} (f : A → List Held) (g : A → List Declared) (each : (x : A) → AreNamed (f x) (g x)) (xs : List A) →
    AreNamed (flat_map f xs) (flat_map g xs)
named-joined f g each [] = refl
named-joined f g each (x ∷ xs) = named-after (f x) (flat_map f xs) (g x) (flat_map g xs) (each x) (named-joined f g each xs)
