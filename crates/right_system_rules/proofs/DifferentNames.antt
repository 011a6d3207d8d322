-- Lists of names that are made from members which are apart, and parts of such lists.
use Rattle.std.specs.Prelude.{◌≡◌, ◌⊎◌, ℕ, zero, suc, ◌+◌, true, false, List, [], ◌∷◌, ◌++◌, map, Contains, bytes_eq}
use Rattle.std.specs.List.{AllByRecursion, range_with_len}
use Rattle.std.proofs.Common.{refl, sym, ◌∙◌, ap, subst, arith, inl, inr}
use Rattle.std.proofs.lemmas.Bool.{or_from, or_parts}
use Rattle.c_syntax.specs.Names.{is_name}
use Rattle.c_syntax.specs.Outputs.{has_name}
use Rattle.c_syntax.specs.Lawful.{AreDistinct}
use Rattle.std.proofs.lemmas.List.Elements.{Contains-append_cases}
use Rattle.modules_profile.proofs.lemmas.Members.{in-none, in-first, in-rest, in-cases, of-map, of-range}
use Rattle.right_system_rules.proofs.Lists.{Apart, each-mapped}
use Rattle.right_system_rules.proofs.Different.{not-among}

-- the name of a member
abbrev IsNameOf : {A : Type 0} → (A → List ℕ) → List A → List ℕ → Type 0
IsNameOf {A} name xs b = (y : A) × Contains xs y × (b ≡ name y)

pub distinct-map : {A K : Type 0} (key : A → K) (name : A → List ℕ) (xs : List A) → ((x : A) → Contains xs x → is_name (name x) ≡ true) →
    ((x y : A) → Contains xs x → Contains xs y → name x ≡ name y → key x ≡ key y) → Apart key xs → AreDistinct (map name xs)
distinct-map key name [] named tells apart = tt
distinct-map key name (x ∷ xs) named tells apart = (
  named x (in-first x xs),
  not-among (IsNameOf name xs) (name x)
      (λ b m same. apart.0 m.0 m.1 (tells x m.0 (in-first x xs) (in-rest x m.0 xs m.1) (same ∙ m.2)))
      (map name xs) (each-mapped (IsNameOf name xs) name xs (λ y h. (y, h, refl))),
  distinct-map key name xs (λ y h. named y (in-rest x y xs h)) (λ y z h k. tells y z (in-rest x y xs h) (in-rest x z xs k)) apart.1,
)

pub apart-append : {A K : Type 0} (key : A → K) (xs ys : List A) → Apart key xs → Apart key ys →
    ((x y : A) → Contains xs x → Contains ys y → key x ≡ key y → ⊥) → Apart key (xs ++ ys)
apart-append key [] ys first second apart = second
apart-append {A} key (x ∷ xs) ys first second apart = (
  λ y h same. elim (Contains-append_cases xs ys y h) [
    | inl here ↦ first.0 y here same
    | inr there ↦ apart x y (in-first x xs) there same
  ],
  apart-append key xs ys first.1 second (λ z y h k. apart z y (in-rest x z xs h) k),
)

pub apart-map : {A B K L : Type 0} (key : A → K) (other : B → L) (f : A → B) (xs : List A) →
    ((x y : A) → Contains xs x → Contains xs y → other (f x) ≡ other (f y) → key x ≡ key y) → Apart key xs → Apart other (map f xs)
apart-map key other f [] tells apart = tt
apart-map key other f (x ∷ xs) tells apart = (
  λ y h same. let m = of-map f xs y h in apart.0 m.0 m.1 (tells x m.0 (in-first x xs) (in-rest x m.0 xs m.1) (same ∙ ap other (sym m.2))),
  apart-map key other f xs (λ y z h k. tells y z (in-rest x y xs h) (in-rest x z xs k)) apart.1,
)

pub apart-range : (a n : ℕ) → Apart (λ (k : ℕ). k) (range_with_len a n)
apart-range a zero = tt
apart-range a (suc n) = (λ y h same. let low = (of-range (a + 1) n y h).0 in omega (arith, low, same), apart-range (a + 1) n)

-- one key, one member
pub apart-same : {A K : Type 0} (key : A → K) (xs : List A) (x y : A) → Apart key xs → Contains xs x → Contains xs y → key x ≡ key y → x ≡ y
apart-same key [] x y apart h k same = absurd (in-none x h)
apart-same key (z ∷ xs) x y apart h k same = elim (in-cases z x xs h) [
  | inl first ↦ elim (in-cases z y xs k) [
    | inl second ↦ sym first ∙ second
    | inr more ↦ absurd (apart.0 y more (ap key first ∙ same))
  ]
  | inr more ↦ elim (in-cases z y xs k) [
    | inl second ↦ absurd (apart.0 x more (ap key second ∙ sym same))
    | inr rest ↦ apart-same key xs x y apart.1 more rest same
  ]
]

-- ---- Parts of lists, in their order

abbrev pub IsPart : List (List ℕ) → List (List ℕ) → Type 0
IsPart xs [] = xs ≡ []
IsPart [] (y ∷ ys) = Unit {0}
IsPart (x ∷ xs) (y ∷ ys) = ((x ≡ y) × IsPart xs ys) ⊎ IsPart (x ∷ xs) ys

pub part-skip : (xs : List (List ℕ)) (y : List ℕ) (ys : List (List ℕ)) → IsPart xs ys → IsPart xs (y ∷ ys)
part-skip [] y ys part = tt
part-skip (x ∷ xs) y ys part = inr part

pub part-none : (ys : List (List ℕ)) → IsPart [] ys
part-none [] = refl
part-none (y ∷ ys) = tt

pub part-all : (P : List ℕ → Type 0) (xs ys : List (List ℕ)) → IsPart xs ys → AllByRecursion P ys → AllByRecursion P xs
part-all P [] ys part all = tt
part-all P (x ∷ xs) [] part all = absurd (let wrong : ⊥ = cc part in wrong)
part-all P (x ∷ xs) (y ∷ ys) (inl part) all = (subst P (sym part.0) all.0, part-all P xs ys part.1 all.1)
part-all P (x ∷ xs) (y ∷ ys) (inr part) all = part-all P (x ∷ xs) ys part all.1

pub part-other : (n : List ℕ) (xs ys : List (List ℕ)) → IsPart xs ys → has_name ys n ≡ false → has_name xs n ≡ false
part-other n [] ys part none = refl
part-other n (x ∷ xs) [] part none = absurd (let wrong : ⊥ = cc part in wrong)
part-other n (x ∷ xs) (y ∷ ys) (inl part) none =
    let parts = or_parts (bytes_eq n y) (has_name ys n) none in
    or_from _ _ (subst (λ z. bytes_eq n z ≡ false) (sym part.0) parts.0) (part-other n xs ys part.1 parts.1)
part-other n (x ∷ xs) (y ∷ ys) (inr part) none = part-other n (x ∷ xs) ys part (or_parts (bytes_eq n y) (has_name ys n) none).1

pub part-distinct : (xs ys : List (List ℕ)) → IsPart xs ys → AreDistinct ys → AreDistinct xs
part-distinct [] ys part distinct = tt
part-distinct (x ∷ xs) [] part distinct = absurd (let wrong : ⊥ = cc part in wrong)
part-distinct (x ∷ xs) (y ∷ ys) (inl part) distinct = (
  subst (λ z. is_name z ≡ true) (sym part.0) distinct.0,
  part-other x xs ys part.1 (subst (λ z. has_name ys z ≡ false) (sym part.0) distinct.1),
  part-distinct xs ys part.1 distinct.2,
)
part-distinct (x ∷ xs) (y ∷ ys) (inr part) distinct = part-distinct (x ∷ xs) ys part distinct.2
