-- Lists of different names.
use Rattle.std.specs.Prelude.{◌≡◌, ℕ, false, List, [], ◌∷◌, ◌++◌, bytes_eq}
use Rattle.std.specs.List.{AllByRecursion}
use Rattle.std.proofs.Common.{refl, ◌∙◌}
use Rattle.std.proofs.lemmas.Bool.{or_from, false_from_ne_true}
use Rattle.std.proofs.lemmas.Slice.Eq.{bytes_eq-Decides}
use Rattle.c_syntax.specs.Outputs.{has_name}
use Rattle.c_syntax.specs.Lawful.{AreDistinct, AreApart}
use Rattle.c_syntax.proofs.lemmas.NameFacts.{has_name-append}

pub other-name : (a b : List ℕ) → (a ≡ b → ⊥) → bytes_eq a b ≡ false
other-name a b apart = false_from_ne_true (bytes_eq a b) (λ e. apart ((bytes_eq-Decides a b).0 e))

-- a name that differs from each of a list
pub not-among : (P : List ℕ → Type 0) (a : List ℕ) → ((b : List ℕ) → P b → a ≡ b → ⊥) → (names : List (List ℕ)) → AllByRecursion P names →
    has_name names a ≡ false
not-among P a apart [] all = refl
not-among P a apart (b ∷ names) all = or_from _ _ (other-name a b (apart b all.0)) (not-among P a apart names all.1)

-- names of one sort and names of another
pub apart-by : (P Q : List ℕ → Type 0) → ((a b : List ℕ) → P a → Q b → a ≡ b → ⊥) → (names others : List (List ℕ)) →
    AllByRecursion P names → AllByRecursion Q others →
    AreApart names others
apart-by P Q apart [] others all beside = tt
apart-by P Q apart (a ∷ names) others all beside =
    (not-among Q a (λ b. apart a b all.0) others beside, apart-by P Q apart names others all.1 beside)

pub distinct-append : (names others : List (List ℕ)) → AreDistinct names → AreDistinct others → AreApart names others →
    AreDistinct (names ++ others)
distinct-append [] others one two apart = two
distinct-append (a ∷ names) others one two apart =
    (one.0, has_name-append names others a ∙ or_from _ _ one.1 apart.0, distinct-append names others one.2 two apart.1)

pub apart-append : (names others more : List (List ℕ)) → AreApart names others → AreApart names more → AreApart names (others ++ more)
apart-append [] others more one two = tt
apart-append (a ∷ names) others more one two =
    (has_name-append others more a ∙ or_from _ _ one.0 two.0, apart-append names others more one.1 two.1)

pub all-append : {A : Type 0} (P : A → Type 0) (xs ys : List A) → AllByRecursion P xs → AllByRecursion P ys → AllByRecursion P (xs ++ ys)
all-append P [] ys p q = q
all-append P (x ∷ xs) ys p q = (p.0, all-append P xs ys p.1 q)
