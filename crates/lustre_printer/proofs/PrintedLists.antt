-- The texts of lists, item by item.
use Rattle.std.proofs.Common.{◌≡◌, ◌≢◌, refl, sym, ◌∙◌, ap, ℕ, ◌≤◌, Bool, List, [], ◌∷◌, ◌++◌, length, map, take, codes}
use Rattle.std.specs.Prelude.{flat_map}
use Rattle.std.proofs.lemmas.List.{append_assoc, take_all}
use Rattle.std.proofs.lemmas.List.Folds.{flat_map-map}
use Rattle.std.proofs.lemmas.Simd.{map-map}
use Rattle.lustre_syntax.specs.Plain.{declared_names}
use Rattle.lustre_printer.specs.Printing.{parted, declared_bytes, others_bytes}

-- the texts of all items
flat_map-all : {A : Type 0} (text : A → List ℕ) (xs : List A) (i : ℕ) (old out : List ℕ) → length xs ≤ i →
    out ≡ old ++ flat_map text (take i xs) → out ≡ old ++ flat_map text xs
flat_map-all text xs i old out past so_far = so_far ∙ ap (λ y. old ++ flat_map text y) (take_all i xs past)

pub flat_map-printed : {A B : Type 0} (text : B → List ℕ) (f : A → B) (xs : List A) (i : ℕ) (old out : List ℕ) →
    length xs ≤ i → out ≡ old ++ flat_map (λ x. text (f x)) (take i xs) → out ≡ old ++ flat_map text (map f xs)
flat_map-printed text f xs i old out past so_far =
    flat_map-all (λ x. text (f x)) xs i old out past so_far ∙ ap (λ y. old ++ y) (sym (flat_map-map text f xs))

-- texts with a mark between each two: the first, and then the later ones, each after a mark
pub parted-printed : {A : Type 0} (mark : List ℕ) (text : A → List ℕ) (all later : List A) (first : A) (i : ℕ)
    (old mid out : List ℕ) → all ≡ first ∷ later → mid ≡ old ++ text first → length later ≤ i →
    out ≡ mid ++ flat_map (λ x. mark ++ text x) (take i later) → out ≡ old ++ parted mark (map text all)
parted-printed mark text all later first i old mid out whole begun past so_far =
    flat_map-all (λ x. mark ++ text x) later i mid out past so_far
    ∙ ap (λ y. y ++ flat_map (λ x. mark ++ text x) later) begun
    ∙ append_assoc old (text first) (flat_map (λ x. mark ++ text x) later)
    ∙ ap (λ y. old ++ (text first ++ y)) (sym (flat_map-map (λ u. mark ++ u) text later))
    ∙ ap (λ xs. old ++ parted mark (map text xs)) (sym whole)

pub parted-printed_two : {A B : Type 0} (mark : List ℕ) (text : B → List ℕ) (f : A → B) (all later : List A) (first : A) (i : ℕ)
    (old mid out : List ℕ) → all ≡ first ∷ later → mid ≡ old ++ text (f first) → length later ≤ i →
    out ≡ mid ++ flat_map (λ x. mark ++ text (f x)) (take i later) → out ≡ old ++ parted mark (map text (map f all))
parted-printed_two mark text f all later first i old mid out whole begun past so_far =
    parted-printed mark (λ x. text (f x)) all later first i old mid out whole begun past so_far
    ∙ ap (λ ts. old ++ parted mark ts) (sym (map-map text f all))

-- further names, where there are any
pub others_bytes-flat : (xs : List (List ℕ × Bool)) → length xs ≢ 0 →
    others_bytes (declared_names xs)
    ≡ codes "var\n" ++ flat_map (λ x. declared_bytes (record { text = x.0; type = x.1 }) ++ codes ";\n") xs
others_bytes-flat [] some = absurd (some refl)
others_bytes-flat (x ∷ xs) some =
    ap (λ z. codes "var\n" ++ z)
    (flat_map-map (λ d. declared_bytes d ++ codes ";\n") (λ y. record { text = y.0; type = y.1 }) (x ∷ xs))
