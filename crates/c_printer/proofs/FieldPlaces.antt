-- Where the field with a name is.
use Rattle.std.proofs.Common.{◌≡◌, ◌∙◌, ap, ℕ, zero, suc, ◌+◌, ◌<◌, List, [], ◌∷◌, length, map, Some, option_map, slice_get, if◌then◌else◌, arith}
use Rattle.c_syntax.specs.Tree.{FieldTree}
use Rattle.c_rules.specs.Resolve.{field_from}
use Rattle.c_syntax.specs.Lawful.{AreDistinct}
use Rattle.c_printer.specs.Printing.{field_name}
use Rattle.c_syntax.proofs.lemmas.NamePlaces.{bytes_eq-same, has_name-at}

-- the place and the kind of the field with a name
pub field_from-named : (fields : List FieldTree) (i k : ℕ) (f : FieldTree) → AreDistinct (map (λ x. x.name) fields) →
    slice_get fields k ≡ Some f → field_from i fields (field_name fields k) ≡ Some (i + k, f.kind)
field_from-named [] i k f h there = cc
field_from-named (x ∷ xs) i zero f h there =
    ap (λ b. if b then Some (i, x.kind) else field_from (i + 1) xs x.name) (bytes_eq-same x.name)
    ∙ ap (λ n. Some (n, x.kind)) (omega arith) ∙ ap (λ o. option_map (λ y. (i + 0, y.kind)) o) there
field_from-named (x ∷ xs) i (suc k) f h there =
    let n : List ℕ = field_name xs k in
    ap (λ b. if b then Some (i, x.kind) else field_from (i + 1) xs n)
    (has_name-at (map (λ y. y.name) xs) x.name k h.1 (names_within xs k f there))
    ∙ field_from-named xs (i + 1) k f h.2 there ∙ ap (λ m. Some (m, f.kind)) (omega arith)
  where
    names_within : (ys : List FieldTree) (j : ℕ) (g : FieldTree) → slice_get ys j ≡ Some g → j < length (map (λ y. y.name) ys)
    names_within [] j g there = cc
    names_within (y ∷ ys) zero g there = omega arith
    names_within (y ∷ ys) (suc j) g there = omega (arith, names_within ys j g there)
