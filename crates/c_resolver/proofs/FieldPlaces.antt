-- Fields by the positions of their names.
use Rattle.std.proofs.Common.{◌≡◌, refl, sym, ◌∙◌, ap, ℕ, zero, suc, ◌+◌, ◌<◌, ◌≤◌, Bool, true, false, cond, List, [], ◌∷◌, length, map, None, Some, Ok, Err, slice_get, get_or, bytes_eq, if◌then◌else◌, arith}
use Rattle.std.specs.List.{position_from}
use Rattle.c_syntax.specs.declared.program.Field.{Field}
use Rattle.c_syntax.specs.PlainField.{field_trees}
use Rattle.c_syntax.specs.Tree.{FieldTree}
use Rattle.c_syntax.specs.declared.fault.CKind.TheVariants.{Name}
use Rattle.c_rules.specs.Resolve.{or_unnamed, field_from, field_named}
use Rattle.c_syntax.proofs.lemmas.NamePlaces.{bytes_eq-sym}
use Rattle.c_rules.proofs.lemmas.Resolved.{some_same}
use Rattle.c_rules.proofs.lemmas.NamedPlaces.{above, within}

field_from-None : (i : ℕ) (fields : List FieldTree) (name : List ℕ) →
    position_from (bytes_eq name) i (map (λ f. f.name) fields) ≡ None → field_from i fields name ≡ None
field_from-None i [] name e = refl
field_from-None i (f ∷ fs) name e = by (bytes_eq name f.name) (bytes_eq-sym f.name name) e (λ later. field_from-None (i + 1) fs name later)
  where
    by : (b : Bool) → bytes_eq f.name name ≡ b →
        cond b (Some i) (position_from (bytes_eq name) (i + 1) (map (λ g. g.name) fs)) ≡ None →
        (position_from (bytes_eq name) (i + 1) (map (λ g. g.name) fs) ≡ None → field_from (i + 1) fs name ≡ None) →
        field_from i (f ∷ fs) name ≡ None
    by true is there later = cc
    by false is there later = ap (λ b. if b then Some (i, f.kind) else field_from (i + 1) fs name) is ∙ later there

field_from-Some : (i : ℕ) (fields : List FieldTree) (name : List ℕ) (p n : ℕ) (f : FieldTree) → p ≡ i + n →
    position_from (bytes_eq name) i (map (λ g. g.name) fields) ≡ Some p → slice_get fields n ≡ Some f →
    field_from i fields name ≡ Some (p, f.kind)
field_from-Some i [] name p n f place e there = cc
field_from-Some i (g ∷ gs) name p zero f place e there = by (bytes_eq name g.name) (bytes_eq-sym g.name name) e
  where
    by : (b : Bool) → bytes_eq g.name name ≡ b →
        cond b (Some i) (position_from (bytes_eq name) (i + 1) (map (λ h. h.name) gs)) ≡ Some p →
        field_from i (g ∷ gs) name ≡ Some (p, f.kind)
    by true is same = ap (λ b. if b then Some (i, g.kind) else field_from (i + 1) gs name) is
        ∙ ap (λ k. Some (k, g.kind)) (some_same i p same) ∙ ap (λ h. Some (p, h.kind)) (some_same g f there)
    by false is same = absurd (omega (arith, place, above (bytes_eq name) (i + 1) (map (λ h. h.name) gs) p same))
field_from-Some i (g ∷ gs) name p (suc n) f place e there =
    by (bytes_eq name g.name) (bytes_eq-sym g.name name) e
    (λ later. field_from-Some (i + 1) gs name p n f (omega (arith, place)) later there)
  where
    by : (b : Bool) → bytes_eq g.name name ≡ b →
        cond b (Some i) (position_from (bytes_eq name) (i + 1) (map (λ h. h.name) gs)) ≡ Some p →
        (position_from (bytes_eq name) (i + 1) (map (λ h. h.name) gs) ≡ Some p →
        field_from (i + 1) gs name ≡ Some (p, f.kind)) → field_from i (g ∷ gs) name ≡ Some (p, f.kind)
    by true is same later = absurd (omega (arith, place, some_same i p same))
    by false is same later = ap (λ b. if b then Some (i, g.kind) else field_from (i + 1) gs name) is ∙ later same

-- a field that is not among the names
pub unnamed : (fields : List FieldTree) (name : List ℕ) →
    position_from (bytes_eq name) 0 (map (λ f. f.name) fields) ≡ None → field_named fields name ≡ Err Name
unnamed fields name e = ap or_unnamed (field_from-None 0 fields name e)

-- the field at the place of its name
pub named : (fields : List FieldTree) (name : List ℕ) (p : ℕ) (f : FieldTree) →
    position_from (bytes_eq name) 0 (map (λ g. g.name) fields) ≡ Some p → slice_get fields p ≡ Some f →
    field_named fields name ≡ Ok (p, f.kind)
named fields name p f e there = ap or_unnamed (field_from-Some 0 fields name p p f (omega arith) e there)

-- an element of a list, through a map
pub slice_get-map_at : {A B : Type 0} (f : A → B) (xs : List A) (k : ℕ) (x : A) → k < length xs → x ≡ get_or xs k x →
    slice_get (map f xs) k ≡ Some (f x)
slice_get-map_at f [] k x there here = absurd (omega (arith, there))
slice_get-map_at f (y ∷ xs) zero x there here = ap (λ z. Some (f z)) (sym here)
slice_get-map_at f (y ∷ xs) (suc k) x there here = slice_get-map_at f xs k x (omega (arith, there)) here

length-names : (fields : List Field) → length (map (λ f. f.name) (field_trees fields)) ≡ length fields
length-names [] = refl
length-names (f ∷ fs) = ap suc (length-names fs)

-- the place of a name is that of a field
pub within-fields : (fields : List Field) (name : List ℕ) (p : ℕ) →
    position_from (bytes_eq name) 0 (map (λ f. f.name) (field_trees fields)) ≡ Some p → p < length fields
within-fields fields name p e = omega (arith, within (bytes_eq name) 0 (map (λ f. f.name) (field_trees fields)) p e, length-names fields)
