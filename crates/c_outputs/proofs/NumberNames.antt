-- The names of the number fields, one field after another.
use Rattle.std.proofs.Common.{◌≡◌, refl, sym, ◌∙◌, ap, ℕ, ◌+◌, ◌<◌, Bool, true, false, cond, List, [], ◌∷◌, ◌++◌, length, map, filter, take, get_or}
use Rattle.std.proofs.lemmas.List.{map-append, take_more}
use Rattle.c_syntax.specs.declared.program.Field.{Field}
use Rattle.c_syntax.specs.PlainField.{field_tree, field_trees}
use Rattle.c_syntax.specs.Tree.{FieldTree}
use Rattle.c_syntax.specs.RootFields.{is_number, number_names}

number_names-append : (xs ys : List FieldTree) → number_names (xs ++ ys) ≡ number_names xs ++ number_names ys
number_names-append [] ys = refl
number_names-append (x ∷ xs) ys = by (is_number x) (number_names-append xs ys)
  where
    by : (b : Bool) → number_names (xs ++ ys) ≡ number_names xs ++ number_names ys →
        map (λ (f : FieldTree). f.name) (cond b (x ∷ filter is_number (xs ++ ys)) (filter is_number (xs ++ ys)))
        ≡ map (λ (f : FieldTree). f.name) (cond b (x ∷ filter is_number xs) (filter is_number xs)) ++ number_names ys
    by true e = ap (λ ns. x.name ∷ ns) e
    by false e = e

-- the fields up to a place and that one
trees-up_to : (fields : List Field) (i : ℕ) (x : Field) → i < length fields →
    field_trees (take i fields) ++ field_tree (get_or fields i x) ∷ [] ≡ field_trees (take (i + 1) fields)
trees-up_to fields i x within =
    sym (map-append field_tree (take i fields) (get_or fields i x ∷ [])) ∙ ap (map field_tree) (sym (take_more fields i x within))

-- the names of the number fields up to a place and of that one
pub number_names-up_to : (fields : List Field) (i : ℕ) (x : Field) → i < length fields → x ≡ get_or fields i x →
    number_names (field_trees (take i fields)) ++ number_names (field_tree x ∷ [])
    ≡ number_names (field_trees (take (i + 1) fields))
number_names-up_to fields i x within here =
    sym (number_names-append (field_trees (take i fields)) (field_tree x ∷ []))
    ∙ ap (λ (f : Field). number_names (field_trees (take i fields) ++ field_tree f ∷ [])) here
    ∙ ap number_names (trees-up_to fields i x within)
