-- The values that a list has for names.
use Rattle.std.specs.Prelude.{◌≡◌, ℕ, suc, ◌+◌, ◌<◌, ◌≤◌, ℤ, true, List, [], ◌∷◌, ◌++◌, map, take, drop, length, slice_get, Contains, Option, Some, None, refl}
use Rattle.std.specs.List.{list_all}
use Rattle.std.proofs.Common.{sym, ap, ap₂, ◌∙◌, arith, length-append}
use Rattle.std.proofs.lemmas.Bool.{and_from}
use Rattle.std.proofs.lemmas.List.{drop_more, length-map}
use Rattle.std.proofs.lemmas.Option.{get_or_from_slice_get}
use Rattle.modules_profile.proofs.lemmas.Members.{in-at, below-at, at-left, at-right, at-map, map-at}
use Rattle.lustre_syntax.specs.Tree.{Declared, texts_of}
use Rattle.lustre_syntax.specs.Named.{NamedNode, all_names, place_of}
use Rattle.lustre_flows.specs.Values.{value_at}
use Rattle.lustre_flows.specs.Instances.{has_value}
use Rattle.lustre_rows.proofs.lemmas.NamePlaces.{AreApart, place-at}

pub map-twice : {A B C : Type 0} (f : A → B) (g : B → C) (xs : List A) → map g (map f xs) ≡ map (λ x. g (f x)) xs
map-twice f g [] = refl
map-twice {C = C} f g (x ∷ xs) = ap {B = List C} (λ ys. g (f x) ∷ ys) (map-twice f g xs)

-- names whose places follow each other have the values from there on
values-from : (texts : List (List ℕ)) (vs : List (Option ℤ)) (k : ℕ) (b : List (List ℕ)) →
    ((j : ℕ) (t : List ℕ) → slice_get b j ≡ Some t → place_of texts t ≡ k + j) → k + length b ≤ length vs →
    map (λ t. value_at vs (place_of texts t)) b ≡ take (length b) (drop k vs)
values-from texts vs k [] places few = refl
values-from texts vs k (t ∷ b) places few =
    let here : k + 0 ≡ k = omega arith in
    let first : value_at vs (place_of texts t) ≡ value_at vs k = ap (value_at vs) (places 0 t refl ∙ here) in
    let rest =
    values-from texts vs (k + 1) b (λ j u at. places (suc j) u at ∙ (let next : k + suc j ≡ k + 1 + j = omega arith in next))
    (omega arith) in
    ap₂ {C = List (Option ℤ)} (λ x xs. x ∷ xs) first rest
    ∙ ap (take (suc (length b))) (sym (drop_more vs k None (omega arith)))

module _ (n : NamedNode) where
  abbrev texts : List (List ℕ)
  texts = texts_of (all_names n)

  abbrev text_of : Declared → List ℕ
  text_of x = x.text

  pub names-count : length (all_names n) ≡ length n.inputs + (length n.outputs + length n.others)
  names-count =
      let all = length-append (n.inputs ++ n.outputs) n.others in
      let ports = length-append n.inputs n.outputs in omega arith

  pub inputs-named : (vs : List (Option ℤ)) → AreApart texts → length vs ≡ length (all_names n) →
      map (λ t. value_at vs (place_of texts t)) (texts_of n.inputs) ≡ take (length n.inputs) vs
  inputs-named vs apart many =
      let count = length-map n.inputs text_of in
      let all = names-count in
      values-from texts vs 0 (texts_of n.inputs)
      (λ j t at. let x = map-at text_of n.inputs j t at in
      place-at texts j t apart
      (at-map text_of (all_names n) j x.0
      (at-left (n.inputs ++ n.outputs) n.others j x.0 (at-left n.inputs n.outputs j x.0 x.1)) ∙ ap Some x.2)
      ∙ (let first : j ≡ 0 + j = omega arith in first)) (omega arith)
      ∙ ap (λ m. take m vs) count

  pub outputs-named : (vs : List (Option ℤ)) → AreApart texts → length vs ≡ length (all_names n) →
      map (λ t. value_at vs (place_of texts t)) (texts_of n.outputs) ≡ take (length n.outputs) (drop (length n.inputs) vs)
  outputs-named vs apart many =
      let count = length-map n.outputs text_of in
      let all = names-count in
      values-from texts vs (length n.inputs) (texts_of n.outputs)
      (λ j t at. let x = map-at text_of n.outputs j t at in
      place-at texts (length n.inputs + j) t apart
      (at-map text_of (all_names n) (length n.inputs + j) x.0
      (at-left (n.inputs ++ n.outputs) n.others (length n.inputs + j) x.0 (at-right n.inputs n.outputs j x.0 x.1)) ∙ ap Some x.2))
      (omega arith)
      ∙ ap (λ m. take m (drop (length n.inputs) vs)) count

-- ---- All values are there

valued : (v : Option ℤ) → (w : ℤ) × (v ≡ Some w) → has_value v ≡ true
valued v (w, is) = ap has_value is

pub valued-by_place : (vs : List (Option ℤ)) → ((k : ℕ) → k < length vs → (v : ℤ) × (value_at vs k ≡ Some v)) → list_all has_value vs ≡ true
valued-by_place [] each = refl
valued-by_place (v ∷ vs) each =
    and_from (has_value v) (list_all has_value vs) (valued v (each 0 (omega arith)))
    (valued-by_place vs (λ k low. each (suc k) (omega arith)))

pub valued-by_name : (texts : List (List ℕ)) (vs : List (Option ℤ)) → AreApart texts → length vs ≡ length texts →
    ((t : List ℕ) → Contains texts t → (v : ℤ) × (value_at vs (place_of texts t) ≡ Some v)) → list_all has_value vs ≡ true
valued-by_name texts vs apart many each =
    valued-by_place vs (λ k low. let (t, at) = below-at texts k (omega arith) in
    let (v, is) = each t (in-at texts k t at) in
    (v, ap (value_at vs) (sym (place-at texts k t apart at)) ∙ is))

pub valued-mapped : {A : Type 0} (f : A → Option ℤ) (xs : List A) → ((x : A) → Contains xs x → (v : ℤ) × (f x ≡ Some v)) →
    list_all has_value (map f xs) ≡ true
valued-mapped f xs each = valued-by_place (map f xs) (λ k low. let (y, at) = below-at (map f xs) k low in
    let x = map-at f xs k y at in
    let (v, is) = each x.0 (in-at xs k x.0 x.1) in
    (v, get_or_from_slice_get (map f xs) k y None at ∙ sym x.2 ∙ is))
