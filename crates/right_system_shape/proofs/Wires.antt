-- A wire that has a source reads the place that the rules name.
use Rattle.std.specs.Prelude.{◌≡◌, refl, ℕ, suc, ◌+◌, Bool, true, false, ◌==◌, ◌||◌, cond, List, [], ◌∷◌, ◌++◌, map, flat_map, find, slice_get, Contains, Option, Some, None, ◌⊎◌}
use Rattle.std.specs.Option.{option_and_then}
use Rattle.std.specs.List.{list_any, position_from, enumerate_from}
use Rattle.std.proofs.Common.{sym, ap, subst, ◌∙◌, arith, inl, inr}
use Rattle.std.proofs.lemmas.Bool.{eqb-true, eq-eqb}
use Rattle.std.proofs.lemmas.Option.{same_Some, none-some}
use Rattle.base_fixed_point.specs.declared.types.FixType.{FixType}
use Rattle.modules_profile.specs.declared.local.ChildUse.{ChildUse}
use Rattle.modules_profile.specs.declared.local.LocalRow.{LocalRow}
use Rattle.modules_profile.specs.LocalSystem.{LocalSystem}
use Rattle.modules_profile.proofs.lemmas.Members.{found-in, finds}
use Rattle.emit_shape.specs.Rules.{has_output}
use Rattle.emit_system_spec.specs.declared.source.Source.{Source}
use Rattle.emit_system_spec.specs.Fields.{child_field}
use Rattle.emit_system_spec.specs.Sources.{output_source, child_sources, value_source}

-- ---- Searches

-- what is at a first place is what a search finds
at-first : {A : Type 0} (key : A → ℕ) (c i : ℕ) (xs : List A) →
    ((find (λ x. key x == c) xs ≡ None) × (position_from (λ k. k == c) i (map key xs) ≡ None))
    ⊎ ((x : A) × (j : ℕ) × (find (λ x. key x == c) xs ≡ Some x) × (position_from (λ k. k == c) i (map key xs) ≡ Some (i + j)) ×
    (slice_get xs j ≡ Some x))
at-first key c i [] = inl (refl, refl)
at-first {A} key c i (x ∷ xs) = by (key x == c) (at-first key c (i + 1) xs)
  where
    by : (t : Bool) → ((find (λ x. key x == c) xs ≡ None) × (position_from (λ k. k == c) (i + 1) (map key xs) ≡ None))
        ⊎ ((y : A) × (j : ℕ) × (find (λ x. key x == c) xs ≡ Some y) × (position_from (λ k. k == c) (i + 1) (map key xs)
        ≡ Some (i + 1 + j)) × (slice_get xs j ≡ Some y)) →
        ((cond t (Some x) (find (λ x. key x == c) xs) ≡ None) × (cond t (Some i) (position_from (λ k. k == c) (i + 1) (map key xs)) ≡ None))
        ⊎ ((y : A) × (j : ℕ) × (cond t (Some x) (find (λ x. key x == c) xs) ≡ Some y) ×
        (cond t (Some i) (position_from (λ k. k == c) (i + 1) (map key xs)) ≡ Some (i + j)) × (slice_get (x ∷ xs) j ≡ Some y))
    by true rest = inr (x, 0, refl, ap Some (let stay : i ≡ i + 0 = omega arith in stay), refl)
    by false (inl none) = inl none
    by false (inr (y, j, found, place, at)) =
        inr (y, suc j, found, place ∙ ap Some (let next : i + 1 + j ≡ i + suc j = omega arith in next), at)

pub get-first : {A : Type 0} (key : A → ℕ) (c : ℕ) (xs : List A) → option_and_then (slice_get xs)
    (position_from (λ k. k == c) 0 (map key xs)) ≡ find (λ x. key x == c) xs
get-first key c xs = elim (at-first key c 0 xs) [
  | inl none ↦ ap (option_and_then (slice_get xs)) none.1 ∙ sym none.0
  | inr there ↦ ap (option_and_then (slice_get xs)) there.3 ∙ ap (slice_get xs) (let same : 0 + there.1 ≡ there.1 = omega arith in same)
      ∙ there.4 ∙ sym there.2
]

abbrev pub or_else : {A : Type 0} → Option A → Option A → Option A
or_else None later = later
or_else (Some x) later = Some x

pub find-append : {A : Type 0} (p : A → Bool) (xs ys : List A) → find p (xs ++ ys) ≡ or_else (find p xs) (find p ys)
find-append p [] ys = refl
find-append p (x ∷ xs) ys = by (p x) (find-append p xs ys)
  where
    by : (t : Bool) → find p (xs ++ ys) ≡ or_else (find p xs) (find p ys) → cond t (Some x) (find p (xs ++ ys))
        ≡ or_else (cond t (Some x) (find p xs)) (find p ys)
    by true e = refl
    by false e = e

-- ---- Outputs of children

-- an output of this row, numbered from i on
pub record FoundOutput (f c i : ℕ) (outputs : List (ℕ × FixType)) (found : Option Source) : Type 0 where
  pub place : ℕ
  pub output : ℕ × FixType
  pub is : found ≡ Some (output_source f (i + place, output))
  pub at : slice_get outputs place ≡ Some output
  pub row : output.0 ≡ c

abbrev OutputFound : ℕ → ℕ → ℕ → List (ℕ × FixType) → Bool → Option Source → Type 0
OutputFound f c i outputs true found = FoundOutput f c i outputs found
OutputFound f c i outputs false found = found ≡ None

output-found : (f c i : ℕ) (outputs : List (ℕ × FixType)) →
    OutputFound f c i outputs (list_any (λ o. o.0 == c) outputs)
    (find (λ (s : Source). s.row == c) (map (output_source f) (enumerate_from i outputs)))
output-found f c i [] = refl
output-found f c i (o ∷ outputs) = by (o.0 == c) refl (list_any (λ o. o.0 == c) outputs) (output-found f c (i + 1) outputs)
  where
    rest : Option Source
    rest = find (λ (s : Source). s.row == c) (map (output_source f) (enumerate_from (i + 1) outputs))

    by : (t : Bool) → (o.0 == c) ≡ t → (more : Bool) → OutputFound f c (i + 1) outputs more rest →
        OutputFound f c i (o ∷ outputs) (t || more) (cond t (Some (output_source f (i, o))) rest)
    by true e more h = record {
      place = 0;
      output = o;
      is = ap (λ j. Some (output_source f (j, o))) (let stay : i ≡ i + 0 = omega arith in
          stay);
      at = refl;
      row = eqb-true o.0 c e;
    }
    by false e true h = record {
      place = suc h.place;
      output = h.output;
      is = h.is ∙ ap (λ j. Some (output_source f (j, h.output)))
          (let next : i + 1 + h.place ≡ i + suc h.place = omega arith in next);
      at = h.at;
      row = h.row;
    }
    by false e false h = h

module _ (local : LocalSystem) (c : ℕ) where
  abbrev search : List Source → Option Source
  search xs = find (λ (s : Source). s.row == c) xs

  -- it is an output of the first child that has it
  pub record FoundChild (i : ℕ) (children : List ChildUse) (u : ChildUse) (found : Option Source) : Type 0 where
    pub place : ℕ
    pub at : slice_get children place ≡ Some u
    pub output : FoundOutput (child_field local (i + place)) c 0 u.header.outputs found

  abbrev pub ChildFound : ℕ → List ChildUse → Option ChildUse → Option Source → Type 0
  ChildFound i children (Some u) found = FoundChild i children u found
  ChildFound i children None found = found ≡ None

  pub child-found : (i : ℕ) (children : List ChildUse) → ChildFound i children (find (has_output c) children)
      (search (flat_map (child_sources local) (enumerate_from i children)))
  child-found i [] = refl
  child-found i (u ∷ children) =
      subst (ChildFound i (u ∷ children) (find (has_output c) (u ∷ children)))
      (sym (find-append (λ (s : Source). s.row == c) (child_sources local (i, u))
      (flat_map (child_sources local) (enumerate_from (i + 1) children))))
      (by (has_output c u) (search (child_sources local (i, u))) (output-found (child_field local i) c 0 u.header.outputs)
      (find (has_output c) children) (search (flat_map (child_sources local) (enumerate_from (i + 1) children)))
      (child-found (i + 1) children))
    where
      by : (t : Bool) (here : Option Source) → OutputFound (child_field local i) c 0 u.header.outputs t here →
          (more : Option ChildUse) (later : Option Source) → ChildFound (i + 1) children more later →
          ChildFound i (u ∷ children) (cond t (Some u) more) (or_else here later)
      by true here h more later k =
          subst (λ o. FoundChild i (u ∷ children) u (or_else o later)) (sym h.is) (record {
            place = 0;
            at = refl;
            output = record {
              place = h.place;
              output = h.output;
              is = ap (λ j. Some (output_source (child_field local j) (0 + h.place, h.output))) (let stay : i ≡ i + 0 = omega arith in
                  stay);
              at = h.at;
              row = h.row;
            };
          })
      by false here h None later k = subst (λ o. or_else o later ≡ None) (sym h) k
      by false here h (Some v) later k = subst (λ o. FoundChild i (u ∷ children) v (or_else o later)) (sym h) (record {
        place = suc k.place;
        at = k.at;
        output = subst (λ j. FoundOutput (child_field local j) c 0 v.header.outputs later) (let next : i + 1 + k.place ≡ i + suc k.place =
            omega arith in next) k.output;
      })

  -- ---- Own values

  pub own-found : (rows : List LocalRow) (r : LocalRow) → Contains rows r → r.row ≡ c →
      (p : LocalRow) × (search (map (value_source local) rows) ≡ Some (value_source local p)) × Contains rows p × (p.row ≡ c)
  own-found rows r h same =
      let there = finds (λ (q : LocalRow). q.row == c) rows r h (ap (λ k. k == c) same ∙ eq-eqb c c refl) in
      let found = found-in (λ (q : LocalRow). q.row == c) rows there.0 there.1 in
      (there.0, searched rows there.0 there.1, found.0, eqb-true there.0.row c found.1)
    where
      searched : (rows : List LocalRow) (p : LocalRow) → find (λ (q : LocalRow). q.row == c) rows ≡ Some p →
          search (map (value_source local) rows) ≡ Some (value_source local p)
      searched [] p e = absurd (none-some p e)
      searched (q ∷ rows) p e = by (q.row == c) e (searched rows p)
        where
          by : (t : Bool) → cond t (Some q) (find (λ (q : LocalRow). q.row == c) rows) ≡ Some p →
              (find (λ (q : LocalRow). q.row == c) rows ≡ Some p → search (map (value_source local) rows) ≡ Some (value_source local p)) →
              cond t (Some (value_source local q)) (search (map (value_source local) rows)) ≡ Some (value_source local p)
          by true e later = ap (λ x. Some (value_source local x)) (same_Some q p e)
          by false e later = later e
