-- Comparing two subsystems place by place.
use Rattle.std.specs.Prelude.{◌≡◌, ℕ, zero, suc, ◌+◌, ◌-◌, ◌<◌, List, [], ◌∷◌, drop, map, length, slice_index_or}
use Rattle.std.specs.List.{AllZip, range_with_len}
use Rattle.std.proofs.Common.{refl, sym, ◌∙◌, ap, subst, arith, inl, inr}
use Rattle.std.proofs.lemmas.Bool.{cases_lt}
use Rattle.base_fixed_point.specs.declared.FixType.{FixType}
use Rattle.diagram_meaning.specs.Diagram.{Diagram}
use Rattle.diagram_same.specs.Compared.{ArePlacedAlike, ComputeAlike, HaveEqualControls}
use Rattle.diagram_same.specs.Interiors.{IsInterior}
use Rattle.diagram_same.specs.Same.{AreAlike, AreSame, rows_inside}
use Rattle.diagram_same.proofs.lemmas.Zips.{long-zip}

-- ---- Lists

-- R holds of the first k items of two lists, place by place
abbrev pub AreFirst : (ℕ → ℕ → Type 0) → (xs ys : List ℕ) → ℕ → Type 0
AreFirst R xs ys k = (j : ℕ) → j < k → R (slice_index_or xs j 0) (slice_index_or ys j 0)

pub first-more : (R : ℕ → ℕ → Type 0) (xs ys : List ℕ) (k : ℕ) → AreFirst R xs ys k → R (slice_index_or xs k 0) (slice_index_or ys k 0) →
    AreFirst R xs ys (k + 1)
first-more R xs ys k first here j less = elim (cases_lt j k) [
  | inl before ↦ first j before
  | inr last ↦ subst (λ j. R (slice_index_or xs j 0) (slice_index_or ys j 0)) (omega (arith, last, less)) here
]

pub zip-first : (R : ℕ → ℕ → Type 0) (xs ys : List ℕ) → length xs ≡ length ys → AreFirst R xs ys (length xs) → AllZip R xs ys
zip-first R [] [] same each = tt
zip-first R [] (y ∷ ys) same each = absurd (omega (arith, same))
zip-first R (x ∷ xs) [] same each = absurd (omega (arith, same))
zip-first R (x ∷ xs) (y ∷ ys) same each =
    (each 0 (omega arith), zip-first R xs ys (omega (arith, same)) (λ j less. each (suc j) (omega (arith, less))))

pub map-first : (t : ℕ → FixType) (xs ys : List ℕ) → length xs ≡ length ys → AreFirst (λ x y. t x ≡ t y) xs ys (length xs) →
    map t xs ≡ map t ys
map-first t [] [] same each = refl
map-first t [] (y ∷ ys) same each = absurd (omega (arith, same))
map-first t (x ∷ xs) [] same each = absurd (omega (arith, same))
map-first t (x ∷ xs) (y ∷ ys) same each =
    ap (λ u. u ∷ map t xs) (each 0 (omega arith))
    ∙ ap (λ us. t y ∷ us) (map-first t xs ys (omega (arith, same)) (λ j less. each (suc j) (omega (arith, less))))

-- equal types of two lists are equal at each place
pub map-at : (t : ℕ → FixType) (xs ys : List ℕ) (k : ℕ) → map t xs ≡ map t ys → k < length xs → k < length ys →
    t (slice_index_or xs k 0) ≡ t (slice_index_or ys k 0)
map-at t [] ys k same in_xs in_ys = absurd (omega arith)
map-at t (x ∷ xs) [] k same in_xs in_ys = absurd (omega arith)
map-at t (x ∷ xs) (y ∷ ys) zero same in_xs in_ys = ap (λ l. slice_index_or l 0 (t x)) same
map-at t (x ∷ xs) (y ∷ ys) (suc k) same in_xs in_ys =
    map-at t xs ys k (ap (λ l. drop 1 l) same) (omega (arith, in_xs)) (omega (arith, in_ys))

-- equal lists of types are of equal length
pub map-long : (t : ℕ → FixType) (xs ys : List ℕ) → map t xs ≡ map t ys → length xs ≡ length ys
map-long t [] [] same = refl
map-long t [] (y ∷ ys) same = absurd (let wrong : ⊥ = cc same in wrong)
map-long t (x ∷ xs) [] same = absurd (let wrong : ⊥ = cc same in wrong)
map-long t (x ∷ xs) (y ∷ ys) same = ap suc (map-long t xs ys (ap (λ l. drop 1 l) same))

-- ---- Subsystems

module _ (d : Diagram) (e f a b : ℕ) (first : IsInterior d.rows e a) (second : IsInterior d.rows f b) where
  -- the rows inside both, place by place
  abbrev pub AreAlikeInside : Type 0
  AreAlikeInside = AllZip (AreAlike d e f) (range_with_len (e + 1) (a - (e + 1))) (range_with_len (f + 1) (b - (f + 1)))

  pub same-rows : AreSame d e f → AreAlikeInside
  same-rows same =
      subst (λ l. AllZip (AreAlike d e f) l (range_with_len (f + 1) (b - (f + 1)))) first.is_range
      (subst (AllZip (AreAlike d e f) (rows_inside d.rows e)) second.is_range same.rows)

  pub same-counts : AreSame d e f → a - e ≡ b - f
  same-counts same =
      let long = long-zip (AreAlike d e f) (e + 1) (f + 1) (a - (e + 1)) (b - (f + 1)) (same-rows same) in
      let late = first.late in
      let also = second.late in
      omega (arith, long, late, also)

  pub same-from : HaveEqualControls d e f → AreAlikeInside → AreSame d e f
  same-from controls alike = record {
    rows = subst (λ l. AllZip (AreAlike d e f) l (rows_inside d.rows f)) (sym first.is_range)
        (subst (AllZip (AreAlike d e f) (range_with_len (e + 1) (a - (e + 1)))) (sym second.is_range) alike);
    control = controls.0;
    control_types = controls.1;
  }

-- what is compared of two rows is all that makes them alike
pub alike-from : (d : Diagram) (e f b c : ℕ) → ComputeAlike d b c → ArePlacedAlike d e f b c → AreAlike d e f b c
alike-from d e f b c computes placed = record {
  op = computes.0;
  role = computes.1;
  type = computes.2;
  time = computes.3;
  inputs = placed.1;
  owner = placed.0;
}

pub alike-computes : (d : Diagram) (e f b c : ℕ) → AreAlike d e f b c → ComputeAlike d b c
alike-computes d e f b c alike = (alike.op, alike.role, alike.type, alike.time)

pub alike-placed : (d : Diagram) (e f b c : ℕ) → AreAlike d e f b c → ArePlacedAlike d e f b c
alike-placed d e f b c alike = (alike.owner, alike.inputs)
