-- One wire enters each Inport of a subsystem, and the wires are in the order of the Inports.
use Rattle.std.specs.Prelude.{◌≡◌, ℕ, zero, suc, ◌+◌, ◌<◌, true, List, [], ◌∷◌, ◌++◌, flat_map, length, slice_get, Option, Some, refl}
use Rattle.std.proofs.Common.{sym, ap, subst, ◌∙◌, arith, true≢false}
use Rattle.std.proofs.lemmas.List.{length-append}
use Rattle.std.proofs.lemmas.Option.{slice_get_within, none-some, same_Some}
use Rattle.diagram_blocks.specs.declared.Kind.{Kind}
use Rattle.diagram_blocks.specs.declared.Kind.TheVariants.{Inport}
use Rattle.diagram_meaning.specs.declared.table.Row.{Row}
use Rattle.diagram_meaning.specs.Rows.{row_at, inports_of}
use Rattle.diagram_blocks.specs.Kinds.{is_inport}
use Rattle.diagram_meaning.specs.Inputs.{entering_wires}
use Rattle.diagram_meaning.specs.WellFormed.{IsWired, HasPorts, wires_wanted}
use Rattle.diagram_meaning.proofs.lemmas.Ports.{ported-at}

-- the one of a list of one
pub single : (xs : List ℕ) → length xs ≡ 1 → (c : ℕ) × (xs ≡ c ∷ [])
single [] one = absurd (omega (arith, one))
single (c ∷ []) one = (c, refl)
single (c ∷ x ∷ xs) one = absurd (omega (arith, one))

-- ---- Pieces of one element each

module _ (f : ℕ → List ℕ) where
  -- each of these gives a piece of one element
  abbrev pub AreSingle : List ℕ → Type 0
  AreSingle is = (k i : ℕ) → slice_get is k ≡ Some i → length (f i) ≡ 1

  length-pieces : (is : List ℕ) → AreSingle is → length (flat_map f is) ≡ length is
  length-pieces [] one = refl
  length-pieces (i ∷ is) one =
      let here = one 0 i refl in
      let rest = length-pieces is (λ k j at. one (suc k) j at) in
      let both : length (flat_map f (i ∷ is)) ≡ length (f i) + length (flat_map f is) = length-append (f i) (flat_map f is) in
      omega (arith, here, rest, both)

  -- what is at a place is that of the piece there
  piece-at : (is : List ℕ) → AreSingle is → (k i : ℕ) → slice_get is k ≡ Some i →
      (c : ℕ) × (f i ≡ c ∷ []) × (slice_get (flat_map f is) k ≡ Some c)
  piece-at [] one k i at = absurd (none-some i at)
  piece-at (j ∷ is) one zero i at =
      let first = single (f j) (one 0 j refl) in
      (first.0, ap f (sym (same_Some j i at)) ∙ first.1, ap (λ ws. slice_get (ws ++ flat_map f is) 0) first.1)
  piece-at (j ∷ is) one (suc k) i at =
      let first = single (f j) (one 0 j refl) in
      let rest = piece-at is (λ m x h. one (suc m) x h) k i at in
      (rest.0, rest.1, ap (λ ws. slice_get (ws ++ flat_map f is) (suc k)) first.1 ∙ rest.2)

  at-piece : (is : List ℕ) → AreSingle is → (k c : ℕ) → slice_get (flat_map f is) k ≡ Some c →
      (i : ℕ) × (slice_get is k ≡ Some i) × (f i ≡ c ∷ [])
  at-piece [] one k c at = absurd (none-some c at)
  at-piece (j ∷ is) one zero c at =
      let first = single (f j) (one 0 j refl) in
      let same : first.0 ≡ c = same_Some first.0 c (sym (ap (λ ws. slice_get (ws ++ flat_map f is) 0) first.1) ∙ at) in
      (j, refl, first.1 ∙ ap (λ w. w ∷ []) same)
  at-piece (j ∷ is) one (suc k) c at =
      let first = single (f j) (one 0 j refl) in
      at-piece is (λ m x h. one (suc m) x h) k c (sym (ap (λ ws. slice_get (ws ++ flat_map f is) (suc k)) first.1) ∙ at)

-- ---- The wires of a subsystem

module _ (rows : List Row) (wired : IsWired rows) (e : ℕ) where
  -- one wire enters an Inport of it
  pub one-wire : (i : ℕ) → i < length rows → (row_at rows i).owner ≡ Some e → is_inport (row_at rows i).kind ≡ true →
      length (row_at rows i).inputs ≡ 1
  one-wire i below own is = wired.counts i below ∙ by (row_at rows i).kind (row_at rows i).owner is own
    where
      by : (kind : Kind) (o : Option ℕ) → is_inport kind ≡ true → o ≡ Some e → wires_wanted kind o ≡ 1
      by (Inport port) o is own = ap (wires_wanted (Inport port)) own
      by _ o is own = absurd (true≢false (sym is))

  module _ (ports : HasPorts rows is_inport (Some e)) where
    abbrev inports : List ℕ
    inports = inports_of rows (Some e)

    abbrev wires_of : ℕ → List ℕ
    wires_of i = (row_at rows i).inputs

    are-single : AreSingle wires_of inports
    are-single k i at =
        let found = ported-at rows is_inport (Some e) ports k (slice_get_within inports k i at) in
        let ported = found.2 in
        subst (λ b. length (wires_of b) ≡ 1) (same_Some found.0 i (sym found.1 ∙ at))
        (one-wire found.0 ported.in_table ported.is_own ported.passing)

    -- as many wires as Inports
    pub as-many : length (entering_wires rows (Some e)) ≡ length inports
    as-many = length-pieces wires_of inports are-single

    -- the wire of an Inport is at its place
    pub entering-at : (k i : ℕ) → slice_get inports k ≡ Some i →
        (c : ℕ) × (wires_of i ≡ c ∷ []) × (slice_get (entering_wires rows (Some e)) k ≡ Some c)
    entering-at k i at = piece-at wires_of inports are-single k i at

    -- and a wire at a place is that of the Inport there
    pub at-entering : (k c : ℕ) → slice_get (entering_wires rows (Some e)) k ≡ Some c →
        (i : ℕ) × (slice_get inports k ≡ Some i) × (wires_of i ≡ c ∷ [])
    at-entering k c at = at-piece wires_of inports are-single k c at
