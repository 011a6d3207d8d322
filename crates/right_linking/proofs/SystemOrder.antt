-- The systems of a model are in the order of their rows, each once, and so a system's children after it.
use Rattle.std.specs.Prelude.{◌≡◌, ℕ, zero, suc, ◌+◌, ◌<◌, ◌≤◌, Bool, true, false, cond, ◌&&◌, List, ◌∷◌, map, filter, length, slice_get, Contains, Option, Some, None, refl}
use Rattle.std.specs.List.{range_with_len}
use Rattle.std.proofs.Common.{sym, ap, subst, ◌∙◌, arith, inl, inr}
use Rattle.std.proofs.lemmas.Bool.{cases_lt}
use Rattle.diagram_meaning.specs.declared.table.Row.{Row}
use Rattle.diagram_meaning.specs.Rows.{row_at, row_numbers, rows_of, subsystems_of, is_inside}
use Rattle.diagram_blocks.specs.Kinds.{is_subsystem}
use Rattle.diagram_meaning.specs.WellFormed.{IsNested, IsOwner}
use Rattle.modules_profile.specs.Systems.{systems, systems_inside}
use Rattle.modules_profile.proofs.lemmas.Members.{in-rest, in-map, in-filter, of-filter, in-range, of-range, in-at, at-in, map-at}
use Rattle.modules_profile.proofs.lemmas.OwnRows.{of-rows}

-- the root comes first
abbrev pub rank : Option ℕ → ℕ
rank None = 0
rank (Some e) = suc e

-- ---- Numbers that are kept of a row of numbers rise

kept-above : (test : ℕ → Bool) (a n k x : ℕ) → slice_get (filter test (range_with_len a n)) k ≡ Some x → a ≤ x
kept-above test a n k x at = (of-range a n x (of-filter test (range_with_len a n) x (in-at (filter test (range_with_len a n)) k x at)).0).0

kept-rise : (test : ℕ → Bool) (a n i j x y : ℕ) → slice_get (filter test (range_with_len a n)) i ≡ Some x →
    slice_get (filter test (range_with_len a n)) j ≡ Some y → i < j → x < y
kept-rise test a zero i j x y first second less = absurd (let wrong : ⊥ = cc first in wrong)
kept-rise test a (suc n) i j x y first second less =
    by (test a) i j first second less (λ k l one two below. kept-rise test (a + 1) n k l x y one two below)
  where
    by : (t : Bool) (i j : ℕ) →
        slice_get (cond t (a ∷ filter test (range_with_len (a + 1) n)) (filter test (range_with_len (a + 1) n))) i
        ≡ Some x →
        slice_get (cond t (a ∷ filter test (range_with_len (a + 1) n)) (filter test (range_with_len (a + 1) n))) j ≡ Some y → i < j →
        ((k l : ℕ) → slice_get (filter test (range_with_len (a + 1) n)) k ≡ Some x →
        slice_get (filter test (range_with_len (a + 1) n)) l ≡ Some y → k < l → x < y) → x < y
    by false i j first second less later = later i j first second less
    by true i zero first second less later = absurd (omega arith)
    by true zero (suc j) first second less later =
        let same : a ≡ x = cc first in let above = kept-above test (a + 1) n j y second in omega arith
    by true (suc i) (suc j) first second less later = later i j first second (omega arith)

-- ---- Systems

systems-rise : (rows : List Row) (i j : ℕ) (s t : Option ℕ) → slice_get (systems rows) i ≡ Some s → slice_get (systems rows) j ≡ Some t →
    i < j → rank s < rank t
systems-rise rows i zero s t first second less = absurd (omega arith)
systems-rise rows zero (suc j) s t first second less =
    let found = map-at Some (systems_inside rows None) j t second in
    let root : None ≡ s = cc first in
    subst (λ o. rank o < rank t) root (subst (λ o. 0 < rank o) found.2 (omega arith))
systems-rise rows (suc i) (suc j) s t first second less =
    let one = map-at Some (systems_inside rows None) i s first in
    let two = map-at Some (systems_inside rows None) j t second in
    let rise =
    kept-rise (λ e. is_subsystem (row_at rows e).kind && is_inside rows None e) 0
    (length rows) i j one.0 two.0 one.1 two.1 (omega arith) in
    subst (λ o. rank o < rank t) one.2 (subst (λ o. suc one.0 < rank o) two.2 (omega arith))

-- what comes later has the higher rank, and the other way round
pub stands-later : (rows : List Row) (i j : ℕ) (s t : Option ℕ) → slice_get (systems rows) i ≡ Some s →
    slice_get (systems rows) j ≡ Some t →
    rank s < rank t → i < j
stands-later rows i j s t first second less = elim (cases_lt i j) [
  | inl before ↦ before
  | inr not_before ↦ absurd (by not_before)
]
  where
    by : j ≤ i → ⊥
    by below = elim (cases_lt j i) [
      | inl behind ↦ let rise = systems-rise rows j i t s second first behind in omega arith
      | inr not_behind ↦
          let same : i ≡ j = omega arith in
          let one : Some s ≡ Some t = sym first ∙ ap (slice_get (systems rows)) same ∙ second in
          let equal : s ≡ t = cc one in
          let ranks : rank s ≡ rank t = ap rank equal in omega arith
    ]

-- no system is at two places
pub stands-once : (rows : List Row) (i j : ℕ) (s : Option ℕ) → slice_get (systems rows) i ≡ Some s →
    slice_get (systems rows) j ≡ Some s → i ≡ j
stands-once rows i j s first second = elim (cases_lt i j) [
  | inl before ↦ absurd (let rise = systems-rise rows i j s s first second before in omega arith)
  | inr not_before ↦ elim (cases_lt j i) [
    | inl behind ↦ absurd (let rise = systems-rise rows j i s s second first behind in omega arith)
    | inr not_behind ↦ omega arith
  ]
]

-- ---- Children

and-all : (b : Bool) → b ≡ true → (b && true) ≡ true
and-all true e = refl
and-all false e = e

owner-before : (rows : List Row) (e : ℕ) (s : Option ℕ) → IsOwner rows e s → rank s < suc e
owner-before rows e None owns = omega arith
owner-before rows e (Some f) owns = let before = owns.0 in omega arith

-- a child is at some place, after the system around it
pub child-later : (rows : List Row) (place : ℕ) (s : Option ℕ) (e : ℕ) → IsNested rows → slice_get (systems rows) place ≡ Some s →
    Contains (subsystems_of rows s) e → (k : ℕ) × (place < k) × (slice_get (systems rows) k ≡ Some (Some e))
child-later rows place s e nested at child =
    let is = of-filter (λ c. is_subsystem (row_at rows c).kind) (rows_of rows s) e child in
    let own = of-rows rows s e is.0 in
    let inside : Contains (systems_inside rows None) e =
    in-filter (λ c. is_subsystem (row_at rows c).kind && is_inside rows None c) (row_numbers rows) e
    (in-range 0 (length rows) e (omega arith) (let below = own.0 in omega arith)) (and-all (is_subsystem (row_at rows e).kind) is.1) in
    let stands =
    at-in (systems rows) (Some e)
    (in-rest None (Some e) (map Some (systems_inside rows None))
    (in-map Some (systems_inside rows None) e inside)) in
    let owns = subst (IsOwner rows e) own.1 (nested.owned e own.0) in
    (stands.0, stands-later rows place stands.0 s (Some e) at stands.1 (owner-before rows e s owns), stands.1)
