-- The own rows of a system, one after another, and the systems directly inside it beside them.
use Rattle.std.proofs.Common.{◌≡◌, ℕ, zero, suc, ◌<◌, Bool, true, false, cond, List, [], ◌∷◌, map, filter, take, length, get_or, Option, Some, sym, ap, subst, ◌∙◌, arith}
use Rattle.std.specs.Prelude.{slice_get}
use Rattle.std.proofs.lemmas.List.{length-map, get_or-map}
use Rattle.std.proofs.lemmas.List.Elements.{Contains-get_or}
use Rattle.std.proofs.lemmas.Option.{same_Some}
use Rattle.diagram_blocks.specs.Kinds.{is_subsystem}
use Rattle.diagram_meaning.specs.declared.table.Row.{Row}
use Rattle.diagram_meaning.specs.Nested.{System, row_of, Agrees}
use Rattle.diagram_meaning.specs.Rows.{row_at, rows_of, subsystems_of}
use Rattle.modules_profile.specs.Systems.{own_of, children_of}
use Rattle.modules_profile.proofs.lemmas.Members.{at-map, at-below}
use Rattle.modules_profile.proofs.lemmas.PortRows.{of-rows}
use Rattle.modules_profile.proofs.lemmas.SystemsInside.{agreed-heads, agreed-child}
use Rattle.lustre_system_nodes.specs.declared.own_rows.OwnRow.{OwnRow}
use Rattle.lustre_system_nodes.specs.OwnRows.{own_row}
use Rattle.lustre_system_nodes.proofs.Agreed.{agreed-own}

-- the place of a member that passes, among those that pass
passing-at : {A : Type 0} (p : A → Bool) (xs : List A) (i : ℕ) (d : A) → i < length xs → p (get_or xs i d) ≡ true →
    slice_get (filter p xs) (length (filter p (take i xs))) ≡ Some (get_or xs i d)
passing-at p [] i d below passes = absurd (omega (arith, below))
passing-at p (x ∷ xs) zero d below passes = ap (λ t. slice_get (cond t (x ∷ filter p xs) (filter p xs)) 0) passes
passing-at p (x ∷ xs) (suc i) d below passes = by (p x) (passing-at p xs i d (omega (arith, below)) passes)
  where
    by : (t : Bool) → slice_get (filter p xs) (length (filter p (take i xs))) ≡ Some (get_or xs i d) →
        slice_get (cond t (x ∷ filter p xs) (filter p xs))
        (length (cond t (x ∷ filter p (take i xs)) (filter p (take i xs)))) ≡ Some (get_or xs i d)
    by true later = later
    by false later = later

module _ (rows : List Row) where
  abbrev pub inside : ℕ → Bool
  inside b = is_subsystem (row_at rows b).kind

  -- the first own rows, of which so many are subsystems
  pub record AreFirst (own : List ℕ) (i : ℕ) (list : List OwnRow) (place : ℕ) : Type 0 where
    pub made : list ≡ map (own_row rows) (take i own)
    pub counted : place ≡ length (filter inside (take i own))

  -- the system of the own row at a place, where that is a subsystem
  module _ (s : System) (agrees : Agrees rows s) (own : List ℕ) (are : own ≡ own_of s) (i : ℕ) (list : List OwnRow) (place : ℕ)
      (below : i < length own) (is : inside (get_or own i 0) ≡ true) (first : AreFirst own i list place) where
    abbrev b : ℕ
    b = get_or own i 0

    subsystem-at : slice_get (subsystems_of rows (row_of s)) place ≡ Some b
    subsystem-at = ap (λ own. slice_get (filter inside own) place) (sym (are ∙ agreed-own rows s agrees))
        ∙ ap (slice_get (filter inside own)) first.counted ∙ passing-at inside own i 0 below is

    head-at : slice_get (map row_of (children_of s)) place ≡ Some (Some b)
    head-at = ap (λ heads. slice_get heads place) (agreed-heads rows s agrees)
        ∙ at-map Some (subsystems_of rows (row_of s)) place b subsystem-at

    pub child-there : place < length (children_of s)
    child-there =
        let many = length-map (children_of s) row_of in
        let there = at-below (map row_of (children_of s)) place (Some b) head-at in
        omega (arith, many, there)

    pub child-agrees : (c : System) → slice_get (children_of s) place ≡ Some c → Agrees rows c
    child-agrees c at = agreed-child rows s place c agrees at

    pub child-row : (c : System) → slice_get (children_of s) place ≡ Some c → row_of c ≡ Some b
    child-row c at = same_Some (row_of c) (Some b) (sym (at-map row_of (children_of s) place c at) ∙ head-at)

  -- the row at a place
  module _ (o : Option ℕ) (items : List OwnRow) (i : ℕ) (x : OwnRow) (are : items ≡ map (own_row rows) (rows_of rows o))
      (below : i < length items) (read : x ≡ get_or items i x) where
    there : i < length (rows_of rows o)
    there = let many = ap length are ∙ length-map (rows_of rows o) (own_row rows) in omega (arith, below, many)

    own-row : x ≡ own_row rows (get_or (rows_of rows o) i 0)
    own-row = read ∙ ap (λ (l : List OwnRow). get_or l i x) are ∙ get_or-map (own_row rows) (rows_of rows o) i 0 x there

    is-row : x.row ≡ get_or (rows_of rows o) i 0
    is-row = ap (λ (r : OwnRow). r.row) own-row

    pub row-is : x ≡ own_row rows x.row
    row-is = own-row ∙ ap (own_row rows) (sym is-row)

    pub row-inside : x.row < length rows
    row-inside =
        subst (λ b. b < length rows) (sym is-row)
        (of-rows rows o (get_or (rows_of rows o) i 0) (Contains-get_or (rows_of rows o) i 0 there)).0
