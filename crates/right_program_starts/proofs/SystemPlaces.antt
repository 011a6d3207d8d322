-- Each system is at one place, its children after it, and they are the subsystems of its rows.
use Rattle.std.specs.Prelude.{◌≡◌, ℕ, zero, suc, ◌+◌, ◌<◌, Bool, true, false, cond, ◌&&◌, List, ◌∷◌, map, filter, length, slice_get, Contains, Option, Some, None, refl}
use Rattle.std.specs.List.{range_with_len}
use Rattle.std.proofs.Common.{sym, ap, ◌∙◌, arith}
use Rattle.std.proofs.lemmas.Option.{same_Some, none-some}
use Rattle.diagram_meaning.specs.declared.table.Row.{Row}
use Rattle.diagram_meaning.specs.Rows.{row_at, is_inside, same_system, subsystems_of}
use Rattle.diagram_blocks.specs.Kinds.{is_subsystem}
use Rattle.diagram_meaning.specs.WellFormed.{IsNested}
use Rattle.diagram_meaning.proofs.lemmas.RestsOnNeeds.{same_system-equal}
use Rattle.modules_profile.specs.declared.ChildUse.{ChildUse}
use Rattle.modules_profile.specs.LocalSystem.{LocalSystem}
use Rattle.modules_profile.specs.Locals.{child_use}
use Rattle.modules_profile.specs.Systems.{systems, systems_inside}
use Rattle.modules_profile.proofs.lemmas.Members.{in-rest, in-map, of-range, of-filter, in-at, map-at}
use Rattle.right_linking.specs.Parts.{Parts, diagram, all_systems, IsChildBehind, Views}
use Rattle.right_program_starts.proofs.Everywhere.{member, map-map}
use Rattle.right_program_starts.proofs.NestedRows.{of-inside, in-inside}

-- ---- A number that is kept of a row of numbers is at one place

kept-once : (test : ℕ → Bool) (a n i j x : ℕ) → slice_get (filter test (range_with_len a n)) i ≡ Some x →
    slice_get (filter test (range_with_len a n)) j ≡ Some x → i ≡ j
kept-once test a zero i j x first second = absurd (none-some x first)
kept-once test a (suc n) i j x first second = by (test a) i j first second (λ k l one two. kept-once test (a + 1) n k l x one two)
  where
    rest : List ℕ
    rest = filter test (range_with_len (a + 1) n)

    not-later : (k : ℕ) → a ≡ x → slice_get rest k ≡ Some x → ⊥
    not-later k here there =
        let low = (of-range (a + 1) n x (of-filter test (range_with_len (a + 1) n) x (in-at rest k x there)).0).0 in omega
        (arith, here, low)

    by : (t : Bool) (i j : ℕ) → slice_get (cond t (a ∷ rest) rest) i ≡ Some x → slice_get (cond t (a ∷ rest) rest) j ≡ Some x →
        ((k l : ℕ) → slice_get rest k ≡ Some x → slice_get rest l ≡ Some x → k ≡ l) → i ≡ j
    by false i j first second later = later i j first second
    by true zero zero first second later = refl
    by true zero (suc j) first second later = absurd (not-later j (same_Some a x first) second)
    by true (suc i) zero first second later = absurd (not-later i (same_Some a x second) first)
    by true (suc i) (suc j) first second later = ap suc (later i j first second)

stands-once : (rows : List Row) (i j : ℕ) (s : Option ℕ) → slice_get (systems rows) i ≡ Some s → slice_get (systems rows) j ≡ Some s → i ≡ j
stands-once rows i j s first second = by i j first second
  where
    not-root : (k : ℕ) → None ≡ s → slice_get (map Some (systems_inside rows None)) k ≡ Some s → ⊥
    not-root k root at =
        let found = map-at Some (systems_inside rows None) k s at in
        none-some found.0 (root ∙ sym found.2)

    by : (i j : ℕ) → slice_get (systems rows) i ≡ Some s → slice_get (systems rows) j ≡ Some s → i ≡ j
    by zero zero first second = refl
    by zero (suc j) first second = absurd (not-root j (same_Some None s first) second)
    by (suc i) zero first second = absurd (not-root i (same_Some None s second) first)
    by (suc i) (suc j) first second =
        let one = map-at Some (systems_inside rows None) i s first in
        let two = map-at Some (systems_inside rows None) j s second in
        let same : one.0 ≡ two.0 = same_Some one.0 two.0 (one.2 ∙ sym two.2) in
        ap suc (kept-once (λ e. is_subsystem (row_at rows e).kind && is_inside rows None e) 0 (length rows) i j two.0
        (one.1 ∙ ap Some same) two.1)

module _ (a : Parts) where
  pub nested : IsNested (diagram a).rows
  nested = a.can.resolved.tree.table.nested

  -- what comes after is another system
  pub others : (i j : ℕ) (s t : Option ℕ) → slice_get (all_systems a) i ≡ Some s → slice_get (all_systems a) j ≡ Some t → i < j →
      same_system t s ≡ false
  others i j s t first second less = by (same_system t s) refl
    where
      by : (b : Bool) → same_system t s ≡ b → b ≡ false
      by false e = refl
      by true e =
          let same = stands-once (diagram a).rows i j s first (second ∙ ap Some (same_system-equal t s e)) in
          absurd (omega (arith, same, less))

  -- a subsystem inside a system is one of all
  pub among-all : (n : Option ℕ) (e : ℕ) → Contains (systems_inside (diagram a).rows n) e → Contains (all_systems a) (Some e)
  among-all n e has =
      let is = of-inside (diagram a).rows n e has in
      in-rest None (Some e) (map Some (systems_inside (diagram a).rows None))
      (in-map Some (systems_inside (diagram a).rows None) e (in-inside (diagram a).rows None e is.0 is.1 refl))

  module _ (v : Views a) (place : ℕ) (s : Option ℕ) (stands : slice_get (all_systems a) place ≡ Some s) where
    pub child-behind : (u : ChildUse) → Contains (v.at s).local.children u → IsChildBehind a v.at place u
    child-behind u has = member (IsChildBehind a v.at place) (v.at s).local.children u (v.children place s stands) has

    -- the children are those of the subsystems in the system
    pub children-rows : map (λ (u : ChildUse). u.header.row) (v.at s).local.children ≡ map Some (subsystems_of (diagram a).rows s)
    children-rows =
        let known = v.each place s stands in
        ap (λ (l : LocalSystem). map (λ (u : ChildUse). u.header.row) l.children) known.local.is_local
        ∙ map-map (λ (u : ChildUse). u.header.row) (child_use (diagram a)) known.local.headers
        ∙ known.local.are_headers.rows
