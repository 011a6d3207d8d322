-- How deep a system is nested: a child is one level deeper, and no system is deeper than 32.
use Rattle.std.specs.Prelude.{◌≡◌, ℕ, zero, suc, ◌+◌, ◌≤◌, List, length, slice_get, Contains, Option, Some, None}
use Rattle.std.proofs.Common.{refl, sym, ap, subst, ◌∙◌, arith}
use Rattle.diagram_meaning.specs.declared.table.Row.{Row}
use Rattle.diagram_meaning.specs.Rows.{subsystems_of, outward, enclosing, around}
use Rattle.diagram_meaning.specs.WellFormed.{IsNested, IsOwner}
use Rattle.diagram_meaning.proofs.lemmas.Enclosing.{enclosing-step}
use Rattle.modules_profile.specs.declared.ChildUse.{ChildUse}
use Rattle.modules_profile.specs.SystemHeader.{SystemHeader}
use Rattle.modules_profile.specs.Locals.{child_use}
use Rattle.modules_profile.proofs.lemmas.Members.{of-map, number-of}
use Rattle.modules_profile.proofs.lemmas.PortRows.{of-subsystems}
use Rattle.right_linking.specs.Parts.{Parts, diagram, all_systems, Views}

abbrev pub level : List Row → Option ℕ → ℕ
level rows None = 0
level rows (Some e) = suc (length (around rows None e))

around-owner : (rows : List Row) (o : Option ℕ) (n e : ℕ) → IsNested rows → n ≡ length rows → IsOwner rows e o → e ≤ length rows →
    length (outward rows None n o) ≡ level rows o
around-owner rows None zero e nested many owner below = refl
around-owner rows None (suc n) e nested many owner below = refl
around-owner rows (Some f) n e nested many owner below =
    let less = owner.0 in
    ap (λ k. length (outward rows None k (Some f))) many ∙ ap length (enclosing-step rows None nested f (omega (arith, less, below)))

module _ (a : Parts) (v : Views a) (place : ℕ) (s : Option ℕ) (stands : slice_get (all_systems a) place ≡ Some s) where
  nested : IsNested (diagram a).rows
  nested = a.can.resolved.tree.table.nested

  -- the row of a child
  child-row : (u : ChildUse) → Contains (v.at s).local.children u →
      (e : ℕ) × (u.header.row ≡ Some e) × Contains (subsystems_of (diagram a).rows s) e
  child-row u has =
      let local = (v.each place s stands).local in
      let from = of-map (child_use (diagram a)) local.headers u (subst (λ l. Contains l.children u) local.is_local has) in
      let number = number-of (λ (h : SystemHeader). h.row) local.headers
      (subsystems_of (diagram a).rows s) from.0 local.are_headers.rows from.1 in
      (number.0, ap (λ (z : ChildUse). z.header.row) (sym from.2) ∙ number.2, number.1)

  pub child-level : (u : ChildUse) → Contains (v.at s).local.children u →
      (level (diagram a).rows u.header.row ≡ level (diagram a).rows s + 1) × (level (diagram a).rows u.header.row ≤ 32)
  child-level u has =
      let (e, row, among) = child-row u has in
      let own = of-subsystems (diagram a).rows s e among in
      let below = own.0 in
      let owner = subst (IsOwner (diagram a).rows e) own.1 (nested.owned e own.0) in
      let outer : length (around (diagram a).rows None e) ≡ level (diagram a).rows s =
      ap (λ o. length (enclosing (diagram a).rows None o)) own.1
      ∙ around-owner (diagram a).rows s (length (diagram a).rows) e nested refl owner (omega (arith, below)) in
      let deep = nested.not_deep e own.2 in
      let is = ap (level (diagram a).rows) row in
      (omega (arith, is, outer), omega (arith, is, deep))
