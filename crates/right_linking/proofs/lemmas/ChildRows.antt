-- The children of a system are those of its subsystem rows, and each system inside it is one of them or inside one.
use Rattle.std.specs.Prelude.{◌≡◌, ℕ, ◌<◌, ◌&&◌, List, [], ◌∷◌, length, slice_get, Contains, Option, Some}
use Rattle.std.proofs.Common.{sym, ap, subst, ◌∙◌, arith, inl, inr}
use Rattle.std.proofs.lemmas.Bool.{and_from, and_parts}
use Rattle.diagram_meaning.specs.declared.table.Row.{Row}
use Rattle.diagram_meaning.specs.Rows.{row_at, row_numbers, is_inside, subsystems_of}
use Rattle.diagram_blocks.specs.Kinds.{is_subsystem}
use Rattle.diagram_meaning.specs.WellFormed.{IsNested}
use Rattle.modules_profile.specs.declared.ChildUse.{ChildUse}
use Rattle.modules_profile.specs.LocalSystem.{LocalSystem}
use Rattle.modules_profile.specs.SystemHeader.{SystemHeader}
use Rattle.modules_profile.specs.Locals.{child_use}
use Rattle.modules_profile.specs.Systems.{systems_inside}
use Rattle.modules_profile.proofs.lemmas.Members.{in-map, of-map, in-filter, of-filter, of-range, at-in}
use Rattle.modules_profile.proofs.lemmas.PortRows.{in-subsystems}
use Rattle.emit_shape.specs.Names.{child_name}
use Rattle.right_relation.proofs.lemmas.ChildTicks.{child-header}
use Rattle.right_claim.specs.Paths.{place_in, path_inside}
use Rattle.right_linking.specs.Parts.{Parts, program_of, diagram, all_systems, IsCodedAs, IsChildBehind, Views}
use Rattle.right_linking.proofs.SystemPlaces.{member}
use Rattle.right_linking.proofs.lemmas.SystemsUnder.{IsChildRow, inside-cases, under-inside, way-to-child, way-through-child}

module _ (a : Parts) (v : Views a) (place : ℕ) (n : Option ℕ) (stands : slice_get (all_systems a) place ≡ Some n) where
  abbrev pub rows : List Row
  rows = (diagram a).rows

  pub nested : IsNested rows
  nested = a.can.resolved.tree.table.nested

  abbrev pub children-of : List ChildUse
  children-of = (v.at n).local.children

  known : IsCodedAs a place n (v.at n)
  known = v.each place n stands

  -- a child is that of a row
  pub row-of-child : (u : ChildUse) → Contains children-of u → (e : ℕ) × (u.header.row ≡ Some e) × IsChildRow rows n e
  row-of-child u has =
      let made = of-map (child_use (diagram a)) known.local.headers u
      (subst (λ (l : LocalSystem). Contains l.children u) known.local.is_local has) in
      let child = child-header (diagram a) n known.local.headers known.local.are_headers made.0 made.1 in (
        child.row,
        ap (λ (w : ChildUse). w.header.row) (sym made.2)
            ∙ child.is_row,
        record { in_table = child.own.in_table; owner = child.own.own; subsystem = child.subsystem },
      )

  -- each such row has a child
  pub child-of-row : (e : ℕ) → IsChildRow rows n e → (k : ℕ) × (u : ChildUse) × (slice_get children-of k ≡ Some u) × (u.header.row ≡ Some e)
  child-of-row e child =
      let listed = in-map Some (subsystems_of rows n) e (in-subsystems rows n e child.in_table child.owner child.subsystem) in
      let header = of-map (λ (h : SystemHeader). h.row) known.local.headers (Some e)
      (subst (λ os. Contains os (Some e)) (sym known.local.are_headers.rows) listed) in
      let has = subst (λ (l : LocalSystem). Contains l.children (child_use (diagram a) header.0)) (sym known.local.is_local)
      (in-map (child_use (diagram a)) known.local.headers header.0 header.1) in
      let at = at-in children-of (child_use (diagram a) header.0) has in
      (at.0, child_use (diagram a) header.0, at.1, header.2)

  pub child-behind : (u : ChildUse) → Contains children-of u → IsChildBehind a v.at place u
  child-behind u has = member (IsChildBehind a v.at place) children-of u (v.children place n stands) has

  -- ---- All systems inside

  abbrev field : ℕ → ℕ
  field e = place_in (program_of a) (row_at rows e).owner (child_name e)

  abbrev pub child-place : ℕ → ℕ
  child-place e = place_in (program_of a) n (child_name e)

  -- what holds of each child and its field, and through it of each system inside the child, holds of all inside and their paths
  pub each-inside : (P : ℕ → List ℕ → Type 0) →
      ((e : ℕ) → IsChildRow rows n e → P e (child-place e ∷ [])) →
      ((e x : ℕ) → IsChildRow rows n e → Contains (systems_inside rows (Some e)) x →
      P x (child-place e ∷ path_inside (program_of a) rows (Some e) x)) →
      (x : ℕ) → Contains (systems_inside rows n) x → P x (path_inside (program_of a) rows n x)
  each-inside P here deeper x has =
      let kept = of-filter (λ y. is_subsystem (row_at rows y).kind && is_inside rows n y) (row_numbers rows) x has in
      let parts = and_parts (is_subsystem (row_at rows x).kind) (is_inside rows n x) kept.1 in
      let below : x < length rows = let high = (of-range 0 (length rows) x kept.0).1 in omega arith in
      elim (inside-cases rows nested n x below parts.1) [
        | inl own ↦
            let child : IsChildRow rows n x = record { in_table = below; owner = own; subsystem = parts.0 } in
            subst (P x) (sym (way-to-child rows nested field n x child ∙ ap (λ o. place_in (program_of a) o (child_name x) ∷ []) own))
            (here x child)
        | inr u ↦
            let inner = under-inside rows nested u.child u.depth x below u.under in
            let listed = in-filter (λ y. is_subsystem (row_at rows y).kind && is_inside rows (Some u.child) y) (row_numbers rows) x kept.0
            (and_from (is_subsystem (row_at rows x).kind) (is_inside rows (Some u.child) x) parts.0 inner) in
            let way = way-through-child rows nested field n u.child u.depth x below u.is_child u.under
            ∙ ap (λ o. place_in (program_of a) o (child_name u.child) ∷ path_inside (program_of a) rows (Some u.child) x)
            u.is_child.owner in
            subst (P x) (sym way) (deeper u.child x u.is_child listed)
      ]
