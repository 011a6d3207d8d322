-- A system that is renewed renews each system inside it, at its path.
use Rattle.std.specs.Prelude.{◌≡◌, ◌⊎◌, ℕ, zero, suc, ◌<◌, true, List, map, length, slice_get, slice_index_or, Contains, Option, Some}
use Rattle.std.specs.List.{AllByRecursion}
use Rattle.std.proofs.Common.{sym, ap, subst, ◌∙◌, arith, inl, inr}
use Rattle.std.proofs.lemmas.Option.{get_or_from_slice_get}
use Rattle.diagram_meaning.specs.declared.table.Row.{Row}
use Rattle.diagram_meaning.specs.Rows.{row_at, is_inside, subsystems_of}
use Rattle.diagram_blocks.specs.Kinds.{is_subsystem}
use Rattle.modules_profile.specs.declared.ChildUse.{ChildUse}
use Rattle.modules_profile.specs.LocalSystem.{LocalSystem}
use Rattle.modules_profile.specs.Systems.{system_name, systems_inside}
use Rattle.modules_profile.proofs.lemmas.Members.{at-in, at-map, map-at}
use Rattle.modules_profile.proofs.lemmas.PortRows.{in-subsystems}
use Rattle.c_semantics.specs.Cells.{Cell, object, cell_fields, Cells, cell_at, fields_at, cells_at}
use Rattle.emit_shape.specs.Names.{child_name}
use Rattle.emit_shape.specs.Programs.{struct_place}
use Rattle.emit_shape.specs.Slots.{Slot, instance}
use Rattle.right_relation.specs.Forms.{Forms, no_forms, HasForms}
use Rattle.right_relation.specs.Instances.{Offered, Offer}
use Rattle.right_relation.specs.Renewals.{Renewal, no_renewal, renewal_at, AllSlots}
use Rattle.right_claim.specs.Anew.{forms_at, HoldsInside}
use Rattle.right_claim.specs.Paths.{place_in, path_inside}
use Rattle.right_linking.specs.Parts.{Parts, program_of, diagram, all_systems, Views}
use Rattle.right_linking.specs.Places.{FieldsAreFound, FormsAreOfSlots}
use Rattle.right_linking.specs.Starts.{IsRenewed}
use Rattle.right_linking.proofs.lemmas.AssembledChildren.{has-child}
use Rattle.right_linking.proofs.lemmas.OwnSlots.{slots-at, forms-at, instance-fields}
use Rattle.right_program_starts.proofs.Everywhere.{member, all-made}
use Rattle.right_program_starts.proofs.NestedRows.{IsDeeper, of-inside, child-or-deeper}
use Rattle.right_program_starts.proofs.SystemPlaces.{nested, among-all, children-rows}
use Rattle.right_program_starts.proofs.InnerPaths.{cells-last, path-child, path-deeper}

module _ (fields : FieldsAreFound) (hold : FormsAreOfSlots) (a : Parts) (v : Views a) where
  abbrev rows : List Row
  rows = (diagram a).rows

  abbrev forms_of_system : Option ℕ → Forms
  forms_of_system n = forms_at (program_of a) (struct_place (program_of a) n)

  -- ---- The slot of a child

  record IsChildAt (n : Option ℕ) (e : ℕ) : Type 0 where
    position : ℕ
    use_of : ChildUse
    at : slice_get (v.at n).local.children position ≡ Some use_of
    row : use_of.header.row ≡ Some e
    field : ℕ
    slot : slice_get (v.at n).slots field ≡ Some (instance position use_of)
    named : place_in (program_of a) n (child_name e) ≡ field

  child-at : (n : Option ℕ) (e : ℕ) → Contains (all_systems a) n → Contains (subsystems_of rows n) e → IsChildAt n e
  child-at n e has child =
      let stands = at-in (all_systems a) n has in
      let known = v.each stands.0 n stands.1 in
      let at = at-in (subsystems_of rows n) e child in
      let number : slice_get (map (λ (u : ChildUse). u.header.row) (v.at n).local.children) at.0 ≡ Some (Some e) =
      ap (λ os. slice_get os at.0) (children-rows a v stands.0 n stands.1) ∙ at-map Some (subsystems_of rows n) at.0 e at.1 in
      let u = map-at (λ (u : ChildUse). u.header.row) (v.at n).local.children at.0 (Some e) number in
      let slot = at-in (v.at n).slots (instance at.0 u.0)
      (has-child (v.at n).local (v.at n).slots known.shape.slots_right at.0 u.0 u.1) in
      record {
        position = at.0;
        use_of = u.0;
        at = u.1;
        row = u.2;
        field = slot.0;
        slot = slot.1;
        named = ap (λ o. place_in (program_of a) n (system_name o)) (sym u.2) ∙ fields a v n slot.0 (instance at.0 u.0) has slot.1;
      }

  -- a child has the fields of its struct
  child-forms : (n : Option ℕ) (e : ℕ) (cells : Cells) → Contains (all_systems a) n → Contains (subsystems_of rows n) e →
      HasForms (forms_of_system n) cells →
      HasForms (forms_of_system (Some e)) (fields_at cells (place_in (program_of a) n (child_name e)))
  child-forms n e cells has child are =
      let stands = at-in (all_systems a) n has in
      let c = child-at n e has child in
      let children = map (λ (u : ChildUse). forms_of_system u.header.row) (v.at n).local.children in
      let slot = forms-at children (v.at n).slots cells c.field (instance c.position c.use_of)
      (subst (λ fs. HasForms fs cells) (hold a v stands.0 n stands.1) are) c.slot in
      let own : slice_index_or children c.position no_forms ≡ forms_of_system (Some e) =
      get_or_from_slice_get children c.position (forms_of_system c.use_of.header.row) no_forms
      (at-map (λ (u : ChildUse). forms_of_system u.header.row) (v.at n).local.children c.position c.use_of c.at)
      ∙ ap forms_of_system c.row in
      subst (λ f. HasForms (forms_of_system (Some e)) (fields_at cells f)) (sym c.named)
      (subst (λ fs. HasForms fs (cell_fields (cell_at cells c.field))) own
      (instance-fields (slice_index_or children c.position no_forms) (cell_at cells c.field) slot))

  -- ---- What becomes of all systems inside

  module _ (which : Offer → Offered) (IsSo : LocalSystem → List Renewal → Slot → Cell → Cell → Type 0)
      (child_is : (local : LocalSystem) (children : List Renewal) (k : ℕ) (u : ChildUse) (b c : Cell) →
      IsSo local children (instance k u) b c →
      c ≡ object ((renewal_at children k).renewed (cell_fields b)))
      (renewals : Option ℕ → Renewal) (renewed : AllByRecursion (IsRenewed a v which IsSo renewals) (all_systems a)) where
    is-renewed : (n : Option ℕ) → Contains (all_systems a) n → IsRenewed a v which IsSo renewals n
    is-renewed n has = member (IsRenewed a v which IsSo renewals) (all_systems a) n renewed has

    pub slots-become : (n : Option ℕ) (before : Cells) → Contains (all_systems a) n → HasForms (forms_of_system n) before →
        AllSlots (IsSo (v.at n).local (map (λ (u : ChildUse). renewals u.header.row) (v.at n).local.children)) (v.at n).slots before
        ((renewals n).renewed before)
    slots-become n before has are = let is = is-renewed n has in is.becomes before (subst (λ fs. HasForms fs before) (sym is.forms) are)

    child-renewed : (n : Option ℕ) (e : ℕ) (before : Cells) → Contains (all_systems a) n → Contains (subsystems_of rows n) e →
        HasForms (forms_of_system n) before →
        fields_at ((renewals n).renewed before) (place_in (program_of a) n (child_name e))
        ≡ (renewals (Some e)).renewed (fields_at before (place_in (program_of a) n (child_name e)))
    child-renewed n e before has child are =
        let c = child-at n e has child in
        let children = map (λ (u : ChildUse). renewals u.header.row) (v.at n).local.children in
        let slot = slots-at (IsSo (v.at n).local children) (v.at n).slots before ((renewals n).renewed before) c.field
        (instance c.position c.use_of) (slots-become n before has are) c.slot in
        let own : renewal_at children c.position ≡ renewals (Some e) =
        get_or_from_slice_get children c.position (renewals c.use_of.header.row) no_renewal
        (at-map (λ (u : ChildUse). renewals u.header.row) (v.at n).local.children c.position c.use_of c.at)
        ∙ ap renewals c.row in
        subst (λ f. fields_at ((renewals n).renewed before) f ≡ (renewals (Some e)).renewed (fields_at before f)) (sym c.named)
        (ap cell_fields (child_is (v.at n).local children c.position c.use_of (cell_at before c.field)
        (cell_at ((renewals n).renewed before) c.field) slot)
        ∙ ap (λ (r : Renewal). r.renewed (cell_fields (cell_at before c.field))) own)

    module _ (n : Option ℕ) (has : Contains (all_systems a) n) (before : Cells) (are : HasForms (forms_of_system n) before) where
      abbrev after : Cells
      after = (renewals n).renewed before

      abbrev path : ℕ → List ℕ
      path e = path_inside (program_of a) rows n e

      -- the instance of a subsystem inside has its fields, and is renewed
      pub record IsReached (e : ℕ) : Type 0 where
        pub forms : HasForms (forms_of_system (Some e)) (cells_at (path e) before)
        pub becomes : cells_at (path e) after ≡ (renewals (Some e)).renewed (cells_at (path e) before)

      reached-by : (m e : ℕ) → e < m → Contains (systems_inside rows n) e → IsReached e
      reached-by zero e low inside = absurd (omega arith)
      reached-by (suc m) e low inside = by (child-or-deeper rows (nested a) n e is.0 is.2)
          (λ g less inner. reached-by m g (omega (arith, low, less)) inner)
        where
          is : (e < length rows) × (is_subsystem (row_at rows e).kind ≡ true) × (is_inside rows n e ≡ true)
          is = of-inside rows n e inside

          by : ((row_at rows e).owner ≡ n) ⊎ IsDeeper rows (nested a) n e →
              ((g : ℕ) → g < e → Contains (systems_inside rows n) g → IsReached g) → IsReached e
          by (inl own) next =
              let child = in-subsystems rows n e is.0 own is.1 in
              let one = path-child (program_of a) rows (nested a) n e is.0 own in
              record {
                forms = subst (λ p. HasForms (forms_of_system (Some e)) (cells_at p before)) (sym one)
                    (child-forms n e before has child are);
                becomes = subst (λ p. cells_at p after ≡ (renewals (Some e)).renewed (cells_at p before)) (sym one)
                    (child-renewed n e before has child are);
              }
          by (inr deeper) next =
              let g = deeper.parent in
              let f = place_in (program_of a) (Some g) (child_name e) in
              let around = next g deeper.before deeper.has in
              let inner = (of-inside rows n g deeper.has).2 in
              let child = in-subsystems rows (Some g) e is.0 deeper.own is.1 in
              let among = among-all a n g deeper.has in
              let more = path-deeper (program_of a) rows (nested a) n e g is.0 deeper.own is.2 inner in
              record {
                forms = subst (λ p. HasForms (forms_of_system (Some e)) (cells_at p before)) (sym more)
                    (subst (HasForms (forms_of_system (Some e))) (sym (cells-last (path g) f before))
                    (child-forms (Some g) e (cells_at (path g) before) among child around.forms));
                becomes = subst (λ p. cells_at p after ≡ (renewals (Some e)).renewed (cells_at p before)) (sym more)
                    (cells-last (path g) f after
                    ∙ ap (λ cells. fields_at cells f) around.becomes
                    ∙ child-renewed (Some g) e (cells_at (path g) before) among child around.forms
                    ∙ ap (renewals (Some e)).renewed (sym (cells-last (path g) f before)));
              }

      pub reached : (e : ℕ) → Contains (systems_inside rows n) e → IsReached e
      reached e inside = reached-by (suc e) e (omega arith) inside

      -- what holds of each system that is renewed holds of all inside
      pub holds-inside : (P : Option ℕ → Cells → Cells → Type 0) →
          ((o : Option ℕ) (cells : Cells) → Contains (all_systems a) o → HasForms (forms_of_system o) cells →
          P o cells ((renewals o).renewed cells)) →
          HoldsInside (program_of a) (diagram a) n P before after
      holds-inside P each = record {
        here = each n before has are;
        inside = all-made (λ e. P (Some e) (cells_at (path e) before) (cells_at (path e) after)) (systems_inside rows n) (λ e inside.
            let r = reached e inside in
            subst (P (Some e) (cells_at (path e) before)) (sym r.becomes)
            (each (Some e) (cells_at (path e) before) (among-all a n e inside) r.forms));
      }
