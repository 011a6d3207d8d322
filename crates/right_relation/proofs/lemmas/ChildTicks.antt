-- A child meets the tick that its own rows have.
use Rattle.std.specs.Prelude.{◌≡◌, ℕ, Bool, true, List, map, Contains, Option, Some, ℤ}
use Rattle.std.proofs.Common.{sym, ◌∙◌, ap, ap₂, subst}
use Rattle.base_fixed_point.specs.declared.FixType.{FixType}
use Rattle.diagram_meaning.specs.Rows.{row_at, rows_of, subsystems_of}
use Rattle.diagram_blocks.specs.Kinds.{is_subsystem}
use Rattle.diagram_meaning.specs.Inputs.{entering_wires, control_wires_of}
use Rattle.diagram_meaning.specs.Diagram.{Diagram}
use Rattle.diagram_meaning.specs.Laws.{Run, IsRunOver}
use Rattle.diagram_meaning.specs.RunLaws.{IsSystemWithin}
use Rattle.diagram_meaning.specs.ResolvedTree.{ResolvedTree, IsResolvedTree, diagram_of}
use Rattle.diagram_meaning.specs.SystemRuns.{IsRowOf, system_tick}
use Rattle.diagram_meaning.proofs.lemmas.SystemRuns.{children_meet_parents}
use Rattle.modules_profile.specs.declared.ChildUse.{ChildUse}
use Rattle.modules_profile.specs.declared.LocalRow.{LocalRow}
use Rattle.modules_profile.specs.LocalSystem.{LocalSystem}
use Rattle.modules_profile.specs.SystemHeader.{SystemHeader}
use Rattle.modules_profile.specs.Headers.{header_of}
use Rattle.modules_profile.specs.Locals.{child_use, local_of, outports}
use Rattle.modules_profile.specs.NodeFacts.{AreHeaders, HeaderIsOfOwnRows}
use Rattle.right_relation.specs.LocalTicks.{LocalTick}
use Rattle.right_relation.specs.Standing.{outer_tick_of, child_tick_of}
use Rattle.right_relation.specs.RunTicks.{Untouched, tick_at}
use Rattle.right_relation.specs.RunTickLaws.{ChildrenMeetTheirTicks}
use Rattle.right_relation.proofs.Lists.{in-map, of-map, of-filter, map-map, of-rows}

-- a header of a child is that of a subsystem in the system
pub record IsChildHeader (d : Diagram) (n : Option ℕ) (h : SystemHeader) : Type 0 where
  pub row : ℕ
  pub is_row : h.row ≡ Some row
  pub own : IsRowOf d.rows n row
  pub subsystem : is_subsystem (row_at d.rows row).kind ≡ true
  pub is_header : h ≡ header_of d h.row h.profile

pub child-header : (d : Diagram) (n : Option ℕ) (headers : List SystemHeader) → AreHeaders d n headers →
    (h : SystemHeader) → Contains headers h → IsChildHeader d n h
child-header d n headers are h inside =
    let at =
    of-map Some (subsystems_of d.rows n) h.row
    (subst (λ rows. Contains rows h.row) are.rows (in-map (λ (g : SystemHeader). g.row) headers h inside)) in
    let passes = of-filter (λ b. is_subsystem (row_at d.rows b).kind) (rows_of d.rows n) at.0 at.1 in
    record { row = at.0; is_row = sym at.2; own = of-rows d.rows n at.0 passes.0; subsystem = passes.1; is_header = (are.each h inside).0 }

-- what a child's outputs are by its header they are by its own rows
outputs-are : HeaderIsOfOwnRows → (d : Diagram) (h : SystemHeader) (delays : List Bool) (headers : List SystemHeader) →
    h ≡ header_of d h.row h.profile → (f : ℕ → ℤ) →
    map (λ (o : ℕ × FixType). f o.0) h.outputs ≡ map (λ (o : LocalRow). f o.row) (outports (local_of d delays h.row headers))
outputs-are own d h delays headers is f =
    ap (λ (g : SystemHeader). map (λ (o : ℕ × FixType). f o.0) g.outputs) (is ∙ sym (own d delays h.row headers h.profile))
    ∙ map-map (λ (o : ℕ × FixType). f o.0) (λ (o : LocalRow). (o.row, o.out)) (outports (local_of d delays h.row headers))

module _ (own : HeaderIsOfOwnRows) (r : ResolvedTree) (s n : Option ℕ) (xs : List (List ℤ)) (run : Run)
    (untouched others : Untouched) (t : ℕ) (resolved : IsResolvedTree r)
    (within : IsSystemWithin (diagram_of r).rows s n) (is : IsRunOver (diagram_of r) s xs run) where
  abbrev d : Diagram
  d = diagram_of r

  abbrev m : LocalTick
  m = tick_at d s xs run n untouched t

  meets : (h : SystemHeader) (headers inner : List SystemHeader) → AreHeaders d n headers → Contains headers h →
      child_tick_of (local_of d r.times.delays n headers) m (child_use d h)
      ≡ outer_tick_of (local_of d r.times.delays h.row inner) (tick_at d s xs run h.row others t)
  meets h headers inner are inside =
      let child = child-header d n headers are h inside in
      let met = children_meet_parents r s n xs run t child.row resolved within is child.own in
      let same : (λ (o : Option ℕ). system_tick d s xs run o t) (Some child.row) ≡ system_tick d s xs run h.row t =
      ap (λ o. system_tick d s xs run o t) (sym child.is_row) in
      λ i. record {
        t = t;
        parent = (sym met.parent ∙ ap (λ tick. tick.parent) same) i;
        is_off_around = (sym met.is_off_around ∙ ap (λ tick. tick.is_off_around) same) i;
        inputs = (ap (λ o. map m.tick.value (entering_wires d.rows o)) child.is_row ∙ sym met.inputs ∙ ap (λ tick. tick.inputs) same) i;
        controls =
            (ap (λ o. map m.tick.value (control_wires_of d.rows o)) child.is_row ∙ sym met.controls
            ∙ ap (λ tick. tick.controls) same) i;
        before = outputs-are own d h r.times.delays inner child.is_header m.tick.before i;
        outputs = outputs-are own d h r.times.delays inner child.is_header m.tick.value i;
      }

pub children_meet_their_ticks : HeaderIsOfOwnRows → ChildrenMeetTheirTicks
children_meet_their_ticks own r s n local inner u xs run untouched others t resolved within is_local inside is_inner is below =
    let d = diagram_of r in
    let at = of-map (child_use d) is_local.headers u (subst (λ (l : LocalSystem). Contains l.children u) is_local.is_local inside) in
    let h = at.0 in
    let row : (child_use d h).header.row ≡ u.header.row = ap (λ (w : ChildUse). w.header.row) at.2 in
    ap₂ (λ (l : LocalSystem) (w : ChildUse). child_tick_of l (tick_at d s xs run n untouched t) w) is_local.is_local (sym at.2)
    ∙ meets own r s n xs run untouched others t resolved within is h is_local.headers is_inner.headers is_local.are_headers at.1
    ∙ ap (λ o. outer_tick_of (local_of d r.times.delays o is_inner.headers) (tick_at d s xs run o others t)) row
    ∙ ap (λ (l : LocalSystem). outer_tick_of l (tick_at d s xs run u.header.row others t)) (sym is_inner.is_local)
