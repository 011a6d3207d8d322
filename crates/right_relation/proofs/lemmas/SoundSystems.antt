-- The systems of a resolved model are sound by their own rows.
use Rattle.std.specs.Prelude.{◌≡◌, ℕ, zero, suc, ◌^◌, ◌<◌, ◌≤◌, Bool, true, false, not, ◌&&◌, ◌==◌, if◌then◌else◌, List, [], ◌∷◌, ◌++◌, map, length, slice_get, slice_index_or, Contains, IsTrue, Option, Some, None, refl}
use Rattle.std.proofs.Common.{sym, ap, subst, ◌∙◌, arith, inl, inr, true≢false}
use Rattle.std.proofs.lemmas.Bool.{eq-eqb, eqb-true}
use Rattle.std.proofs.lemmas.List.Elements.{All-from_recursion, Contains-append_cases}
use Rattle.std.proofs.lemmas.Option.{same_Some, none-some}
use Rattle.base_core.specs.Interface.{different}
use Rattle.base_fixed_point.specs.declared.FixType.{FixType}
use Rattle.diagram_blocks.specs.declared.Kind.{Kind}
use Rattle.diagram_blocks.specs.declared.Kind.TheVariants.{Inport}
use Rattle.diagram_blocks.specs.declared.Op.{Op}
use Rattle.diagram_blocks.specs.declared.Op.TheVariants.{Delay, Line}
use Rattle.diagram_blocks.specs.Meaning.{has_value, delay_length}
use Rattle.diagram_meaning.specs.declared.table.Row.{Row as TableRow}
use Rattle.diagram_meaning.specs.Diagram.{Diagram, op_at}
use Rattle.diagram_meaning.specs.Inputs.{entering_wires, control_wires_of}
use Rattle.diagram_meaning.specs.Needs.{TrueNeeds, IsMaskOf}
use Rattle.diagram_meaning.specs.ResolvedTree.{ResolvedTree, IsResolvedTree, diagram_of}
use Rattle.diagram_meaning.specs.Rows.{row_at, rows_of, inports_of, outports_of}
use Rattle.diagram_blocks.specs.Kinds.{is_inport, is_outport, is_subsystem, is_delay}
use Rattle.diagram_meaning.specs.WellFormed.{IsNested, IsOwner, IsWired, IsWireIn, reading_system}
use Rattle.modules_profile.specs.declared.ChildUse.{ChildUse}
use Rattle.modules_profile.specs.declared.Function.{Function}
use Rattle.modules_profile.specs.declared.LocalRow.{LocalRow}
use Rattle.modules_profile.specs.LocalSystem.{LocalSystem}
use Rattle.modules_profile.specs.LawfulLocals.{IsLocal}
use Rattle.modules_profile.specs.SystemHeader.{SystemHeader}
use Rattle.modules_profile.specs.Functions.{function_for}
use Rattle.modules_profile.specs.Headers.{idle_function, header_function, header_functions}
use Rattle.modules_profile.specs.Locals.{local_row, child_use, local_of, row_of, outports, entering}
use Rattle.modules_profile.specs.NodeFacts.{AreHeaders, LocalsAreLawful}
use Rattle.base_core.specs.Ports.{has_bit}
use Rattle.modules_profile.proofs.lemmas.Members.{in-none, in-map, of-map, found-in, in-at, at-in, at-below, below-at, at-map}
use Rattle.modules_profile.proofs.lemmas.MaskBits.{holds-has, index-at, in-different}
use Rattle.modules_profile.proofs.lemmas.OwnRows.{beside, outs-are, of-flat_map, by_port_mapped, of-rows, of-ports}
use Rattle.right_relation.specs.SoundLocals.{IsSoundLocal, LocalsAreSound}
use Rattle.right_relation.proofs.lemmas.ChildTicks.{IsChildHeader, child-header}
use Rattle.right_relation.proofs.DelayLengths.{delays-are-some}

-- what is no delay remembers nothing
no-delay : (op : Op) → is_delay op ≡ false → delay_length op ≡ 0
no-delay (Delay initial) h = absurd (true≢false h)
no-delay (Line long start) h = absurd (true≢false h)
no-delay _ h = refl

short-delay : (r : ResolvedTree) (b : ℕ) → IsResolvedTree r → b < length (diagram_of r).rows →
    delay_length (op_at (diagram_of r) b) < 2 ^ 16
short-delay r b resolved below = by (is_delay (op_at (diagram_of r) b)) refl
  where
    by : (t : Bool) → is_delay (op_at (diagram_of r) b) ≡ t → delay_length (op_at (diagram_of r) b) < 2 ^ 16
    by true e = (delays-are-some r b resolved below e).1
    by false e = let none = no-delay (op_at (diagram_of r) b) e in omega (arith, none)

-- ---- In which system wires are read

no-inport : (kind : Kind) → is_subsystem kind ≡ true → is_inport kind ≡ false
no-inport (Inport port) h = absurd (true≢false (sym h))
no-inport _ h = refl

reads-own : (rows : List TableRow) (kind : Kind) (o : Option ℕ) → is_inport kind ≡ false → reading_system rows kind o ≡ o
reads-own rows (Inport port) o h = absurd (true≢false h)
reads-own rows _ o h = refl

reads-around : (rows : List TableRow) (kind : Kind) (e : ℕ) → is_inport kind ≡ true →
    reading_system rows kind (Some e) ≡ (row_at rows e).owner
reads-around rows (Inport port) e h = refl
reads-around rows _ e h = absurd (true≢false (sym h))

no-output : (value out : Bool) → out ≡ true → (value && not out) ≡ true → ⊥
no-output true true is h = true≢false (sym h)
no-output true false is h = true≢false (sym is)
no-output false out is h = true≢false (sym h)

at-index : (fs : List Function) (k : ℕ) (other f : Function) → slice_get fs k ≡ Some f → slice_index_or fs k other ≡ f
at-index [] k other f e = absurd (none-some f e)
at-index (g ∷ gs) zero other f e = same_Some g f e
at-index (g ∷ gs) (suc k) other f e = at-index gs k other f e

module _ (d : Diagram) (delays : List Bool) (s : Option ℕ) (headers : List SystemHeader) (are : AreHeaders d s headers)
    (nested : IsNested d.rows)
    (wired : IsWired d.rows) where
  abbrev local : LocalSystem
  local = local_of d delays s headers

  -- no system owns itself
  not-itself : (e : ℕ) → e < length d.rows → (row_at d.rows e).owner ≡ Some e → ⊥
  not-itself e below own = let before = (subst (IsOwner d.rows e) own (nested.owned e below)).0 in omega (arith, before)

  read : (b c : ℕ) → b < length d.rows → Contains (row_at d.rows b).inputs c →
      IsWireIn d.rows (reading_system d.rows (row_at d.rows b).kind (row_at d.rows b).owner) c
  read b c below (k, low, is) =
      subst (IsWireIn d.rows (reading_system d.rows (row_at d.rows b).kind (row_at d.rows b).owner)) is
      (All-from_recursion (IsWireIn d.rows (reading_system d.rows (row_at d.rows b).kind (row_at d.rows b).owner))
      (row_at d.rows b).inputs (wired.wires b below) k c low)

  -- an own Outport is no wire of the system
  no-wire : (b : ℕ) → (row_at d.rows b).owner ≡ s → is_outport (row_at d.rows b).kind ≡ true → IsWireIn d.rows s b → ⊥
  no-wire b own is (below, inl (here, output)) = no-output (has_value (row_at d.rows b).kind) (is_outport (row_at d.rows b).kind) is output
  no-wire b own is (below, inr (out, (e, inside, outside))) =
      let before = (subst (IsOwner d.rows b) inside (nested.owned b below)).0 in
      not-itself e (omega (arith, before, below)) (outside ∙ sym own ∙ inside)

  -- the Outport that is in the table
  record IsOwnOutport (o : LocalRow) : Type 0 where
    pub owned : (row_at d.rows o.row).owner ≡ s
    pub is : is_outport (row_at d.rows o.row).kind ≡ true

  own-outport : (o : LocalRow) → Contains (outports local) o → IsOwnOutport o
  own-outport o h =
      let m = of-map (local_row d delays) (outports_of d.rows s) o
      (subst (λ rows. Contains rows o) (by_port_mapped d delays s headers is_outport) h) in
      let at = of-ports d.rows s is_outport m.0 m.1 in
      subst IsOwnOutport m.2 (record { owned = at.1; is = at.2 })

  no-row-reads : (o r : LocalRow) → Contains (outports local) o → Contains local.rows r → Contains r.inputs o.row → ⊥
  no-row-reads o r out own reads =
      let m = of-map (local_row d delays) (rows_of d.rows s) r own in
      let at = of-rows d.rows s m.0 m.1 in
      by m.0 at.0 at.1 (is_inport (row_at d.rows m.0).kind) refl (subst (λ (q : LocalRow). Contains q.inputs o.row) (sym m.2) reads)
    where
      by : (c : ℕ) → c < length d.rows → (row_at d.rows c).owner ≡ s → (t : Bool) → is_inport (row_at d.rows c).kind ≡ t →
          Contains (if t then [] else (row_at d.rows c).inputs) o.row → ⊥
      by c below owned true e h = in-none o.row h
      by c below owned false e h =
          let outport = own-outport o out in
          no-wire o.row outport.owned outport.is
          (subst (λ n. IsWireIn d.rows n o.row) (reads-own d.rows (row_at d.rows c).kind (row_at d.rows c).owner e ∙ owned)
          (read c o.row below h))

  -- ---- Children

  child-at : (u : ChildUse) → Contains local.children u → (h : SystemHeader) × Contains headers h × (child_use d h ≡ u)
  child-at u h = of-map (child_use d) headers u h

  no-child-reads : (o : LocalRow) (u : ChildUse) → Contains (outports local) o → Contains local.children u → Contains (entering u) o.row → ⊥
  no-child-reads o u out child reads =
      let m = child-at u child in
      let is = child-header d s headers are m.0 m.1 in
      by is.row is.own.in_table is.own.own is.subsystem
      (subst (λ n. Contains (entering_wires d.rows n ++ control_wires_of d.rows n) o.row) is.is_row
      (subst (λ (v : ChildUse). Contains (entering v) o.row) (sym m.2) reads))
    where
      outport : IsOwnOutport o
      outport = own-outport o out

      by : (e : ℕ) → e < length d.rows → (row_at d.rows e).owner ≡ s → is_subsystem (row_at d.rows e).kind ≡ true →
          Contains (entering_wires d.rows (Some e) ++ (row_at d.rows e).inputs) o.row → ⊥
      by e below owned subsystem h = elim (Contains-append_cases (entering_wires d.rows (Some e)) (row_at d.rows e).inputs o.row h) [
        | inl enters ↦
            let i = of-flat_map (λ b. (row_at d.rows b).inputs) (inports_of d.rows (Some e)) o.row enters in
            let at = of-ports d.rows (Some e) is_inport i.0 i.1 in
            no-wire o.row outport.owned outport.is
            (subst (λ n. IsWireIn d.rows n o.row)
            (ap (reading_system d.rows (row_at d.rows i.0).kind) at.1 ∙ reads-around d.rows (row_at d.rows i.0).kind e at.2 ∙ owned)
            (read i.0 o.row at.0 i.2))
        | inr controls ↦
            no-wire o.row outport.owned outport.is
            (subst (λ n. IsWireIn d.rows n o.row)
            (reads-own d.rows (row_at d.rows e).kind (row_at d.rows e).owner (no-inport (row_at d.rows e).kind subsystem) ∙ owned)
            (read e o.row below controls))
      ]

  not-own : (u : ChildUse) (o : ℕ × FixType) → Contains local.children u → Contains u.header.outputs o → row_of local o.0 ≡ None
  not-own u o child has = by (row_of local o.0) refl
    where
      m : (h : SystemHeader) × Contains headers h × (child_use d h ≡ u)
      m = child-at u child

      is : IsChildHeader d s m.0
      is = child-header d s headers are m.0 m.1

      inside : (row_at d.rows o.0).owner ≡ Some is.row
      inside =
          let listed = in-map (λ (o : ℕ × FixType). o.0) m.0.outputs o
          (subst (λ (v : ChildUse). Contains v.header.outputs o) (sym m.2) has) in
          let out = subst (λ os. Contains os o.0) (outs-are d m.0 (are.each m.0 m.1).0 (are.each m.0 m.1).1) listed in
          (of-ports d.rows m.0.row is_outport o.0 out).1 ∙ is.is_row

      by : (r : Option LocalRow) → row_of local o.0 ≡ r → r ≡ None
      by None e = refl
      by (Some r) e =
          let f = found-in (λ (r : LocalRow). r.row == o.0) local.rows r e in
          let b = of-map (local_row d delays) (rows_of d.rows s) r f.0 in
          let number : b.0 ≡ o.0 = ap (λ (r : LocalRow). r.row) b.2 ∙ eqb-true r.row o.0 f.1 in
          let here : (row_at d.rows o.0).owner ≡ s = ap (λ k. (row_at d.rows k).owner) (sym number) ∙ (of-rows d.rows s b.0 b.1).1 in
          absurd (not-itself is.row is.own.in_table (is.own.own ∙ sym here ∙ inside))

  given-by-function : (h : SystemHeader) (k : ℕ) → Contains headers h → k < length h.outputs →
      (j : ℕ) × (0 < j) × (j ≤ length (header_functions h)) × IsTrue (has_bit (header_function h j).outputs k)
  given-by-function h k m below =
      let profile = (are.each h m).1 in
      let o = below-at h.outputs k below in
      let out : slice_get (outports_of d.rows h.row) k ≡ Some o.0.0 =
      subst (λ os. slice_get os k ≡ Some o.0.0) (outs-are d h (are.each h m).0 profile)
      (at-map (λ (o : ℕ × FixType). o.0) h.outputs k o.0 o.1) in
      let need = beside (λ o mask. IsMaskOf (TrueNeeds d h.row o) mask)
      (outports_of d.rows h.row) profile.needs k o.0.0 profile.are_needs out in
      let class = at-in (different profile.needs) need.0 (in-different profile.needs need.0 (in-at profile.needs k need.0 need.1)) in
      let function : slice_get h.profile.functions class.0 ≡ Some (function_for profile.needs need.0) =
      ap (λ fs. slice_get fs class.0) profile.functions ∙ at-map (function_for profile.needs)
      (different profile.needs) class.0 need.0 class.1 in (
        suc class.0,
        omega arith,
        (let long = at-below h.profile.functions class.0 (function_for profile.needs need.0) function in omega (arith, long)),
        ap (λ (f : Function). has_bit f.outputs k)
            (at-index h.profile.functions class.0 idle_function (function_for profile.needs need.0) function)
            ∙ holds-has (map (λ n. n == need.0) profile.needs) k
            (index-at (λ n. n == need.0) profile.needs k need.0 need.1 ∙ eq-eqb need.0 need.0 refl),
      )

  given : (u : ChildUse) (k : ℕ) → Contains local.children u → k < length u.header.outputs →
      (j : ℕ) × (0 < j) × (j ≤ length (header_functions u.header)) × IsTrue (has_bit (header_function u.header j).outputs k)
  given u k child below =
      let m = child-at u child in
      subst (λ (g : SystemHeader). (j : ℕ) × (0 < j) × (j ≤ length (header_functions g)) × IsTrue (has_bit (header_function g j).outputs k))
      (ap (λ (v : ChildUse). v.header) m.2)
      (given-by-function m.0 k m.1 (subst (λ (v : ChildUse). k < length v.header.outputs) (sym m.2) below))

pub locals_are_sound : LocalsAreLawful → LocalsAreSound
locals_are_sound lawful r s local resolved is =
    let d = diagram_of r in
    let delays = r.times.delays in
    let headers = is.headers in
    let table = resolved.tree.table in
    subst IsSoundLocal (sym is.is_local) (record {
      lawful = subst IsLocal is.is_local (lawful r s local resolved is);
      lengths = λ q h.
          let m = of-map (local_row d delays) (rows_of d.rows s) q h in
          subst (λ (x : LocalRow). delay_length x.op < 2 ^ 16) m.2 (short-delay r m.0 resolved (of-rows d.rows s m.0 m.1).0);
      not_own = not-own d delays s headers is.are_headers table.nested table.wired;
      given = given d delays s headers is.are_headers table.nested table.wired;
      no_row_reads = no-row-reads d delays s headers is.are_headers table.nested table.wired;
      no_child_reads = no-child-reads d delays s headers is.are_headers table.nested table.wired;
    })
