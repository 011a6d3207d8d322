-- Where a trace lies in its types, so does each tick of each system inside.
use Rattle.std.specs.Prelude.{◌≡◌, ℕ, ◌<◌, Bool, true, false, ◌||◌, List, [], map, length, Contains, IsTrue, Option, Some, ℤ}
use Rattle.std.specs.List.{AllByRecursion, AllZip}
use Rattle.std.proofs.Common.{refl, sym, ◌∙◌, ap, subst}
use Rattle.base_fixed_point.specs.declared.FixType.{FixType}
use Rattle.base_fixed_point.specs.Conversion.{InType}
use Rattle.diagram_blocks.specs.Meaning.{has_value}
use Rattle.diagram_blocks.specs.Evaluation.{IsEvaluable}
use Rattle.diagram_meaning.specs.declared.table.Row.{Row}
use Rattle.diagram_meaning.specs.Rows.{is_system, is_inside, inports_of, outports_of}
use Rattle.diagram_blocks.specs.Kinds.{is_outport, is_delay}
use Rattle.diagram_meaning.specs.Inputs.{entering_wires, control_wires_of}
use Rattle.diagram_meaning.specs.Diagram.{Diagram, type_at, op_at}
use Rattle.diagram_meaning.specs.Needs.{needs_of, HasNoLoop}
use Rattle.diagram_meaning.specs.Laws.{Run, IsRunOver}
use Rattle.diagram_meaning.specs.RunLaws.{IsSystemWithin}
use Rattle.diagram_meaning.specs.ResolvedTree.{ResolvedTree, IsResolvedTree, diagram_of}
use Rattle.diagram_meaning.specs.Run.{first_of}
use Rattle.diagram_meaning.specs.Traces.{IsTrace}
use Rattle.diagram_meaning.proofs.lemmas.SystemRuns.{children_meet_parents}
use Rattle.diagram_meaning.proofs.lemmas.TickLaws.{own_rows_stand_in}
use Rattle.diagram_typed_runs.specs.TypedRuns.{IsSystem, IsTypedTick as IsTypedSystem, TicksAreTyped as SystemsAreTyped}
use Rattle.modules_profile.specs.declared.LocalRow.{LocalRow}
use Rattle.modules_profile.specs.LocalSystem.{LocalSystem}
use Rattle.modules_profile.specs.SystemHeader.{SystemHeader}
use Rattle.modules_profile.specs.Headers.{header_of}
use Rattle.modules_profile.specs.SystemProfile.{SystemProfile}
use Rattle.modules_profile.specs.Locals.{local_row, child_use, local_of, inports}
use Rattle.modules_profile.specs.NodeFacts.{HeaderIsOfOwnRows}
use Rattle.modules_profile.proofs.lemmas.OwnRows.{of-ports}
use Rattle.right_relation.specs.LocalTicks.{LocalTick, IsFed, GivesInTypes, IsTypedTick, row_inputs, row_runs}
use Rattle.right_relation.specs.RunTicks.{Untouched, tick_at}
use Rattle.right_relation.specs.RunTickLaws.{LocalTicksAreTyped}
use Rattle.right_relation.proofs.Lists.{each-row, each-kept, each-made, zip-made, zip-from, zip-back}
use Rattle.right_relation.proofs.lemmas.LocalTickLaws.{inputs-are}
use Rattle.right_relation.proofs.lemmas.ChildTicks.{IsChildHeader, child-header}

-- a subsystem among the rows of a system within s is within s
inside-too : (rows : List Row) (s : Option ℕ) (e : ℕ) → is_inside rows s e ≡ true → IsSystemWithin rows s (Some e)
inside-too rows s e inside = ap (λ q. is_system s e || q) inside ∙ either (is_system s e)
  where
    either : (q : Bool) → (q || true) ≡ true
    either true = refl
    either false = refl

module _ (own : HeaderIsOfOwnRows) (typed : SystemsAreTyped) (r : ResolvedTree) (s n : Option ℕ) (xs : List (List ℤ))
    (run : Run) (untouched : Untouched) (t : ℕ) (resolved : IsResolvedTree r)
    (system : IsSystem (diagram_of r).rows n) (within : IsSystemWithin (diagram_of r).rows s n)
    (is : IsRunOver (diagram_of r) s xs run) (trace : IsTrace (diagram_of r) s xs)
    (none : HasNoLoop (needs_of (diagram_of r))) (below : t < length xs) where
  abbrev d : Diagram
  d = diagram_of r

  abbrev m : LocalTick
  m = tick_at d s xs run n untouched t

  own-typed : IsTypedSystem d n m.tick
  own-typed = typed r s n xs run t resolved system within is trace none below

  -- the types of the Inports by the system's own rows
  inputs-by-rows : (headers : List SystemHeader) (profile : SystemProfile) →
      map (λ (q : LocalRow). q.out) (inports (local_of d r.times.delays n headers)) ≡ map (type_at d.types) (inports_of d.rows n)
  inputs-by-rows headers profile = ap (λ (h : SystemHeader). h.inputs) (own d r.times.delays n headers profile)

  fed : (h : SystemHeader) → IsChildHeader d n h → IsFed (local_of d r.times.delays n []) m (child_use d h)
  fed h child =
      let e = child.row in
      let stands =
      own_rows_stand_in d.rows s n e resolved.tree.table.nested
      (record { in_table = child.own.in_table; own = child.own.own; within = within }) in
      let inner = typed r s (Some e) xs run t resolved child.subsystem (inside-too d.rows s e stands.is_inside) is trace none below in
      let met = children_meet_parents r s n xs run t e resolved within is child.own in
      let header = child.is_header ∙ ap (λ o. header_of d o h.profile) child.is_row in record {
        inputs =
            subst (λ (g : SystemHeader). AllZip (λ type c. InType type (m.tick.value c)) g.inputs
            (entering_wires d.rows h.row)) (sym header)
            (subst (λ o. AllZip (λ type c. InType type (m.tick.value c))
            (map (type_at d.types) (inports_of d.rows (Some e))) (entering_wires d.rows o)) (sym child.is_row)
            (zip-back InType m.tick.value (map (type_at d.types) (inports_of d.rows (Some e))) (entering_wires d.rows (Some e))
            (subst (AllZip InType (map (type_at d.types) (inports_of d.rows (Some e)))) met.inputs
            (zip-made InType (type_at d.types) (inports_of d.rows (Some e)) _ inner.inputs))));
        controls =
            subst (λ (g : SystemHeader). AllZip (λ type c. InType type (m.tick.value c)) g.controls
            (control_wires_of d.rows h.row)) (sym header)
            (subst (λ o. AllZip (λ type c. InType type (m.tick.value c))
            (map (type_at d.types) (control_wires_of d.rows (Some e))) (control_wires_of d.rows o))
            (sym child.is_row)
            (zip-back InType m.tick.value (map (type_at d.types) (control_wires_of d.rows (Some e))) (control_wires_of d.rows (Some e))
            (subst (AllZip InType (map (type_at d.types) (control_wires_of d.rows (Some e)))) met.controls
            (zip-made InType (type_at d.types) (control_wires_of d.rows (Some e)) _ inner.controls))));
      }

  -- an output is an Outport of the child
  gives : (h : SystemHeader) → IsChildHeader d n h → GivesInTypes (local_of d r.times.delays n []) m (child_use d h)
  gives h child =
      let e = child.row in
      let stands =
      own_rows_stand_in d.rows s n e resolved.tree.table.nested
      (record { in_table = child.own.in_table; own = child.own.own; within = within }) in
      let inner = typed r s (Some e) xs run t resolved child.subsystem (inside-too d.rows s e stands.is_inside) is trace none below in
      subst (λ (g : SystemHeader). AllByRecursion (λ (o : ℕ × FixType). InType o.1 (m.tick.value o.0)) g.outputs)
      (sym (child.is_header ∙ ap (λ o. header_of d o h.profile) child.is_row))
      (each-made (λ (o : ℕ × FixType). InType o.1 (m.tick.value o.0)) (λ o. (o, type_at d.types o))
      (outports_of d.rows (Some e)) (λ b inside.
      let at = of-ports d.rows (Some e) is_outport b inside in
      inner.values b (record { in_table = at.0; own = at.1 })))

  whole : (headers : List SystemHeader) → ((h : SystemHeader) → Contains headers h → IsChildHeader d n h) →
      IsTypedTick (local_of d r.times.delays n headers) m
  whole headers are =
      let local = local_of d r.times.delays n headers in
      let row = local_row d r.times.delays in record {
        inputs = zip-from InType (λ (q : LocalRow). q.out) (inports local) m.tick.inputs
            (subst (λ types. AllZip InType types m.tick.inputs)
            (sym (inputs-by-rows headers (record { row = n; functions = [] })))
            (zip-made InType (type_at d.types) (inports_of d.rows n) m.tick.inputs own-typed.inputs));
        controls = zip-made InType (type_at d.types) (control_wires_of d.rows n) m.tick.controls own-typed.controls;
        before = each-kept (λ q. InType q.out (m.tick.before q.row)) (λ q. has_value q.kind) local.rows
            (each-row (λ q. has_value q.kind ≡ true → InType q.out (m.tick.before q.row)) row d.rows n
            (λ b in_n has. own-typed.before b in_n));
        values = each-kept (λ q. InType q.out (m.tick.value q.row)) (λ q. has_value q.kind) local.rows
            (each-row (λ q. has_value q.kind ≡ true → InType q.out (m.tick.value q.row)) row d.rows n
            (λ b in_n has. own-typed.values b in_n));
        memories =
            each-kept (λ q. AllByRecursion (InType q.out) (m.tick.memory q.row)
            × AllByRecursion (InType q.out) (m.tick.memory_after q.row)) (λ q. is_delay q.op) local.rows
            (each-row (λ q. is_delay q.op ≡ true →
            AllByRecursion (InType q.out) (m.tick.memory q.row)
            × AllByRecursion (InType q.out) (m.tick.memory_after q.row)) row d.rows n
            (λ b in_n has. (own-typed.memories b in_n, own-typed.memories_after b in_n)));
        evaluable =
            each-kept (λ q. IsTrue (row_runs local m q) →
            IsEvaluable q.op (row_inputs local m q) (first_of (m.tick.memory q.row))) (λ q. has_value q.kind) local.rows
            (each-row (λ q. has_value q.kind ≡ true → IsTrue (row_runs local m q) →
            IsEvaluable q.op (row_inputs local m q) (first_of (m.tick.memory q.row))) row d.rows n
            (λ b in_n has does. subst (λ ins. IsEvaluable (op_at d b) ins (first_of (m.tick.memory b)))
            (inputs-are d r.times.delays n headers m b) (own-typed.evaluable b in_n)));
        children = each-made (IsFed local m) (child_use d) headers (λ h inside. let f = fed h (are h inside) in
            record { inputs = f.inputs; controls = f.controls });
        outputs = each-made (GivesInTypes local m) (child_use d) headers (λ h inside. gives h (are h inside));
      }

pub ticks_are_typed : HeaderIsOfOwnRows → SystemsAreTyped → LocalTicksAreTyped
ticks_are_typed own typed r s n local xs run untouched t resolved system within is_local is trace none below =
    let d = diagram_of r in
    subst (λ (l : LocalSystem). IsTypedTick l (tick_at d s xs run n untouched t)) (sym is_local.is_local)
    (whole own typed r s n xs run untouched t resolved system within is trace none below is_local.headers
    (λ h inside. child-header d n is_local.headers is_local.are_headers h inside))
