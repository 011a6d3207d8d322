-- The code of nodes and of children keeps the rules of C.
use Rattle.std.specs.Prelude.{◌≡◌, ℕ, suc, ◌+◌, ◌-◌, ◌<◌, ◌≤◌, Bool, true, false, cond, List, [], ◌∷◌, ◌++◌, map, filter, flat_map, zip, length, slice_get, Contains, Option, Some, None}
use Rattle.std.specs.List.{AllByRecursion, enumerate_from, range_with_len}
use Rattle.std.specs.Option.{option_map_or}
use Rattle.std.proofs.Common.{refl, sym, ap, subst, arith, inl, inr, lit≤}
use Rattle.std.proofs.lemmas.List.{length-map, length-append}
use Rattle.std.proofs.lemmas.List.FromFn.{length-range_with_len}
use Rattle.std.proofs.lemmas.List.Elements.{All-contains, Contains-append_cases}
use Rattle.base_core.specs.declared.base.Port.{Port}
use Rattle.base_core.specs.declared.base.Port.TheVariants.{Number}
use Rattle.base_fixed_point.specs.declared.types.FixType.{FixType}
use Rattle.modules_profile.specs.declared.local.ChildUse.{ChildUse}
use Rattle.modules_profile.specs.declared.local.LocalRow.{LocalRow}
use Rattle.modules_profile.specs.LocalSystem.{LocalSystem}
use Rattle.modules_profile.specs.SystemProfile.{SystemProfile}
use Rattle.modules_profile.specs.Headers.{header_function, header_functions, ports_of_header, taken}
use Rattle.modules_profile.specs.LawfulLocals.{IsChild}
use Rattle.modules_profile.specs.Locals.{entering}
use Rattle.base_core.specs.Ports.{control_ports, bit_of, has_bit}
use Rattle.modules_profile.proofs.lemmas.Members.{in-none, of-map, of-range, in-at, of-enumerate}
use Rattle.modules_profile.proofs.lemmas.OwnRows.{of-flat_map}
use Rattle.modules_schedule.specs.SystemSchedule.{SystemSchedule}
use Rattle.c_syntax.specs.declared.Leaf.{Leaf}
use Rattle.c_syntax.specs.Tree.{StmtTrees, no_stmts, PureTree, ParamTree, ProcedureTree}
use Rattle.c_syntax.specs.Lawful.{Reach, IsLawfulLeaf, AreLawfulStmts}
use Rattle.emit_row_code.specs.LawfulStatements.{ChildStatementsAreLawful, StatementsAreShallow}
use Rattle.emit_shape.specs.Heads.{input_params, out_head, update_head, reset_head, public_heads}
use Rattle.emit_shape.specs.Names.{container, now_name, port_name}
use Rattle.emit_shape.specs.Relocation.{Relocation, moved_number}
use Rattle.right_claim.specs.Alone.{bare_procedure, bare_procedures}
use Rattle.emit_system_spec.specs.declared.node.Place.{Place}
use Rattle.emit_system_spec.specs.declared.node.Place.TheVariants.{Row, Call}
use Rattle.emit_system_spec.specs.Fields.{child_field}
use Rattle.emit_system_spec.specs.Groups.{own_count}
use Rattle.emit_system_spec.specs.NodeCode.{active_test, off_test, value_code, call_code, update_code, reset_code, node_code, code_at}
use Rattle.emit_system_spec.specs.Places.{call_places, node_places, child_base, now_leaf}
use Rattle.emit_system_spec.specs.Sources.{wire_leaf}
use Rattle.right_system_rules.proofs.SystemFacts.{SystemFacts}
use Rattle.right_system_rules.proofs.FieldPlaces.{child-struct}
use Rattle.right_system_rules.proofs.BareChildren.{child-at, child-below, out-at, behind-at}
use Rattle.right_system_rules.proofs.Moves.{call-moves, reset-moves, call-calls, reset-calls}
use Rattle.right_system_rules.proofs.Reaches.{relocation, bare, reach}
use Rattle.right_system_rules.proofs.GoodCode.{IsGood, good-none}
use Rattle.right_system_rules.proofs.LeafRules.{BlockLaws, LeafRules}
use Rattle.right_system_rules.proofs.RowRules.{value-good}

-- ---- What a list of inputs is for

-- a function takes as many of one list as of another as long
taken-long : {A B : Type 0} (test : Port → Bool) (ports : List Port) (xs : List A) (ys : List B) → length xs ≡ length ys →
    length (map (λ (e : Port × A). e.1) (filter (λ (e : Port × A). test e.0) (zip ports xs)))
    ≡ length (map (λ (e : Port × B). e.1) (filter (λ (e : Port × B). test e.0) (zip ports ys)))
taken-long test [] xs ys same = refl
taken-long test (p ∷ ports) [] [] same = refl
taken-long test (p ∷ ports) [] (y ∷ ys) same = absurd (omega (arith, same))
taken-long test (p ∷ ports) (x ∷ xs) [] same = absurd (omega (arith, same))
taken-long {A} {B} test (p ∷ ports) (x ∷ xs) (y ∷ ys) same = by (test p) (taken-long test ports xs ys (omega (arith, same)))
  where
    by : (t : Bool) →
        length (map (λ (e : Port × A). e.1) (filter (λ (e : Port × A). test e.0) (zip ports xs)))
        ≡ length (map (λ (e : Port × B). e.1) (filter (λ (e : Port × B). test e.0) (zip ports ys))) →
        length (map (λ (e : Port × A). e.1)
        (cond t ((p, x) ∷ filter (λ (e : Port × A). test e.0) (zip ports xs)) (filter (λ (e : Port × A). test e.0) (zip ports xs))))
        ≡ length (map (λ (e : Port × B). e.1)
        (cond t ((p, y) ∷ filter (λ (e : Port × B). test e.0) (zip ports ys)) (filter (λ (e : Port × B). test e.0) (zip ports ys))))
    by true rest = ap suc rest
    by false rest = rest

zip-long : {A B : Type 0} (xs : List A) (ys : List B) → length xs ≡ length ys → length (zip xs ys) ≡ length ys
zip-long [] [] same = refl
zip-long [] (y ∷ ys) same = same
zip-long (x ∷ xs) [] same = absurd (omega (arith, same))
zip-long (x ∷ xs) (y ∷ ys) same = ap suc (zip-long xs ys (omega (arith, same)))

taken-all : {A : Type 0} (P : A → Type 0) (test : Port × A → Bool) (ports : List Port) (xs : List A) → AllByRecursion P xs →
    AllByRecursion P (map (λ (e : Port × A). e.1) (filter test (zip ports xs)))
taken-all P test [] xs all = tt
taken-all P test (p ∷ ports) [] all = tt
taken-all {A} P test (p ∷ ports) (x ∷ xs) all = by (test (p, x)) (taken-all P test ports xs all.1)
  where
    by : (t : Bool) → AllByRecursion P (map (λ (e : Port × A). e.1) (filter test (zip ports xs))) →
        AllByRecursion P (map (λ (e : Port × A). e.1) (cond t ((p, x) ∷ filter test (zip ports xs)) (filter test (zip ports xs))))
    by true rest = (all.0, rest)
    by false rest = rest

-- ---- A system

module _ (local : LocalSystem) (profile : SystemProfile) (schedule : SystemSchedule) (facts : SystemFacts local profile schedule)
    (laws : BlockLaws)
    (pures : List PureTree) (later : List ProcedureTree) (params : List ParamTree)
    (rules : LeafRules local profile schedule pures later params) where
  abbrev m : Relocation
  m = relocation local profile schedule

  abbrev here : Reach
  here = reach local profile schedule pures later (length params)

  abbrev limit : ℕ
  limit = bare local profile schedule

  abbrev Good : StmtTrees → Type 0
  Good = IsGood m here limit

  abbrev depths : StatementsAreShallow 40
  depths = laws.shallow 40 (lit≤ tt)

  is-child : (u : ChildUse) → Contains local.children u → IsChild u
  is-child u h = All-contains IsChild local.children u facts.lawful.are_children h

  abbrev child_laws : ChildStatementsAreLawful here
  child_laws = (laws.statements here).1

  -- a child has as many parameters as wires
  as-many : (u : ChildUse) → Contains local.children u → length (input_params u.header) ≡ length (map (wire_leaf local) (entering u))
  as-many u h =
      let child = is-child u h in
      let a = child.wires in
      let b = child.controls in
      let c = (facts.children u h).controls in
      let types = u.header.inputs ++ u.header.controls in
      let both = length-append u.header.inputs u.header.controls in
      let ports = length-append (map Number (range_with_len 1 (length u.header.inputs))) (control_ports u.header.control) in
      let numbers = length-map (range_with_len 1 (length u.header.inputs)) Number in
      let long = length-range_with_len 1 (length u.header.inputs) in
      let same : length (ports_of_header u.header) ≡ length types = omega (arith, both, ports, numbers, long, b, c) in
      let zipped = zip-long (ports_of_header u.header) types same in
      let params =
      length-map {B = ParamTree} (zip (ports_of_header u.header) types)
      (λ (e : Port × FixType). record { name = port_name u.header.control e.0; type = container e.1 }) in
      let wired = length-map (entering u) (wire_leaf local) in
      let entered = length-append u.wires u.controls in
      omega (arith, zipped, params, wired, entered, both, a, c)

  abbrev children_count : ℕ
  children_count = own_count schedule

  pub call-good : (k j : ℕ) (u : ChildUse) → slice_get local.children k ≡ Some u → 0 < j → j ≤ length (header_functions u.header) →
      Good (call_code local children_count params k u j)
  call-good k j u at positive most =
      let h = in-at local.children k u at in
      let active = active_test local params in
      let number = child_base local children_count k + (j - 1) in
      let f = child_field local k in
      let leaves = now_leaf params ∷ taken u.header j (map (wire_leaf local) (entering u)) in
      let head = out-at u.header j positive most in
      let test : Port → Bool = λ p. has_bit (header_function u.header j).inputs (bit_of p) in
      let long = taken-long test (ports_of_header u.header) (input_params u.header) (map (wire_leaf local) (entering u)) (as-many u h) in
      let shallow = depths.call active number f leaves rules.shallow_active in record {
        lawful = λ prelude. subst (AreLawfulStmts here) (sym (call-moves m (λ f o. refl) active number f leaves))
            (child_laws.call active (moved_number m number) f leaves (bare_procedure k (out_head u.header j))
            (child-at local profile schedule k u (j - 1) (out_head u.header j) later at head)
            (child-struct local schedule k u at) (ap suc long) rules.active (
              rules.param now_name,
              taken-all (IsLawfulLeaf here) (λ (e : Port × Leaf). test e.0) (ports_of_header u.header)
                  (map (wire_leaf local) (entering u)) (rules.wires (entering u) (facts.children u h).wires),
            ));
        calls = call-calls (λ n. moved_number m n < limit) active number f leaves
            (child-below local profile schedule k u (j - 1) (out_head u.header j) at head);
        statements = shallow.statements;
        expressions = shallow.expressions;
      }

  pub update-good : (k : ℕ) (u : ChildUse) → slice_get local.children k ≡ Some u → Good (update_code local children_count params (k, u))
  update-good k u at =
      let h = in-at local.children k u at in
      let active = active_test local params in
      let n = length (header_functions u.header) in
      let number = child_base local children_count k + n in
      let f = child_field local k in
      let leaves = now_leaf params ∷ map (wire_leaf local) (entering u) in
      let place : n + 0 ≡ n = omega arith in
      let head =
      subst (λ i. slice_get (public_heads u.header) i ≡ Some (update_head u.header)) place
      (behind-at u.header 0 (update_head u.header) refl) in
      let shallow = depths.call active number f leaves rules.shallow_active in record {
        lawful = λ prelude. subst (AreLawfulStmts here) (sym (call-moves m (λ f o. refl) active number f leaves))
            (child_laws.call active (moved_number m number) f leaves (bare_procedure k (update_head u.header))
            (child-at local profile schedule k u n (update_head u.header) later at head)
            (child-struct local schedule k u at) (ap suc (as-many u h)) rules.active
            (rules.param now_name, rules.wires (entering u) (facts.children u h).wires));
        calls = call-calls (λ n. moved_number m n < limit) active number f leaves
            (child-below local profile schedule k u n (update_head u.header) at head);
        statements = shallow.statements;
        expressions = shallow.expressions;
      }

  pub reset-good : (k : ℕ) (u : ChildUse) → slice_get local.children k ≡ Some u → Good (reset_code local children_count params (k, u))
  reset-good k u at =
      let off = off_test local params in
      let n = length (header_functions u.header) in
      let number = child_base local children_count k + n + 2 in
      let f = child_field local k in
      let place : child_base local children_count k + (n + 2) ≡ number = omega arith in
      let head = behind-at u.header 2 (reset_head u.header) refl in
      let shallow = depths.reset_call off number f rules.shallow_off in record {
        lawful = λ prelude. subst (AreLawfulStmts here) (sym (reset-moves m (λ f o. refl) off number f))
            (child_laws.reset off (moved_number m number) f (bare_procedure k (reset_head u.header))
            (subst (λ i. slice_get (bare_procedures local ++ later) (moved_number m i) ≡ Some
            (bare_procedure k (reset_head u.header))) place
            (child-at local profile schedule k u (n + 2) (reset_head u.header) later at head))
            (child-struct local schedule k u at) refl rules.off);
        calls = reset-calls (λ n. moved_number m n < limit) off number f
            (subst (λ i. moved_number m i < limit) place (child-below local profile schedule k u (n + 2) (reset_head u.header) at head));
        statements = shallow.statements;
        expressions = shallow.expressions;
      }

  -- ---- Nodes

  -- a call is one of a child's function
  record IsCall (k j : ℕ) : Type 0 where
    pub child : ChildUse
    pub at : slice_get local.children k ≡ Some child
    pub positive : 0 < j
    pub most : j ≤ length (header_functions child.header)

  called : (k j : ℕ) → Contains (node_places local) (Call k j) → IsCall k j
  called k j h =
      elim (Contains-append_cases (map Row (range_with_len 0 (length local.rows)))
      (flat_map call_places (enumerate_from 0 local.children)) (Call k j) h) [
        | inl row ↦ (let m = of-map Row (range_with_len 0 (length local.rows)) (Call k j) row in let is = m.2 in
            absurd (let wrong : ⊥ = cc is in wrong))
        | inr call ↦ (let e = of-flat_map call_places (enumerate_from 0 local.children) (Call k j) call in of-child e.0 e.1 e.2)
      ]
    where
      by-row : (e : ℕ × ChildUse) (row : Option ℕ) → Contains (enumerate_from 0 local.children) e →
          Contains (option_map_or (λ (r : ℕ). map (Call e.0) (range_with_len 1 (length (header_functions e.1.header)))) row [])
          (Call k j) → IsCall k j
      by-row e None inside call = absurd (in-none (Call k j) call)
      by-row e (Some row) inside call =
          let m = of-map (Call e.0) (range_with_len 1 (length (header_functions e.1.header))) (Call k j) call in
          let is = m.2 in
          let child : e.0 ≡ k = cc is in
          let function : m.0 ≡ j = cc is in
          let range = of-range 1 (length (header_functions e.1.header)) m.0 m.1 in
          let low = range.0 in
          let high = range.1 in
          let n = of-enumerate 0 local.children e inside in
          let first = n.1 in
          let place : n.0 ≡ k = omega (arith, first, child) in record {
            child = e.1;
            at = subst (λ i. slice_get local.children i ≡ Some e.1) place n.2;
            positive = omega (arith, low, function);
            most = omega (arith, high, function);
          }

      of-child : (e : ℕ × ChildUse) → Contains (enumerate_from 0 local.children) e → Contains (call_places e) (Call k j) → IsCall k j
      of-child e inside call = by-row e e.1.header.row inside call

  pub node-good : (n : ℕ) → Good (code_at local children_count params n)
  node-good n = by (slice_get (node_places local) n) refl
    where
      row : (p : ℕ) (o : Option LocalRow) → slice_get local.rows p ≡ o → Good (option_map_or (value_code local params) o no_stmts)
      row p None e = good-none m here limit
      row p (Some r) e = value-good local profile schedule facts laws pures later params rules r (in-at local.rows p r e)

      by : (o : Option Place) → slice_get (node_places local) n ≡ o →
          Good (option_map_or (node_code local children_count params) o no_stmts)
      by None e = good-none m here limit
      by (Some (Row p)) e = row p (slice_get local.rows p) refl
      by (Some (Call k j)) e =
          let call = called k j (in-at (node_places local) n (Call k j) e) in
          subst (λ o. Good (option_map_or (λ (u : ChildUse). call_code local children_count params k u j) o no_stmts)) (sym call.at)
          (call-good k j call.child call.at call.positive call.most)
