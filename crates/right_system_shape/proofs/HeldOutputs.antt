-- A function gives an output just where one of its groups has the output's node.
use Rattle.std.specs.Prelude.{◌≡◌, refl, ℕ, ◌+◌, ◌^◌, ◌<◌, Bool, true, false, not, ◌==◌, ◌&&◌, if◌then◌else◌, List, [], ◌∷◌, map, flat_map, filter, zip, length, slice_get, slice_index, bit_and, IsBitSet, Contains, Option, Some, None}
use Rattle.std.specs.Option.{option_map_or}
use Rattle.std.specs.List.{range_with_len}
use Rattle.std.proofs.Common.{sym, ap, subst, ◌∙◌, arith, inl, inr}
use Rattle.std.proofs.lemmas.Bool.{eqb-true, eq-eqb, and_from}
use Rattle.std.proofs.lemmas.Option.{same_Some}
use Rattle.base_core.specs.declared.base.Port.{Port}
use Rattle.base_core.specs.Interface.{different}
use Rattle.diagram_blocks.specs.Value.{feeds_through}
use Rattle.diagram_meaning.specs.ResolvedTree.{diagram_of}
use Rattle.diagram_meaning.specs.Rows.{outports_of, rows_of, is_system, row_at}
use Rattle.diagram_blocks.specs.Kinds.{is_outport, port_of}
use Rattle.modules_profile.specs.declared.local.ChildUse.{ChildUse}
use Rattle.modules_profile.specs.declared.local.LocalRow.{LocalRow}
use Rattle.modules_profile.specs.declared.nodes.Node.{Node}
use Rattle.modules_profile.specs.declared.nodes.Node.TheVariants.{Row as RowNode, Call as CallNode}
use Rattle.modules_profile.specs.declared.profile.Function.{Function}
use Rattle.modules_profile.specs.LocalSystem.{LocalSystem}
use Rattle.modules_profile.specs.SystemProfile.{SystemProfile}
use Rattle.modules_profile.specs.Functions.{function_for}
use Rattle.modules_profile.specs.Headers.{header_function, header_functions, ports_of_header, taken}
use Rattle.modules_profile.specs.LocalNodes.{used_inputs, node_gives, node_needs, node_list, call_nodes, calls_of, NodeNeeds, NodeWalk, NodeReaches}
use Rattle.modules_profile.specs.Locals.{row_of, child_of, outports, entering}
use Rattle.modules_profile.specs.NodeFacts.{NodesReachAsRows}
use Rattle.base_core.specs.Ports.{bit_of, has_bit}
use Rattle.modules_profile.proofs.lemmas.Members.{in-none, in-cases, in-filter, of-map, of-filter, found-in, in-at, at-map, map-at, at-below, at-append, at-range, range-at, of-zip, in-range}
use Rattle.modules_profile.proofs.lemmas.MaskBits.{set-has}
use Rattle.modules_profile.proofs.lemmas.OwnRows.{of-flat_map}
use Rattle.modules_profile.proofs.lemmas.LawfulSteps.{apart-at, apart-found, apart-different}
use Rattle.modules_schedule.specs.SystemSchedule.{SystemSchedule}
use Rattle.modules_schedule.specs.Scheduling.{is_unheld, groups_holding}
use Rattle.emit_system_spec.specs.Emitted.{IsEmitted}
use Rattle.emit_system_spec.specs.Groups.{group_nodes}
use Rattle.emit_system_spec.specs.Schedules.{giving_function, giving_functions}
use Rattle.right_system_shape.proofs.GroupOrder.{no-bit, group-of, nodes-are, of-function}
use Rattle.right_system_shape.proofs.Reaching as reaching
use Rattle.right_system_shape.proofs.Reaching.{giving, given-by, index-is, row-node}
use Rattle.right_system_shape.proofs.Readable.{IsReadable}
use Rattle.right_system_shape.proofs.StoreSites.{place-one}

module _ (local : LocalSystem) (readable : IsReadable local) where
  -- ---- Nothing needs an own output

  used-input : (feeds : Bool) (inputs : List ℕ) (c : ℕ) → Contains (if feeds then inputs else []) c → Contains inputs c
  used-input true inputs c h = h
  used-input false inputs c h = absurd (in-none c h)

  entered : (u : ChildUse) (j c : ℕ) → Contains (taken u.header j (entering u)) c → Contains (entering u) c
  entered u j c h =
      let test : Port × ℕ → Bool = λ x. has_bit (header_function u.header j).inputs (bit_of x.0) in
      let pairs : List (Port × ℕ) = zip (ports_of_header u.header) (entering u) in
      let m = of-map (λ (x : Port × ℕ). x.1) (filter test pairs) c h in
      let z = of-zip (ports_of_header u.header) (entering u) m.0 (of-filter test pairs m.0 m.1).0 in
      subst (Contains (entering u)) m.2 (in-at (entering u) z.0 m.0.1 z.2)

  not-needed : (o : LocalRow) (x : Node) → Contains (outports local) o → Contains (node_needs local x) o.row → ⊥
  not-needed o (RowNode b) out h = by (row_of local b) refl h
    where
      by : (r : Option LocalRow) → row_of local b ≡ r → Contains (option_map_or used_inputs r []) o.row → ⊥
      by None e h = in-none o.row h
      by (Some r) e h = readable.unread_rows o r out (found-in (λ (r : LocalRow). r.row == b) local.rows r e).0
          (used-input (feeds_through r.op) r.inputs o.row h)
  not-needed o (CallNode e j) out h = by (child_of local e) refl h
    where
      by : (u : Option ChildUse) → child_of local e ≡ u →
          Contains (option_map_or (λ (u : ChildUse). taken u.header j (entering u)) u []) o.row → ⊥
      by None is h = in-none o.row h
      by (Some u) is h = readable.unread_children o u out (found-in (λ (u : ChildUse). is_system u.header.row e) local.children u is).0
          (entered u j o.row h)

  row-gives : (b c : ℕ) → Contains (node_gives local (RowNode b)) c → b ≡ c
  row-gives b c h = by (row_of local b) refl h
    where
      by : (o : Option LocalRow) → row_of local b ≡ o → Contains (option_map_or (λ (r : LocalRow). r.row ∷ []) o []) c → b ≡ c
      by None e h = absurd (in-none c h)
      by (Some r) e h = elim (in-cases r.row c [] h) [
        | inl same ↦ sym (eqb-true r.row b (found-in (λ (r : LocalRow). r.row == b) local.rows r e).1) ∙ same
        | inr more ↦ absurd (in-none c more)
      ]

  needs-none : (o : LocalRow) (y : Node) → Contains (outports local) o → NodeNeeds local y (RowNode o.row) → ⊥
  needs-none o y out (c, needs, gives) = not-needed o y out (subst (Contains (node_needs local y)) (sym (row-gives o.row c gives)) needs)

  walks-none : (o : LocalRow) (y : Node) (path : List Node) → Contains (outports local) o → NodeWalk local y path (RowNode o.row) → ⊥
  walks-none o y [] out walk = needs-none o y out walk
  walks-none o y (z ∷ path) out walk = walks-none o z path out walk.1

  reaches-itself : (o p : LocalRow) → Contains (outports local) o → NodeReaches local (RowNode o.row) (RowNode p.row) → o.row ≡ p.row
  reaches-itself o p out (inl same) = cc
  reaches-itself o p out (inr (path, walk)) = absurd (walks-none o (RowNode p.row) path out walk)

module _ (reach : NodesReachAsRows) (local : LocalSystem) (profile : SystemProfile) (schedule : SystemSchedule)
    (is : IsEmitted local profile schedule) (readable : IsReadable local)
    (i : ℕ) (o : LocalRow) (at : slice_get (outports local) i ≡ Some o) (k : ℕ) (row : slice_get local.rows k ≡ Some o) where
  out : Contains (outports local) o
  out = in-at (outports local) i o at

  -- an output is at one port
  one-port : (p : ℕ) (q : LocalRow) → slice_get (outports local) p ≡ Some q → o.row ≡ q.row → i ≡ p
  one-port p q there same =
      let d = diagram_of is.resolved in
      let own : List ℕ = filter (λ b. is_outport (row_at d.rows b).kind) (rows_of d.rows local.row) in
      let here = (reaching.output-at reach local profile schedule is i o at).row in
      let other = (reaching.output-at reach local profile schedule is p q there).row in
      apart-at (outports_of d.rows local.row) i p o.row (apart-found (λ b. port_of (row_at d.rows b).kind) own 1 (length own)) here
      (other ∙ ap Some (sym same))

  module _ (j : ℕ) (gs : List ℕ) (called : slice_get schedule.functions j ≡ Some gs) (f : Function)
      (there : slice_get profile.functions j ≡ Some f) where
    low-output : i < length (reaching.needs reach local profile schedule is)
    low-output =
        let many = reaching.needs-many reach local profile schedule is in
        let inside = at-below (outports local) i o at in
        omega (arith, many, inside)

    -- where a group of the function has its node
    pub given-in : (g : ℕ) → Contains gs g → Contains (group_nodes schedule g) k → has_bit f.outputs i ≡ true
    given-in g h node =
        let held = of-function local profile schedule is.is_schedule j gs g called h in
        let r = reaching.called-reaches reach local profile schedule is k j g held.0 held.1 node in
        let nodes = reaching.node-reaches reach local profile schedule is k r.node (RowNode o.row) (RowNode r.output.row)
        (row-node local k o row) r.is_node r.reaches in
        let same = reaches-itself local readable o r.output out nodes in
        let port : i ≡ r.i = one-port r.i r.output r.at same in
        let first = giving profile (reaching.needs reach local profile schedule is) i is.is_profile.functions low-output in
        let number : giving_function profile i ≡ j = ap (giving_function profile) port ∙ r.giving in
        let one : first.0 ≡ f = same_Some first.0 f (sym first.1 ∙ ap (slice_get profile.functions) number ∙ there) in
        ap (λ (f : Function). has_bit f.outputs i) (sym one) ∙ first.2

    -- the function that gives it is the first with its bit, as no two need the same
    giving-is : has_bit f.outputs i ≡ true → giving_function profile i ≡ j
    giving-is has =
        let needs = reaching.needs reach local profile schedule is in
        let first = giving profile needs i is.is_profile.functions low-output in
        let number = giving_function profile i in
        let are = is.is_profile.functions in
        let a = map-at (function_for needs) (different needs) number first.0
        (subst (λ fs. slice_get fs number ≡ Some first.0) are first.1) in
        let b = map-at (function_for needs) (different needs) j f (subst (λ fs. slice_get fs j ≡ Some f) are there) in
        let g = given-by needs i number first.0 low-output (subst (λ fs. slice_get fs number ≡ Some first.0) are first.1) first.2 in
        let h = given-by needs i j f low-output (subst (λ fs. slice_get fs j ≡ Some f) are there) has in
        let masks : g.mask ≡ h.mask = same_Some g.mask h.mask (sym g.need ∙ h.need) in
        let left : a.0 ≡ g.mask = ap (λ (f : Function). f.inputs) (a.2 ∙ g.is) in
        let right : b.0 ≡ h.mask = ap (λ (f : Function). f.inputs) (b.2 ∙ h.is) in
        apart-at (different needs) number j b.0 (apart-different needs) (a.1 ∙ ap Some (left ∙ masks ∙ sym right)) b.1

    -- the node of an output is that of its row
    node-is : (b : ℕ) → slice_get (node_list local) b ≡ Some (RowNode o.row) → b ≡ k
    node-is b e = elim (at-append (map (λ (q : LocalRow). RowNode q.row) local.rows) (flat_map call_nodes local.children) b
        (RowNode o.row) e) [
          | inl rows ↦
              let m = map-at (λ (q : LocalRow). RowNode q.row) local.rows b (RowNode o.row) rows in
              let same : m.0.row ≡ o.row = (let is = m.2 in cc) in
              place-one local profile schedule readable o (in-at local.rows k o row) b k m.0 o m.1 row same
          | inr calls ↦
              let m = of-flat_map call_nodes local.children (RowNode o.row) (in-at (flat_map call_nodes local.children) calls.0
              (RowNode o.row) calls.2) in
              absurd (none m.0 m.0.header.row m.2)
        ]
      where
        none : (u : ChildUse) (r : Option ℕ) → Contains (calls_of r (length (header_functions u.header))) (RowNode o.row) → ⊥
        none u None h = in-none (RowNode o.row) h
        none u (Some e) h = let m = of-map (CallNode e) (range_with_len 1 (length (header_functions u.header))) (RowNode o.row) h in
            let is = m.2 in let wrong : ⊥ = cc in wrong

    -- where the function gives it, one of its groups has the node
    pub group-in : has_bit f.outputs i ≡ true → (g : ℕ) × Contains gs g × Contains (group_nodes schedule g) k
    group-in has =
        let groups = is.is_schedule.groups in
        let clusters = is.is_schedule.clusters in
        let number = giving-is has in
        let node = reaching.output-node reach local profile schedule is i o at in
        let same : node.0 ≡ k = node-is node.0 node.2 in
        let inside = at-below (node_list local) k (RowNode o.row) (row-node local k o row) in
        let count = is.is_schedule.are_nodes.count in
        let placed = is.is_schedule.is_order.has_all k (omega (arith, inside, count)) in
        let below = reaching.node-below reach local profile schedule is k placed in
        let one = is.is_schedule.are_clusters.one_each in
        let many = reaching.outputs-many reach local profile schedule is in
        let port = at-below (outports local) i o at in
        let none : 0 + i ≡ i = omega arith in
        let class : slice_index (giving_functions local profile) i ≡ j =
        index-is (giving_functions local profile) i (giving_function profile i)
        (at-map (giving_function profile) (range_with_len 0 (length (outports local))) i i (at-range 0 (length (outports local)) i port
        ∙ ap Some none)) ∙ number in
        let output : k ≡ slice_index is.is_schedule.nodes.outputs i = sym (index-is is.is_schedule.nodes.outputs i node.0 node.1 ∙ same) in
        let bit : IsBitSet (slice_index clusters k) j = (is.is_schedule.are_clusters.bits k j (omega (arith, below, one))).1
        (i, omega (arith, many, port), class, inl output) in
        let group = group-of clusters groups is.is_schedule.are_groups k below in
        let g = slice_index groups.of k in
        let set : not (bit_and (slice_index groups.holds g) (2 ^ j) == 0) ≡ true = subst (λ n. has_bit n j ≡ true) (sym group.1)
        (set-has (slice_index clusters k) j bit) in
        let held : is_unheld groups g ≡ false = no-bit local profile schedule is.is_schedule (slice_index groups.holds g) j set in
        let listed : Contains (groups_holding groups.holds j) g = in-filter (λ g. not (bit_and (slice_index groups.holds g) (2 ^ j) == 0))
        (range_with_len 0 (length groups.holds)) g
        (in-range 0 (length groups.holds) g (omega arith) (let low = group.0 in omega (arith, low))) set in
        let gs_are : gs ≡ groups_holding groups.holds j = function-groups j gs called in
        let node_in : Contains (group_nodes schedule g) k = subst (λ xs. Contains xs k)
        (sym (nodes-are local profile schedule is.is_schedule g group.0))
        (in-filter (λ m. (slice_index groups.of m == g) && not (is_unheld groups g)) is.is_schedule.order k placed
        (and_from _ _ (eq-eqb g g refl) (ap not held))) in
        (g, subst (λ xs. Contains xs g) (sym gs_are) listed, node_in)
      where
        function-groups : (j : ℕ) (gs : List ℕ) → slice_get schedule.functions j ≡ Some gs →
            gs ≡ groups_holding is.is_schedule.groups.holds j
        function-groups j gs called =
            let there = subst (λ fs. slice_get fs j ≡ Some gs)
            (ap (λ (s : SystemSchedule). s.functions) is.is_schedule.is_schedule) called in
            let m = map-at (groups_holding is.is_schedule.groups.holds) (range_with_len 0 (length profile.functions)) j gs there in
            let number = (range-at 0 (length profile.functions) j m.0 m.1).1 in
            let same : m.0 ≡ j = omega (arith, number) in
            sym m.2 ∙ ap (groups_holding is.is_schedule.groups.holds) same
