-- Which functions hold the group of an own row: each gives an output that the row reaches.
use Rattle.std.specs.Prelude.{◌≡◌, refl, ℕ, zero, suc, ◌+◌, ◌^◌, ◌<◌, Bool, true, false, not, ◌==◌, ◌&&◌, cond, List, [], ◌∷◌, ◌++◌, map, flat_map, length, slice_get, slice_index, bit_and, IsBitSet, Contains, Option, Some, None, unwrap_or}
use Rattle.std.specs.Option.{option_map_or}
use Rattle.std.specs.List.{AllZip, position_from, range_with_len, enumerate_from}
use Rattle.std.proofs.Common.{sym, ap, subst, ◌∙◌, arith, inl, inr, true≢false}
use Rattle.std.proofs.lemmas.Bool.{eqb-true, eq-eqb, and_parts}
use Rattle.std.proofs.lemmas.List.{length-map}
use Rattle.std.proofs.lemmas.Option.{same_Some, none-some}
use Rattle.base_core.specs.Interface.{different}
use Rattle.base_graph.specs.NeedsGraph.{NeedsGraph}
use Rattle.base_graph.specs.OneOrder.{Follows}
use Rattle.base_graph.specs.Reaching as graph
use Rattle.diagram_meaning.specs.Diagram.{Diagram}
use Rattle.diagram_meaning.specs.Needs.{Reaches, needs_inside, TrueNeeds, IsMaskOf}
use Rattle.diagram_meaning.specs.ResolvedTree.{diagram_of}
use Rattle.diagram_meaning.specs.Rows.{outports_of}
use Rattle.diagram_blocks.specs.Kinds.{is_outport}
use Rattle.modules_profile.specs.declared.local.ChildUse.{ChildUse}
use Rattle.modules_profile.specs.declared.local.LocalRow.{LocalRow}
use Rattle.modules_profile.specs.declared.nodes.Node.{Node}
use Rattle.modules_profile.specs.declared.nodes.Node.TheVariants.{Row as RowNode, Call as CallNode}
use Rattle.modules_profile.specs.declared.profile.Function.{Function}
use Rattle.modules_profile.specs.LocalSystem.{LocalSystem}
use Rattle.modules_profile.specs.SystemProfile.{SystemProfile}
use Rattle.modules_profile.specs.Functions.{function_for, functions_for, mask_of}
use Rattle.modules_profile.specs.Headers.{header_functions}
use Rattle.modules_profile.specs.LocalNodes.{same_node, node_list, call_nodes, NodeReaches}
use Rattle.modules_profile.specs.Locals.{local_row, outports}
use Rattle.modules_profile.specs.NodeFacts.{NodesReachAsRows}
use Rattle.base_core.specs.Ports.{has_bit}
use Rattle.modules_profile.proofs.lemmas.Members.{in-none, in-cases, in-map, of-map, in-at, at-in, at-map, map-at, at-below, below-at, at-left, at-append, at-range, range-at, of-filter}
use Rattle.modules_profile.proofs.lemmas.MaskBits.{has-set, holds-has, has-holds, index-at, index-holds, in-different}
use Rattle.modules_profile.proofs.lemmas.OwnRows.{beside, by_port_mapped, of-flat_map}
use Rattle.modules_profile.proofs.lemmas.NodeReach.{walk-to-nodes}
use Rattle.modules_schedule.specs.SystemSchedule.{SystemSchedule}
use Rattle.modules_schedule.specs.Scheduling.{is_unheld}
use Rattle.emit_system_spec.specs.declared.node.Place.TheVariants.{Row, Call}
use Rattle.emit_system_spec.specs.Emitted.{IsEmitted}
use Rattle.emit_system_spec.specs.Groups.{group_nodes}
use Rattle.emit_system_spec.specs.Places.{call_places, node_places}
use Rattle.emit_system_spec.specs.Schedules.{giving_function, giving_functions}
use Rattle.right_system_shape.proofs.Callees.{get-index}
use Rattle.right_system_shape.proofs.GroupOrder.{group-of, nodes-are}

-- ---- Lists

-- the first of those that pass a test
pub position-some : {A : Type 0} (t : A → Bool) (i : ℕ) (xs : List A) (k : ℕ) (x : A) → slice_get xs k ≡ Some x → t x ≡ true →
    (j : ℕ) × (y : A) × (position_from t i xs ≡ Some (i + j)) × (slice_get xs j ≡ Some y) × (t y ≡ true)
position-some t i [] k x e passes = absurd (none-some x e)
position-some {A} t i (z ∷ xs) k x e passes = by (t z) refl k e (λ k e. position-some t (i + 1) xs k x e passes)
  where
    by : (r : Bool) → t z ≡ r → (k : ℕ) → slice_get (z ∷ xs) k ≡ Some x →
        ((k : ℕ) → slice_get xs k ≡ Some x → (j : ℕ) × (y : A) × (position_from t (i + 1) xs ≡ Some (i + 1 + j)) ×
        (slice_get xs j ≡ Some y) × (t y ≡ true)) →
        (j : ℕ) × (y : A) × (cond r (Some i) (position_from t (i + 1) xs) ≡ Some (i + j)) × (slice_get (z ∷ xs) j ≡ Some y) × (t y ≡ true)
    by true is k e later = (0, z, ap Some (let stay : i ≡ i + 0 = omega arith in stay), refl, is)
    by false is zero e later = absurd (true≢false (sym passes ∙ ap t (sym (same_Some z x e)) ∙ is))
    by false is (suc k) e later =
        let m = later k e in
        (suc m.0, m.1, m.2 ∙ ap Some (let next : i + 1 + m.0 ≡ i + suc m.0 = omega arith in next), m.3, m.4)

pub position-at : {A : Type 0} (t : A → Bool) (i : ℕ) (xs : List A) (j : ℕ) → position_from t i xs ≡ Some j →
    (k : ℕ) × (y : A) × (i + k ≡ j) × (slice_get xs k ≡ Some y) × (t y ≡ true)
position-at t i [] j e = absurd (none-some j e)
position-at {A} t i (z ∷ xs) j e = by (t z) refl e (λ e. position-at t (i + 1) xs j e)
  where
    by : (r : Bool) → t z ≡ r → cond r (Some i) (position_from t (i + 1) xs) ≡ Some j →
        (position_from t (i + 1) xs ≡ Some j → (k : ℕ) × (y : A) × (i + 1 + k ≡ j) × (slice_get xs k ≡ Some y) × (t y ≡ true)) →
        (k : ℕ) × (y : A) × (i + k ≡ j) × (slice_get (z ∷ xs) k ≡ Some y) × (t y ≡ true)
    by true is e later = (0, z, (let stay : i + 0 ≡ i = omega arith in stay) ∙ same_Some i j e, refl, is)
    by false is e later = let m = later e in (suc m.0, m.1, (let next : i + suc m.0 ≡ i + 1 + m.0 = omega arith in next) ∙ m.2, m.3, m.4)

pub index-is : (xs : List ℕ) (k x : ℕ) → slice_get xs k ≡ Some x → slice_index xs k ≡ x
index-is xs k x e = get-index xs k 0 x e

-- each of an order is a node
pub order-below : (g : NeedsGraph) (placed list : List ℕ) (b : ℕ) → Follows g placed list → Contains list b → b < g.n
order-below g placed [] b follows h = absurd (in-none b h)
order-below g placed (c ∷ list) b follows h = elim (in-cases c b list h) [
  | inl same ↦ subst (λ b. b < g.n) same follows.0.may_stand.is_node
  | inr more ↦ order-below g (placed ++ c ∷ []) list b follows.1 more
]

-- ---- Nodes

one-node : (c : ℕ) (y : Node) → same_node (RowNode c) y ≡ true → y ≡ RowNode c
one-node c (RowNode b) is = ap RowNode (sym (eqb-true c b is))
one-node c (CallNode e j) is = absurd (true≢false (sym is))

-- the place of a row is its number among rows
pub place-row : (local : LocalSystem) (nth p : ℕ) → slice_get (node_places local) nth ≡ Some (Row p) → nth ≡ p
place-row local nth p e = elim (at-append (map Row (range_with_len 0 (length local.rows)))
    (flat_map call_places (enumerate_from 0 local.children)) nth (Row p) e) [
      | inl rows ↦
          let m = map-at Row (range_with_len 0 (length local.rows)) nth (Row p) rows in
          let number = (range-at 0 (length local.rows) nth m.0 m.1).1 in
          let same : m.0 ≡ p = (let is = m.2 in cc) in
          omega (arith, number, same)
      | inr calls ↦
          let m = of-flat_map call_places (enumerate_from 0 local.children) (Row p)
          (in-at (flat_map call_places (enumerate_from 0 local.children)) calls.0 (Row p) calls.2) in
          absurd (none m.0.0 m.0.1 m.0.1.header.row m.2)
    ]
  where
    none : (k : ℕ) (u : ChildUse) (row : Option ℕ) →
        Contains (option_map_or (λ row. map (Call k) (range_with_len 1 (length (header_functions u.header)))) row []) (Row p) → ⊥
    none k u None h = in-none (Row p) h
    none k u (Some row) h = let m = of-map (Call k) (range_with_len 1 (length (header_functions u.header))) (Row p) h in let is = m.2 in
        let wrong : ⊥ = cc in wrong

pub row-node : (local : LocalSystem) (p : ℕ) (r : LocalRow) → slice_get local.rows p ≡ Some r → slice_get (node_list local) p
    ≡ Some (RowNode r.row)
row-node local p r e = at-left (map (λ (q : LocalRow). RowNode q.row) local.rows) (flat_map call_nodes local.children) p (RowNode r.row)
    (at-map (λ (q : LocalRow). RowNode q.row) local.rows p r e)

-- ---- The function that gives an output

pub record IsGiven (needs : List ℕ) (i : ℕ) (f : Function) : Type 0 where
  pub mask : ℕ
  pub need : slice_get needs i ≡ Some mask
  pub is : f ≡ function_for needs mask

pub given-by : (needs : List ℕ) (i j : ℕ) (f : Function) → i < length needs → slice_get (functions_for needs) j ≡ Some f →
    has_bit f.outputs i ≡ true → IsGiven needs i f
given-by needs i j f below at has =
    let m = map-at (function_for needs) (different needs) j f at in
    let bit : has_bit (mask_of (map (λ n. n == m.0) needs)) i ≡ true = ap (λ (f : Function). has_bit f.outputs i) m.2 ∙ has in
    let x = index-holds (λ n. n == m.0) needs i (has-holds (map (λ n. n == m.0) needs) i bit) in
    let same : x.0 ≡ m.0 = eqb-true x.0 m.0 x.2 in
    record { mask = m.0; need = x.1 ∙ ap Some same; is = sym m.2 }

-- the first function with its bit
pub giving : (profile : SystemProfile) (needs : List ℕ) (i : ℕ) → profile.functions ≡ functions_for needs → i < length needs →
    (f : Function) × (slice_get profile.functions (giving_function profile i) ≡ Some f) × (has_bit f.outputs i ≡ true)
giving profile needs i are below =
    let n = below-at needs i below in
    let class = at-in (different needs) n.0 (in-different needs n.0 (in-at needs i n.0 n.1)) in
    let there : slice_get profile.functions class.0 ≡ Some (function_for needs n.0) =
    ap (λ fs. slice_get fs class.0) are ∙ at-map (function_for needs) (different needs) class.0 n.0 class.1 in
    let bit : has_bit (function_for needs n.0).outputs i ≡ true =
    holds-has (map (λ m. m == n.0) needs) i (index-at (λ m. m == n.0) needs i n.0 n.1 ∙ eq-eqb n.0 n.0 refl) in
    let first = position-some (λ (f : Function). has_bit f.outputs i) 0 profile.functions class.0 (function_for needs n.0) there bit in
    let number : giving_function profile i ≡ first.0 = ap (λ o. unwrap_or o 0) first.2
    ∙ (let same : 0 + first.0 ≡ first.0 = omega arith in same) in
    (first.1, ap (slice_get profile.functions) number ∙ first.3, first.4)

module _ (reach : NodesReachAsRows) (local : LocalSystem) (profile : SystemProfile) (schedule : SystemSchedule)
    (is : IsEmitted local profile schedule) where
  abbrev pub d : Diagram
  d = diagram_of is.resolved

  abbrev pub needs : List ℕ
  needs = is.is_profile.needs

  pub outports-are : outports local ≡ map (local_row d is.resolved.times.delays) (outports_of d.rows local.row)
  outports-are = ap outports is.is_local.is_local ∙ by_port_mapped d is.resolved.times.delays local.row is.is_local.headers is_outport

  -- an output by port, with what it needs
  pub record IsOutput (i : ℕ) (o : LocalRow) : Type 0 where
    pub row : slice_get (outports_of d.rows local.row) i ≡ Some o.row
    pub mask : ℕ
    pub need : slice_get needs i ≡ Some mask
    pub are_needs : IsMaskOf (TrueNeeds d local.row o.row) mask

  pub output-at : (i : ℕ) (o : LocalRow) → slice_get (outports local) i ≡ Some o → IsOutput i o
  output-at i o at =
      let m = map-at (local_row d is.resolved.times.delays) (outports_of d.rows local.row) i o
      (subst (λ os. slice_get os i ≡ Some o) outports-are at) in
      let same : m.0 ≡ o.row = ap (λ (r : LocalRow). r.row) m.2 in
      let row : slice_get (outports_of d.rows local.row) i ≡ Some o.row = m.1 ∙ ap Some same in
      let n = beside (λ o mask. IsMaskOf (TrueNeeds d local.row o) mask)
      (outports_of d.rows local.row) needs i o.row is.is_profile.are_needs row in
      record { row = row; mask = n.0; need = n.1; are_needs = n.2 }

  -- the node of an output
  pub output-node : (i : ℕ) (o : LocalRow) → slice_get (outports local) i ≡ Some o →
      (b : ℕ) × (slice_get is.is_schedule.nodes.outputs i ≡ Some b) × (slice_get (node_list local) b ≡ Some (RowNode o.row))
  output-node i o at =
      let find_node : LocalRow → Option ℕ = λ (o : LocalRow). position_from (same_node (RowNode o.row)) 0 (node_list local) in
      let there = subst (λ xs. slice_get xs i ≡ Some (find_node o)) (sym is.is_schedule.are_nodes.outputs)
      (at-map find_node (outports local) i o at) in
      let m = map-at Some is.is_schedule.nodes.outputs i (find_node o) there in
      let f = position-at (same_node (RowNode o.row)) 0 (node_list local) m.0 (sym m.2) in
      let number : f.0 ≡ m.0 = (let none : f.0 ≡ 0 + f.0 = omega arith in none) ∙ f.2 in
      (m.0, m.1, subst (λ k. slice_get (node_list local) k ≡ Some (RowNode o.row)) number (f.3 ∙ ap Some (one-node o.row f.1 f.4)))

  pub outputs-many : length is.is_schedule.nodes.outputs ≡ length (outports local)
  outputs-many =
      sym (length-map is.is_schedule.nodes.outputs Some) ∙ ap length is.is_schedule.are_nodes.outputs
      ∙ length-map (outports local) (λ (o : LocalRow). position_from (same_node (RowNode o.row)) 0 (node_list local))

  pub needs-many : length (outports local) ≡ length needs
  needs-many = ap length outports-are ∙ length-map (outports_of d.rows local.row) (local_row d is.resolved.times.delays)
      ∙ long (outports_of d.rows local.row) needs is.is_profile.are_needs
    where
      long : (os ms : List ℕ) → AllZip (λ o mask. IsMaskOf (TrueNeeds d local.row o) mask) os ms → length os ≡ length ms
      long [] [] h = refl
      long [] (m ∷ ms) h = absurd h
      long (o ∷ os) [] h = absurd h
      long (o ∷ os) (m ∷ ms) h = ap suc (long os ms h.1)

  -- the node at a place reaches an output that the function gives
  pub record ReachesOutput (nth j : ℕ) : Type 0 where
    pub i : ℕ
    pub output : LocalRow
    pub at : slice_get (outports local) i ≡ Some output
    pub giving : giving_function profile i ≡ j
    pub node : ℕ
    pub is_node : slice_get (node_list local) node ≡ Some (RowNode output.row)
    pub reaches : graph.Reaches is.is_schedule.nodes.graph nth node

  pub node-below : (nth : ℕ) → Contains is.is_schedule.order nth → nth < length is.is_schedule.clusters
  node-below nth h =
      let low = order-below is.is_schedule.nodes.graph [] is.is_schedule.order nth is.is_schedule.is_order.is_least_first h in
      let one = is.is_schedule.are_clusters.one_each in
      omega (arith, low, one)

  pub bit-reaches : (nth j : ℕ) → nth < length is.is_schedule.clusters → IsBitSet (slice_index is.is_schedule.clusters nth) j →
      ReachesOutput nth j
  bit-reaches nth j below bit =
      let one = is.is_schedule.are_clusters.one_each in
      let r = (is.is_schedule.are_clusters.bits nth j (omega (arith, below, one))).0 bit in
      let many = outputs-many in
      let low = r.1 in
      let inside : r.0 < length (outports local) = omega (arith, many, low) in
      let o = below-at (outports local) r.0 inside in
      let class : slice_index (giving_functions local profile) r.0 ≡ giving_function profile r.0 =
      index-is (giving_functions local profile) r.0 (giving_function profile r.0)
      (at-map (giving_function profile) (range_with_len 0 (length (outports local))) r.0 r.0
      (at-range 0 (length (outports local)) r.0 inside ∙ ap Some (let none : 0 + r.0 ≡ r.0 = omega arith in none))) in
      let b = output-node r.0 o.0 o.1 in
      record {
        i = r.0;
        output = o.0;
        at = o.1;
        giving = sym class ∙ r.2;
        node = b.0;
        is_node = b.2;
        reaches = subst (λ b. graph.Reaches is.is_schedule.nodes.graph nth b) (index-is is.is_schedule.nodes.outputs r.0 b.0 b.1) r.3;
      }

  -- a group that a function calls has only nodes that reach an output of the function
  pub called-reaches : (nth j g : ℕ) → g < length is.is_schedule.groups.holds →
      not (bit_and (slice_index is.is_schedule.groups.holds g) (2 ^ j) == 0) ≡ true →
      Contains (group_nodes schedule g) nth → ReachesOutput nth j
  called-reaches nth j g below has h =
      let groups = is.is_schedule.groups in
      let f = of-filter (λ k. (slice_index groups.of k == g) && not (is_unheld groups g)) is.is_schedule.order nth
      (subst (λ xs. Contains xs nth) (nodes-are local profile schedule is.is_schedule g below) h) in
      let group : slice_index groups.of nth ≡ g = eqb-true (slice_index groups.of nth) g
      (and_parts (slice_index groups.of nth == g) (not (is_unheld groups g)) f.1).0 in
      let inside = node-below nth f.0 in
      let set : slice_index groups.holds g ≡ slice_index is.is_schedule.clusters nth = ap (slice_index groups.holds) (sym group)
      ∙ (group-of is.is_schedule.clusters groups is.is_schedule.are_groups nth inside).1 in
      bit-reaches nth j inside (has-set (slice_index is.is_schedule.clusters nth) j (subst (λ n. has_bit n j ≡ true) set has))

  -- along the graph, a row reaches an output as its node does
  pub node-reaches : (nth node : ℕ) (x y : Node) → slice_get (node_list local) nth ≡ Some x → slice_get (node_list local) node ≡ Some y →
      graph.Reaches is.is_schedule.nodes.graph nth node → NodeReaches local x y
  node-reaches nth node x y from to (inl same) = inl (same_Some x y (sym from ∙ ap (slice_get (node_list local)) same ∙ to))
  node-reaches nth node x y from to (inr (path, walk)) =
      inr (walk-to-nodes local is.is_schedule.nodes is.is_schedule.are_nodes nth node x y path from to walk)

  pub row-reaches : (i : ℕ) (o r : LocalRow) → slice_get (outports local) i ≡ Some o → Contains local.rows r →
      NodeReaches local (RowNode r.row) (RowNode o.row) →
      Reaches (needs_inside d local.row) o.row r.row
  row-reaches i o r at own reaches =
      (reach is.resolved local.row local o.row r.row is.is_resolved is.is_local
      (in-at (outports_of d.rows local.row) i o.row (output-at i o at).row)
      (in-map (λ (q : LocalRow). q.row) local.rows r own)).1 reaches

  -- the function that gives an output is made for what it needs
  pub function-of-output : (i : ℕ) (o : LocalRow) (j : ℕ) (f : Function) → slice_get (outports local) i ≡ Some o →
      giving_function profile i ≡ j →
      slice_get profile.functions j ≡ Some f → IsMaskOf (TrueNeeds d local.row o.row) f.inputs
  function-of-output i o j f at gives there =
      let output = output-at i o at in
      let many = needs-many in
      let inside = at-below (outports local) i o at in
      let low : i < length needs = omega (arith, many, inside) in
      let first = giving profile needs i is.is_profile.functions low in
      let same : first.0 ≡ f = same_Some first.0 f (sym first.1 ∙ ap (slice_get profile.functions) gives ∙ there) in
      let bit : has_bit f.outputs i ≡ true = subst (λ (f : Function). has_bit f.outputs i ≡ true) same first.2 in
      let g = given-by needs i j f low (subst (λ fs. slice_get fs j ≡ Some f) is.is_profile.functions there) bit in
      let mask : output.mask ≡ f.inputs = same_Some output.mask g.mask (sym output.need ∙ g.need)
      ∙ sym (ap (λ (f : Function). f.inputs) g.is) in
      subst (IsMaskOf (TrueNeeds d local.row o.row)) mask output.are_needs
