-- A function holds the nodes whose groups it calls.
use Rattle.std.specs.Prelude.{◌≡◌, ◌⊎◌, ℕ, zero, suc, ◌+◌, ◌-◌, ◌<◌, ◌≤◌, Bool, true, false, List, map, filter, length, slice_get, slice_index, Contains, IsBitSet, Option, Some, None, refl}
use Rattle.std.specs.List.{position_from, enumerate_from}
use Rattle.std.proofs.Common.{sym, ap, subst, ◌∙◌, arith, inl, inr}
use Rattle.std.proofs.lemmas.Option.{same_Some, none-some, get_or_from_slice_get}
use Rattle.base_fixed_point.specs.declared.FixType.{FixType}
use Rattle.base_graph.specs.Reaching as graph
use Rattle.modules_profile.specs.declared.local.LocalRow.{LocalRow}
use Rattle.modules_profile.specs.declared.nodes.Node.{Node}
use Rattle.modules_profile.specs.declared.nodes.Node.TheVariants.{Row}
use Rattle.modules_profile.specs.declared.profile.Function.{Function}
use Rattle.modules_profile.specs.LocalSystem.{LocalSystem}
use Rattle.modules_profile.specs.SystemHeader.{SystemHeader}
use Rattle.modules_profile.specs.SystemProfile.{SystemProfile}
use Rattle.modules_profile.specs.Headers.{header_function, idle_function, given_by_function}
use Rattle.base_core.specs.Ports.{has_bit}
use Rattle.modules_profile.specs.Locals.{own_header, outports}
use Rattle.modules_profile.specs.LawfulLocals.{IsLocal}
use Rattle.modules_profile.specs.LocalNodes.{same_node, node_list, NodeReaches, Holds}
use Rattle.modules_profile.specs.NodeFacts.{LocalsAreLawful, HeaderIsOfOwnRows}
use Rattle.modules_profile.proofs.lemmas.NodeReach.{walk-to-places, walk-to-nodes}
use Rattle.modules_profile.proofs.lemmas.Members.{in-at, at-in, at-below, below-at, at-map, map-at, in-map, in-filter, in-enumerate}
use Rattle.modules_profile.proofs.lemmas.OwnRows.{given}
use Rattle.modules_schedule.specs.SystemSchedule.{SystemSchedule}
use Rattle.right_relation.specs.Standing.{AreHeld}
use Rattle.emit_system_spec.specs.Schedules.{giving_functions, IsScheduleOf}
use Rattle.emit_system_spec.specs.Groups.{group_nodes}
use Rattle.right_system_ticks.specs.ActLaws.{CalledGroupsAreHeld}
use Rattle.right_system_ticks.specs.Holding.{called_groups, is_among, held}
use Rattle.right_system_ticks.proofs.Tests.{not-true, any-in, any-of, first-place}
use Rattle.right_system_ticks.proofs.NodesOnce.{one-node, nodes-once}
use Rattle.right_system_ticks.proofs.NextNodes.{At}
use Rattle.right_system_ticks.proofs.GroupSets.{bit-held, calls-of, calls-in}
use Rattle.right_system_ticks.proofs.GivingFunctions.{class-gives, class-alone}
use Rattle.right_system_ticks.proofs.GroupOrders.{among-in, among-of, node-set, ordered, grouped, in-its-group, calls-set, set-calls, outputs-long}

-- what a function gives
gives : (f : Function) (outs : List ℕ) (k q : ℕ) → slice_get outs k ≡ Some q → has_bit f.outputs k ≡ true →
    Contains (given_by_function f outs) q
gives f outs k q e has =
    let same : 0 + k ≡ k = omega arith in
    let test : ℕ × ℕ → Bool = λ e. has_bit f.outputs e.0 in
    in-map (λ (e : ℕ × ℕ). e.1) (filter test (enumerate_from 0 outs)) (k, q)
    (in-filter test (enumerate_from 0 outs) (k, q) (subst (λ i. Contains (enumerate_from 0 outs) (i, q)) same (in-enumerate 0 outs k q e))
    has)

-- the function of a header at a place
pub function-is : (h : SystemHeader) (j : ℕ) (f : Function) → 0 < j → slice_get h.profile.functions (j - 1) ≡ Some f →
    header_function h j ≡ f
function-is h zero f some at = absurd (omega (arith, some))
function-is h (suc k) f some at =
    get_or_from_slice_get h.profile.functions k f idle_function (ap (slice_get h.profile.functions)
    (let e : k ≡ suc k - 1 = omega arith in e) ∙ at)

module _ (local : LocalSystem) (profile : SystemProfile) (schedule : SystemSchedule) (s : IsScheduleOf local profile schedule)
    (lawful : IsLocal local) where
  abbrev h : SystemHeader
  h = own_header local profile

  abbrev outs : List ℕ
  outs = map (λ (o : ℕ × FixType). o.0) h.outputs

  abbrev output : LocalRow → ℕ × FixType
  output r = (r.row, r.out)

  -- ---- Where outputs are

  -- the node of an output is at its place
  pub output-at : (i : ℕ) (o : LocalRow) → slice_get (outports local) i ≡ Some o →
      (n : ℕ) × (slice_get s.nodes.outputs i ≡ Some n) × At local n (Row o.row)
  output-at i o at =
      let n = below-at s.nodes.outputs i (let low = at-below (outports local) i o at in let long = outputs-long local profile schedule s in
      omega (arith, low, long)) in
      (n.0, n.1, place n.0 (there n.0 n.1))
    where
      position : LocalRow → Option ℕ
      position o = position_from (same_node (Row o.row)) 0 (node_list local)

      there : (n : ℕ) → slice_get s.nodes.outputs i ≡ Some n → position o ≡ Some n
      there n is =
          let e : Some (position o) ≡ Some (Some n) = sym (at-map position (outports local) i o at)
          ∙ ap (λ os. slice_get os i) (sym s.are_nodes.outputs)
          ∙ at-map Some s.nodes.outputs i n is in
          cc e

      place : (n : ℕ) → position o ≡ Some n → At local n (Row o.row)
      place n is = by (first-place (same_node (Row o.row)) 0 (node_list local))
        where
          by : ((position o ≡ None) × ((x : Node) → Contains (node_list local) x → same_node (Row o.row) x ≡ false))
              ⊎ ((k : ℕ) × (x : Node) × (position o ≡ Some (0 + k)) × (slice_get (node_list local) k ≡ Some x)
              × (same_node (Row o.row) x ≡ true)) →
              At local n (Row o.row)
          by (inl (none, fails)) = absurd (none-some n (sym none ∙ is))
          by (inr (k, x, found, stands, same)) =
              let one : n ≡ k = same_Some n (0 + k) (sym is ∙ found) ∙ (let e : 0 + k ≡ k = omega arith in e) in
              ap (slice_get (node_list local)) one ∙ stands ∙ ap Some (sym (one-node (Row o.row) x same))

  out-at : (i : ℕ) (o : LocalRow) → slice_get (outports local) i ≡ Some o → slice_get outs i ≡ Some o.row
  out-at i o at = at-map (λ (o : ℕ × FixType). o.0) h.outputs i (output o) (at-map output (outports local) i o at)

  at-out : (i q : ℕ) → slice_get outs i ≡ Some q → (o : LocalRow) × (slice_get (outports local) i ≡ Some o) × (o.row ≡ q)
  at-out i q at =
      let p = map-at (λ (o : ℕ × FixType). o.0) h.outputs i q at in
      let r = map-at output (outports local) i p.0 p.1 in
      (r.0, r.1, ap (λ (o : ℕ × FixType). o.0) r.2 ∙ p.2)

  -- ---- Places and nodes reach alike

  to-nodes : (a b : ℕ) (x y : Node) → At local a x → At local b y → graph.Reaches s.nodes.graph a b → NodeReaches local x y
  to-nodes a b x y from to (inl same) = inl (same_Some x y (sym from ∙ ap (slice_get (node_list local)) same ∙ to))
  to-nodes a b x y from to (inr walk) = inr (walk-to-nodes local s.nodes s.are_nodes a b x y walk.0 from to walk.1)

  to-places : (a b : ℕ) (x y : Node) → At local a x → At local b y → NodeReaches local x y → graph.Reaches s.nodes.graph a b
  to-places a b x y from to (inl same) = inl (nodes-once local lawful a b y (from ∙ ap Some same) to)
  to-places a b x y from to (inr walk) = inr (walk-to-places local s.nodes s.are_nodes a b x y y walk.0 from to refl walk.1)

  module _ (class_gives : (i : ℕ) → i < length (outports local) →
      (f : Function) × (slice_get profile.functions (slice_index (giving_functions local profile) i) ≡ Some f)
      × (has_bit f.outputs i ≡ true))
      (class_alone : (i p : ℕ) (f : Function) → i < length (outports local) → slice_get profile.functions p ≡ Some f →
      has_bit f.outputs i ≡ true →
      slice_index (giving_functions local profile) i ≡ p) where
    class_of : ℕ → ℕ
    class_of i = slice_index (giving_functions local profile) i

    holds : (j : ℕ) (x : Node) → 0 < j → j ≤ length profile.functions → held local schedule j x ≡ true → Holds local h j x
    holds j x some most is =
        let g = any-of (λ g. is_among local (group_nodes schedule g) x) (called_groups schedule j) is in
        let n = among-of local (group_nodes schedule g.0) x g.2 in
        let its = grouped local profile schedule s g.0 n.0 n.1 in
        let below = ordered local profile schedule s n.0 its.1 in
        let set = calls-set local profile schedule s j g.0 some most (calls-in schedule j g.0 g.1) in
        let r = (s.are_clusters.bits n.0 (j - 1) below).0
        (subst (λ k. IsBitSet k (j - 1)) (ap (slice_index s.groups.holds) (sym its.2) ∙ (node-set local profile schedule s n.0 below).1)
        set.1) in
        let long = outputs-long local profile schedule s in
        let low = r.1 in
        let o = below-at (outports local) r.0 (omega (arith, low, long)) in
        let at = output-at r.0 o.0 o.1 in
        let f = class_gives r.0 (omega (arith, low, long)) in
        let function = function-is h j f.0 some (ap (slice_get profile.functions) (sym r.2) ∙ f.1) in (
          o.0.row,
          gives (header_function h j) outs r.0 o.0.row (out-at r.0 o.0 o.1) (ap (λ (f : Function). has_bit f.outputs r.0) function ∙ f.2),
          to-nodes n.0 at.0 x (Row o.0.row) n.2 at.2
              (subst (graph.Reaches s.nodes.graph n.0) (get_or_from_slice_get s.nodes.outputs r.0 at.0 0 at.1) r.3),
        )

    is-held : (j : ℕ) (x : Node) → 0 < j → j ≤ length profile.functions → Contains (node_list local) x → Holds local h j x →
        held local schedule j x ≡ true
    is-held j x some most among (q, by_function, reaches) =
        let k = given (header_function h j) outs q by_function in
        let o = at-out k.0 q k.1 in
        let at = output-at k.0 o.0 o.1 in
        let low = at-below (outports local) k.0 o.0 o.1 in
        let f = below-at profile.functions (j - 1) (omega (arith, some, most)) in
        let class = class_alone k.0 (j - 1) f.0 low f.1
        (ap (λ (f : Function). has_bit f.outputs k.0) (sym (function-is h j f.0 some f.1)) ∙ k.2) in
        let n = at-in (node_list local) x among in
        let below : n.0 < s.nodes.graph.n = (let few = at-below (node_list local) n.0 x n.1 in let many = s.are_nodes.count in
        omega (arith, few, many)) in
        let long = outputs-long local profile schedule s in
        let reached = to-places n.0 at.0 x (Row o.0.row) n.1 at.2 (subst (λ i. NodeReaches local x (Row i)) (sym o.2) reaches) in
        let set = (s.are_clusters.bits n.0 (j - 1) below).1 (
          k.0,
          (omega (arith, low, long)),
          class,
          subst (graph.Reaches s.nodes.graph n.0) (sym (get_or_from_slice_get s.nodes.outputs k.0 at.0 0 at.1)) reached,
        ) in
        let stands = node-set local profile schedule s n.0 below in
        let group_set = subst (λ i. IsBitSet i (j - 1)) (sym stands.1) set in
        let g = slice_index s.groups.of n.0 in
        any-in (λ g. is_among local (group_nodes schedule g) x) (called_groups schedule j) g
        (calls-of schedule j g (set-calls local profile schedule s j g some most stands.0 group_set))
        (among-in local (group_nodes schedule g) n.0 x
        (in-its-group local profile schedule s n.0 below (bit-held s.groups g (j - 1) group_set)) n.1)

    pub are-held : AreHeld local h (held local schedule)
    are-held = record {
      nodes = λ j x some most among. (holds j x some most, is-held j x some most among);
      others = λ j x apart. not-true (held local schedule j x) (λ is.
          let g = any-of (λ g. is_among local (group_nodes schedule g) x) (called_groups schedule j) is in
          let n = among-of local (group_nodes schedule g.0) x g.2 in
          apart (in-at (node_list local) n.0 x n.2));
    }

module _ (locals_are_lawful : LocalsAreLawful) (header_is_of_own_rows : HeaderIsOfOwnRows) where
  pub called_groups_are_held : CalledGroupsAreHeld
  called_groups_are_held local profile schedule is =
      are-held local profile schedule is.is_schedule (locals_are_lawful is.resolved local.row local is.is_resolved is.is_local)
      (class-gives header_is_of_own_rows local profile schedule is) (class-alone header_is_of_own_rows local profile schedule is)
