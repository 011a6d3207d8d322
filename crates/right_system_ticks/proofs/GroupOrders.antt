-- The nodes of groups and of the update can be executed in order.
use Rattle.std.specs.Prelude.{◌≡◌, ◌⊎◌, ℕ, zero, suc, ◌+◌, ◌-◌, ◌<◌, ◌≤◌, Bool, true, false, not, ◌&&◌, ◌||◌, ◌==◌, List, [], ◌∷◌, ◌++◌, filter, length, slice_get, slice_index, Contains, IsBitSet, Option, Some, None, refl}
use Rattle.std.specs.Option.{option_map_or}
use Rattle.std.specs.List.{position_from, range_with_len}
use Rattle.std.proofs.Common.{sym, ap, subst, ◌∙◌, arith, inl, inr}
use Rattle.std.proofs.lemmas.Bool.{cases_eq, eqb-true, eq-eqb}
use Rattle.std.proofs.lemmas.List.{length-map}
use Rattle.base_graph.specs.NeedsGraph.{NeedsGraph, Needs}
use Rattle.base_graph.specs.Reaching.{Reaches, Walk}
use Rattle.modules_clusters.specs.NodeGroups.{NodeGroups}
use Rattle.modules_profile.specs.declared.local.LocalRow.{LocalRow}
use Rattle.modules_profile.specs.declared.nodes.Node.{Node}
use Rattle.modules_profile.specs.declared.nodes.Node.TheVariants.{Row}
use Rattle.modules_profile.specs.LocalSystem.{LocalSystem}
use Rattle.modules_profile.specs.SystemProfile.{SystemProfile}
use Rattle.modules_profile.specs.LawfulLocals.{IsLocal}
use Rattle.modules_profile.specs.Locals.{outports}
use Rattle.modules_profile.specs.LocalNodes.{same_node, node_list}
use Rattle.modules_profile.specs.NodeFacts.{LocalsAreLawful, HeaderIsOfOwnRows}
use Rattle.modules_profile.proofs.lemmas.Members.{in-filter, in-range, at-in, at-below}
use Rattle.modules_schedule.specs.SystemSchedule.{SystemSchedule}
use Rattle.modules_schedule.specs.Scheduling.{is_unheld, nodes_of_group}
use Rattle.right_relation.specs.StandingLaws.{NeededGroupIsEarlier}
use Rattle.emit_system_spec.specs.Schedules.{giving_functions, IsScheduleOf}
use Rattle.emit_system_spec.specs.Groups.{group_nodes}
use Rattle.right_system_ticks.specs.Holding.{called_groups, calls_group, is_node_at, is_among, executed_in}
use Rattle.right_system_ticks.specs.ScheduleLaws.{AreNext, AreDoneBefore, AreAllDone, EndsTick, GroupsAreNext, UpdatesEndTicks}
use Rattle.right_system_ticks.proofs.Tests.{both-true, true-both, true-first, true-second, not-true, true-false, any-in, any-of}
use Rattle.right_system_ticks.proofs.DoneGroups.{nodes-more}
use Rattle.right_system_ticks.proofs.NodesOnce.{one-node, node-itself, nodes-once}
use Rattle.right_system_ticks.proofs.NextNodes.{At, AreNew, are-nodes, are-new, are-next}
use Rattle.right_system_ticks.proofs.GroupSets.{some-bit, stands, bit-held, nodes-are, of-group, in-group, of-called, in-called, calls-of, calls-in}
use Rattle.right_system_ticks.proofs.GivingFunctions.{class-below}

-- ---- Which node is at a place

module _ (local : LocalSystem) where
  pub node-stands : (n : ℕ) (x : Node) → At local n x → is_node_at local n x ≡ true
  node-stands n x at = ap (λ o. option_map_or (same_node x) o false) at ∙ node-itself x

  pub stands-node : (n : ℕ) (x : Node) → is_node_at local n x ≡ true → At local n x
  stands-node n x h = by (slice_get (node_list local) n) h
    where
      by : (o : Option Node) → option_map_or (same_node x) o false ≡ true → o ≡ Some x
      by None e = absurd (true-false true refl (sym e))
      by (Some y) e = ap Some (sym (one-node x y e))

  pub among-in : (nodes : List ℕ) (n : ℕ) (x : Node) → Contains nodes n → At local n x → is_among local nodes x ≡ true
  among-in nodes n x h at = any-in (λ n. is_node_at local n x) nodes n h (node-stands n x at)

  pub among-of : (nodes : List ℕ) (x : Node) → is_among local nodes x ≡ true → (n : ℕ) × Contains nodes n × At local n x
  among-of nodes x h = let some = any-of (λ n. is_node_at local n x) nodes h in (some.0, some.1, stands-node some.0 x some.2)

-- ---- What reaches with a node, the needed node reaches

longer : (g : NeedsGraph) (o b a : ℕ) (path : List ℕ) → Walk g o path b → Needs g b a → Walk g o (path ++ b ∷ []) a
longer g o b a [] walk needs = (walk, needs)
longer g o b a (c ∷ path) walk needs = (walk.0, longer g c b a path walk.1 needs)

reaches-too : (g : NeedsGraph) (o b a : ℕ) → Needs g b a → Reaches g b o → Reaches g a o
reaches-too g o b a needs (inl same) = inr ([], subst (λ x. Needs g x a) same needs)
reaches-too g o b a needs (inr (path, walk)) = inr (path ++ b ∷ [], longer g o b a path walk needs)

-- ---- Groups of a schedule

module _ (local : LocalSystem) (profile : SystemProfile) (schedule : SystemSchedule) (s : IsScheduleOf local profile schedule) where
  abbrev pub graph : NeedsGraph
  graph = s.nodes.graph

  abbrev pub groups : NodeGroups
  groups = s.groups

  abbrev pub group_of : ℕ → ℕ
  group_of n = slice_index s.groups.of n

  pub group-count : length schedule.groups ≡ length groups.holds
  group-count =
      ap (λ (t : SystemSchedule). length t.groups) s.is_schedule
      ∙ length-map (range_with_len 0 (length groups.holds)) (nodes_of_group s.order groups) ∙ range-long 0 (length groups.holds)
    where
      range-long : (a n : ℕ) → length (range_with_len a n) ≡ n
      range-long a zero = refl
      range-long a (suc n) = ap suc (range-long (a + 1) n)

  -- a node's group has the node's set
  pub node-set : (n : ℕ) → n < graph.n →
      (group_of n < length groups.holds) × (slice_index groups.holds (group_of n) ≡ slice_index s.clusters n)
  node-set n below = stands s.clusters groups s.are_groups n (let long = s.are_clusters.one_each in omega (arith, long, below))

  pub ordered : (n : ℕ) → Contains s.order n → n < graph.n
  ordered n h = are-nodes graph [] s.order n s.is_order.is_least_first h

  -- the nodes of a group
  pub grouped : (g n : ℕ) → Contains (group_nodes schedule g) n →
      (g < length groups.holds) × Contains s.order n × (group_of n ≡ g) × (is_unheld groups g ≡ false)
  grouped g n h = of-group s.order groups (length profile.functions) g n (subst (λ t. Contains (group_nodes t g) n) s.is_schedule h)

  pub in-its-group : (n : ℕ) → n < graph.n → is_unheld groups (group_of n) ≡ false → Contains (group_nodes schedule (group_of n)) n
  in-its-group n below held =
      subst (λ t. Contains (group_nodes t (group_of n)) n) (sym s.is_schedule)
      (in-group s.order groups (length profile.functions) (group_of n) n (node-set n below).0 (s.is_order.has_all n below) refl held)

  -- the groups of a function
  pub calls-set : (j g : ℕ) → 0 < j → j ≤ length profile.functions → calls_group schedule j g ≡ true →
      (g < length groups.holds) × IsBitSet (slice_index groups.holds g) (j - 1)
  calls-set j g some most h =
      of-called s.order groups (length profile.functions) j g some most
      (subst (λ t. Contains (called_groups t j) g) s.is_schedule (calls-of schedule j g h))

  pub set-calls : (j g : ℕ) → 0 < j → j ≤ length profile.functions → g < length groups.holds →
      IsBitSet (slice_index groups.holds g) (j - 1) →
      calls_group schedule j g ≡ true
  set-calls j g some most below set =
      calls-in schedule j g (subst (λ t. Contains (called_groups t j) g) (sym s.is_schedule)
      (in-called s.order groups (length profile.functions) j g some most below set))

  -- the nodes that were executed with some groups
  pub executed-of : (done : ℕ → Bool) (x : Node) → executed_in local schedule done x ≡ true →
      (n : ℕ) × At local n x × (n < graph.n) × (done (group_of n) ≡ true) × (is_unheld groups (group_of n) ≡ false)
  executed-of done x h =
      let g = any-of (λ g. done g && is_among local (group_nodes schedule g) x) (range_with_len 0 (length schedule.groups)) h in
      let parts = both-true (done g.0) (is_among local (group_nodes schedule g.0) x) g.2 in
      let n = among-of local (group_nodes schedule g.0) x parts.1 in
      let its = grouped g.0 n.0 n.1 in
      (n.0, n.2, ordered n.0 its.1, ap done its.2 ∙ parts.0, ap (is_unheld groups) its.2 ∙ its.3)

  pub executed-at : (done : ℕ → Bool) (n : ℕ) (x : Node) → At local n x → n < graph.n → done (group_of n) ≡ true →
      is_unheld groups (group_of n) ≡ false → executed_in local schedule done x ≡ true
  executed-at done n x at below is held =
      any-in (λ g. done g && is_among local (group_nodes schedule g) x) (range_with_len 0 (length schedule.groups)) (group_of n)
      (in-range 0 (length schedule.groups) (group_of n) (omega arith)
      (let low = (node-set n below).0 in let long = group-count in omega (arith, low, long)))
      (true-both (done (group_of n)) (is_among local (group_nodes schedule (group_of n)) x) is
      (among-in local (group_nodes schedule (group_of n)) n x (in-its-group n below held) at))

  -- ---- The nodes of a group

  abbrev in_one : ℕ → ℕ → Bool
  in_one g k = (group_of k == g) && not (is_unheld groups g)

  group-filtered : (g : ℕ) → g < length groups.holds → group_nodes schedule g ≡ filter (in_one g) s.order
  group-filtered g below = ap (λ t. group_nodes t g) s.is_schedule ∙ nodes-are s.order groups (length profile.functions) g below

  module _ (lawful : IsLocal local) where
    group-new : (g : ℕ) (done : ℕ → Bool) → done g ≡ false → (b : ℕ) (y : Node) → in_one g b ≡ true → At local b y →
        executed_in local schedule done y ≡ false
    group-new g done fresh b y passes at = not-true (executed_in local schedule done y) (λ h.
        let n = executed-of done y h in
        let same : n.0 ≡ b = nodes-once local lawful n.0 b y n.1 at in
        let its : group_of b ≡ g = eqb-true (group_of b) g (both-true (group_of b == g) (not (is_unheld groups g)) passes).0 in
        true-false (done g) (ap done (sym (ap group_of same ∙ its)) ∙ n.3) fresh)

    -- the nodes of a group that was not executed were not
    pub group-is-new : (g : ℕ) (done : ℕ → Bool) → g < length groups.holds → done g ≡ false →
        AreNew local (executed_in local schedule done) (group_nodes schedule g)
    group-is-new g done below fresh =
        subst (AreNew local (executed_in local schedule done)) (sym (group-filtered g below))
        (are-new local lawful s.nodes s.are_nodes (executed_in local schedule done) (in_one g) (group-new g done fresh) s.order
        s.is_order.is_least_first)

    module _ (needed_group_is_earlier : NeededGroupIsEarlier) where
      earlier : (a b : ℕ) → a < graph.n → b < graph.n → Needs graph b a → group_of a ≤ group_of b
      earlier a b below_a below_b needs =
          needed_group_is_earlier graph s.nodes.outputs (giving_functions local profile) s.clusters groups a b s.are_clusters s.are_groups
          below_a below_b needs

      -- a function that calls the group of a node calls that of what it needs
      calls-too : (j a b : ℕ) → 0 < j → j ≤ length profile.functions → a < graph.n → b < graph.n → Needs graph b a →
          IsBitSet (slice_index groups.holds (group_of b)) (j - 1) → IsBitSet (slice_index groups.holds (group_of a)) (j - 1)
      calls-too j a b some most below_a below_b needs set =
          let r = (s.are_clusters.bits b (j - 1) below_b).0 (subst (λ n. IsBitSet n (j - 1)) (node-set b below_b).1 set) in
          subst (λ n. IsBitSet n (j - 1)) (sym (node-set a below_a).1)
          ((s.are_clusters.bits a (j - 1) below_a).1
          (r.0, r.1, r.2, reaches-too graph (slice_index s.nodes.outputs r.0) b a needs r.3))

      pub group-is-next : (j g : ℕ) (done : ℕ → Bool) → 0 < j → j ≤ length profile.functions → calls_group schedule j g ≡ true →
          done g ≡ false → AreDoneBefore schedule done j g → AreNext local (executed_in local schedule done) (group_nodes schedule g)
      group-is-next j g done some most calls fresh before =
          let set = calls-set j g some most calls in
          subst (AreNext local (executed_in local schedule done)) (sym (group-filtered g set.0))
          (are-next local lawful s.nodes s.are_nodes (executed_in local schedule done) (in_one g) (group-new g done fresh)
          (λ a b x below_b below_a passes needs at.
          let its : group_of b ≡ g = eqb-true (group_of b) g (both-true (group_of b == g) (not (is_unheld groups g)) passes).0 in
          by set.1 a b x below_b below_a its passes needs at (cases_eq (group_of a) g)) s.order s.is_order.is_least_first)
        where
          by : IsBitSet (slice_index groups.holds g) (j - 1) → (a b : ℕ) (x : Node) → b < graph.n → a < graph.n → group_of b ≡ g →
              in_one g b ≡ true → Needs graph b a → At local a x → (group_of a ≡ g) ⊎ (group_of a ≡ g → ⊥) →
              (in_one g a ≡ true) ⊎ (executed_in local schedule done x ≡ true)
          by set a b x below_b below_a its passes needs at (inl same) =
              inl (true-both (group_of a == g) (not (is_unheld groups g)) (eq-eqb (group_of a) g same)
              (both-true (group_of b == g) (not (is_unheld groups g)) passes).1)
          by set a b x below_b below_a its passes needs at (inr other) =
              let less = earlier a b below_a below_b needs in
              let its_set = calls-too j a b some most below_a below_b needs
              (subst (λ k. IsBitSet (slice_index groups.holds k) (j - 1)) (sym its) set) in
              inr (executed-at done a x at below_a
              (before (group_of a) (omega (arith, less, its, other)) (set-calls j (group_of a) some most (node-set a below_a).0 its_set))
              (bit-held groups (group_of a) (j - 1) its_set))

  -- ---- The nodes of the update

  abbrev in_none : ℕ → Bool
  in_none k = is_unheld groups (group_of k)

  pub update-filtered : schedule.update ≡ filter in_none s.order
  update-filtered = ap (λ (t : SystemSchedule). t.update) s.is_schedule

  update-new : IsLocal local → (done : ℕ → Bool) (b : ℕ) (y : Node) → in_none b ≡ true → At local b y → executed_in
      local schedule done y ≡ false
  update-new lawful done b y passes at = not-true (executed_in local schedule done y) (λ h.
      let n = executed-of done y h in
      true-false (in_none b) passes (ap in_none (sym (nodes-once local lawful n.0 b y n.1 at)) ∙ n.4))

  -- the nodes of the update were not executed with any groups
  pub update-is-new : IsLocal local → (done : ℕ → Bool) → AreNew local (executed_in local schedule done) schedule.update
  update-is-new lawful done =
      subst (AreNew local (executed_in local schedule done)) (sym update-filtered)
      (are-new local lawful s.nodes s.are_nodes (executed_in local schedule done) in_none (update-new lawful done)
      s.order s.is_order.is_least_first)

  module _ (classes_below : (i : ℕ) → i < length s.nodes.outputs →
      slice_index (giving_functions local profile) i < length profile.functions)
      (done : ℕ → Bool) (all_done : AreAllDone profile schedule done) where
    -- what a function holds was executed
    held-done : (n : ℕ) (x : Node) → At local n x → n < graph.n → in_none n ≡ false → executed_in local schedule done x ≡ true
    held-done n x at below held =
        let set = slice_index groups.holds (group_of n) in
        let bit = some-bit set set (omega arith) (more set refl) in
        let r = (s.are_clusters.bits n bit.0 below).0 (subst (λ k. IsBitSet k bit.0) (node-set n below).1 bit.1) in
        let few = classes_below r.0 r.1 in
        let class = r.2 in
        let number : suc bit.0 - 1 ≡ bit.0 = omega arith in
        executed-at done n x at below
        (all_done (suc bit.0) (group_of n) (omega arith) (omega (arith, few, class))
        (set-calls (suc bit.0) (group_of n) (omega arith) (omega (arith, few, class)) (node-set n below).0
        (subst (IsBitSet set) (sym number) bit.1))) held
      where
        more : (k : ℕ) → slice_index groups.holds (group_of n) ≡ k → 0 < k
        more zero e = absurd (true-false (in_none n) (eq-eqb (slice_index groups.holds (group_of n)) 0 e) held)
        more (suc k) e = omega arith

    pub ends : IsLocal local → EndsTick local schedule (executed_in local schedule done)
    ends lawful = record {
      are_next = subst (AreNext local (executed_in local schedule done)) (sym update-filtered)
          (are-next local lawful s.nodes s.are_nodes (executed_in local schedule done) in_none
          (update-new lawful done)
          (λ a b x below_b below_a passes needs at. tell a x at below_a (in_none a) refl) s.order s.is_order.is_least_first);
      all = λ x h.
          let n = at-in (node_list local) x h in
          let low = at-below (node_list local) n.0 x n.1 in
          let many = s.are_nodes.count in
          nodes-more local (executed_in local schedule done) schedule.update x
          ∙ at-end n.0 x n.1 (omega (arith, low, many)) (in_none n.0) refl;
    }
      where
        tell : (a : ℕ) (x : Node) → At local a x → a < graph.n → (t : Bool) → in_none a ≡ t →
            (in_none a ≡ true) ⊎ (executed_in local schedule done x ≡ true)
        tell a x at below true e = inl e
        tell a x at below false e = inr (held-done a x at below e)

        at-end : (n : ℕ) (x : Node) → At local n x → n < graph.n → (t : Bool) → in_none n ≡ t →
            (is_among local schedule.update x || executed_in local schedule done x) ≡ true
        at-end n x at below true e =
            true-first (is_among local schedule.update x) (executed_in local schedule done x)
            (among-in local schedule.update n x (subst (λ ks. Contains ks n) (sym update-filtered)
            (in-filter in_none s.order n (s.is_order.has_all n below) e)) at)
        at-end n x at below false e =
            true-second (is_among local schedule.update x) (executed_in local schedule done x) (held-done n x at below e)

-- ---- The laws

module _ (locals_are_lawful : LocalsAreLawful) (needed_group_is_earlier : NeededGroupIsEarlier) where
  pub groups_are_next : GroupsAreNext
  groups_are_next local profile schedule is j g done some most calls fresh before =
      group-is-next local profile schedule is.is_schedule (locals_are_lawful is.resolved local.row local is.is_resolved is.is_local)
      needed_group_is_earlier j g done some most calls fresh before

-- there is an output for each own Outport
pub outputs-long : (local : LocalSystem) (profile : SystemProfile) (schedule : SystemSchedule) (s : IsScheduleOf local profile schedule) →
    length s.nodes.outputs ≡ length (outports local)
outputs-long local profile schedule s =
    sym (length-map s.nodes.outputs Some) ∙ ap length s.are_nodes.outputs
    ∙ length-map (outports local) (λ (o : LocalRow). position_from (same_node (Row o.row)) 0 (node_list local))

module _ (locals_are_lawful : LocalsAreLawful) (header_is_of_own_rows : HeaderIsOfOwnRows) where
  pub updates_end_ticks : UpdatesEndTicks
  updates_end_ticks local profile schedule is done all_done =
      ends local profile schedule is.is_schedule
      (λ i low. let long = outputs-long local profile schedule is.is_schedule in
      class-below header_is_of_own_rows local profile schedule is i (omega (arith, low, long)))
      done all_done (locals_are_lawful is.resolved local.row local is.is_resolved is.is_local)
