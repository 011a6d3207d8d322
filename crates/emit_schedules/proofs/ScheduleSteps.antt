-- What makes the schedule of a system: its outputs are nodes, its order has nodes alone, and each node has a group.
use Rattle.std.specs.Prelude.{◌≡◌, ℕ, suc, ◌+◌, ◌<◌, ◌≤◌, ◌==◌, Bool, true, false, cond, List, [], ◌∷◌, ◌++◌, length, All, Contains, Some}
use Rattle.std.specs.List.{position_from}
use Rattle.std.proofs.Common.{sym, ap, subst, ◌∙◌, arith, inl, inr}
use Rattle.std.proofs.lemmas.List.{length-map}
use Rattle.std.proofs.lemmas.List.Elements.{All-map}
use Rattle.std.proofs.lemmas.List.Sorted.{Contains-permutation, length_permutation}
use Rattle.base_core.specs.Interface.{different}
use Rattle.base_graph.specs.NeedsGraph.{NeedsGraph}
use Rattle.base_graph.specs.OneOrder.{Follows, IsOrder}
use Rattle.modules_clusters.specs.Classes.{place_of}
use Rattle.modules_clusters.specs.Clusters.{AreClusters}
use Rattle.modules_clusters.specs.Grouping.{AreGroups}
use Rattle.modules_clusters.specs.NodeGroups.{NodeGroups}
use Rattle.modules_profile.specs.declared.local.LocalRow.{LocalRow}
use Rattle.modules_profile.specs.declared.nodes.Node.TheVariants.{Row}
use Rattle.modules_profile.specs.LocalSystem.{LocalSystem}
use Rattle.modules_profile.specs.LocalNodes.{same_node, node_list, AreNodesOf}
use Rattle.modules_profile.specs.Locals.{outports}
use Rattle.modules_profile.specs.SystemNodes.{SystemNodes}
use Rattle.modules_profile.specs.SystemProfile.{SystemProfile}
use Rattle.modules_profile.proofs.lemmas.MaskBits.{in-different}
use Rattle.modules_profile.proofs.lemmas.Members.{in-none, in-cases, in-map, of-map}
use Rattle.modules_schedule.specs.Scheduling.{schedule_for}
use Rattle.modules_schedule.specs.SystemSchedule.{SystemSchedule}
use Rattle.emit_system_spec.specs.Schedules.{giving_functions, IsScheduleOf}
use Rattle.emit_system_spec.proofs.lemmas.ShortLists.{all-members, short-different}
use Rattle.emit_schedules.proofs.GivenFunctions.{few-places}

-- ---- Outputs

found-below : {A : Type 0} (t : A → Bool) (i : ℕ) (xs : List A) (k : ℕ) → position_from t i xs ≡ Some k → k < i + length xs
found-below t i [] k e = absurd (let wrong : ⊥ = cc e in wrong)
found-below t i (x ∷ xs) k e = by (t x) e (found-below t (i + 1) xs k)
  where
    by : (r : Bool) → cond r (Some i) (position_from t (i + 1) xs) ≡ Some k →
        (position_from t (i + 1) xs ≡ Some k → k < i + 1 + length xs) → k < i + suc (length xs)
    by true e later = let here : i ≡ k = cc e in omega (arith, here)
    by false e later = let low = later e in omega (arith, low)

module _ (local : LocalSystem) (nodes : SystemNodes) (are : AreNodesOf local nodes) where
  pub outputs-many : length nodes.outputs ≡ length (outports local)
  outputs-many =
      sym (length-map nodes.outputs Some) ∙ ap length are.outputs
      ∙ length-map (outports local) (λ (o : LocalRow). position_from (same_node (Row o.row)) 0 (node_list local))

  pub outputs-below : All (λ o. o < nodes.graph.n) nodes.outputs
  outputs-below = all-members (λ o. o < nodes.graph.n) nodes.outputs (λ o h.
      let at = of-map (λ (r : LocalRow). position_from (same_node (Row r.row)) 0 (node_list local)) (outports local) (Some o)
      (subst (λ os. Contains os (Some o)) are.outputs (in-map Some nodes.outputs o h)) in
      let low = found-below (same_node (Row at.0.row)) 0 (node_list local) o at.2 in
      let count = are.count in
      omega (arith, low, count))

-- ---- The order

followed-below : (g : NeedsGraph) (placed list : List ℕ) → Follows g placed list → (b : ℕ) → Contains list b → b < g.n
followed-below g placed [] f b h = absurd (in-none b h)
followed-below g placed (x ∷ list) f b h = elim (in-cases x b list h) [
  | inl same ↦ subst (λ y. y < g.n) same f.0.may_stand.is_node
  | inr more ↦ followed-below g (placed ++ x ∷ []) list f.1 b more
]

pub order-below : (g : NeedsGraph) (list : List ℕ) (n : ℕ) → IsOrder g list → n ≡ g.n → All (λ k. k < n) list
order-below g list n is same = all-members (λ k. k < n) list (λ k h.
    let low = followed-below g [] list is.is_least_first k h in
    omega (arith, low, same))

-- ---- Groups

some-in : (xs : List ℕ) (x : ℕ) → Contains xs x → 0 < length xs
some-in [] x h = absurd (in-none x h)
some-in (y ∷ ys) x h = omega arith

module _ (sets : List ℕ) (groups : NodeGroups) (are : AreGroups sets groups) where
  pub nodes-grouped : length groups.of ≡ length sets
  nodes-grouped = ap length are.of ∙ length-map sets (place_of groups.holds)

  pub groups-few : length groups.holds ≤ length sets
  groups-few =
      let many = length_permutation (different sets) groups.holds are.sets in
      let short = short-different sets in
      omega (arith, many, short)

  pub groups-below : All (λ g. g < length groups.holds) groups.of
  groups-below =
      subst (All (λ g. g < length groups.holds)) (sym are.of)
      (All-map (λ g. g < length groups.holds) (place_of groups.holds) sets
      (all-members (λ set. place_of groups.holds set < length groups.holds) sets (λ set h.
      few-places (λ y. y == set) 0 (length groups.holds) groups.holds (omega arith)
      (some-in groups.holds set (Contains-permutation (different sets) groups.holds set are.sets (in-different sets set h))))))

-- ---- The schedule

pub scheduled : (local : LocalSystem) (profile : SystemProfile) (nodes : SystemNodes) (graph : NeedsGraph) →
    (outputs giving clusters : List ℕ) (groups : NodeGroups) (order : List ℕ) (count : ℕ) (schedule : SystemSchedule) →
    AreNodesOf local nodes → graph ≡ nodes.graph → outputs ≡ nodes.outputs → giving ≡ giving_functions local profile →
    AreClusters graph outputs giving clusters → AreGroups clusters groups → IsOrder graph order → count ≡ length profile.functions →
    schedule ≡ schedule_for order groups count → IsScheduleOf local profile schedule
scheduled local profile nodes graph outputs giving clusters groups order count schedule are one-graph one-outputs one-giving held grouped
    ordered many made = record {
      nodes = nodes;
      are_nodes = are;
      clusters = clusters;
      are_clusters = subst (λ g. AreClusters g nodes.outputs (giving_functions local profile) clusters) one-graph
          (subst (λ os. AreClusters graph os (giving_functions local profile) clusters) one-outputs
          (subst (λ js. AreClusters graph outputs js clusters) one-giving held));
      groups = groups;
      are_groups = grouped;
      order = order;
      is_order = subst (λ g. IsOrder g order) one-graph ordered;
      is_schedule = made ∙ ap (schedule_for order groups) many;
    }
