-- The statements of a start and of a reset are within the budget of steps.
use Rattle.std.specs.Prelude.{◌≡◌, ℕ, ◌+◌, ◌*◌, ◌≤◌, nat_lt, if◌then◌else◌, List, [], ◌∷◌, map, flat_map, length, sum_by, Contains, Option, Some, None}
use Rattle.std.specs.List.{range_with_len}
use Rattle.std.proofs.Common.{sym, ap, subst, ◌∙◌, arith}
use Rattle.std.proofs.lemmas.Nat.{mul-le}
use Rattle.std.proofs.lemmas.List.{length-append, length-map}
use Rattle.std.proofs.lemmas.List.Sums.{sum_by-cons, count_by-le-length}
use Rattle.std.proofs.lemmas.List.Sorted.{length_permutation}
use Rattle.base_core.specs.Interface.{different}
use Rattle.diagram_meaning.specs.Diagram.{Diagram, type_at}
use Rattle.diagram_meaning.specs.Needs.{TrueNeeds, IsMaskOf}
use Rattle.diagram_meaning.specs.ResolvedTree.{ResolvedTree, IsResolvedTree, diagram_of}
use Rattle.diagram_meaning.specs.Rows.{row_at, is_triggered, rows_of, subsystems_of, outports_of}
use Rattle.diagram_blocks.specs.Kinds.{is_subsystem}
use Rattle.diagram_meaning.specs.WellFormed.{is_trigger_port}
use Rattle.modules_profile.specs.declared.ChildUse.{ChildUse}
use Rattle.modules_profile.specs.LocalSystem.{LocalSystem}
use Rattle.modules_profile.specs.SystemHeader.{SystemHeader}
use Rattle.modules_profile.specs.SystemProfile.{SystemProfile}
use Rattle.modules_profile.specs.Functions.{IsProfileOf, function_for}
use Rattle.modules_profile.specs.Headers.{header_of, header_functions}
use Rattle.modules_profile.specs.LocalNodes.{calls_of, call_nodes}
use Rattle.modules_profile.specs.declared.Node.TheVariants.{Row, Call}
use Rattle.modules_profile.specs.Locals.{local_row, child_use, local_of}
use Rattle.modules_profile.specs.NodeFacts.{AreHeaders, IsLocalOf}
use Rattle.modules_profile.proofs.lemmas.Members.{in-first, in-rest}
use Rattle.modules_schedule.specs.SystemSchedule.{SystemSchedule}
use Rattle.modules_schedule.specs.Scheduling.{nodes_of_group}
use Rattle.right_relation.specs.Budgets.{most_outputs, own_budget}
use Rattle.emit_system_spec.specs.Emitted.{IsEmitted}
use Rattle.emit_system_spec.specs.Fields.{call_count, shared_groups}
use Rattle.emit_system_spec.specs.Renewing.{start_body, reset_body}
use Rattle.right_system_starts.proofs.BodyLengths.{reset-long, start-long}
use Rattle.right_system_starts.proofs.Lists.{kept-shorter, different-shorter, length-range, length-zip}

-- ---- What a system has for each row and each output of a child

-- at most so many children as rows, a trigger only where there is a row, and a function only for an output
pub record IsRowed (local : LocalSystem) : Type 0 where
  pub children : length local.children ≤ length local.rows
  pub trigger : (if is_triggered local.control then 1 else 0) ≤ length local.rows
  pub functions : sum_by (λ (u : ChildUse). length (header_functions u.header)) local.children
      ≤ sum_by (λ (u : ChildUse). length u.header.outputs) local.children

functions-few : (d : Diagram) (h : SystemHeader) → h ≡ header_of d h.row h.profile → IsProfileOf d h.row h.profile →
    length (header_functions h) ≤ length h.outputs
functions-few d h is profile =
    let functions = ap length profile.functions ∙ length-map (different profile.needs) (function_for profile.needs) in
    let fewer = different-shorter profile.needs in
    let needs = length-zip (λ o mask. IsMaskOf (TrueNeeds d h.row o) mask) (outports_of d.rows h.row) profile.needs profile.are_needs in
    let outputs = ap (λ (g : SystemHeader). length g.outputs) is ∙ length-map (outports_of d.rows h.row) (λ o. (o, type_at d.types o)) in
    omega (arith, functions, fewer, needs, outputs)

sums-few : (d : Diagram) (headers : List SystemHeader) →
    ((h : SystemHeader) → Contains headers h → length (header_functions h) ≤ length h.outputs) →
    sum_by (λ (u : ChildUse). length (header_functions u.header)) (map (child_use d) headers)
    ≤ sum_by (λ (u : ChildUse). length u.header.outputs) (map (child_use d) headers)
sums-few d [] few = omega arith
sums-few d (h ∷ headers) few =
    let here = few h (in-first h headers) in
    let rest = sums-few d headers (λ g m. few g (in-rest h g headers m)) in
    let functions = sum_by-cons (λ (u : ChildUse). length (header_functions u.header)) (child_use d h) (map (child_use d) headers) in
    let outputs = sum_by-cons (λ (u : ChildUse). length u.header.outputs) (child_use d h) (map (child_use d) headers) in
    omega (arith, here, rest, functions, outputs)

pub is-rowed : (r : ResolvedTree) (local : LocalSystem) → IsResolvedTree r → IsLocalOf r local.row local → IsRowed local
is-rowed r local resolved is = subst IsRowed (sym is.is_local) (by local.row is.headers is.are_headers)
  where
    by : (s : Option ℕ) (headers : List SystemHeader) → AreHeaders (diagram_of r) s headers →
        IsRowed (local_of (diagram_of r) r.times.delays s headers)
    by s headers are =
        let rows = r.tree.table.rows in
        let long = length-map (rows_of rows s) (local_row (diagram_of r) r.times.delays) in record {
          children =
              let made = length-map headers (child_use (diagram_of r)) in
              let numbered = sym (length-map headers (λ (h : SystemHeader). h.row)) ∙ ap length are.rows
              ∙ length-map (subsystems_of rows s) Some in
              let kept = kept-shorter (λ b. is_subsystem (row_at rows b).kind) (rows_of rows s) in
              omega (arith, long, made, numbered, kept);
          trigger =
              let ports = (resolved.tree.table.controls s).triggers in
              let few = count_by-le-length (λ b. is_trigger_port (row_at rows b).kind) (rows_of rows s) in
              omega (arith, long, ports, few);
          functions = sums-few (diagram_of r) headers (λ h m. functions-few (diagram_of r) h (are.each h m).0 (are.each h m).1);
        }

-- ---- The budget

calls-few : (o : Option ℕ) (n : ℕ) → length (calls_of o n) ≤ n
calls-few None n = omega arith
calls-few (Some e) n = let made = length-map (range_with_len 1 n) (Call e) in let long = length-range 1 n in omega (arith, made, long)

all-calls-few : (us : List ChildUse) → length (flat_map call_nodes us) ≤ sum_by (λ (u : ChildUse). length (header_functions u.header)) us
all-calls-few [] = omega arith
all-calls-few (u ∷ us) =
    let here = calls-few u.header.row (length (header_functions u.header)) in
    let rest = all-calls-few us in
    let both = length-append (call_nodes u) (flat_map call_nodes us) in
    let sum = sum_by-cons (λ (u : ChildUse). length (header_functions u.header)) u us in
    omega (arith, here, rest, both, sum)

module _ (local : LocalSystem) (profile : SystemProfile) (schedule : SystemSchedule) (is : IsEmitted local profile schedule) where
  -- there is no more than one group for each node
  pub groups-few : length schedule.groups ≤ length local.rows + sum_by (λ (u : ChildUse). length (header_functions u.header)) local.children
  groups-few =
      let s = is.is_schedule in
      let groups = ap (λ (x : SystemSchedule). length x.groups) s.is_schedule
      ∙ length-map (range_with_len 0 (length s.groups.holds)) (nodes_of_group s.order s.groups) ∙ length-range 0 (length s.groups.holds) in
      let sets = length_permutation (different s.clusters) s.groups.holds s.are_groups.sets in
      let fewer = different-shorter s.clusters in
      let clusters = s.are_clusters.one_each in
      let nodes = s.are_nodes.count in
      let both = length-append (map (λ r. Row r.row) local.rows) (flat_map call_nodes local.children) in
      let rows = length-map local.rows (λ r. Row r.row) in
      let calls = all-calls-few local.children in
      omega (arith, groups, sets, fewer, clusters, nodes, both, rows, calls)

  pub shared-few : length (shared_groups schedule) ≤ length schedule.groups
  shared-few =
      let kept = kept-shorter (λ g. nat_lt 1 (call_count schedule g)) (range_with_len 0 (length schedule.groups)) in
      let long = length-range 0 (length schedule.groups) in omega (arith, kept, long)

  budget-large : 8 * length local.rows + 4 * sum_by (λ (u : ChildUse). length u.header.outputs) local.children ≤ own_budget local
  budget-large =
      let rows = mul-le 8 (length local.rows) (8 * (1 + most_outputs local)) (length local.rows) (omega arith) (omega arith) in
      let outputs = mul-le 4 (sum_by (λ (u : ChildUse). length u.header.outputs) local.children) (4 * (1 + most_outputs local))
      (sum_by (λ (u : ChildUse). length u.header.outputs) local.children) (omega arith) (omega arith) in
      omega (arith, rows, outputs)

  pub start-in-budget : (count : ℕ) → length (start_body local count schedule) ≤ own_budget local
  start-in-budget count =
      let rowed = is-rowed is.resolved local is.is_resolved is.is_local in
      let long = start-long local count schedule in
      let shared = shared-few in
      let groups = groups-few in
      let large = budget-large in
      omega (arith, long, shared, groups, large, rowed.children, rowed.trigger, rowed.functions)

  pub reset-in-budget : (count : ℕ) → length (reset_body local count) ≤ own_budget local
  reset-in-budget count =
      let rowed = is-rowed is.resolved local is.is_resolved is.is_local in
      let long = reset-long local count in
      let large = budget-large in
      omega (arith, long, large, rowed.children, rowed.trigger)
