-- What the code of a system is made from can be written: its operations and its starts, and there are few of all.
use Rattle.std.specs.Prelude.{◌≡◌, ℕ, ◌+◌, ◌^◌, ◌<◌, ◌≤◌, nat_lt, Bool, true, false, cond, List, [], map, flat_map, length, slice_index_or, All, Contains, Option, Some, None, unsigned_abs}
use Rattle.std.specs.List.{range_with_len}
use Rattle.std.proofs.Common.{refl, sym, ap, subst, ◌∙◌, arith}
use Rattle.std.proofs.lemmas.List.{length-map, length-append}
use Rattle.std.proofs.lemmas.List.FromFn.{length-range_with_len}
use Rattle.std.proofs.lemmas.List.Elements.{All-contains}
use Rattle.std.proofs.lemmas.List.Sorted.{length_permutation}
use Rattle.std.proofs.lemmas.Slice.Zip.{AllZip-long}
use Rattle.base_core.specs.Interface.{different}
use Rattle.base_core.specs.declared.Control.{Control}
use Rattle.base_core.specs.declared.Control.TheVariants.{Plain, Enabled, Triggered, Both}
use Rattle.base_core.specs.declared.Decimal.{Decimal}
use Rattle.base_fixed_point.specs.declared.FixType.{FixType}
use Rattle.base_fixed_point.specs.Conversion.{quantize}
use Rattle.diagram_blocks.specs.declared.Kind.{Kind}
use Rattle.diagram_blocks.specs.declared.Kind.TheVariants.{Outport, Constant, UnitDelay, Delay, RateTransition}
use Rattle.diagram_blocks.specs.declared.Op.{Op}
use Rattle.diagram_blocks.specs.declared.Op.TheVariants.{Nothing}
use Rattle.diagram_blocks.specs.Meaning.{op_of, has_value}
use Rattle.diagram_meaning.specs.Rows.{row_at, row_numbers, rows_of, subsystems_of, inports_of, outports_of, same_system, is_triggered}
use Rattle.diagram_blocks.specs.Kinds.{is_inport, is_outport, is_subsystem}
use Rattle.diagram_meaning.specs.Diagram.{Diagram, op_at, op_in, type_at}
use Rattle.diagram_meaning.specs.Needs.{TrueNeeds, IsMaskOf}
use Rattle.diagram_meaning.specs.ResolvedTree.{ResolvedTree, IsResolvedTree, diagram_of}
use Rattle.diagram_meaning.specs.ResolvedLaws.{ResolvedRowsAreNarrow}
use Rattle.diagram_meaning.specs.Run.{start_by}
use Rattle.diagram_meaning.proofs.lemmas.ByRow.{by_row-at}
use Rattle.diagram_meaning.proofs.lemmas.Resolving.{has_types, within_limits}
use Rattle.modules_profile.specs.declared.local.ChildUse.{ChildUse}
use Rattle.modules_profile.specs.declared.local.LocalRow.{LocalRow}
use Rattle.modules_profile.specs.declared.profile.Function.{Function}
use Rattle.modules_profile.specs.LocalSystem.{LocalSystem}
use Rattle.modules_profile.specs.SystemHeader.{SystemHeader}
use Rattle.modules_profile.specs.SystemProfile.{SystemProfile}
use Rattle.modules_profile.specs.Functions.{IsProfileOf, function_for}
use Rattle.modules_profile.specs.Headers.{header_functions}
use Rattle.modules_profile.specs.LawfulLocals.{IsLocal, IsChild}
use Rattle.modules_profile.specs.LocalNodes.{node_list, call_nodes, calls_of}
use Rattle.modules_profile.specs.Locals.{local_row, local_of, child_use, inports}
use Rattle.modules_profile.specs.NodeFacts.{AreHeaders, LocalsAreLawful}
use Rattle.modules_profile.proofs.lemmas.Members.{of-map}
use Rattle.modules_profile.proofs.lemmas.OwnRows.{by_port_mapped, of-rows}
use Rattle.modules_profile.proofs.lemmas.PortRows.{few-ports}
use Rattle.modules_schedule.specs.SystemSchedule.{SystemSchedule}
use Rattle.emit_row_code.specs.Resolved.{IsRowOp, RowOpsAreWritable}
use Rattle.emit_shape.specs.Delays.{is_single, is_line}
use Rattle.emit_system_spec.specs.Schedules.{IsScheduleOf}
use Rattle.emit_system_spec.specs.Emittable.{IsWritableRow}
use Rattle.emit_system_spec.specs.Emitted.{EmittedIsEmittable}
use Rattle.emit_system_spec.specs.Fields.{call_count, child_field, shared_groups}
use Rattle.emit_system_spec.specs.Groups.{group_nodes, has_some, own_count}
use Rattle.emit_system_spec.specs.Places.{child_base}
use Rattle.emit_system_spec.proofs.lemmas.ShortLists.{all-members, short-filter, short-flat_map, short-sum, short-different}

-- ---- Starts

module _ (writable : RowOpsAreWritable) where
  -- a constant of a type has few bits
  constant-small : (value : Decimal) (t : FixType) → unsigned_abs (quantize value t) < 2 ^ 63
  constant-small value t =
      writable (op_of (Constant value) [] t false)
      (record {
        kind = Constant value;
        types = [];
        out = t;
        delays = false;
        is_op = refl;
        within_limits = tt;
        has_types = tt;
        narrow = omega arith;
      })

  start-small : (kind : Kind) (ts : List FixType) (out : FixType) (delays : Bool) (control : Control) →
      unsigned_abs (start_by (op_of kind ts out delays) kind control out) < 2 ^ 63
  start-small (Outport port reset initial) ts out delays Plain = omega arith
  start-small (Outport port reset initial) ts out delays (Enabled resets) = constant-small initial out
  start-small (Outport port reset initial) ts out delays (Triggered edge) = constant-small initial out
  start-small (Outport port reset initial) ts out delays (Both resets edge) = constant-small initial out
  start-small (UnitDelay initial) ts out delays control = constant-small initial out
  start-small (Delay samples initial) ts out delays control = constant-small initial out
  start-small (RateTransition initial time) ts out true control = constant-small initial out
  start-small (RateTransition initial time) ts out false control = omega arith
  start-small _ ts out delays control = omega arith

-- ---- Rows

module _ (r : ResolvedTree) (resolved : IsResolvedTree r) where
  abbrev d : Diagram
  d = diagram_of r

  pub op-is : (b : ℕ) → b < length d.rows → op_at d b ≡ op_in d.rows d.types r.times.delays b
  op-is b inside =
      ap (λ (ops : List Op). slice_index_or ops b Nothing) resolved.resolved.are_ops
      ∙ by_row-at d.rows (op_in d.rows r.types r.times.delays) b Nothing inside

  row-op : ResolvedRowsAreNarrow → (b : ℕ) → b < length d.rows → IsRowOp (op_at d b)
  row-op narrow b inside = record {
    kind = (row_at d.rows b).kind;
    types = map (type_at r.types) (row_at d.rows b).inputs;
    out = type_at r.types b;
    delays = slice_index_or r.times.delays b false;
    is_op = op-is b inside;
    within_limits = within_limits r.tree.table b resolved.tree.table inside;
    has_types = has_types r.tree.table r.types b resolved.tree.table inside;
    narrow = narrow r.tree.table r.types r.ops r.times b resolved.resolved inside;
  }

  module _ (s : Option ℕ) (headers : List SystemHeader) (are : AreHeaders d s headers) where
    abbrev own : LocalSystem
    own = local_of d r.times.delays s headers

    writable-rows : ResolvedRowsAreNarrow → RowOpsAreWritable → All (IsWritableRow own) own.rows
    writable-rows narrow writable = all-members (IsWritableRow own) own.rows (λ q h.
        let m = of-map (local_row d r.times.delays) (rows_of d.rows s) q h in
        let inside = (of-rows d.rows s m.0 m.1).0 in
        subst (IsWritableRow own) m.2 (record {
          op = row-op narrow m.0 inside;
          start =
              subst (λ op. unsigned_abs (start_by op (row_at d.rows m.0).kind own.control (type_at r.types m.0)) < 2 ^ 63)
              (sym (op-is m.0 inside))
              (start-small writable (row_at d.rows m.0).kind (map (type_at r.types) (row_at d.rows m.0).inputs) (type_at r.types m.0)
              (slice_index_or r.times.delays m.0 false) own.control);
        }))

    -- ---- Numbers of rows, children and nodes

    pub few-rows : length own.rows ≤ 20000
    few-rows =
        let rows = length-map (rows_of d.rows s) (local_row d r.times.delays) in
        let kept = short-filter (λ b. same_system (row_at d.rows b).owner s) (row_numbers d.rows) in
        let all = length-range_with_len 0 (length d.rows) in
        let most = resolved.tree.table.nested.at_most in
        omega (arith, rows, kept, all, most)

    pub few-children : length own.children ≤ 20000
    few-children =
        let rows = length-map (rows_of d.rows s) (local_row d r.times.delays) in
        let few = few-rows in
        let kept = short-filter (λ b. is_subsystem (row_at d.rows b).kind) (rows_of d.rows s) in
        let one = length-map headers (λ (h : SystemHeader). h.row) in
        let two = length-map (subsystems_of d.rows s) Some in
        let same = ap length are.rows in
        let made = length-map headers (child_use d) in
        omega (arith, rows, few, kept, one, two, same, made)

    pub few-inputs : length (inports own) ≤ 32
    few-inputs =
        let ports = few-ports d.rows s is_inport (resolved.tree.table.inports s) in
        let made = ap length (by_port_mapped d r.times.delays s headers is_inport) in
        let long = length-map (inports_of d.rows s) (local_row d r.times.delays) in
        omega (arith, ports, made, long)

    pub few-functions : (profile : SystemProfile) → IsProfileOf d s profile → length profile.functions ≤ 32
    few-functions profile is =
        let many = ap (λ (fs : List Function). length fs) is.functions ∙ length-map (different is.needs) (function_for is.needs) in
        let short = short-different is.needs in
        let needs = AllZip-long (λ o mask. IsMaskOf (TrueNeeds d s o) mask) (outports_of d.rows s) is.needs is.are_needs in
        let outs = few-ports d.rows s is_outport (resolved.tree.table.outports s) in
        omega (arith, many, short, needs, outs)

-- ---- Fields, groups and procedures

few-calls : (row : Option ℕ) (n : ℕ) → length (calls_of row n) ≤ n
few-calls None n = omega arith
few-calls (Some e) n =
    let long = length-range_with_len 1 n in
    let made = length-map (range_with_len 1 n) (Rattle.modules_profile.specs.declared.nodes.Node.TheVariants.Call e) in omega (arith, long, made)

module _ (local : LocalSystem) (lawful : IsLocal local) (rows : length local.rows ≤ 20000) (children : length local.children ≤ 20000) where
  child-of : (u : ChildUse) → Contains local.children u → IsChild u
  child-of u h = All-contains IsChild local.children u lawful.are_children h

  pub few-nodes : length (node_list local) ≤ 660000
  few-nodes =
      let calls = short-flat_map 32 call_nodes local.children (λ u h.
      let few =
      (child-of u h).functions in let made = few-calls u.header.row (length (header_functions u.header)) in omega (arith, few, made)) in
      let own = length-map local.rows (λ (q : LocalRow). Rattle.modules_profile.specs.declared.nodes.Node.TheVariants.Row q.row) in
      let both =
      length-append (map (λ (q : LocalRow). Rattle.modules_profile.specs.declared.nodes.Node.TheVariants.Row q.row) local.rows)
      (flat_map call_nodes local.children) in
      omega (arith, calls, own, both)

  module _ (profile : SystemProfile) (schedule : SystemSchedule) (is : IsScheduleOf local profile schedule) where
    pub few-groups : length schedule.groups ≤ 660000
    few-groups =
        let nodes = few-nodes in
        let made =
        ap (λ (t : SystemSchedule). length t.groups) is.is_schedule ∙ length-map (range_with_len 0 (length is.groups.holds)) _
        ∙ length-range_with_len 0 (length is.groups.holds) in
        let sets = length_permutation (different is.clusters) is.groups.holds is.are_groups.sets in
        let short = short-different is.clusters in
        let one = is.are_clusters.one_each in
        let count = is.are_nodes.count in
        omega (arith, nodes, made, sets, short, one, count)

    fields-few : child_field local (length local.children) + length (shared_groups schedule) ≤ 2 ^ 31
    fields-few =
        let values = short-filter (λ (q : LocalRow). has_value q.kind) local.rows in
        let singles = short-filter (λ (q : LocalRow). is_single q.op) local.rows in
        let lines = short-filter (λ (q : LocalRow). is_line q.op) local.rows in
        let shared = short-filter (λ g. nat_lt 1 (call_count schedule g)) (range_with_len 0 (length schedule.groups)) in
        let all = length-range_with_len 0 (length schedule.groups) in
        let groups = few-groups in
        let trigger = one-more (is_triggered local.control) in
        omega (arith, values, singles, lines, shared, all, groups, trigger)
      where
        one-more : (t : Bool) → cond t 1 0 ≤ 1
        one-more true = omega arith
        one-more false = omega arith

    procedures-few : length profile.functions ≤ 32 → child_base local (own_count schedule) (length local.children) ≤ 2 ^ 31
    procedures-few functions =
        let kept = short-filter (λ g. has_some (group_nodes schedule g)) (range_with_len 0 (length schedule.groups)) in
        let all = length-range_with_len 0 (length schedule.groups) in
        let groups = few-groups in
        let made =
        ap (λ (t : SystemSchedule). length t.functions) is.is_schedule ∙ length-map (range_with_len 0 (length profile.functions)) _
        ∙ length-range_with_len 0 (length profile.functions) in
        let inner =
        short-sum 35 (λ (u : ChildUse). length (header_functions u.header) + 3) local.children (length local.children)
        (λ u h. let few = (child-of u h).functions in omega (arith, few)) in
        omega (arith, kept, all, groups, made, inner, functions)

pub emitted_is_emittable : LocalsAreLawful → ResolvedRowsAreNarrow → RowOpsAreWritable → EmittedIsEmittable
emitted_is_emittable lawful narrow writable local profile schedule is =
    let r = is.resolved in
    let headers = is.is_local.headers in
    let own = local_of (diagram_of r) r.times.delays local.row headers in
    let same : own ≡ local = sym is.is_local.is_local in
    let law = lawful r local.row local is.is_resolved is.is_local in
    let rows =
    subst (λ (l : LocalSystem). length l.rows ≤ 20000) same (few-rows r is.is_resolved local.row headers is.is_local.are_headers) in
    let children =
    subst (λ (l : LocalSystem). length l.children ≤ 20000) same
    (few-children r is.is_resolved local.row headers is.is_local.are_headers) in record {
      rows = subst (λ (l : LocalSystem). All (IsWritableRow l) l.rows) same
          (writable-rows r is.is_resolved local.row headers is.is_local.are_headers narrow writable);
      children = law.are_children;
      inputs = subst (λ (l : LocalSystem). length (inports l) ≤ 32) same
          (few-inputs r is.is_resolved local.row headers is.is_local.are_headers);
      groups = let few = few-groups local law rows children profile schedule is.is_schedule in omega (arith, few);
      fields = fields-few local law rows children profile schedule is.is_schedule;
      procedures = procedures-few local law rows children profile schedule is.is_schedule
          (few-functions r is.is_resolved local.row headers is.is_local.are_headers profile is.is_profile);
    }
