-- In a system's ticks each function and the update of a child is called by one statement, and each value stored by one.
use Rattle.std.specs.Prelude.{◌≡◌, ◌≢◌, refl, ℕ, zero, suc, ◌+◌, ◌<◌, ◌≤◌, ◌^◌, Bool, true, false, ◌==◌, cond, if◌then◌else◌, List, [], ◌∷◌, ◌++◌, map, flat_map, filter, length, get_or, slice_get, Contains, Option, Some, None, bytes_eq, codes, decimal}
use Rattle.std.specs.Option.{option_map_or}
use Rattle.std.specs.List.{AllByRecursion, range_with_len, enumerate_from}
use Rattle.std.proofs.Common.{sym, ap, ap₂, subst, ◌∙◌, arith, true≢false, length-append}
use Rattle.std.proofs.lemmas.Bool.{eqb-true, eq-eqb, ne_eqb}
use Rattle.std.proofs.lemmas.Fmt.{decimal_injective}
use Rattle.std.proofs.lemmas.List.{append_assoc, append_cancel_left, length-map}
use Rattle.std.proofs.lemmas.List.FromFn.{length-map-range_with_len}
use Rattle.std.proofs.lemmas.Option.{same_Some, none-some}
use Rattle.diagram_blocks.specs.Meaning.{has_value}
use Rattle.diagram_blocks.specs.Kinds.{is_reset_outport}
use Rattle.modules_profile.specs.declared.local.ChildUse.{ChildUse}
use Rattle.modules_profile.specs.declared.local.LocalRow.{LocalRow}
use Rattle.modules_profile.specs.declared.nodes.Node.TheVariants.{Row as RowNode, Call as CallNode}
use Rattle.modules_profile.specs.LocalSystem.{LocalSystem}
use Rattle.modules_profile.specs.SystemProfile.{SystemProfile}
use Rattle.modules_profile.specs.LawfulLocals.{IsChild}
use Rattle.modules_profile.specs.Headers.{header_functions}
use Rattle.modules_profile.specs.LocalNodes.{calls_of, call_nodes, node_list}
use Rattle.modules_profile.specs.NodeFacts.{LocalsAreLawful, NodesReachAsRows}
use Rattle.modules_profile.specs.Systems.{system_name}
use Rattle.modules_profile.proofs.lemmas.Members.{in-map, of-filter, in-at, at-in, at-below, in-range, of-range, in-enumerate}
use Rattle.modules_schedule.specs.SystemSchedule.{SystemSchedule}
use Rattle.c_syntax.specs.Tree.{ParamTree}
use Rattle.emit_shape.specs.CodeNames.{CodeNames}
use Rattle.emit_shape.specs.Heads.{Head, out_head, out_heads}
use Rattle.emit_shape.specs.Names.{value_name, group_name, out_name, update_name, reset_name}
use Rattle.emit_shape.specs.Once.{of_ticks, call_sites, store_sites}
use Rattle.emit_shape.specs.SystemTree.{SystemTree}
use Rattle.emit_system_spec.specs.declared.node.Place.TheVariants.{Row, Call}
use Rattle.emit_system_spec.specs.EmittedCode.{system_code}
use Rattle.emit_system_spec.specs.Groups.{own_count}
use Rattle.emit_system_spec.specs.NodeCode.{code_at}
use Rattle.emit_system_spec.specs.Places.{call_places, node_places}
use Rattle.emit_system_spec.specs.Schedules.{IsScheduleOf}
use Rattle.right_system_shape.specs.Formed.{CodeStatesOnce}
use Rattle.right_system_shape.proofs.AllOf.{all-of, all-of-map, in-right, in-flat_map}
use Rattle.right_system_shape.proofs.CallSites.{called, child-apart, child-one, child-at, call-of, one-place, node-sites, sites-are}
use Rattle.right_system_shape.proofs.FieldNames.{names}
use Rattle.right_system_shape.proofs.FunctionParams.{groups-stand}
use Rattle.right_system_shape.proofs.NameTexts.{other-system}
use Rattle.right_system_shape.proofs.Params.{bytes-same}
use Rattle.right_system_shape.proofs.ProcedureRules.{GroupsStandAtNumbers}
use Rattle.right_system_shape.proofs.Readable.{IsReadable, IsNestedIn, emitted-readable}
use Rattle.right_system_shape.proofs.StoreSites.{values-once}
use Rattle.right_system_shape.proofs.Totals.{one_if, total-none, total-only, order-counts}

pub enum-at : {A : Type 0} (n : ℕ) (xs : List A) (k : ℕ) (x : A) → slice_get xs k ≡ Some x → slice_get (enumerate_from n xs) k
    ≡ Some (n + k, x)
enum-at n [] k x e = absurd (none-some x e)
enum-at {A} n (y ∷ ys) zero x e = ap (λ (z : A). Some (n, z)) (same_Some y x e) ∙ ap (λ i. Some (i, x))
    (let stay : n ≡ n + 0 = omega arith in stay)
enum-at n (y ∷ ys) (suc k) x e = enum-at (n + 1) ys k x e ∙ ap (λ i. Some (i, x)) (let next : n + 1 + k ≡ n + suc k = omega arith in next)

-- there are as many places of nodes as nodes
many-places : (local : LocalSystem) → length (node_places local) ≡ length (node_list local)
many-places local =
    let rows = length-map-range_with_len Row 0 (length local.rows) in
    let own = length-map local.rows (λ (r : LocalRow). RowNode r.row) in
    let places = length-append (map Row (range_with_len 0 (length local.rows))) (flat_map call_places (enumerate_from 0 local.children)) in
    let nodes = length-append (map (λ (r : LocalRow). RowNode r.row) local.rows) (flat_map call_nodes local.children) in
    let calls = by 0 local.children in
    omega (arith, rows, own, places, nodes, calls)
  where
    each : (k many : ℕ) (row : Option ℕ) → length (option_map_or (λ row. map (Call k) (range_with_len 1 many)) row [])
        ≡ length (calls_of row many)
    each k many None = refl
    each k many (Some e) = length-map-range_with_len (Call k) 1 many ∙ sym (length-map-range_with_len (CallNode e) 1 many)

    by : (i : ℕ) (us : List ChildUse) → length (flat_map call_places (enumerate_from i us)) ≡ length (flat_map call_nodes us)
    by i [] = refl
    by i (u ∷ us) =
        let first = each i (length (header_functions u.header)) u.header.row in
        let rest = by (i + 1) us in
        let left = length-append (call_places (i, u)) (flat_map call_places (enumerate_from (i + 1) us)) in
        let right = length-append (call_nodes u) (flat_map call_nodes us) in
        omega (arith, first, rest, left, right)

-- the first bytes of two texts
first-bytes : (xs ys : List ℕ) (a b : ℕ) → get_or xs 0 0 ≡ a → get_or ys 0 0 ≡ b → a ≢ b → xs ≡ ys → ⊥
first-bytes xs ys a b p q apart same = apart (sym p ∙ ap (λ l. get_or l 0 0) same ∙ q)

module _ (local : LocalSystem) (profile : SystemProfile) (schedule : SystemSchedule) (readable : IsReadable local)
    (groups_there : GroupsStandAtNumbers schedule)
    (is : IsScheduleOf local profile schedule) (k_zero : ℕ) (u_zero : ChildUse) (at_zero : slice_get local.children k_zero
    ≡ Some u_zero) where
  abbrev n : CodeNames
  n = names local schedule (system_code local profile schedule)

  abbrev procedures : SystemTree
  procedures = system_code local profile schedule

  own_zero : IsNestedIn local.row u_zero.header.row
  own_zero = readable.child_rows u_zero (in-at local.children k_zero u_zero at_zero)

  nested-at : (k : ℕ) (u : ChildUse) → slice_get local.children k ≡ Some u → IsNestedIn local.row u.header.row
  nested-at k u at = readable.child_rows u (in-at local.children k u at)

  small : (e : ℕ) → e < 20000 → e < 2 ^ 64
  small e few = omega arith

  -- no group has a name of a child's procedure
  group-apart : (g : ℕ) (ys : List ℕ) → bytes_eq (group_name local.row g) (system_name u_zero.header.row ++ 95 ∷ ys) ≡ false
  group-apart g ys =
      ap₂ bytes_eq (append_assoc (system_name local.row) (codes "_g") (decimal g)) (ap (λ r. system_name r ++ 95 ∷ ys) own_zero.is)
      ∙ other-system local.row own_zero.row (103 ∷ decimal g) ys (λ a around. let low = own_zero.later a around in let few =
      own_zero.few in (omega (arith, low, few), λ same. omega (arith, low, same))) (small own_zero.row own_zero.few)

  -- two procedures of children whose names end otherwise, or of two children
  apart : (k : ℕ) (u : ChildUse) → slice_get local.children k ≡ Some u → (xs ys : List ℕ) → (k ≡ k_zero → xs ≡ ys → ⊥) →
      bytes_eq (system_name u.header.row ++ 95 ∷ xs) (system_name u_zero.header.row ++ 95 ∷ ys) ≡ false
  apart k u at xs ys differ =
      let c = nested-at k u at in
      ap₂ bytes_eq (ap (λ r. system_name r ++ 95 ∷ xs) c.is) (ap (λ r. system_name r ++ 95 ∷ ys) own_zero.is)
      ∙ child-apart c.row own_zero.row xs ys (small c.row c.few) (small own_zero.row own_zero.few)
      (λ same. differ (child-one local profile schedule readable groups_there k k_zero c.row u u_zero at at_zero c.is
      (own_zero.is ∙ ap Some (sym same))))

  out-text : (u : ChildUse) (j : ℕ) → out_name u.header.row j ≡ system_name u.header.row ++ 95 ∷ (codes "out" ++ decimal j)
  out-text u j = append_assoc (system_name u.header.row) (codes "_out") (decimal j)

  -- ---- A function

  module _ (j_zero : ℕ) (some : 0 < j_zero) (most : j_zero ≤ length (header_functions u_zero.header)) where
    abbrev name : List ℕ
    name = out_name u_zero.header.row j_zero

    few-functions : (k : ℕ) (u : ChildUse) → slice_get local.children k ≡ Some u → length (header_functions u.header) ≤ 32
    few-functions k u at =
        let there = in-at local.children k u at in
        let child : IsChild u = subst IsChild there.2 (readable.lawful.are_children there.0 u there.1) in
        child.functions

    own-apart : (g : ℕ) → bytes_eq (group_name local.row g) name ≡ false
    own-apart g = ap (bytes_eq (group_name local.row g)) (out-text u_zero j_zero) ∙ group-apart g (codes "out" ++ decimal j_zero)

    resets-apart : (k : ℕ) (u : ChildUse) → slice_get local.children k ≡ Some u → bytes_eq (reset_name u.header.row) name ≡ false
    resets-apart k u at =
        ap (bytes_eq (reset_name u.header.row)) (out-text u_zero j_zero)
        ∙ apart k u at (codes "reset") (codes "out" ++ decimal j_zero)
        (λ same. first-bytes (codes "reset") (codes "out" ++ decimal j_zero) 114 111 refl refl (λ e. omega (arith, e)))

    here : (b : ℕ) × (slice_get (node_places local) b ≡ Some (Call k_zero j_zero))
    here = at-in (node_places local) (Call k_zero j_zero)
        (in-right (map Row (range_with_len 0 (length local.rows))) (flat_map call_places (enumerate_from 0 local.children))
        (Call k_zero j_zero)
        (in-flat_map call_places (enumerate_from 0 local.children) (k_zero, u_zero) (Call k_zero j_zero)
        (subst (λ i. Contains (enumerate_from 0 local.children) (i, u_zero)) (let none : 0 + k_zero ≡ k_zero = omega arith in none)
        (in-enumerate 0 local.children k_zero u_zero at_zero))
        (subst (λ row. Contains (option_map_or
        (λ row. map (Call k_zero) (range_with_len 1 (length (header_functions u_zero.header)))) row []) (Call k_zero j_zero))
        (sym own_zero.is)
        (in-map (Call k_zero) (range_with_len 1 (length (header_functions u_zero.header))) j_zero
        (in-range 1 (length (header_functions u_zero.header)) j_zero (omega arith) (omega arith))))))

    module _ (b : ℕ) (place_zero : slice_get (node_places local) b ≡ Some (Call k_zero j_zero)) where
      abbrev weight : ℕ → ℕ
      weight nth = cond (nth == b) 1 0

      never : (nth : ℕ) → (nth ≡ b → ⊥) → weight nth ≡ 0
      never nth apart = ap (λ t. cond t 1 0) (ne_eqb nth b apart)

      calls : (nth k j : ℕ) (u : ChildUse) → slice_get (node_places local) nth ≡ Some (Call k j) → slice_get local.children k ≡ Some u →
          weight nth ≡ one_if (bytes_eq (out_name u.header.row j) name)
      calls nth k j u place at = by (nth == b) refl
        where
          by : (t : Bool) → (nth == b) ≡ t → cond t 1 0 ≡ one_if (bytes_eq (out_name u.header.row j) name)
          by true e =
              let same : Call k j ≡ Call k_zero j_zero = same_Some (Call k j) (Call k_zero j_zero)
              (sym place ∙ ap (slice_get (node_places local)) (eqb-true nth b e) ∙ place_zero) in
              let child : k ≡ k_zero = cc in
              let number : j ≡ j_zero = cc in
              let one : u ≡ u_zero = same_Some u u_zero (sym at ∙ ap (slice_get local.children) child ∙ at_zero) in
              sym (ap one_if (ap (λ (x : List ℕ). bytes_eq x name) (ap₂ (λ (v : ChildUse) j. out_name v.header.row j) one number)
              ∙ bytes-same name name refl))
          by false e =
              let range = call-of local profile schedule readable groups_there k j (in-at (node_places local) nth (Call k j) place) u at in
              let high = range.1 in
              let many = few-functions k u at in
              let many_zero = few-functions k_zero u_zero at_zero in
              sym (ap one_if (ap₂ bytes_eq (out-text u j) (out-text u_zero j_zero)
              ∙ apart k u at (codes "out" ++ decimal j) (codes "out" ++ decimal j_zero)
              (λ child tails. true≢false (sym (eq-eqb nth b (one-place local k_zero j_zero nth b
              (place ∙ ap₂ (λ k j. Some (Call k j)) child (decimal_injective j j_zero (omega (arith, high, many))
              (omega (arith, many_zero)) (append_cancel_left (codes "out") (decimal j) (decimal j_zero) tails))) place_zero)) ∙ e))))

      is-weight : (params : List ParamTree) (nth : ℕ) → called n name (code_at local (own_count schedule) params nth) ≡ weight nth
      is-weight params nth = node-sites local profile schedule readable groups_there name own-apart resets-apart params nth (weight nth)
          (λ p place. never nth (λ same. let wrong : ⊥ = (let e = sym place ∙ ap (slice_get (node_places local)) same ∙ place_zero in
          cc) in wrong))
          (λ place. never nth (λ same. none-some (Call k_zero j_zero) (sym place ∙ ap (slice_get (node_places local)) same ∙ place_zero)))
          (λ k j u place at. calls nth k j u place at)
          (λ k j place none. never nth (λ same.
          let e : Call k j ≡ Call k_zero j_zero = same_Some (Call k j) (Call k_zero j_zero)
          (sym place ∙ ap (slice_get (node_places local)) same ∙ place_zero) in
          let child : k ≡ k_zero = cc in
          none-some u_zero (sym none ∙ ap (slice_get local.children) child ∙ at_zero)))

      function-at : call_sites n (of_ticks local procedures.procedures) name ≡ 1
      function-at =
          let whole = sites-are local profile schedule readable groups_there name own-apart resets-apart weight is-weight is in
          let inside = at-below (node_places local) b (Call k_zero j_zero) place_zero in
          let places = many-places local in
          let count = is.are_nodes.count in
          let there = is.is_order.has_all b (omega (arith, inside, places, count)) in
          let alone = order-counts is.nodes.graph [] is.order weight b is.is_order.is_least_first there (λ c other. never c other) in
          let one : weight b ≡ 1 = ap (λ t. cond t 1 0) (eq-eqb b b refl) in
          let none = total-none (λ (e : ℕ × ChildUse). one_if (bytes_eq (update_name e.1.header.row) name))
          (enumerate_from 0 local.children)
          (λ e h. ap one_if (ap (bytes_eq (update_name e.1.header.row)) (out-text u_zero j_zero)
          ∙ apart e.0 e.1 (child-at local profile schedule readable groups_there e h) (codes "update") (codes "out" ++ decimal j_zero)
          (λ same. first-bytes (codes "update") (codes "out" ++ decimal j_zero) 117 111 refl refl (λ e. omega (arith, e))))) in
          omega (arith, whole, alone, one, none)

    function-once : call_sites n (of_ticks local procedures.procedures) name ≡ 1
    function-once = function-at here.0 here.1

  -- ---- The update

  abbrev update : List ℕ
  update = update_name u_zero.header.row

  update-resets : (k : ℕ) (u : ChildUse) → slice_get local.children k ≡ Some u → bytes_eq (reset_name u.header.row) update ≡ false
  update-resets k u at = apart k u at (codes "reset") (codes "update")
      (λ same. first-bytes (codes "reset") (codes "update") 114 117 refl refl (λ e. omega (arith, e)))

  update-once : call_sites n (of_ticks local procedures.procedures) update ≡ 1
  update-once =
      let own : (g : ℕ) → bytes_eq (group_name local.row g) update ≡ false = λ g. group-apart g (codes "update") in
      let hits : ℕ × ChildUse → ℕ = λ (e : ℕ × ChildUse). one_if (bytes_eq (update_name e.1.header.row) update) in
      let whole = sites-are local profile schedule readable groups_there update own update-resets (λ nth. 0)
      (λ params nth. node-sites local profile schedule readable groups_there update own update-resets params nth 0 (λ p place. refl)
      (λ place. refl)
      (λ k j u place at. sym (ap one_if (ap (λ (x : List ℕ). bytes_eq x update) (out-text u j)
      ∙ apart k u at (codes "out" ++ decimal j) (codes "update")
      (λ same. first-bytes (codes "out" ++ decimal j) (codes "update") 111 117 refl refl (λ e. omega (arith, e))))))
      (λ k j place none. refl)) is in
      let nothing = total-none (λ (nth : ℕ). 0) is.order (λ nth h. refl) in
      let at : slice_get (enumerate_from 0 local.children) k_zero ≡ Some (0 + k_zero, u_zero) =
      enum-at 0 local.children k_zero u_zero at_zero in
      let one = total-only hits (enumerate_from 0 local.children) k_zero (0 + k_zero, u_zero) at other in
      let self : hits (0 + k_zero, u_zero) ≡ 1 = ap one_if (bytes-same update update refl) in
      omega (arith, whole, nothing, one, self)
    where
      other : (i : ℕ) (e : ℕ × ChildUse) → slice_get (enumerate_from 0 local.children) i ≡ Some e → i ≢ k_zero →
          one_if (bytes_eq (update_name e.1.header.row) (update_name u_zero.header.row)) ≡ 0
      other i e there apart_places =
          let child = child-at local profile schedule readable groups_there e (in-at (enumerate_from 0 local.children) i e there) in
          let at : slice_get (enumerate_from 0 local.children) e.0 ≡ Some (0 + e.0, e.1) = enum-at 0 local.children e.0 e.1 child in
          ap one_if (apart e.0 e.1 child (codes "update") (codes "update") (λ same tails. apart_places (place i e there same)))
        where
          number : {A : Type 0} (n : ℕ) (xs : List A) (i : ℕ) (e : ℕ × A) → slice_get (enumerate_from n xs) i ≡ Some e → n + i ≡ e.0
          number n [] i e h = absurd (none-some e h)
          number {A} n (x ∷ xs) zero e h = (let stay : n + 0 ≡ n = omega arith in stay) ∙ ap (λ (p : ℕ × A). p.0) (same_Some (n, x) e h)
          number n (x ∷ xs) (suc i) e h = (let next : n + suc i ≡ n + 1 + i = omega arith in next) ∙ number (n + 1) xs i e h

          place : (i : ℕ) (e : ℕ × ChildUse) → slice_get (enumerate_from 0 local.children) i ≡ Some e → e.0 ≡ k_zero → i ≡ k_zero
          place i e h same = let is = number 0 local.children i e h in omega (arith, is, same)

pub code_states_once : LocalsAreLawful → NodesReachAsRows → CodeStatesOnce
code_states_once lawful reach local profile schedule is =
    let readable : IsReadable local = emitted-readable lawful local profile schedule is in
    let groups_there = groups-stand reach local profile schedule is readable in
    let n = names local schedule (system_code local profile schedule) in
    let ticks = of_ticks local (system_code local profile schedule).procedures in
    record {
      values = all-of (λ (r : LocalRow). store_sites n ticks (value_name r.row) ≤ (if is_reset_outport r.kind then 2 else 1))
          (filter (λ (r : LocalRow). has_value r.kind) local.rows)
          (λ r h. values-once local profile schedule readable is.is_schedule r
          (of-filter (λ (r : LocalRow). has_value r.kind) local.rows r h).0);
      functions = all-of (λ (u : ChildUse). AllByRecursion (λ (h : Head). call_sites n ticks h.name ≡ 1)
          (out_heads u.header)) local.children
          (λ u m. let at = at-in local.children u m in
          all-of-map (λ (h : Head). call_sites n ticks h.name ≡ 1) (out_head u.header)
          (range_with_len 1 (length (header_functions u.header)))
          (λ j k. let range = of-range 1 (length (header_functions u.header)) j k in
          let low = range.0 in
          let high = range.1 in
          function-once local profile schedule readable groups_there is.is_schedule at.0 u at.1 j (omega (arith, low))
          (omega (arith, high))));
      updates = all-of (λ (u : ChildUse). call_sites n ticks (update_name u.header.row) ≡ 1) local.children
          (λ u m. let at = at-in local.children u m in update-once local profile schedule readable groups_there is.is_schedule at.0 u at.1);
    }
