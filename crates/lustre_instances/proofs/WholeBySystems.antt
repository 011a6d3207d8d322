-- An instance is whole where the names of all systems and the arguments of their calls have values.
use Rattle.std.specs.Prelude.{◌≡◌, ℕ, zero, suc, ◌+◌, ◌-◌, ◌<◌, ℤ, true, List, [], ◌∷◌, ◌++◌, map, take, drop, length, slice_get, Contains, Option, Some, None, refl}
use Rattle.std.specs.List.{AllByRecursion, list_all}
use Rattle.std.proofs.Common.{sym, ap, subst, ◌∙◌, arith, inl, inr, length-append, length-drop, get_or-drop}
use Rattle.std.proofs.lemmas.List.{length-map}
use Rattle.std.proofs.lemmas.List.Elements.{Contains-append_left, Contains-append_right}
use Rattle.diagram_meaning.specs.Rows.{outports_of}
use Rattle.diagram_meaning.specs.WellFormed.{IsNested, IsOwner}
use Rattle.diagram_meaning.specs.Diagram.{Diagram}
use Rattle.diagram_meaning.specs.ResolvedTree.{diagram_of}
use Rattle.diagram_typed_runs.specs.TypedRuns.{IsSystem}
use Rattle.modules_profile.specs.Systems.{system_name}
use Rattle.modules_profile.proofs.lemmas.Members.{in-map, at-map, at-right}
use Rattle.emit_shape.specs.Names.{value_name, now_name}
use Rattle.lustre_syntax.specs.Tree.{call, Declared, NodeTree, FileTree, texts_of}
use Rattle.lustre_syntax.specs.Named.{NamedExpr, NamedNode, all_names}
use Rattle.lustre_flows.specs.Values.{value_at}
use Rattle.lustre_flows.specs.Instances.{Instance, values_in, calls_in, call_at, outputs_of, has_value, is_complete}
use Rattle.lustre_flows.specs.Ticks.{inside}
use Rattle.lustre_settling.specs.Solutions.{IsSolution}
use Rattle.lustre_settling.proofs.lemmas.Given.{times-same}
use Rattle.lustre_system.specs.Functions.{int_name}
use Rattle.lustre_system.specs.SystemNodes.{system_node, system_equations}
use Rattle.lustre_system.specs.File.{lustre_file, root_node}
use Rattle.lustre_right.specs.Paths.{node_place, call_place, path_to}
use Rattle.lustre_right.specs.Systems.{HasArguments}
use Rattle.lustre_right.specs.SystemLaws.{WholeBySystems}
use Rattle.lustre_rows.proofs.lemmas.NamePlaces.{place-at}
use Rattle.lustre_instances.proofs.NamedValues.{names-count, valued-by_place, valued-by_name, valued-mapped}
use Rattle.lustre_instances.proofs.Calls.{complete-calls, called-place}
use Rattle.lustre_instances.proofs.FileNodes.{IsFileOf, file-of}
use Rattle.lustre_instances.proofs.KnownCalls.{IsKnown, IsChildCall, known-equations}
use Rattle.lustre_instances.proofs.SystemPaths.{inside-longer, path-to-top}
use Rattle.lustre_instances.proofs.Opened.{placed, place, value_in, outcome_in, IsOpenedAt}
use Rattle.lustre_instances.proofs.Instances.{root-named, root-opened, has-instance, child-path, child-once}
use Rattle.lustre_instances.proofs.SystemsHold.{root-outputs}
use Rattle.lustre_instances.proofs.WholeValues.{all-at, whole-parts, complete-parts}
use Rattle.lustre_instances.proofs.NamedCalls.{IsNamedCall, named-call, function-whole}

-- later children have less after them
abbrev rows_after : ℕ → Option ℕ → ℕ
rows_after count None = count + 1
rows_after count (Some e) = count - e

module _ (d : Diagram) (hyper : ℕ) (f : FileTree) (before : Option Instance) (row : List ℤ) (left : Instance)
    (file : IsFileOf d hyper f) (nested : IsNested d.rows) (solution : IsSolution f before row left) where
  abbrev path : Option ℕ → List ℕ
  path s = path_to f d.rows s

  abbrev value : Option ℕ → List ℕ → Option ℤ
  value s text = value_in f before left (path s) (system_node d s) text

  abbrev outcome : Option ℕ → NamedExpr → Option ℤ
  outcome s e = outcome_in f before left (path s) (system_node d s) e

  abbrev at : Option ℕ → Instance
  at s = inside (path s) left

  abbrev Opened : Option ℕ → List (Option ℤ) → Type 0
  Opened s inputs = IsOpenedAt f before left (path s) (system_node d s) inputs

  -- where these have values
  module _ (values : (s : Option ℕ) → IsSystem d.rows s → (text : List ℕ) → Contains (texts_of (all_names (system_node d s))) text →
      (v : ℤ) × (value s text ≡ Some v))
      (arguments : (s : Option ℕ) → IsSystem d.rows s → (m line : ℕ) (texts : List (List ℕ)) (callee : List ℕ) (es : List NamedExpr) →
      slice_get (system_equations d s) m ≡ Some (call line texts callee es) →
      AllByRecursion (λ e. (v : ℤ) × (outcome s e ≡ Some v)) es) where
    -- ---- A system's own values

    values-whole : (s : Option ℕ) (inputs : List (Option ℤ)) → IsSystem d.rows s → Opened s inputs →
        list_all has_value (values_in (at s)) ≡ true
    values-whole s inputs is o =
        let names = all_names (system_node d s) in
        valued-by_name (texts_of names) (values_in (at s)) o.apart (o.names ∙ sym (length-map names (λ (x : Declared). x.text)))
        (values s is)

    -- ---- The instances of its calls

    abbrev CallAt : Option ℕ → ℕ → Type 0
    CallAt s j = IsNamedCall f before left (path s) (system_node d s) j

    -- that of a child is the one at the child's path
    child-is : (s : Option ℕ) → IsSystem d.rows s → (j : ℕ) (c : CallAt s j) (u : IsChildCall d s c.callee) →
        call_at (calls_in (at s)) j ≡ at (Some u.child)
    child-is s is j c u =
        let n = system_node d s in
        let p = node_place f (system_name (Some u.child)) in
        let place_is : call_place (placed f n) p ≡ j =
        called-place (placed f n) j p (child-once d hyper f before row left file nested solution s u.child u.subsystem)
        (c.named ∙ ap (λ (t : List ℕ). Some (node_place f t)) u.callee_is) in
        ap (call_at (calls_in (at s))) (sym place_is)
        ∙ sym (inside-longer (path s) (call_place (placed f n) p) left)
        ∙ ap (λ (ks : List ℕ). inside ks left)
        (sym (child-path d hyper f before row left file nested solution s u.child is u.row))

    smaller : (s : Option ℕ) (e : ℕ) → IsOwner d.rows e s → e < length d.rows →
        rows_after (length d.rows) (Some e) < rows_after (length d.rows) s
    smaller None e owned below = omega arith
    smaller (Some p) e owned below = let earlier = owned.0 in omega arith

    -- the instance of a call is complete where the instances of systems further in are
    call-complete : (s : Option ℕ) (inputs : List (Option ℤ)) → IsSystem d.rows s → Opened s inputs → (j : ℕ) → CallAt s j →
        ((t : Option ℕ) → IsSystem d.rows t → rows_after (length d.rows) t < rows_after (length d.rows) s → is_complete (at t) ≡ true) →
        is_complete (call_at (calls_in (at s)) j) ≡ true
    call-complete s inputs is o j c inner =
        elim (all-at (IsKnown d s) (system_equations d s) c.m (call c.line c.texts c.callee c.arguments) (known-equations d s) c.equation) [
          | inl (k, named) ↦
              function-whole f before left (path s) (system_node d s) file.lawful file.functions (node_place f (system_name s))
              (file.systems s is) inputs o (values-whole s inputs is o) j c
              (arguments s is c.m c.line c.texts c.callee c.arguments c.equation) k named
          | inr u ↦
              let owned = subst (IsOwner d.rows u.child) u.row.own (nested.owned u.child u.row.in_table) in
              ap is_complete (child-is s is j c u) ∙ inner (Some u.child) u.subsystem (smaller s u.child owned u.row.in_table)
        ]

    system-complete : (bound : ℕ) (s : Option ℕ) → IsSystem d.rows s → rows_after (length d.rows) s < bound → is_complete (at s) ≡ true
    system-complete zero s is low = absurd (omega arith)
    system-complete (suc bound) s is low =
        let (inputs, o) = has-instance d hyper f before row left file nested solution s is in
        complete-parts (at s) (values-whole s inputs is o)
        (complete-calls f.nodes (placed f (system_node d s)).equations (calls_in (at s)) o.forms
        (λ j within. call-complete s inputs is o j (named-call f before left (path s) (system_node d s) inputs o j within)
        (λ t there less. system-complete bound t there (omega arith))))

    -- ---- The root

    module _ (counts : (v : ℤ) × (value_at (values_in left) (place f (root_node d hyper) now_name) ≡ Some v)) where
      abbrev root : NamedNode
      root = root_node d hyper

      opened-root : IsOpenedAt f before left [] root (map Some row)
      opened-root = root-opened d hyper f before row left file nested solution

      outports-whole : list_all has_value (map (λ o. value None (value_name o)) (outports_of d.rows None)) ≡ true
      outports-whole =
          let n = system_node d None in
          let text_of : Declared → List ℕ = λ (x : Declared). x.text in
          let declared : ℕ → Declared = λ (o : ℕ). int_name (value_name o) in
          valued-mapped (λ o. value None (value_name o)) (outports_of d.rows None)
          (λ o h. values None tt (value_name o)
          (in-map text_of (all_names n) (declared o)
          (Contains-append_left (n.inputs ++ n.outputs) n.others (declared o)
          (Contains-append_right n.inputs n.outputs (declared o) (in-map declared (outports_of d.rows None) o h)))))

      count-whole : list_all has_value (drop (length root.outputs) (drop (length root.inputs) (values_in left))) ≡ true
      count-whole =
          let vs = values_in left in
          let n = length root.inputs in
          let m = length root.outputs in
          let ports = length-append root.inputs root.outputs in
          let place_of_last : length (root.inputs ++ root.outputs) + 0 ≡ n + (m + 0) = omega arith in
          let last : slice_get (texts_of (all_names root)) (n + (m + 0)) ≡ Some now_name =
          at-map (λ (x : Declared). x.text) (all_names root) (n + (m + 0)) (int_name now_name)
          (subst (λ k. slice_get (all_names root) k ≡ Some (int_name now_name)) place_of_last
          (at-right (root.inputs ++ root.outputs) root.others 0 (int_name now_name) refl)) in
          let place_is = place-at (texts_of (all_names root)) (n + (m + 0)) now_name opened-root.apart last in
          let first = length-drop n vs in
          let rest = length-drop m (drop n vs) in
          let names = opened-root.names in
          let all = names-count root in
          valued-by_place (drop m (drop n vs))
          (λ k low. let zero_only : k ≡ 0 = omega arith in (
            counts.0,
            get_or-drop m (drop n vs) k None ∙ get_or-drop n vs (m + k) None
                ∙ ap (λ i. value_at vs (n + (m + i))) zero_only ∙ ap (value_at vs) (sym place_is) ∙ counts.1,
          ))

      root-whole : list_all has_value (values_in left) ≡ true
      root-whole =
          let vs = values_in left in
          let outputs : take (length root.outputs) (drop (length root.inputs) vs)
          ≡ map (λ o. value None (value_name o)) (outports_of d.rows None) =
          ap (λ (n : NodeTree). outputs_of n left) (sym file.root.node) ∙ root-outputs d hyper f before row left file nested solution in
          whole-parts (length root.inputs) vs
          (ap (list_all has_value) opened-root.takes ∙ valued-mapped Some row (λ v h. (v, refl)))
          (whole-parts (length root.outputs) (drop (length root.inputs) vs) (ap (list_all has_value) outputs ∙ outports-whole) count-whole)

      top-is : call_at (calls_in left) 0 ≡ at None
      top-is =
          let p = node_place f (system_name None) in
          let place_is : call_place (placed f root) p ≡ 0 =
          called-place (placed f root) 0 p (let once = times-same p [] in omega arith) refl in
          ap (call_at (calls_in left)) (sym place_is)
          ∙ sym (ap (λ (ks : List ℕ). inside ks left) (path-to-top d.rows f
          ∙ ap (λ (n : NodeTree). call_place n p ∷ []) (root-named d hyper f before row left file nested solution)))

      top-complete : (j : ℕ) → j < 1 → is_complete (call_at (calls_in left) j) ≡ true
      top-complete zero low = ap is_complete top-is ∙ system-complete (length d.rows + 2) None tt (omega arith)
      top-complete (suc j) low = absurd (omega arith)

      pub left-complete : is_complete left ≡ true
      left-complete =
          complete-parts left root-whole (complete-calls f.nodes (placed f root).equations (calls_in left) opened-root.forms top-complete)

pub whole_by_systems : WholeBySystems
whole_by_systems r before row left is whole =
    let d = diagram_of r in
    let hyper = r.times.hyper in
    left-complete d hyper (lustre_file d hyper) before row left (file-of d hyper is.tick.lawful) is.resolved.tree.table.nested is.solution
    whole.values
    (λ s system m line texts callee es there. all-at (HasArguments d hyper before left s) (system_equations d s) m
    (call line texts callee es) (whole.arguments s system) there)
    whole.counts
