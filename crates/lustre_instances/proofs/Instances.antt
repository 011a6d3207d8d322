-- The instance of each system, at the system's path.
use Rattle.std.specs.Prelude.{◌≡◌, ℕ, zero, suc, ◌<◌, ◌≤◌, ℤ, true, false, List, [], ◌∷◌, ◌++◌, map, slice_get, Option, Some, None, option_map, refl}
use Rattle.std.proofs.Common.{sym, ap, subst, ◌∙◌, arith}
use Rattle.std.proofs.lemmas.List.{length-map}
use Rattle.diagram_blocks.specs.Kinds.{is_subsystem}
use Rattle.diagram_meaning.specs.Rows.{row_at, outports_of}
use Rattle.diagram_meaning.specs.WellFormed.{IsNested, IsOwner}
use Rattle.diagram_meaning.specs.Diagram.{Diagram}
use Rattle.diagram_meaning.specs.SystemRuns.{IsRowOf}
use Rattle.diagram_typed_runs.specs.TypedRuns.{IsSystem}
use Rattle.modules_profile.specs.Systems.{system_name}
use Rattle.emit_shape.specs.Names.{value_name, root_name, now_name}
use Rattle.lustre_syntax.specs.Tree.{truth, name, call, Declared, NodeTree, node_at, FileTree, node_texts, texts_of}
use Rattle.lustre_syntax.specs.Named.{NamedExpr}
use Rattle.lustre_flows.specs.Instances.{Instance, values_in, outputs_of}
use Rattle.lustre_flows.specs.Ticks.{inside, last_place}
use Rattle.lustre_settling.specs.Solutions.{holding_at, holdings_of, IsSolution}
use Rattle.lustre_settling.proofs.lemmas.Given.{times, times-same}
use Rattle.lustre_system.specs.Functions.{int_name}
use Rattle.lustre_system.specs.Names.{port_names}
use Rattle.lustre_system.specs.SystemNodes.{system_node, system_equations}
use Rattle.lustre_system.specs.File.{output_names, root_node}
use Rattle.lustre_rows.proofs.lemmas.Systems.{system-below}
use Rattle.lustre_right.specs.Paths.{node_place, node_named, callees, call_place, path_to}
use Rattle.lustre_instances.proofs.NamedValues.{map-twice, outputs-named}
use Rattle.lustre_instances.proofs.FileNodes.{IsFileOf}
use Rattle.lustre_instances.proofs.ChildCalls.{child_arguments, child-there}
use Rattle.lustre_instances.proofs.CalledOnce.{called-once}
use Rattle.lustre_instances.proofs.SystemPaths.{was-itself, path-to-top, path-to-child}
use Rattle.lustre_instances.proofs.Opened.{placed, place, opened, one-call, value_in, outcome_in, IsOpenedAt, IsCalled, called-at}

-- what the root gives the system `top`
abbrev pub top_arguments : Diagram → List NamedExpr
top_arguments d = name now_name ∷ truth true ∷ truth false ∷ map name (port_names d.rows None)

texts-of_outports : (os : List ℕ) → texts_of (map (λ o. int_name (value_name o)) os) ≡ map value_name os
texts-of_outports os = map-twice (λ o. int_name (value_name o)) (λ (x : Declared). x.text) os

module _ (d : Diagram) (hyper : ℕ) (f : FileTree) (before : Option Instance) (row : List ℤ) (left : Instance)
    (file : IsFileOf d hyper f) (nested : IsNested d.rows) (solution : IsSolution f before row left) where
  abbrev pub path : Option ℕ → List ℕ
  path s = path_to f d.rows s

  abbrev pub value : Option ℕ → List ℕ → Option ℤ
  value s text = value_in f before left (path s) (system_node d s) text

  abbrev pub outcome : Option ℕ → NamedExpr → Option ℤ
  outcome s e = outcome_in f before left (path s) (system_node d s) e

  -- ---- The root

  pub root-opened : IsOpenedAt f before left [] (root_node d hyper) (map Some row)
  root-opened =
      opened f (root_node d hyper) file.lawful (last_place f) (option_map (inside []) before) (map Some row) left file.root solution.form
      (subst (λ (b : Option Instance). holding_at (holdings_of f.nodes) (last_place f) b (map Some row) left) (was-itself before)
      solution.holds)

  pub root-named : node_named f root_name ≡ placed f (root_node d hyper)
  root-named = ap (node_at f.nodes) file.root.place ∙ file.root.node

  pub top-called : IsCalled f before left (path None) (system_name None)
      (map (value_in f before left [] (root_node d hyper)) (output_names d))
      (map (outcome_in f before left [] (root_node d hyper)) (top_arguments d))
  top-called =
      let p = node_place f (system_name None) in
      let k = call_place (placed f (root_node d hyper)) p in
      called-at f before left [] k (root_node d hyper) (output_names d) (system_name None) (top_arguments d) (path None)
      (path-to-top d.rows f ∙ ap (λ (n : NodeTree). call_place n p ∷ []) root-named)
      (one-call f (root_node d hyper) (option_map (inside []) before) (map Some row) left root-opened 1 0 (output_names d)
      (system_name None) (top_arguments d) refl (let once = times-same p [] in omega arith))

  -- ---- Systems

  pub system-opened : (s : Option ℕ) → IsSystem d.rows s → (given arguments : List (Option ℤ)) →
      IsCalled f before left (path s) (system_name s) given arguments → IsOpenedAt f before left (path s) (system_node d s) arguments
  system-opened s is given arguments called =
      opened f (system_node d s) file.lawful (node_place f (system_name s)) (option_map (inside (path s)) before) arguments
      (inside (path s) left) (file.systems s is) called.form called.holds

  pub child-path : (s : Option ℕ) (e : ℕ) → IsSystem d.rows s → IsRowOf d.rows s e →
      path (Some e) ≡ path s ++ call_place (placed f (system_node d s)) (node_place f (system_name (Some e))) ∷ []
  child-path s e is own =
      let p = node_place f (system_name (Some e)) in
      path-to-child d.rows nested f e own.in_table
      ∙ ap (λ (o : Option ℕ). path o ++ call_place (node_named f (system_name o)) p ∷ []) own.own
      ∙ ap (λ (n : NodeTree). path s ++ call_place n p ∷ []) (file.systems s is).node

  pub child-once : (s : Option ℕ) (e : ℕ) → is_subsystem (row_at d.rows e).kind ≡ true →
      times (node_place f (system_name (Some e))) (callees (placed f (system_node d s))) ≤ 1
  child-once s e subsystem =
      let there = (file.systems (Some e) subsystem).below in
      let count = length-map f.nodes (λ (n : NodeTree). n.text) in
      called-once (place f (system_node d s)) (node_texts f.nodes) (node_place f (system_name (Some e))) d s e refl (omega arith)
      nested.at_most (system-below d.rows e subsystem)

  -- a call for a child is of the instance at its path
  pub child-called : (s : Option ℕ) (inputs : List (Option ℤ)) (e : ℕ) → IsSystem d.rows s →
      IsOpenedAt f before left (path s) (system_node d s) inputs → IsRowOf d.rows s e → is_subsystem (row_at d.rows e).kind ≡ true →
      (m line : ℕ) (texts : List (List ℕ)) (arguments : List NamedExpr) →
      slice_get (system_equations d s) m ≡ Some (call line texts (system_name (Some e)) arguments) →
      IsCalled f before left (path (Some e)) (system_name (Some e)) (map (value s) texts) (map (outcome s) arguments)
  child-called s inputs e is o own subsystem m line texts arguments there =
      let p = node_place f (system_name (Some e)) in
      called-at f before left (path s) (call_place (placed f (system_node d s)) p) (system_node d s) texts (system_name (Some e))
      arguments (path (Some e)) (child-path s e is own)
      (one-call f (system_node d s) (option_map (inside (path s)) before) inputs (inside (path s) left) o m line texts
      (system_name (Some e)) arguments there (child-once s e subsystem))

  -- ---- Each system has an instance

  abbrev pub HasInstance : Option ℕ → Type 0
  HasInstance s = (inputs : List (Option ℤ)) × IsOpenedAt f before left (path s) (system_node d s) inputs

  top-instance : HasInstance None
  top-instance =
      let n = root_node d hyper in (
        map (outcome_in f before left [] n) (top_arguments d),
        system-opened None tt (map (value_in f before left [] n) (output_names d)) (map (outcome_in f before left [] n) (top_arguments d))
            top-called,
      )

  child-instance : (s : Option ℕ) (e : ℕ) → IsSystem d.rows s → IsRowOf d.rows s e → is_subsystem (row_at d.rows e).kind ≡ true →
      HasInstance s → HasInstance (Some e)
  child-instance s e is own subsystem (inputs, o) =
      let there = child-there d s e own subsystem in
      let texts = map value_name (outports_of d.rows (Some e)) in
      let arguments = child_arguments d s e in (
        map (outcome s) arguments,
        system-opened (Some e) subsystem (map (value s) texts) (map (outcome s) arguments)
            (child-called s inputs e is o own subsystem there.0 0 texts arguments there.1),
      )

  instance-within : (bound e : ℕ) → e < bound → is_subsystem (row_at d.rows e).kind ≡ true → HasInstance (Some e)
  instance-within zero e low subsystem = absurd (omega arith)
  instance-within (suc bound) e low subsystem =
      by (row_at d.rows e).owner refl (nested.owned e (system-below d.rows e subsystem))
      (λ p earlier is. instance-within bound p (omega arith) is)
    where
      by : (o : Option ℕ) → (row_at d.rows e).owner ≡ o → IsOwner d.rows e o →
          ((p : ℕ) → p < e → is_subsystem (row_at d.rows p).kind ≡ true → HasInstance (Some p)) → HasInstance (Some e)
      by None is owned outer =
          child-instance None e tt (record { in_table = system-below d.rows e subsystem; own = is }) subsystem top-instance
      by (Some p) is owned outer =
          child-instance (Some p) e owned.1 (record { in_table = system-below d.rows e subsystem; own = is }) subsystem
          (outer p owned.0 owned.1)

  pub has-instance : (s : Option ℕ) → IsSystem d.rows s → HasInstance s
  has-instance None is = top-instance
  has-instance (Some e) is = instance-within (suc e) e (omega arith) is

  -- the outputs of a system's instance are the values of its Outports
  pub system-outputs : (s : Option ℕ) (inputs : List (Option ℤ)) → IsSystem d.rows s →
      IsOpenedAt f before left (path s) (system_node d s) inputs →
      outputs_of (node_at f.nodes (node_place f (system_name s))) (inside (path s) left)
      ≡ map (λ o. value s (value_name o)) (outports_of d.rows s)
  system-outputs s inputs is o =
      let i = inside (path s) left in
      ap (λ (n : NodeTree). outputs_of n i) (file.systems s is).node
      ∙ sym (outputs-named (system_node d s) (values_in i) o.apart o.names)
      ∙ ap (map (value s)) (texts-of_outports (outports_of d.rows s))
      ∙ map-twice value_name (value s) (outports_of d.rows s)
