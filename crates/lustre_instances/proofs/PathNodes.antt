-- A path of calls to a system ends at the node of the system.
use Rattle.std.specs.Prelude.{◌≡◌, ℕ, zero, suc, ◌+◌, ◌<◌, ◌==◌, true, List, [], ◌∷◌, ◌++◌, flat_map, map, length, slice_get, slice_index_or, Contains, Option, Some, None, unwrap_or, refl}
use Rattle.std.proofs.Common.{sym, ap, subst, ◌∙◌, arith}
use Rattle.std.proofs.lemmas.Bool.{eq-eqb, eqb-true}
use Rattle.std.proofs.lemmas.List.Elements.{Contains-append_left, Contains-append_right}
use Rattle.std.proofs.lemmas.Option.{get_or_from_slice_get}
use Rattle.diagram_blocks.specs.Kinds.{is_subsystem}
use Rattle.diagram_meaning.specs.Rows.{row_at, outports_of}
use Rattle.diagram_meaning.specs.WellFormed.{IsNested, IsOwner}
use Rattle.diagram_meaning.specs.Diagram.{Diagram}
use Rattle.diagram_meaning.specs.SystemRuns.{IsRowOf}
use Rattle.diagram_typed_runs.specs.TypedRuns.{IsSystem}
use Rattle.modules_profile.specs.Systems.{system_name}
use Rattle.modules_profile.proofs.lemmas.Members.{in-first, at-in, at-map}
use Rattle.emit_shape.specs.Names.{root_name, value_name}
use Rattle.lustre_syntax.specs.Tree.{ExprTree, EquationTree, call, NodeTree, node_at, FileTree, node_texts}
use Rattle.lustre_syntax.specs.Named.{renamed, renamed_equation, place_of}
use Rattle.lustre_flows.specs.Ticks.{last_place}
use Rattle.lustre_system.specs.SystemNodes.{system_node}
use Rattle.lustre_system.specs.File.{root_node}
use Rattle.lustre_rows.proofs.lemmas.Systems.{system-below}
use Rattle.lustre_right.specs.Paths.{callee_of, callees, call_place, node_place, node_named, path_to}
use Rattle.lustre_rows.proofs.lemmas.NamePlaces.{found}
use Rattle.lustre_instances.proofs.FileNodes.{IsFileOf}
use Rattle.lustre_instances.proofs.ChildCalls.{child_arguments, child_call, child-there}
use Rattle.lustre_instances.proofs.SystemPaths.{path-to-top, path-to-child}
use Rattle.lustre_instances.proofs.Opened.{placed, place}

-- the place of the node at the end of a path of calls from the node at place k
abbrev pub node_along : FileTree → ℕ → List ℕ → ℕ
node_along f k [] = k
node_along f k (j ∷ path) = node_along f (slice_index_or (callees (node_at f.nodes k)) j 0) path

along-longer : (f : FileTree) (k : ℕ) (path : List ℕ) (j : ℕ) →
    node_along f k (path ++ j ∷ []) ≡ slice_index_or (callees (node_at f.nodes (node_along f k path))) j 0
along-longer f k [] j = refl
along-longer f k (i ∷ path) j = along-longer f (slice_index_or (callees (node_at f.nodes k)) i 0) path j

-- the first call of a node that is called is one of it
there-called : (n : NodeTree) (p : ℕ) (j : ℕ) → slice_get (callees n) j ≡ Some p → slice_index_or (callees n) (call_place n p) 0 ≡ p
there-called n p j at =
    let (i, y, is, there, holds) = found (λ k. k == p) 0 (callees n) j p at (eq-eqb p p refl) in
    let same : y ≡ p = eqb-true y p holds in
    ap (λ k. slice_index_or (callees n) k 0)
    (ap (λ (o : Option ℕ). unwrap_or o (length (callees n))) is ∙ (let none_before : 0 + i ≡ i = omega arith in none_before))
    ∙ get_or_from_slice_get (callees n) i y 0 there ∙ same

call-among : (es : List EquationTree) (m line : ℕ) (given : List ℕ) (callee : ℕ) (values : List ExprTree) →
    slice_get es m ≡ Some (call line given callee values) → Contains (flat_map callee_of es) callee
call-among [] m line given callee values at = absurd (let wrong : ⊥ = cc at in wrong)
call-among (e ∷ es) zero line given callee values at =
    let same : e ≡ call line given callee values = cc at in
    Contains-append_left (callee_of e) (flat_map callee_of es) callee
    (subst (λ x. Contains (callee_of x) callee) (sym same) (in-first callee []))
call-among (e ∷ es) (suc m) line given callee values at =
    Contains-append_right (callee_of e) (flat_map callee_of es) callee (call-among es m line given callee values at)

module _ (d : Diagram) (hyper : ℕ) (f : FileTree) (file : IsFileOf d hyper f) (nested : IsNested d.rows) where
  abbrev along : Option ℕ → ℕ
  along s = node_along f (last_place f) (path_to f d.rows s)

  top-node : along None ≡ node_place f (system_name None)
  top-node =
      let p = node_place f (system_name None) in
      let root = placed f (root_node d hyper) in
      let named : node_named f root_name ≡ root = ap (node_at f.nodes) file.root.place ∙ file.root.node in
      ap (node_along f (last_place f)) (path-to-top d.rows f)
      ∙ ap (λ (n : NodeTree). slice_index_or (callees n) (call_place (node_named f root_name) p) 0) file.root.node
      ∙ ap (λ (n : NodeTree). slice_index_or (callees root) (call_place n p) 0) named
      ∙ there-called root p 0 refl

  child-node : (s : Option ℕ) (e : ℕ) → IsSystem d.rows s → IsRowOf d.rows s e → is_subsystem (row_at d.rows e).kind ≡ true →
      along s ≡ node_place f (system_name s) → along (Some e) ≡ node_place f (system_name (Some e))
  child-node s e is own subsystem before =
      let p = node_place f (system_name (Some e)) in
      let n = placed f (system_node d s) in
      let there = child-there d s e own subsystem in
      let (j, called) = at-in (callees n) p (call-among n.equations there.0 0
      (map (place f (system_node d s)) (map value_name (outports_of d.rows (Some e)))) p
      (map (renamed (place f (system_node d s))) (child_arguments d s e))
      (at-map (renamed_equation (place f (system_node d s)) (place_of (node_texts f.nodes))) (system_node d s).equations there.0
      (child_call d s e) there.1)) in
      ap (node_along f (last_place f))
      (path-to-child d.rows nested f e own.in_table
      ∙ ap (λ (o : Option ℕ). path_to f d.rows o ++ call_place (node_named f (system_name o)) p ∷ []) own.own)
      ∙ along-longer f (last_place f) (path_to f d.rows s) (call_place (node_named f (system_name s)) p)
      ∙ ap (λ k. slice_index_or (callees (node_at f.nodes k)) (call_place (node_named f (system_name s)) p) 0) before
      ∙ ap (λ (m : NodeTree). slice_index_or (callees m) (call_place m p) 0) (file.systems s is).node
      ∙ there-called n p j called

  node-within : (bound e : ℕ) → e < bound → is_subsystem (row_at d.rows e).kind ≡ true →
      along (Some e) ≡ node_place f (system_name (Some e))
  node-within zero e low subsystem = absurd (omega arith)
  node-within (suc bound) e low subsystem =
      by (row_at d.rows e).owner refl (nested.owned e (system-below d.rows e subsystem))
      (λ p earlier is. node-within bound p (omega arith) is)
    where
      by : (o : Option ℕ) → (row_at d.rows e).owner ≡ o → IsOwner d.rows e o →
          ((p : ℕ) → p < e → is_subsystem (row_at d.rows p).kind ≡ true → along (Some p) ≡ node_place f (system_name (Some p))) →
          along (Some e) ≡ node_place f (system_name (Some e))
      by None is owned outer =
          child-node None e tt (record { in_table = system-below d.rows e subsystem; own = is }) subsystem top-node
      by (Some p) is owned outer =
          child-node (Some p) e owned.1 (record { in_table = system-below d.rows e subsystem; own = is }) subsystem
          (outer p owned.0 owned.1)

  pub node-at-path : (s : Option ℕ) → IsSystem d.rows s → along s ≡ node_place f (system_name s)
  node-at-path None is = top-node
  node-at-path (Some e) is = node-within (suc e) e (omega arith) is
