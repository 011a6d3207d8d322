-- The nodes of the file of a diagram: their names, the node of each system, and the last one.
use Rattle.std.proofs.Common.{◌≡◌, refl, sym, ap, subst, ◌∙◌, ℕ, ◌-◌, true, ◌&&◌, List, [], ◌∷◌, ◌++◌, length, map, reverse, Option, None, Some, arith, inl, inr, length-append, append_assoc}
use Rattle.std.specs.Prelude.{Contains}
use Rattle.std.specs.List.{range_with_len}
use Rattle.std.proofs.lemmas.Bool.{and_parts}
use Rattle.std.proofs.lemmas.List.{map-append, length-map}
use Rattle.std.proofs.lemmas.List.Elements.{Contains-append_left, Contains-append_right}
use Rattle.std.proofs.lemmas.List.FromFn.{length-range_with_len}
use Rattle.base_core.specs.declared.Port.TheVariants.{Number}
use Rattle.diagram_blocks.specs.Kinds.{is_subsystem}
use Rattle.diagram_meaning.specs.declared.Row.{Row}
use Rattle.diagram_meaning.specs.Rows.{row_at, row_numbers, is_inside, inports_of, outports_of, system_control}
use Rattle.diagram_meaning.specs.Inputs.{input_ports}
use Rattle.diagram_meaning.specs.Diagram.{Diagram}
use Rattle.diagram_typed_runs.specs.TypedRuns.{IsSystem}
use Rattle.modules_profile.specs.Systems.{systems, systems_inside, system_name}
use Rattle.modules_profile.proofs.lemmas.Members.{in-map, of-map, of-filter, in-cases}
use Rattle.c_syntax.specs.Outputs.{output_name}
use Rattle.emit_prelude.specs.Rules.{names}
use Rattle.emit_shape.specs.Names.{root_name, port_name}
use Rattle.lustre_syntax.specs.Tree.{NodeTree, node_at, FileTree, node_texts}
use Rattle.lustre_syntax.specs.Named.{NamedNode, placed_node}
use Rattle.lustre_syntax.specs.Lawful.{IsLawful}
use Rattle.lustre_flows.specs.Ticks.{last_node}
use Rattle.lustre_system.specs.Functions.{int_name, function_nodes}
use Rattle.lustre_system.specs.Names.{port_names}
use Rattle.lustre_system.specs.SystemNodes.{system_node}
use Rattle.lustre_system.specs.File.{output_names, root_node, named_file, lustre_file}
use Rattle.lustre_rows.proofs.lemmas.Lists.{in-reverse}
use Rattle.lustre_right.specs.Paths.{node_named}
use Rattle.lustre_right.specs.Right.{HasPorts}
use Rattle.lustre_lives.proofs.Places.{node-found, last-is}

-- a system of a table
pub is-system : (rows : List Row) (s : Option ℕ) → Contains (systems rows) s → IsSystem rows s
is-system rows None h = tt
is-system rows (Some e) h = elim (in-cases None (Some e) (map Some (systems_inside rows None)) h) [
  | inl wrong ↦ absurd (cc)
  | inr more ↦
      let (c, there, same) = of-map Some (systems_inside rows None) (Some e) more in
      let passes = (of-filter (λ b. is_subsystem (row_at rows b).kind && is_inside rows None b) (row_numbers rows) c there).1 in
      let one : c ≡ e = cc same in
      subst (λ b. is_subsystem (row_at rows b).kind ≡ true) one
      (and_parts (is_subsystem (row_at rows c).kind) (is_inside rows None c) passes).0
]

-- ---- Names

pub texts-placed : (texts : List (List ℕ)) (ns : List NamedNode) → node_texts (map (placed_node texts) ns) ≡ map (λ n. n.text) ns
texts-placed texts [] = refl
texts-placed texts (n ∷ ns) = ap (λ rest. n.text ∷ rest) (texts-placed texts ns)

module _ (d : Diagram) (hyper : ℕ) where
  abbrev file : FileTree
  file = lustre_file d hyper

  -- the names of its nodes
  abbrev pub texts : List (List ℕ)
  texts = map (λ n. n.text) (named_file d hyper)

  abbrev system_nodes : List NamedNode
  system_nodes = map (system_node d) (reverse (systems d.rows))

  -- those behind the functions
  abbrev pub later_nodes : List NamedNode
  later_nodes = system_nodes ++ root_node d hyper ∷ []

  abbrev pub later_texts : List (List ℕ)
  later_texts = map system_name (reverse (systems d.rows)) ++ root_name ∷ []

  pub nodes-are : named_file d hyper ≡ function_nodes ++ later_nodes
  nodes-are = append_assoc function_nodes system_nodes (root_node d hyper ∷ [])

  system-texts : (ss : List (Option ℕ)) → map (λ (n : NamedNode). n.text) (map (system_node d) ss) ≡ map system_name ss
  system-texts [] = refl
  system-texts (s ∷ ss) = ap (λ rest. system_name s ∷ rest) (system-texts ss)

  function-texts : map (λ (n : NamedNode). n.text) function_nodes ≡ names
  function-texts = refl

  pub texts-are : texts ≡ names ++ later_texts
  texts-are =
      ap (map (λ (n : NamedNode). n.text)) nodes-are ∙ map-append (λ (n : NamedNode). n.text) function_nodes later_nodes
      ∙ ap (λ front. front ++ map (λ (n : NamedNode). n.text) later_nodes) function-texts
      ∙ ap (λ rest. names ++ rest)
      (map-append (λ (n : NamedNode). n.text) system_nodes (root_node d hyper ∷ [])
      ∙ ap (λ rest. rest ++ root_name ∷ []) (system-texts (reverse (systems d.rows))))

  pub file-texts : node_texts file.nodes ≡ names ++ map system_name (reverse (systems d.rows)) ++ root_name ∷ []
  file-texts =
      texts-placed texts (named_file d hyper) ∙ texts-are
      ∙ sym (append_assoc names (map system_name (reverse (systems d.rows))) (root_name ∷ []))

  pub node-count : length file.nodes ≡ length texts
  node-count = length-map (named_file d hyper) (placed_node texts) ∙ sym (length-map (named_file d hyper) (λ n. n.text))

  -- ---- Systems

  abbrev pub system_placed : Option ℕ → NodeTree
  system_placed s = placed_node texts (system_node d s)

  pub in-file : (s : Option ℕ) → Contains (systems d.rows) s → Contains file.nodes (system_placed s)
  in-file s h =
      let n = system_node d s in
      in-map (placed_node texts) (named_file d hyper) n
      (Contains-append_left (function_nodes ++ system_nodes) (root_node d hyper ∷ []) n
      (Contains-append_right function_nodes system_nodes n (in-map (system_node d) (reverse (systems d.rows)) s
      (in-reverse (systems d.rows) s h))))

  pub system-there : IsLawful file → (s : Option ℕ) → Contains (systems d.rows) s → node_named file (system_name s) ≡ system_placed s
  system-there lawful s h = node-found file.nodes lawful.nodes (system_placed s) (in-file s h)

  -- ---- The root

  root-there : last_node file ≡ placed_node texts (root_node d hyper)
  root-there =
      ap (λ ns. node_at ns (length ns - 1)) (map-append (placed_node texts) (function_nodes ++ system_nodes) (root_node d hyper ∷ []))
      ∙ last-is (map (placed_node texts) (function_nodes ++ system_nodes)) (placed_node texts (root_node d hyper))

  pub port-count : length (input_ports d.rows None) ≡ length (inports_of d.rows None)
  port-count =
      let count = length (inports_of d.rows None) in
      let all = length-append (map Number (range_with_len 1 count)) [] in
      let some = length-map (range_with_len 1 count) Number in
      let range = length-range_with_len 1 count in
      omega arith

  pub ports-are : HasPorts file d
  ports-are = record {
    inputs = ap (λ (n : NodeTree). n.inputs) root-there ∙ length-map (port_names d.rows None) int_name
        ∙ length-map (input_ports d.rows None) (port_name (system_control d.rows None)) ∙ port-count;
    outputs = ap (λ (n : NodeTree). n.outputs) root-there ∙ length-map (output_names d) int_name
        ∙ length-map (range_with_len 1 (length (outports_of d.rows None))) output_name
        ∙ length-range_with_len 1 (length (outports_of d.rows None));
  }
