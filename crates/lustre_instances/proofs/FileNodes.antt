-- The nodes of a model's file by their names.
use Rattle.std.specs.Prelude.{◌≡◌, ℕ, ◌+◌, ◌-◌, ◌<◌, List, [], ◌∷◌, ◌++◌, map, reverse, length, slice_get, Option, Some, refl}
use Rattle.std.proofs.Common.{sym, ap, subst, ◌∙◌, arith, length-append}
use Rattle.std.proofs.lemmas.List.{reverse-append, length-map}
use Rattle.std.proofs.lemmas.List.Elements.{Contains-append_left, Contains-append_right}
use Rattle.std.proofs.lemmas.Option.{get_or_from_slice_get, slice_get-get_or}
use Rattle.diagram_meaning.specs.Diagram.{Diagram}
use Rattle.diagram_typed_runs.specs.TypedRuns.{IsSystem}
use Rattle.modules_profile.specs.Systems.{systems, system_name}
use Rattle.modules_profile.proofs.lemmas.Members.{in-map, at-in, at-below, at-map, at-left, at-right}
use Rattle.emit_prelude.specs.Bodies.{function_trees}
use Rattle.lustre_syntax.specs.Tree.{NodeTree, FileTree, no_node, node_at, node_texts}
use Rattle.lustre_syntax.specs.Named.{NamedNode, placed_node, placed_file}
use Rattle.lustre_syntax.specs.Lawful.{AreNodes, IsLawful}
use Rattle.lustre_flows.specs.Ticks.{last_place}
use Rattle.lustre_system.specs.Functions.{function_node, function_nodes}
use Rattle.lustre_system.specs.SystemNodes.{system_node}
use Rattle.lustre_system.specs.File.{root_node, named_file, lustre_file}
use Rattle.lustre_rows.proofs.lemmas.Lists.{in-reverse}
use Rattle.lustre_rows.proofs.lemmas.Systems.{in-systems}
use Rattle.lustre_right.specs.Paths.{node_place}
use Rattle.lustre_rows.proofs.lemmas.NamePlaces.{place-at}
use Rattle.lustre_instances.proofs.Texts.{nodes-apart}
use Rattle.lustre_instances.proofs.NamedValues.{map-twice}
use Rattle.lustre_instances.proofs.FunctionNodes.{tree_at}

-- the node that one by names stands for is at this place, which its name has
pub record IsNodeAt (f : FileTree) (k : ℕ) (n : NamedNode) : Type 0 where
  pub below : k < length f.nodes
  pub place : node_place f n.text ≡ k
  pub node : node_at f.nodes k ≡ placed_node (node_texts f.nodes) n

-- a lawful file with the functions, a node for each system and the root
pub record IsFileOf (d : Diagram) (hyper : ℕ) (f : FileTree) : Type 0 where
  pub lawful : AreNodes [] f.nodes
  pub functions : (k : ℕ) → k < 8 → IsNodeAt f k (function_node (tree_at k))
  pub systems : (s : Option ℕ) → IsSystem d.rows s → IsNodeAt f (node_place f (system_name s)) (system_node d s)
  pub root : IsNodeAt f (last_place f) (root_node d hyper)

placed-at : (named : List NamedNode) → AreNodes [] (placed_file named).nodes → (k : ℕ) (n : NamedNode) → slice_get named k ≡ Some n →
    IsNodeAt (placed_file named) k n
placed-at named lawful k n there =
    let text_of : NamedNode → List ℕ = λ (m : NamedNode). m.text in
    let tree_text : NodeTree → List ℕ = λ (m : NodeTree). m.text in
    let texts = map text_of named in
    let nodes = (placed_file named).nodes in
    let same : node_texts nodes ≡ texts = map-twice (placed_node texts) tree_text named in
    let at : slice_get nodes k ≡ Some (placed_node texts n) = at-map (placed_node texts) named k n there in
    record {
      below = at-below nodes k (placed_node texts n) at;
      place = place-at (node_texts nodes) k n.text (nodes-apart nodes lawful) (at-map tree_text nodes k (placed_node texts n) at);
      node = get_or_from_slice_get nodes k (placed_node texts n) no_node at ∙ ap (λ ts. placed_node ts n) (sym same);
    }

-- ---- What is in the list of nodes

pub reverse-first : {A : Type 0} (x : A) (xs : List A) → reverse (x ∷ xs) ≡ reverse xs ++ x ∷ []
reverse-first x xs = reverse-append (x ∷ []) xs

last-there : {A : Type 0} (xs : List A) (z : A) → slice_get (xs ++ z ∷ []) (length (xs ++ z ∷ []) - 1) ≡ Some z
last-there xs z =
    let all = length-append xs (z ∷ []) in
    let last : length xs + 0 ≡ length (xs ++ z ∷ []) - 1 = omega arith in
    subst (λ k. slice_get (xs ++ z ∷ []) k ≡ Some z) last (at-right xs (z ∷ []) 0 z refl)

module _ (d : Diagram) (hyper : ℕ) where
  abbrev of_systems : List NamedNode
  of_systems = map (system_node d) (reverse (systems d.rows))

  function-there : (k : ℕ) → k < 8 → slice_get (named_file d hyper) k ≡ Some (function_node (tree_at k))
  function-there k few =
      at-left (function_nodes ++ of_systems) (root_node d hyper ∷ []) k (function_node (tree_at k))
      (at-left function_nodes of_systems k (function_node (tree_at k))
      (at-map function_node function_trees k (tree_at k) (slice_get-get_or function_trees k _ few)))

  system-there : (s : Option ℕ) → IsSystem d.rows s → (k : ℕ) × (slice_get (named_file d hyper) k ≡ Some (system_node d s))
  system-there s is =
      at-in (named_file d hyper) (system_node d s)
      (Contains-append_left (function_nodes ++ of_systems) (root_node d hyper ∷ []) (system_node d s)
      (Contains-append_right function_nodes of_systems (system_node d s)
      (in-map (system_node d) (reverse (systems d.rows)) s (in-reverse (systems d.rows) s (in-systems d.rows s is)))))

  root-there : slice_get (named_file d hyper) (last_place (lustre_file d hyper)) ≡ Some (root_node d hyper)
  root-there =
      let names : List (List ℕ) = map (λ (m : NamedNode). m.text) (named_file d hyper) in
      subst (λ m. slice_get (named_file d hyper) (m - 1) ≡ Some (root_node d hyper))
      (sym (length-map (named_file d hyper) (placed_node names)))
      (last-there (function_nodes ++ of_systems) (root_node d hyper))

  pub file-of : IsLawful (lustre_file d hyper) → IsFileOf d hyper (lustre_file d hyper)
  file-of lawful =
      let f = lustre_file d hyper in
      record {
        lawful = lawful.nodes;
        functions = λ k few. placed-at (named_file d hyper) lawful.nodes k (function_node (tree_at k)) (function-there k few);
        systems = λ s is.
            let there = system-there s is in
            let placed = placed-at (named_file d hyper) lawful.nodes there.0 (system_node d s) there.1 in
            subst (λ k. IsNodeAt f k (system_node d s)) (sym placed.place) placed;
        root = placed-at (named_file d hyper) lawful.nodes (last_place f) (root_node d hyper) root-there;
      }
