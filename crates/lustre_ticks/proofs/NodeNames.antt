-- The node of each system is in the file, so its names are different, and each has its place.
use Rattle.std.proofs.Common.{◌≡◌, subst, ℕ, ◌<◌, List, [], ◌∷◌, ◌++◌, map, reverse, length, Contains, slice_index_or, Option, inl, inr}
use Rattle.std.proofs.lemmas.Option.{slice_get-get_or}
use Rattle.std.proofs.lemmas.List.Elements.{Contains-append_left, Contains-append_right}
use Rattle.diagram_typed_runs.specs.TypedRuns.{IsSystem}
use Rattle.modules_profile.specs.Systems.{systems}
use Rattle.lustre_syntax.specs.Tree.{NodeTree}
use Rattle.lustre_syntax.specs.Named.{placed_node}
use Rattle.lustre_syntax.specs.Lawful.{IsLawfulNode, AreNodes}
use Rattle.lustre_system.specs.File.{named_file, root_node}
use Rattle.lustre_system.specs.Functions.{function_nodes}
use Rattle.lustre_system.specs.SystemNodes.{system_node}
use Rattle.lustre_right.specs.Systems.{system_texts}
use Rattle.modules_profile.proofs.lemmas.Members.{in-cases, in-none, in-map}
use Rattle.lustre_rows.proofs.lemmas.Lists.{in-reverse}
use Rattle.lustre_rows.proofs.lemmas.NamePlaces.{place-at, distinct-apart}
use Rattle.lustre_rows.proofs.lemmas.Systems.{in-systems}
use Rattle.lustre_ticks.proofs.Setting.{Setting, d, rows, hyper, place}

-- ---- Systems are in the file

among : (earlier nodes : List NodeTree) → AreNodes earlier nodes → (n : NodeTree) → Contains nodes n →
    (before : List NodeTree) × IsLawfulNode before n
among earlier [] lawful n m = absurd (in-none n m)
among earlier (first ∷ rest) lawful n m = elim (in-cases first n rest m) [
  | inl same ↦ (earlier, subst (IsLawfulNode earlier) same lawful.0)
  | inr more ↦ among (earlier ++ first ∷ []) rest lawful.1 n more
]

-- ---- The node of a system

module _ (g : Setting) (s : Option ℕ) (system : IsSystem (rows g) s) where
  abbrev pub callees : List (List ℕ)
  callees = map (λ n. n.text) (named_file (d g) (hyper g))

  abbrev pub node : NodeTree
  node = placed_node callees (system_node (d g) s)

  in-file : Contains (named_file (d g) (hyper g)) (system_node (d g) s)
  in-file =
      let turned = reverse (systems (rows g)) in
      let nodes = map (system_node (d g)) turned in
      Contains-append_left (function_nodes ++ nodes) (root_node (d g) (hyper g) ∷ []) (system_node (d g) s)
      (Contains-append_right function_nodes nodes (system_node (d g) s)
      (in-map (system_node (d g)) turned s (in-reverse (systems (rows g)) s (in-systems (rows g) s system))))

  pub lawful-node : (earlier : List NodeTree) × IsLawfulNode earlier node
  lawful-node =
      among [] (map (placed_node callees) (named_file (d g) (hyper g))) g.solution.tick.lawful.nodes node
      (in-map (placed_node callees) (named_file (d g) (hyper g)) (system_node (d g) s) in-file)

  pub place-is : (j : ℕ) → j < length (system_texts (d g) s) → place g s (slice_index_or (system_texts (d g) s) j []) ≡ j
  place-is j below =
      let texts = system_texts (d g) s in
      place-at texts j (slice_index_or texts j []) (distinct-apart texts lawful-node.1.names) (slice_get-get_or texts j [] below)
