-- The names of a system's node in a lawful file are different.
use Rattle.std.proofs.Common.{ℕ, List, [], ◌∷◌, ◌++◌, map, Option}
use Rattle.std.specs.Prelude.{reverse, Contains}
use Rattle.std.specs.List.{AllByRecursion}
use Rattle.std.proofs.lemmas.List.Elements.{Contains-append_left, Contains-append_right}
use Rattle.diagram_meaning.specs.Diagram.{Diagram}
use Rattle.diagram_typed_runs.specs.TypedRuns.{IsSystem}
use Rattle.modules_profile.proofs.lemmas.Members.{in-map}
use Rattle.modules_profile.specs.Systems.{systems}
use Rattle.lustre_syntax.specs.Tree.{NodeTree, texts_of}
use Rattle.lustre_syntax.specs.Named.{NamedNode, all_names, placed_node}
use Rattle.lustre_syntax.specs.Lawful.{AreDistinct, AreNodes, IsLawful}
use Rattle.lustre_system.specs.Functions.{function_nodes}
use Rattle.lustre_system.specs.SystemNodes.{system_node}
use Rattle.lustre_system.specs.File.{root_node, named_file, lustre_file}
use Rattle.lustre_rows.proofs.lemmas.Lists.{all-member, in-reverse}
use Rattle.lustre_rows.proofs.lemmas.Systems.{in-systems}
use Rattle.lustre_right.specs.Systems.{system_texts}

abbrev HasDistinct : NodeTree → Type 0
HasDistinct n = AreDistinct (texts_of n.names)

nodes-distinct : (earlier ns : List NodeTree) → AreNodes earlier ns → AllByRecursion HasDistinct ns
nodes-distinct earlier [] are = tt
nodes-distinct earlier (n ∷ ns) are = (are.0.names, nodes-distinct (earlier ++ n ∷ []) ns are.1)

-- a node among others
node-distinct : (first middle last : List NamedNode) (callees : List (List ℕ)) (n : NamedNode) →
    AreNodes [] (map (placed_node callees) (first ++ middle ++ last)) → Contains middle n → AreDistinct (texts_of (all_names n))
node-distinct first middle last callees n are here =
    all-member HasDistinct (map (placed_node callees) (first ++ middle ++ last))
    (nodes-distinct [] (map (placed_node callees) (first ++ middle ++ last)) are) (placed_node callees n)
    (in-map (placed_node callees) (first ++ middle ++ last) n
    (Contains-append_left (first ++ middle) last n (Contains-append_right first middle n here)))

pub names-distinct : (d : Diagram) (hyper : ℕ) (s : Option ℕ) → IsSystem d.rows s → IsLawful (lustre_file d hyper) →
    AreDistinct (system_texts d s)
names-distinct d hyper s system lawful =
    node-distinct function_nodes (map (system_node d) (reverse (systems d.rows))) (root_node d hyper ∷ [])
    (map (λ (n : NamedNode). n.text) (named_file d hyper)) (system_node d s) lawful.nodes
    (in-map (system_node d) (reverse (systems d.rows)) s (in-reverse (systems d.rows) s (in-systems d.rows s system)))
