-- The nodes of a lawful file stand where their names say.
use Rattle.std.proofs.Common.{◌≡◌, ap, ◌∙◌, ◌-◌, List, [], ◌∷◌, ◌++◌, length, arith, length-append}
use Rattle.std.specs.Prelude.{Contains}
use Rattle.std.proofs.lemmas.List.{get_or_at}
use Rattle.std.proofs.lemmas.Option.{get_or_from_slice_get}
use Rattle.modules_profile.proofs.lemmas.Members.{at-map, at-in}
use Rattle.lustre_syntax.specs.Tree.{NodeTree, no_node, node_at, node_texts}
use Rattle.lustre_syntax.specs.Named.{place_of}
use Rattle.lustre_syntax.specs.Lawful.{AreNodes}
use Rattle.lustre_rows.proofs.lemmas.NamePlaces.{place-at}
use Rattle.lustre_instances.proofs.lemmas.Paths.{nodes-apart}

-- the node of the name of a node is that node
pub node-found : (nodes : List NodeTree) → AreNodes [] nodes → (n : NodeTree) → Contains nodes n →
    node_at nodes (place_of (node_texts nodes) n.text) ≡ n
node-found nodes lawful n here =
    let (k, at) = at-in nodes n here in
    let named = at-map (λ (m : NodeTree). m.text) nodes k n at in
    ap (node_at nodes) (place-at (node_texts nodes) k n.text (nodes-apart nodes lawful) named) ∙ get_or_from_slice_get nodes k n no_node at

pub last-is : (ns : List NodeTree) (n : NodeTree) → node_at (ns ++ n ∷ []) (length (ns ++ n ∷ []) - 1) ≡ n
last-is ns n =
    let many = length-append ns (n ∷ []) in
    get_or_at ns n [] no_node (length (ns ++ n ∷ []) - 1) (omega arith)
