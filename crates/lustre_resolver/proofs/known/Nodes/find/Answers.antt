use Rattle.std.proofs.Common.{◌≡◌, refl, sym, ◌∙◌, ap, map, length, bytes_eq, List, arith}
use Rattle.std.specs.List.{position_from}
use Rattle.std.specs.Option.{option_map}
use Rattle.std.proofs.lemmas.Option.{slice_get-map, slice_get_read}
use Rattle.c_rules.proofs.lemmas.NamedPlaces.{map-map, within_names}
use Rattle.lustre_syntax.specs.declared.file.LusNode.{LusNode}
use Rattle.lustre_syntax.specs.Plain.{node_tree}
use Rattle.lustre_syntax.specs.Tree.{NodeTree, node_texts}
use Rattle.lustre_resolver.proofs.known.Nodes.find.Goals as goal

-- the names of nodes are those of their trees
node-names : (nodes : List LusNode) → map (λ n. n.name) nodes ≡ node_texts (map node_tree nodes)
node-names nodes = sym (map-map (λ (n : NodeTree). n.text) node_tree nodes)

pub index-requires : goal.index-requires
index-requires c =
    let s = c.args.self.now in
    omega (
      arith,
      within_names (λ (n : LusNode). n.name) s.items.items s.names c.args.name.now c.in-Some.k s.named
          (sym c.position.ensures ∙ c.in-Some.is),
      s.items.ok.0,
    )

pub returns-in-Some : goal.returns-in-Some
returns-in-Some c =
    let s = c.args.self.now in
    let nodes = s.items.items in
    let there = sym c.position.ensures ∙ c.in-Some.is in
    let within = within_names (λ (n : LusNode). n.name) nodes s.names c.args.name.now c.in-Some.k s.named there in (
      ap (position_from (bytes_eq c.args.name.now) 0) (sym (s.named ∙ node-names nodes)) ∙ there,
      slice_get-map node_tree nodes c.in-Some.k
          ∙ ap (option_map node_tree) (slice_get_read nodes (length nodes) c.in-Some.k c.index.result.now refl within c.index.ensures),
    )

pub returns-in-None : goal.returns-in-None
returns-in-None c =
    let s = c.args.self.now in
    ap (position_from (bytes_eq c.args.name.now) 0) (sym (s.named ∙ node-names s.items.items))
    ∙ sym c.position.ensures ∙ c.in-None.is
