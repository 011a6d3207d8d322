use Rattle.std.proofs.Common.{sym, ◌∙◌, ap}
use Rattle.c_syntax.specs.Outputs.{has_name}
use Rattle.c_rules.proofs.lemmas.NamedPlaces.{map-map}
use Rattle.lustre_syntax.specs.Plain.{node_tree}
use Rattle.lustre_syntax.specs.Tree.{NodeTree}
use Rattle.lustre_resolver.proofs.known.Nodes.contains.Goals as goal

pub returns : goal.returns
returns c =
    let s = c.args.self.now in
    c.contains.ensures
    ∙ ap (λ names. has_name names c.args.name.now) (s.named ∙ sym (map-map (λ (n : NodeTree). n.text) node_tree s.items.items))
