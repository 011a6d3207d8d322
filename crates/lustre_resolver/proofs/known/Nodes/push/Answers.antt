use Rattle.std.proofs.Common.{sym, ◌∙◌, ap, map, ◌++◌, ◌∷◌, []}
use Rattle.c_syntax.specs.Outputs.{has_name}
use Rattle.c_rules.proofs.lemmas.Each.{map_push}
use Rattle.c_rules.proofs.lemmas.NamedPlaces.{map-map}
use Rattle.lustre_syntax.specs.declared.file.LusNode.{LusNode}
use Rattle.lustre_syntax.specs.Plain.{node_tree}
use Rattle.lustre_syntax.specs.Tree.{NodeTree}
use Rattle.lustre_resolver.proofs.known.Nodes.push.Goals as goal

pub invariant_of-self-in-Ok : goal.invariant_of-self-in-Ok
invariant_of-self-in-Ok c =
    let s = c.args.self.now in
    let texts = s.named ∙ sym (map-map (λ (n : NodeTree). n.text) node_tree s.items.items) in
    let free = ap (λ ns. has_name ns c.args.name.now) texts ∙ c.requires.new in
    record {
      named = c.in-Ok.ensures.new free ∙ (λ j. s.named j ++ sym c.requires.named j ∷ [])
          ∙ map_push (λ (n : LusNode). n.name) s.items.items c.args.node
          ∙ ap (map (λ (n : LusNode). n.name)) (sym c.in_ok-push.ensures.items);
    }
