use Rattle.std.proofs.Common.{sym, ◌∙◌, ap, bytes_eq, List, ℕ, Bool}
use Rattle.std.specs.List.{position_from}
use Rattle.c_rules.proofs.lemmas.NamedPlaces.{map-map}
use Rattle.lustre_syntax.specs.Tree.{Declared}
use Rattle.lustre_resolver.proofs.known.Names.position.Goals as goal

pub returns : goal.returns
returns c =
    let s = c.args.self.now in
    c.position.ensures
    ∙ ap (position_from (bytes_eq c.args.name.now) 0)
    (s.named
    ∙ sym (map-map (λ (x : Declared). x.text) (λ (x : List ℕ × Bool). record { text = x.0; type = x.1 }) s.declared.items))
