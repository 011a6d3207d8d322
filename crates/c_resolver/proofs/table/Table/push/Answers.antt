use Rattle.std.proofs.Common.{sym, ◌∙◌, ap, map, ◌++◌, ◌∷◌, []}
use Rattle.c_syntax.specs.Outputs.{has_name}
use Rattle.c_rules.proofs.lemmas.Each.{map_push}
use Rattle.c_resolver.proofs.table.Table.push.Goals as goal

pub invariant_of-self-in-Ok : goal.invariant_of-self-in-Ok
invariant_of-self-in-Ok g c =
    let s = c.args.self.now in
    let free = ap (λ ns. has_name ns c.args.name.now) s.named ∙ c.requires.new in
    record {
      named = c.in-Ok.ensures.new free ∙ (λ j. s.named j ++ sym c.requires.named j ∷ [])
          ∙ map_push g.T.Named.name s.items.items c.args.item ∙ ap (map g.T.Named.name) (sym c.in_ok-push.ensures.items);
    }
