use Rattle.std.proofs.Common.{sym, ◌∙◌, ap, map, List, ℕ, Bool}
use Rattle.c_rules.proofs.lemmas.NamedPlaces.{map-map}
use Rattle.lustre_grammar.specs.declared.written.LusWrittenDecl.{LusWrittenDecl}
use Rattle.lustre_resolver.proofs.known.Names.declared_as.Goals as goal

pub invariant_of-result : goal.invariant_of-result
invariant_of-result c = record {
  named = c.in_ok-places.ensures.names
      ∙ sym (map-map (λ (x : List ℕ × Bool). x.0) (λ (d : LusWrittenDecl). (d.name.now, d.is_bool)) c.args.declared.now)
      ∙ ap (map (λ (x : List ℕ × Bool). x.0)) (sym c.in_ok-declared.ensures);
}
