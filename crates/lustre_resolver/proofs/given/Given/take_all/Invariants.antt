use Rattle.std.proofs.Common.{◌≡◌, ◌++◌, map, drop}
use Rattle.c_rules.specs.Resolve.{on_line}
use Rattle.lustre_rules.specs.Resolve.{resolve_all_given}
use Rattle.lustre_resolver.specs.Scopes.{scope_of}
use Rattle.lustre_resolver.proofs.EquationLaws.{given_at, given_next}
use Rattle.lustre_resolver.proofs.Walks.{walk_after}
use Rattle.lustre_resolver.proofs.given.Given.take_all.Given as goal

abbrev pub invariant-loop-name : goal.invariant-loop-name
invariant-loop-name l = record {
  taken : l.self.places.keys ≡ l.fn.self.places.keys ++ l.places.items;
  given : on_line l.line (resolve_all_given (scope_of l.place l.fn.self.places.keys) (map (λ name. name.now) l.names))
      ≡ walk_after (given_at l.line) given_next l.places.items (scope_of l.place l.self.places.keys)
      (map (λ name. name.now) (drop l.name-index l.names));
}
