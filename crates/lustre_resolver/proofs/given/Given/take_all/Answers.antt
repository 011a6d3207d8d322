use Rattle.std.proofs.Common.{sym, ◌∙◌, ap, ◌++◌, map, append-nil, List, ℕ}
use denote.Ref.{Bor}
use Rattle.lustre_resolver.specs.Scopes.{scope_of}
use Rattle.lustre_resolver.proofs.EquationLaws.{given_at, given_next, given-walk}
use Rattle.lustre_resolver.proofs.Walks.{walk_after, walk-begins}
use Rattle.lustre_resolver.proofs.given.Given.take_all.Goals as goal

pub loop-name-init : goal.loop-name-init
loop-name-init c =
    let line = c.args.line in
    let keys = c.args.self.now.places.keys in
    let scope = scope_of c.args.place.now keys in
    let texts = map (λ (name : Bor (List ℕ)). name.now) c.args.names.now in
    let none = sym c.new-places.ensures.items in
    record {
      taken = sym (append-nil keys) ∙ ap (λ (ks : List ℕ). keys ++ ks) none;
      given = given-walk line scope texts ∙ walk-begins (given_at line) given_next scope texts
          ∙ ap (λ (done : List ℕ). walk_after (given_at line) given_next done scope texts) none;
    }
