use Rattle.std.proofs.Common.{◌≡◌, map, take, drop, reverse, []}
use Rattle.c_rules.specs.Resolve.{check_params}
use Rattle.lustre_resolver.specs.Scopes.{line_and_text}
use Rattle.lustre_resolver.proofs.names.places_of.Given as goal

abbrev pub invariant-loop-d : goal.invariant-loop-d
invariant-loop-d l = record {
  named : l.places ≡ map (λ d. d.name.now) (take l.d-index l.declared);
  checked : check_params [] [] (map line_and_text l.declared)
      ≡ check_params [] (reverse l.places) (map line_and_text (drop l.d-index l.declared));
}
