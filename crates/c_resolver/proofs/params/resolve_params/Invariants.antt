use Rattle.std.proofs.Common.{◌≡◌, map, take, drop, reverse, []}
use Rattle.c_rules.specs.Resolve.{check_params, function_names}
use Rattle.c_resolver.specs.Scopes.{known_of}
use Rattle.c_resolver.specs.Params.{line_and_name}
use Rattle.c_resolver.proofs.params.resolve_params.Given as goal

abbrev pub invariant-loop-param : goal.invariant-loop-param
invariant-loop-param l = record {
  named : l.names ≡ map (λ q. q.name.now) (take l.param-index l.params);
  checked : check_params (function_names (known_of l.known)) [] (map line_and_name l.params)
      ≡ check_params (function_names (known_of l.known)) (reverse l.names)
      (map line_and_name (drop l.param-index l.params));
}
