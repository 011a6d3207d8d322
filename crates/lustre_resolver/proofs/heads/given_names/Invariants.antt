use Rattle.std.proofs.Common.{◌≡◌, map, take, flat_map}
use Rattle.lustre_grammar.specs.WrittenTrees.{equation_of}
use Rattle.lustre_rules.specs.Resolve.{written_given}
use Rattle.lustre_resolver.proofs.heads.given_names.Given as goal

abbrev pub invariant-loop-e : goal.invariant-loop-e
invariant-loop-e l = map (λ x. x.now) l.names.items ≡ flat_map written_given (map equation_of (take l.e-index l.equations))
