use Rattle.std.proofs.Common.{◌≡◌, map, drop}
use Rattle.c_rules.specs.Resolve as rules
use Rattle.c_grammar.specs.WrittenTrees.{pure_of}
use Rattle.c_resolver.specs.Scopes.{known_of}
use Rattle.c_resolver.proofs.pures.resolve_pures.Given as goal

abbrev pub invariant-loop-p : goal.invariant-loop-p
invariant-loop-p l = rules.resolve_pures (known_of l.fn.known) (map pure_of l.pures)
    ≡ rules.resolve_pures (known_of l.known) (map pure_of (drop l.p-index l.pures))
