use Rattle.std.proofs.Common.{◌≡◌, map, drop}
use Rattle.c_rules.specs.Resolve as rules
use Rattle.c_grammar.specs.WrittenTrees.{struct_of}
use Rattle.c_resolver.specs.Scopes.{known_of}
use Rattle.c_resolver.proofs.structs.resolve_structs.Given as goal

abbrev pub invariant-loop-d : goal.invariant-loop-d
invariant-loop-d l = rules.resolve_structs (known_of l.fn.known) (map struct_of l.structs)
    ≡ rules.resolve_structs (known_of l.known) (map struct_of (drop l.d-index l.structs))
