use Rattle.std.proofs.Common.{◌≡◌, map, drop}
use Rattle.c_rules.specs.Resolve as rules
use Rattle.c_grammar.specs.WrittenTrees.{procedure_of}
use Rattle.c_resolver.specs.Scopes.{known_of}
use Rattle.c_resolver.proofs.procedures.resolve_procedures.Given as goal

abbrev pub invariant-loop-p : goal.invariant-loop-p
invariant-loop-p l = rules.resolve_procedures (known_of l.fn.known) (map procedure_of l.procedures)
    ≡ rules.resolve_procedures (known_of l.known) (map procedure_of (drop l.p-index l.procedures))
