use Rattle.std.proofs.Common.{subst}
use Rattle.c_syntax.specs.Plain.{program_tree}
use Rattle.c_rules.specs.Resolve.{Known}
use Rattle.c_grammar.specs.WrittenTrees.{program_of}
use Rattle.c_rules.specs.Gives.{Gives}
use Rattle.c_resolver.specs.Programs.{program_behind}
use Rattle.c_resolver.proofs.programs.resolve_program.Goals as goal

pub returns-clause-resolved : goal.returns-clause-resolved
returns-clause-resolved c =
    subst (λ (known : Known). Gives program_tree c.resolve_definitions.result
    (program_behind c.args.last known (program_of c.args.p.now))) c.nothing_known-known.ensures
    c.resolve_definitions.ensures.resolved
