use Rattle.std.proofs.Common.{◌∙◌, ap, ◌++◌, List, ℕ}
use Rattle.lustre_grammar.specs.WrittenTrees.{equation_of}
use Rattle.lustre_rules.specs.Resolve.{written_given}
use Rattle.lustre_resolver.proofs.Views.{given-more}
use Rattle.lustre_resolver.proofs.heads.given_names.Goals as goal

pub loop-e-preserved : goal.loop-e-preserved
loop-e-preserved c =
    c.in_ok-add_given.ensures
    ∙ ap (λ (ns : List (List ℕ)). ns ++ written_given (equation_of c.e-item.result)) c.loop-e.invariant
    ∙ given-more c.args.equations.now c.loop-e.e-index c.e-item.result c.loop-e-test.true c.e-item.is
