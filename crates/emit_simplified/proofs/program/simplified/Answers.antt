use Rattle.std.proofs.Common.{◌≡◌, IfOk, ap, subst, ◌∙◌}
use Rattle.c_syntax.specs.Plain.{program_tree}
use Rattle.emit_fused.specs.Fused.{fused}
use Rattle.emit_pruned.specs.Pruned.{pruned}
use Rattle.emit_simplified.proofs.program.simplified.Goals as goal

pub returns : goal.returns
returns c =
    subst (λ tree. IfOk c.pruned.result (λ p. program_tree p ≡ pruned tree))
    (c.in_ok-with_fewer_tests.ensures ∙ ap fused c.in_ok-without_helpers.ensures) c.pruned.ensures
