use Rattle.std.proofs.Common.{Bor, List, ℕ}
use Rattle.tool_words.proofs.Adding.{further_argument}
use Rattle.tool_words.proofs.program.with_arguments.Goals as goal

pub loop-next-preserved : goal.loop-next-preserved
loop-next-preserved c =
    further_argument (λ (n : Bor (List ℕ)). n.now) c.args.arguments.now c.loop-next.next-index _ c.loop-next-test.true c.args.name.now _ _ _
    c.loop-next.invariant c.argument.ensures c.in_ok-command.ensures
