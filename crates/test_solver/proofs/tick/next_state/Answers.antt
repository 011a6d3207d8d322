use Rattle.std.proofs.Common.{◌∙◌, ap, length, List, []}
use Rattle.diagram_activity.specs.declared.TrigMem.{TrigMem}
use Rattle.diagram_meaning.proofs.lemmas.ByRow.{length-by_row}
use Rattle.test_solver.proofs.tick.next_state.Goals as goal

pub returns-clause-fit : goal.returns-clause-fit
returns-clause-fit c = record {
  values = c.in_ok-values.ensures.fit;
  memories = c.in_ok-memories.ensures.fit;
  triggers = ap (λ (l : List TrigMem). length l) (c.in_ok-triggers.ensures []) ∙ length-by_row c.args.r.now.tree.table.rows _;
}
