use Rattle.lustre_system_nodes.proofs.OwnSteps.{AreFirst}
use Rattle.lustre_system_nodes.proofs.own_rows.own_rows.Given as goal

abbrev pub invariant-loop-b : goal.invariant-loop-b
invariant-loop-b l = AreFirst l.rows l.own l.b-index l.list.items l.place
