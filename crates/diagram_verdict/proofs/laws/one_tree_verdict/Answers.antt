use Rattle.diagram_verdict.proofs.TreeVerdicts as proof
use Rattle.diagram_verdict.proofs.laws.one_tree_verdict.Goals as goal

pub returns : goal.returns
returns c =
    proof.one_tree_verdict c.tree_has_table.ensures c.tree_has_one_table.ensures c.tree_table_is_well_formed.ensures (record {
      have_times = c.tables_have_times.ensures;
      times = c.times_are_one.ensures;
      some_refusal = c.time_refusal_is_there.ensures;
      refusal = c.time_refusal_is_one.ensures;
      told = c.loop_is_told_or_none.ensures;
      one_loop = c.told_loop_is_one.ensures;
    })
