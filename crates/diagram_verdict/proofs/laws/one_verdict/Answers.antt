use Rattle.diagram_verdict.proofs.OneVerdict as verdict
use Rattle.diagram_verdict.proofs.laws.one_verdict.Goals as goal

pub returns : goal.returns
returns c =
    verdict.one_verdict c.one_file_verdict.ensures c.accepted_tables_are_well_formed.ensures (record {
      have_times = c.tables_have_times.ensures;
      times = c.times_are_one.ensures;
      some_refusal = c.time_refusal_is_there.ensures;
      refusal = c.time_refusal_is_one.ensures;
      told = c.loop_is_told_or_none.ensures;
      one_loop = c.told_loop_is_one.ensures;
    })
