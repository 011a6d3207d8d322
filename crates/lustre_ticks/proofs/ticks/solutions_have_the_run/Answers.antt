use Rattle.lustre_order.proofs.lemmas.ReadLaws.{activity_is_in_order, triggers_are_in_order, samples_are_in_order, taking_is_in_order, values_are_in_order}
use Rattle.lustre_ticks.proofs.lemmas.SolutionRuns.{solutions_have_the_run}
use Rattle.lustre_ticks.proofs.ticks.solutions_have_the_run.Goals as goal

pub returns : goal.returns
returns c =
    solutions_have_the_run (record {
      hold = c.systems_hold.ensures;
      expected = c.expected_values.ensures;
      activity_order = activity_is_in_order;
      trigger_order = triggers_are_in_order;
      sample_order = samples_are_in_order;
      taking_order = taking_is_in_order;
      value_order = values_are_in_order;
      activity = c.activity_equations_hold.ensures;
      memories = c.memory_equations_hold.ensures;
      values = c.value_equations_hold.ensures;
      children = c.child_equations_hold.ensures;
      timed = c.rows_of_runs_are_timed.ensures;
      computed = c.rows_of_runs_are_computed.ensures;
      runs = c.runs_are_of_systems.ensures;
      parents = c.children_meet_parents.ensures;
      cycles = c.resolved_cycles_have_ticks.ensures;
      short = c.resolved_cycles_are_short.ensures;
    })
