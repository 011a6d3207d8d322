use Rattle.lustre_rows.proofs.SystemEquations.{system_equations_hold}
use Rattle.lustre_rows.proofs.runs.system_equations_hold.Goals as goal

pub returns : goal.returns
returns c =
    system_equations_hold (record {
      computed = c.rows_are_computed.ensures;
      same = c.nodes_give_the_same.ensures;
      stay = c.whole_numbers_stay.ensures;
      one = c.rounding_is_one.ensures;
      narrow = c.narrow_rows_fit.ensures;
      typed = c.ticks_are_typed.ensures;
      runs = c.runs_are_of_systems.ensures;
      repeat = c.hits_repeat.ensures;
      parents = c.children_meet_parents.ensures;
      cycles = c.resolved_cycles_have_ticks.ensures;
      short = c.resolved_cycles_are_short.ensures;
    })
