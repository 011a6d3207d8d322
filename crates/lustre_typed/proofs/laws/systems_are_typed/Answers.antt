use Rattle.lustre_typed.proofs.SystemsTyped.{systems_are_typed}
use Rattle.lustre_typed.proofs.laws.systems_are_typed.Goals as goal

pub returns : goal.returns
returns c =
    systems_are_typed (record {
      narrow = c.resolved_rows_are_narrow.ensures;
      short = c.resolved_cycles_are_short.ensures;
      ticks = c.resolved_cycles_have_ticks.ensures;
      divide = c.periods_divide_cycle.ensures;
      lawful = c.rows_are_lawful.ensures;
      shallow = c.rows_are_shallow.ensures;
      reading = c.rows_read_their_leaves.ensures;
    })
