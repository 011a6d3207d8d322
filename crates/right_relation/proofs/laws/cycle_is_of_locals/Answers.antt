use Rattle.right_relation.proofs.lemmas.Cycles as proof
use Rattle.right_relation.proofs.laws.cycle_is_of_locals.Goals as goal

pub returns : goal.returns
returns c = proof.cycle_is_of_locals c.periods_divide_cycle.ensures c.resolved_cycles_have_ticks.ensures c.resolved_cycles_are_short.ensures
