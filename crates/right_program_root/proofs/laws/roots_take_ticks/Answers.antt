use Rattle.right_program_root.proofs.RootTicks.{roots_take_ticks}
use Rattle.right_program_root.proofs.laws.roots_take_ticks.Goals as goal

pub returns : goal.returns
returns c = roots_take_ticks (record {
  own = c.header_is_of_own_rows.ensures;
  order = c.procedures_stand_in_order.ensures;
  budgets = c.budgets_sum_to_bound.ensures;
  cycles = c.cycle_is_of_locals.ensures;
  typed = c.ticks_are_typed.ensures;
  systems = c.systems_have_places.ensures;
  fields_places = c.fields_have_places.ensures;
  root = c.root_has_places.ensures;
  offers = c.offers_are_of_headers.ensures;
})
