use Rattle.right_program_root.proofs.RootStarts.{roots_start}
use Rattle.right_program_root.proofs.laws.roots_start.Goals as goal

pub returns : goal.returns
returns c = roots_start (record {
  order = c.procedures_stand_in_order.ensures;
  budgets = c.budgets_sum_to_bound.ensures;
  systems = c.systems_have_places.ensures;
  fields_places = c.fields_have_places.ensures;
  root = c.root_has_places.ensures;
})
