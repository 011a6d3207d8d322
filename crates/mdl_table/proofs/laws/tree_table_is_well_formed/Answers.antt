use Rattle.mdl_table.proofs.laws.tree_table_is_well_formed.Goals as goal

pub returns : goal.returns
returns c file table none of = record {
  nested = c.tree_is_nested.ensures file table none of;
  wired = c.tree_is_wired.ensures file table none of;
  inports = (c.tree_ports_are_numbered.ensures file table none of).0;
  outports = (c.tree_ports_are_numbered.ensures file table none of).1;
  controls = c.tree_control_ports_are_one.ensures file table none of;
  each = (c.tree_rows_are_lawful.ensures file table none of).0;
  step = (c.tree_rows_are_lawful.ensures file table none of).1;
}
