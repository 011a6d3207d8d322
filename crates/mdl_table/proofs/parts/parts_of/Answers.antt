use Rattle.mdl_table.proofs.parts.parts_of.Goals as goal

pub returns-clause-table : goal.returns-clause-table
returns-clause-table c = record { rows = c.in_ok-rows.ensures.rows; fixed_step = c.step_of_model.ensures }
