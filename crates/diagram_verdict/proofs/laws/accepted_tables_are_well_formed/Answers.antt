use Rattle.diagram_verdict.proofs.laws.accepted_tables_are_well_formed.Goals as goal

pub returns : goal.returns
returns c bytes table with = c.tree_table_is_well_formed.ensures with.0 table with.2 with.3
