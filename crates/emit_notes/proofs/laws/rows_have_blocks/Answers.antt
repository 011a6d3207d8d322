use Rattle.emit_notes.proofs.RowLaws.{rows_have_blocks}
use Rattle.emit_notes.proofs.laws.rows_have_blocks.Goals as goal

pub returns : goal.returns
returns c = rows_have_blocks c.accepted_tables_are_well_formed.ensures
