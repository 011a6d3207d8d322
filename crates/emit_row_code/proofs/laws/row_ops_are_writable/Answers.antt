use Rattle.emit_row_code.proofs.lemmas.Writable.{row_ops_are_writable}
use Rattle.emit_row_code.proofs.laws.row_ops_are_writable.Goals as goal

pub returns : goal.returns
returns c = row_ops_are_writable c.values_stay_in_type.ensures c.narrow_rows_fit.ensures
