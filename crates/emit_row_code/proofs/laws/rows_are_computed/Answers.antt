use Rattle.emit_row_code.proofs.lemmas.RowLaws.{rows_are_computed}
use Rattle.emit_row_code.proofs.laws.rows_are_computed.Goals as goal

pub returns : goal.returns
returns c = rows_are_computed c.values_stay_in_type.ensures c.narrow_rows_fit.ensures c.whole_numbers_stay.ensures c.rounding_is_one.ensures
