use Rattle.std.proofs.Common.{arith}
use Rattle.emit_row_code.proofs.lemmas.Writable.{at_most_greatest}
use Rattle.emit_row_code.proofs.rows.comparison.Goals as goal

pub aligned-requires-clause-finer : goal.aligned-requires-clause-finer
aligned-requires-clause-finer c =
    omega (arith, at_most_greatest c.args.fracs.now 0, c.from.ensures, c.from-common.ensures, c.greatest_frac.ensures)
