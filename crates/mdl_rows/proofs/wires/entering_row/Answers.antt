use Rattle.mdl_rows.specs.Held.{seen}
use Rattle.mdl_rows.proofs.WiredLemmas.{owner-there}
use Rattle.mdl_rows.proofs.wires.entering_row.Goals as goal

pub source_row-requires-clause-owner : goal.source_row-requires-clause-owner
source_row-requires-clause-owner c = owner-there c.args.model.now (seen c.args.block.now) c.requires.model c.requires.among
