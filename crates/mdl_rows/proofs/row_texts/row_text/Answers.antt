use Rattle.mdl_rows.proofs.RowLemmas.{text-told, lawful-told, fault-told}
use Rattle.mdl_rows.proofs.row_texts.row_text.Goals as goal

pub row-requires : goal.row-requires
row-requires c = tt

pub returns-clause-text : goal.returns-clause-text
returns-clause-text c = text-told c.args.body.now c.args.control c.row.result c.row.ensures

pub returns-clause-lawful : goal.returns-clause-lawful
returns-clause-lawful c = lawful-told c.args.body.now c.args.control c.row.result c.row.ensures

pub returns-clause-fault : goal.returns-clause-fault
returns-clause-fault c = fault-told c.args.body.now c.args.control c.row.result c.row.ensures
