use Rattle.std.proofs.Common.{subst}
use Rattle.std.specs.Prelude.{◌≡◌, IfErr, IfOk, None, OnOk}
use Rattle.mdl_tree.specs.Values.{section_tree}
use Rattle.mdl_systems.specs.Reading.{IsFaultBy}
use Rattle.mdl_rows.specs.Refusals.{rows_refusal}
use Rattle.mdl_rows.specs.Tables.{AreRowsOf}
use Rattle.mdl_table.proofs.lemmas.ReadBlocks.{are-blocks, few-blocks, same-model}
use Rattle.mdl_table.proofs.parts.rows_by.Goals as goal

pub rows_of-requires-clause-blocks : goal.rows_of-requires-clause-blocks
rows_of-requires-clause-blocks c =
    are-blocks c.outlines_are_numbered.ensures c.owners_are_before.ensures c.args.defaults.now
    (section_tree c.args.system.now) c.args.blocks.now c.requires.blocks

pub rows_of-requires-clause-at_most : goal.rows_of-requires-clause-at_most
rows_of-requires-clause-at_most c =
    few-blocks c.args.defaults.now (section_tree c.args.system.now) c.args.blocks.now c.requires.accepted c.requires.blocks

pub returns-clause-accepted : goal.returns-clause-accepted
returns-clause-accepted c =
    subst (λ m. OnOk c.rows_of.result (rows_refusal m ≡ None))
    (same-model c.outlines_are_numbered.ensures c.args.defaults.now (section_tree c.args.system.now) c.args.blocks.now c.requires.blocks)
    c.rows_of.ensures.accepted

pub returns-clause-rows : goal.returns-clause-rows
returns-clause-rows c =
    subst (λ m. IfOk c.rows_of.result (λ v. AreRowsOf m v.items))
    (same-model c.outlines_are_numbered.ensures c.args.defaults.now (section_tree c.args.system.now) c.args.blocks.now c.requires.blocks)
    c.rows_of.ensures.rows

pub returns-clause-fault : goal.returns-clause-fault
returns-clause-fault c =
    subst (λ m. IfErr c.rows_of.result (IsFaultBy (rows_refusal m)))
    (same-model c.outlines_are_numbered.ensures c.args.defaults.now (section_tree c.args.system.now) c.args.blocks.now c.requires.blocks)
    c.rows_of.ensures.fault
