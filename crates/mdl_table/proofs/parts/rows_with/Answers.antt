use Rattle.std.proofs.Common.{subst}
use Rattle.std.specs.Prelude.{◌≡◌, IfErr, IfOk, None, OnOk}
use Rattle.mdl_tree.specs.Values.{section_tree}
use Rattle.mdl_params.specs.Defaults.{default_blocks, kinds_of}
use Rattle.mdl_systems.specs.Reading.{IsFaultBy}
use Rattle.mdl_rows.specs.Tables.{AreRowsOf}
use Rattle.mdl_table.proofs.lemmas.ReadBlocks.{model-by, refusal-by}
use Rattle.mdl_table.proofs.parts.rows_with.Goals as goal

pub returns-clause-accepted : goal.returns-clause-accepted
returns-clause-accepted c =
    subst (λ o. OnOk c.model_rows.result (o ≡ None))
    (refusal-by c.reading_is_by_defaults.ensures c.args.defaults.now
    (kinds_of (default_blocks (section_tree c.args.model.now).items)) c.requires
    (section_tree c.args.system.now))
    c.model_rows.ensures.accepted

pub returns-clause-rows : goal.returns-clause-rows
returns-clause-rows c =
    subst (λ m. IfOk c.model_rows.result (λ v. AreRowsOf m v.rows.items))
    (model-by c.reading_is_by_defaults.ensures c.args.defaults.now
    (kinds_of (default_blocks (section_tree c.args.model.now).items)) c.requires
    (section_tree c.args.system.now))
    c.model_rows.ensures.rows

pub returns-clause-fault : goal.returns-clause-fault
returns-clause-fault c =
    subst (λ o. IfErr c.model_rows.result (IsFaultBy o))
    (refusal-by c.reading_is_by_defaults.ensures c.args.defaults.now
    (kinds_of (default_blocks (section_tree c.args.model.now).items)) c.requires
    (section_tree c.args.system.now))
    c.model_rows.ensures.fault
