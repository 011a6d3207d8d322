use Rattle.std.proofs.Common.{◌≡◌, subst, sym}
use Rattle.std.specs.Prelude.{IfErr, IfOk, None, OnOk}
use Rattle.mdl_tree.specs.Values.{section_tree}
use Rattle.mdl_systems.specs.Reading.{IsFaultBy, model_seen}
use Rattle.mdl_rows.specs.Refusals.{refusal_by}
use Rattle.mdl_table.specs.Tables.{IsTableBy, HasRootLine}
use Rattle.mdl_table.proofs.FoundModels.{found-step, all-ok}
use Rattle.mdl_table.proofs.TreeLemmas.{root-line}
use Rattle.mdl_table.proofs.tree.parts_in.Goals as goal
use Rattle.diagram_meaning.specs.declared.subsystem.Subsystem.{out-Subsystem}

pub returns-clause-accepted : goal.returns-clause-accepted
returns-clause-accepted c =
    subst (λ r. OnOk c.parts_of.result (refusal_by r ≡ None)) (sym c.requires) c.parts_of.ensures.accepted

pub returns-clause-table : goal.returns-clause-table
returns-clause-table c = subst (λ r. IfOk c.parts_of.result (λ m. IsTableBy r m.table)) (sym c.requires) c.parts_of.ensures.table

pub returns-clause-step : goal.returns-clause-step
returns-clause-step c =
    all-ok c.parts_of.result c.parts_of.ensures.table
    (λ m is. found-step (section_tree c.args.file.now).items (model_seen c.args.found) m.table.fixed_step c.requires is.fixed_step)

pub returns-clause-root : goal.returns-clause-root
returns-clause-root c =
    subst (λ r. IfOk c.parts_of.result (λ m. HasRootLine r (out-Subsystem m.root).line)) (sym c.requires)
    (all-ok c.parts_of.result c.parts_of.ensures.root (λ m is. root-line m.root m.table.rows (section_tree c.args.found.system.now) is))

pub returns-clause-fault : goal.returns-clause-fault
returns-clause-fault c = subst (λ r. IfErr c.parts_of.result (IsFaultBy (refusal_by r))) (sym c.requires) c.parts_of.ensures.fault
