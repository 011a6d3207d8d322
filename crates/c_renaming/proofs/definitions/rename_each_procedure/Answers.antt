use Rattle.std.proofs.Common.{◌≤◌, ◌∙◌, length, map, rules}
use Rattle.c_syntax.specs.Plain.{procedure_tree}
use Rattle.c_renaming.specs.Renamed.{renamed_procedure}
use Rattle.c_renaming.proofs.PartlyMapped.{mapped-next, all-mapped}
use Rattle.c_renaming.proofs.definitions.rename_each_procedure.Goals as goal

pub loop-q-preserved : goal.loop-q-preserved
loop-q-preserved g c =
    let by = c.args.by.now in
    let l = c.loop-q in
    mapped-next procedure_tree (renamed_procedure (g.R.Renaming.leaf_of by) (g.R.Renaming.function_of by) (g.R.Renaming.procedure_of by))
    l.q-index l.procedures (map procedure_tree c.args.procedures.now) c.rename_procedure.new.q c.q-item.result l.invariant (search rules) c.rename_procedure.ensures

pub returns : goal.returns
returns g c =
    let by = c.args.by.now in
    let all : length c.args.procedures.now ≤ c.loop-q.q-index = search rules in
    c.loop-q.invariant
    ∙ all-mapped procedure_tree (renamed_procedure (g.R.Renaming.leaf_of by) (g.R.Renaming.function_of by) (g.R.Renaming.procedure_of by))
    c.loop-q.q-index c.args.procedures.now all
