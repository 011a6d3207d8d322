use Rattle.std.proofs.Common.{◌≤◌, ◌∙◌, length, map, rules}
use Rattle.c_syntax.specs.Plain.{pure_tree}
use Rattle.c_renaming.specs.Renamed.{renamed_pure}
use Rattle.c_renaming.proofs.PartlyMapped.{mapped-next, all-mapped}
use Rattle.c_renaming.proofs.definitions.rename_each_pure.Goals as goal

pub loop-f-preserved : goal.loop-f-preserved
loop-f-preserved g c =
    let by = c.args.by.now in
    let l = c.loop-f in
    mapped-next pure_tree (renamed_pure (g.R.Renaming.leaf_of by) (g.R.Renaming.function_of by) (g.R.Renaming.procedure_of by))
    l.f-index l.pures (map pure_tree c.args.pures.now) c.rename_pure.new.f c.f-item.result l.invariant (search rules) c.rename_pure.ensures

pub returns : goal.returns
returns g c =
    let by = c.args.by.now in
    let all : length c.args.pures.now ≤ c.loop-f.f-index = search rules in
    c.loop-f.invariant
    ∙ all-mapped pure_tree (renamed_pure (g.R.Renaming.leaf_of by) (g.R.Renaming.function_of by) (g.R.Renaming.procedure_of by))
    c.loop-f.f-index c.args.pures.now all
