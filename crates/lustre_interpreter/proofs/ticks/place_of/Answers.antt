use Rattle.lustre_solver.specs.Searching.{searching}
use Rattle.lustre_evaluation.specs.Views.{before_by}
use Rattle.lustre_interpreter.specs.Tables.{frame_tree}
use Rattle.lustre_interpreter.proofs.Runs.{place_some, place_none}
use Rattle.lustre_interpreter.proofs.ticks.place_of.Goals as goal

pub returns-in-Some : goal.returns-in-Some
returns-in-Some c =
    let frame = c.args.frame.now in
    place_some (frame_tree frame) (before_by frame.begun frame.before.now) (searching c.args.search.now).now c.args.instances.now
    c.requires.lawful c.requires.instances_are c.values.result.now c.values.ensures c.in-Some.at c.in-Some.ensures

pub returns-in-None : goal.returns-in-None
returns-in-None c =
    let frame = c.args.frame.now in
    place_none (frame_tree frame) (before_by frame.begun frame.before.now) (searching c.args.search.now).now c.args.instances.now
    c.requires.lawful c.requires.instances_are c.values.result.now c.values.ensures c.least_place-in-None.result
    c.values-in-None.result.now c.values-in-None.ensures c.in-None.ensures c.least_place-in-None.ensures
