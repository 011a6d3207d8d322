use Rattle.lustre_lives.proofs.lemmas.RightFiles.{files_are_right}
use Rattle.lustre_lives.proofs.files.files_are_right.Goals as goal

pub returns : goal.returns
returns c =
    files_are_right (record {
      one = c.one_run.ensures;
      settled = c.settled_is_least.ensures;
      stuck = c.stuck_exactly.ensures;
      functions = c.nodes_are_functions.ensures;
      lawful = c.model_files_are_lawful.ensures;
      hold = c.systems_hold.ensures;
      whole = c.whole_by_systems.ensures;
      have_run = c.solutions_have_the_run.ensures;
    })
