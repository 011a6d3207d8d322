-- The laws on which it rests that the files of models are right.
use Rattle.diagram_meaning.specs.Laws.{LoopFreeHasOneRun}
use Rattle.lustre_flows.specs.FlowLaws.{StuckExactly}
use Rattle.lustre_settling.specs.Solutions.{SettledIsLeast}
use Rattle.lustre_functions.specs.FunctionLaws.{NodesAreFunctions}
use Rattle.lustre_right.specs.SystemLaws.{ModelFilesAreLawful, SystemsHold, WholeBySystems}
use Rattle.lustre_right.specs.TickLaws.{SolutionsHaveTheRun}

pub record Laws : Type 0 where
  pub one : LoopFreeHasOneRun
  pub settled : SettledIsLeast
  pub stuck : StuckExactly
  pub functions : NodesAreFunctions
  pub lawful : ModelFilesAreLawful
  pub hold : SystemsHold
  pub whole : WholeBySystems
  pub have_run : SolutionsHaveTheRun
