use Rattle.tool_script_runner.proofs.RightAnswers.{answers_right}
use Rattle.tool_script_runner.proofs.laws.answers_are_right.Goals as goal

pub returns : goal.returns
returns c = answers_right c.one_run.ensures c.output_rests.ensures c.lawful_scripts_run.ensures
