use Rattle.tool_script_runner.proofs.ScriptDrives.{scripts_driven}
use Rattle.tool_script_runner.proofs.laws.scripts_are_driven.Goals as goal

pub returns : goal.returns
returns c = scripts_driven c.answers_are_right.ensures
