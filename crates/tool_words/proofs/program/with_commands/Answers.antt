use Rattle.tool_words.specs.Program.{command_texts}
use Rattle.tool_words.proofs.Adding.{further_command}
use Rattle.tool_words.proofs.program.with_commands.Goals as goal

pub loop-name-preserved : goal.loop-name-preserved
loop-name-preserved c =
    further_command command_texts c.args.commands.now c.loop-name.name-index _ c.loop-name-test.true _ _ c.loop-name.invariant
    c.in_ok-program.ensures
