use Rattle.std.proofs.Common.{◌≡◌, map, take}
use Rattle.clap.specs.Words.{app_of}
use Rattle.tool_words.specs.Program.{command_texts, with_commands}
use Rattle.tool_words.proofs.program.with_commands.Given as goal

abbrev pub invariant-loop-name : goal.invariant-loop-name
invariant-loop-name l = app_of l.program ≡ with_commands (map command_texts (take l.name-index l.commands))
