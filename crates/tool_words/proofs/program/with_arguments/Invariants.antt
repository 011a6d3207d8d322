use Rattle.std.proofs.Common.{take}
use Rattle.tool_words.specs.Program.{IsSubcommand, texts, with_arguments}
use Rattle.tool_words.proofs.program.with_arguments.Given as goal

abbrev pub invariant-loop-next : goal.invariant-loop-next
invariant-loop-next l = IsSubcommand l.command (with_arguments l.name (texts (take l.next-index l.arguments)))
