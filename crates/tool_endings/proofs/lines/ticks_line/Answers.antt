use Rattle.std.proofs.Common.{rules, append_assoc}
use Rattle.tool_endings.proofs.lines.ticks_line.Goals as goal

pub returns : goal.returns
returns c = simp append_assoc (search rules)
