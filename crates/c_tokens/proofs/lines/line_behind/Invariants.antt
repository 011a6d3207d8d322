use Rattle.std.proofs.Common.{◌≡◌, length}
use Rattle.c_tokens.specs.Lines.{line_behind}
use Rattle.c_tokens.proofs.lines.line_behind.Given as goal

abbrev pub invariant-loop-first : goal.invariant-loop-first
invariant-loop-first l = line_behind l.line l.rest ≡ line_behind l.line-2 l.bytes

abbrev pub decreases-loop-first : goal.decreases-loop-first
decreases-loop-first l = length l.rest
