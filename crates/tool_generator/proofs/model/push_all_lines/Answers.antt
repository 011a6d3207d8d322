use Rattle.std.proofs.Common.{arith}
use Rattle.std.specs.String.{string_bytes}
use Rattle.tool_generator.specs.Models.{entering_lines}
use Rattle.tool_generator.proofs.Steps.{text-more}
use Rattle.tool_generator.proofs.model.push_all_lines.Goals as goal

pub loop-k-preserved : goal.loop-k-preserved
loop-k-preserved c =
    text-more entering_lines (string_bytes c.args.out.now) (string_bytes c.loop-k.out)
    (string_bytes c.push_entering_lines.new.out) c.loop-k.k (omega arith) c.loop-k.invariant
    c.in_ok-push_entering_lines.ensures
