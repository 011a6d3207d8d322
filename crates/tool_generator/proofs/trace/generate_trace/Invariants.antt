use Rattle.std.proofs.Common.{◌≡◌, ◌+◌, ◌*◌}
use Rattle.std.specs.Prelude.{flat_map}
use Rattle.std.specs.List.{range_with_len}
use Rattle.std.specs.String.{string_bytes}
use Rattle.tool_generator.specs.Draws.{state_after}
use Rattle.tool_generator.specs.Models.{row_text}
use Rattle.tool_generator.proofs.trace.generate_trace.Given as goal

abbrev pub invariant-loop-k : goal.invariant-loop-k
invariant-loop-k l =
    (string_bytes l.out ≡ flat_map (λ k. row_text (state_after l.start (3 * l.size + k))) (range_with_len 1 l._k))
    × (l.draws.state ≡ state_after l.start (3 * l.size + l._k))
