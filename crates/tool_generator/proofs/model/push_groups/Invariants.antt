use Rattle.std.proofs.Common.{◌≡◌, ◌-◌, ◌*◌, ◌++◌}
use Rattle.std.specs.Prelude.{flat_map}
use Rattle.std.specs.List.{range_with_len}
use Rattle.std.specs.String.{string_bytes}
use Rattle.tool_generator.specs.Draws.{state_after}
use Rattle.tool_generator.specs.Models.{drawn_group}
use Rattle.tool_generator.proofs.model.push_groups.Given as goal

abbrev pub invariant-loop-k : goal.invariant-loop-k
invariant-loop-k l =
    (string_bytes l.out ≡ string_bytes l.fn.out ++ flat_map (drawn_group l.start) (range_with_len 1 (l.k - 1)))
    × (l.draws.state ≡ state_after l.start (3 * (l.k - 1)))
