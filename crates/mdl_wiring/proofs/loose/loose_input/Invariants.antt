use Rattle.std.proofs.Common.{◌≡◌, ◌+◌, ◌-◌, List}
use Rattle.std.specs.Prelude.{find}
use Rattle.std.specs.List.{range_with_len}
use Rattle.mdl_wiring.specs.Members.{member_seen}
use Rattle.mdl_wiring.specs.Lines.{LineEnd}
use Rattle.mdl_wiring.specs.Refusals.{is_loose, numbers_of}
use Rattle.mdl_wiring.specs.Held.{AreInputsOf}
use Rattle.mdl_wiring.proofs.loose.loose_input.Given as goal

abbrev pub invariant-loop-index : goal.invariant-loop-index
invariant-loop-index l =
    (ends : List LineEnd) → AreInputsOf ends l.fn.inputs →
    find (is_loose ends l.fn.at) (range_with_len (l.index + 1) (l.index-end - l.index))
    ≡ find (is_loose ends l.fn.at) (numbers_of (member_seen l.fn.member))
