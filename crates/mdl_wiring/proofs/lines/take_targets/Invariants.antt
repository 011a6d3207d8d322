use Rattle.std.proofs.Common.{◌≡◌, ◌++◌, drop}
use Rattle.mdl_wiring.specs.Members.{members_seen}
use Rattle.mdl_wiring.specs.Lines.{ends_to}
use Rattle.mdl_wiring.specs.Held.{place_seen, ends_seen}
use Rattle.mdl_tree.specs.Values.{trees_of}
use Rattle.mdl_wiring.proofs.lines.take_targets.Given as goal

abbrev pub invariant-loop-part : goal.invariant-loop-part
invariant-loop-part l =
    ends_seen l.ends.items ++ ends_to (members_seen l.fn.members) (place_seen l.fn.source) (trees_of (drop l.part-index l.parts))
    ≡ ends_seen l.fn.ends.items ++ ends_to (members_seen l.fn.members) (place_seen l.fn.source) (trees_of l.fn.parts)
