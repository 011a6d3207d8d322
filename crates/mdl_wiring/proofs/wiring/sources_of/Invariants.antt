use Rattle.std.proofs.Common.{◌≡◌, ◌+◌, ◌-◌, ◌++◌}
use Rattle.std.specs.Prelude.{filter_map}
use Rattle.std.specs.List.{range_with_len}
use Rattle.mdl_wiring.specs.Members.{member_seen}
use Rattle.mdl_wiring.specs.Held.{ends_seen}
use Rattle.mdl_wiring.specs.Wiring.{source_into, sources_of}
use Rattle.mdl_wiring.proofs.wiring.sources_of.Given as goal

abbrev pub invariant-loop-index : goal.invariant-loop-index
invariant-loop-index l =
    l.sources.items
    ++ filter_map (λ number. source_into (ends_seen l.fn.ends) (record { member = l.fn.at; number = number }))
    (range_with_len (l.index + 1) (l.index-end - l.index))
    ≡ sources_of (ends_seen l.fn.ends) l.fn.at (member_seen l.fn.member)
