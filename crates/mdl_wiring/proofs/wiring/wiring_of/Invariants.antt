use Rattle.std.proofs.Common.{◌≡◌, ◌++◌, drop, map}
use Rattle.mdl_wiring.specs.Members.{members_seen}
use Rattle.mdl_wiring.specs.Held.{ends_seen}
use Rattle.mdl_wiring.specs.Wiring.{sources_from}
use Rattle.mdl_wiring.proofs.wiring.wiring_of.Given as goal

abbrev pub invariant-loop-at : goal.invariant-loop-at
invariant-loop-at l =
    map (λ sources. sources.items) l.rows.items ++ sources_from (ends_seen l.fn.ends) l.at (members_seen (drop l.at l.members))
    ≡ sources_from (ends_seen l.fn.ends) 0 (members_seen l.fn.members)
