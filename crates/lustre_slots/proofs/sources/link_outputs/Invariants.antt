use Rattle.std.proofs.Common.{◌≡◌, ◌+◌, drop}
use Rattle.lustre_slots.specs.Sources.{output_links, linked}
use Rattle.lustre_slots.proofs.sources.link_outputs.Given as goal

abbrev pub invariant-loop-k : goal.invariant-loop-k
invariant-loop-k l =
    linked l.sources (output_links l.of (l.at + l.k) (drop l.k l.names))
    ≡ linked l.initial.sources (output_links l.of l.at l.names)
