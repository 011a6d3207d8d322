use Rattle.std.proofs.Common.{◌≡◌, ◌++◌, drop, map}
use Rattle.mdl_rows.specs.Held.{all_seen, outports_among, port_seen}
use Rattle.mdl_rows.proofs.interiors.outports_among.Given as goal

abbrev pub invariant-loop-block : goal.invariant-loop-block
invariant-loop-block l =
    map port_seen l.outports.items ++ outports_among (all_seen (drop l.block-index l.own)) ≡ outports_among (all_seen l.fn.own)
