use Rattle.std.proofs.Common.{◌≡◌, drop, map}
use Rattle.mdl_rows.specs.Held.{port_among, port_seen}
use Rattle.mdl_rows.proofs.interiors.Interior.outport.Given as goal

abbrev pub invariant-loop-row : goal.invariant-loop-row
invariant-loop-row l =
    port_among l.port (map port_seen (drop l.row-index l.self.outports.items))
    ≡ port_among l.fn.port (map port_seen l.fn.self.outports.items)
