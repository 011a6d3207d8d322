use Rattle.std.proofs.Common.{◌≡◌, take}
use Rattle.diagram_blocks.specs.Kinds.{is_outport}
use Rattle.emit_row_facts.specs.Ported.{ported_among}
use Rattle.emit_row_facts.proofs.ported.outports_among.Given as goal

abbrev pub invariant-loop-row : goal.invariant-loop-row
invariant-loop-row l = l.among.items ≡ ported_among is_outport (take l.row-index l.rows)
