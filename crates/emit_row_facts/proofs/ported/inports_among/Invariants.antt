use Rattle.std.proofs.Common.{◌≡◌, take}
use Rattle.diagram_blocks.specs.Kinds.{is_inport}
use Rattle.emit_row_facts.specs.Ported.{ported_among}
use Rattle.emit_row_facts.proofs.ported.inports_among.Given as goal

abbrev pub invariant-loop-row : goal.invariant-loop-row
invariant-loop-row l = l.among.items ≡ ported_among is_inport (take l.row-index l.rows)
