use Rattle.std.proofs.Common.{◌≡◌, map, take}
use Rattle.emit_layout.proofs.sources.rows_of.Given as goal

abbrev pub invariant-loop-source : goal.invariant-loop-source
invariant-loop-source l = l.rows.items ≡ map (λ source. source.row) (take l.source-index l.list)
