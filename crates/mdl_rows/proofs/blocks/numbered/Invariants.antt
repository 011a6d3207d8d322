use Rattle.std.proofs.Common.{◌≡◌, ◌++◌, drop}
use Rattle.mdl_rows.specs.Held.{all_seen, numbered_from}
use Rattle.mdl_rows.proofs.blocks.numbered.Given as goal

abbrev pub invariant-loop-number : goal.invariant-loop-number
invariant-loop-number l = all_seen l.numbered.items ++ numbered_from l.number (drop l.number l.blocks) ≡ numbered_from 0 l.fn.blocks
