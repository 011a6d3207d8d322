use Rattle.std.proofs.Common.{◌≡◌, ◌<◌, ℕ, false, nat_lt, get_or}
use Rattle.diagram_blocks.specs.declared.Op.TheVariants.{Nothing}
use Rattle.diagram_blocks.specs.Meaning.{delay_length}
use Rattle.lustre_emitter.proofs.long_delays.first_long.Given as goal

abbrev pub invariant-loop-b : goal.invariant-loop-b
invariant-loop-b l = (k : ℕ) → k < l.b → nat_lt 64 (delay_length (get_or l.ops k Nothing)) ≡ false
