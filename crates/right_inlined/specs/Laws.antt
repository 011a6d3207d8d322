-- Code for a diagram is code for it when its helpers are inlined.
use Rattle.right_fused.specs.Laws.{KeepsCode}
use Rattle.emit_inlined.specs.Inlined.{inlined}

abbrev pub InlinedIsCode : Type 0
InlinedIsCode = KeepsCode inlined
