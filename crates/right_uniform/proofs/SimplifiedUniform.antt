-- A uniform program is uniform when it is simplified.
use Rattle.emit_fused.specs.Fused.{fused}
use Rattle.emit_inlined.specs.Inlined.{inlined}
use Rattle.right_uniform.specs.Laws.{FusedIsUniform, PrunedIsUniform, InlinedIsUniform, SimplifiedIsUniform}

pub simplified_is_uniform : InlinedIsUniform → FusedIsUniform → PrunedIsUniform → SimplifiedIsUniform
simplified_is_uniform inlines fuses prunes p d delays hyper lawful shape uniform =
    prunes (fused (inlined p)) d (fuses (inlined p) d (inlines p d delays hyper lawful shape uniform))
