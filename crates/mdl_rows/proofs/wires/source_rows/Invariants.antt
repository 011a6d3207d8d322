use Rattle.std.proofs.Common.{◌≡◌, ◌++◌, drop}
use Rattle.mdl_rows.specs.Wires.{source_rows}
use Rattle.mdl_rows.specs.HeldModels.{model_of}
use Rattle.mdl_rows.proofs.wires.source_rows.Given as goal

abbrev pub invariant-loop-source : goal.invariant-loop-source
invariant-loop-source l =
    let blocks = (model_of l.fn.model).blocks in
    l.rows.items ++ source_rows blocks l.owner (drop l.source-index l.sources) ≡ source_rows blocks l.fn.owner l.fn.sources
