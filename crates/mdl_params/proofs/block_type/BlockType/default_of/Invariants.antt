use Rattle.std.proofs.Common.{◌≡◌, drop}
use Rattle.mdl_params.specs.Language.{plain_parameters, parameters, default_among}
use Rattle.mdl_params.proofs.block_type.BlockType.default_of.Given as goal

abbrev pub invariant-loop-parameter : goal.invariant-loop-parameter
invariant-loop-parameter l = default_among l.name (plain_parameters (drop l.parameter-index l.parameter-items))
    ≡ default_among l.name (parameters l.fn.self)
