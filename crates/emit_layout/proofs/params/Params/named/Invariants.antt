use Rattle.std.proofs.Common.{◌≡◌, take}
use Rattle.c_syntax.specs.Plain.{param_trees}
use Rattle.emit_layout.specs.Parameters.{named_params}
use Rattle.emit_layout.proofs.params.Params.named.Given as goal

abbrev pub invariant-loop-parameter : goal.invariant-loop-parameter
invariant-loop-parameter l = param_trees l.named.items ≡ named_params (take l.parameter-index l.parameter-items)
