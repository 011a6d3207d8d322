use Rattle.std.proofs.Common.{◌≡◌, map, take, Some}
use Rattle.c_syntax.specs.Plain.{param_trees}
use Rattle.c_checked.specs.Checked.{fix_type}
use Rattle.c_outputs.proofs.interface.input_types.Given as goal

abbrev pub invariant-loop-param : goal.invariant-loop-param
invariant-loop-param l = map (λ q. fix_type q.type) (param_trees (take l.param-index l.params)) ≡ map Some l.types.items
