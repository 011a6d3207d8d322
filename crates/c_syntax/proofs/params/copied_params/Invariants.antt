use Rattle.std.proofs.Common.{◌≡◌, take}
use Rattle.c_syntax.proofs.params.copied_params.Given as goal

abbrev pub invariant-loop-param : goal.invariant-loop-param
invariant-loop-param l = l.list.items ≡ take l.param-index l.params
