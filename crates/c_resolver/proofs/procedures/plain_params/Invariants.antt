use Rattle.std.proofs.Common.{◌≡◌, map, take}
use Rattle.c_resolver.specs.Params.{plain_param}
use Rattle.c_resolver.proofs.procedures.plain_params.Given as goal

abbrev pub invariant-loop-param : goal.invariant-loop-param
invariant-loop-param l = l.plain.items ≡ map plain_param (take l.param-index l.params)
