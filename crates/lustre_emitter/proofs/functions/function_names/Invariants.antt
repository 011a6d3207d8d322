use Rattle.std.proofs.Common.{◌≡◌, map, take}
use Rattle.lustre_syntax.specs.Plain.{declared_names}
use Rattle.lustre_system.specs.Functions.{int_name}
use Rattle.lustre_emitter.proofs.functions.function_names.Given as goal

abbrev pub invariant-loop-param : goal.invariant-loop-param
invariant-loop-param l = declared_names l.names.items ≡ map int_name (take l.param-index l.params)
