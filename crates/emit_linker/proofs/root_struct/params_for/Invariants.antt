use Rattle.std.proofs.Common.{◌≡◌, map, take}
use Rattle.c_syntax.specs.Plain.{param_trees}
use Rattle.emit_linker.specs.Ports.{param_of}
use Rattle.emit_linker.proofs.root_struct.params_for.Given as goal

abbrev pub invariant-loop-inport : goal.invariant-loop-inport
invariant-loop-inport l = param_trees l.params.items ≡ map param_of (take l.inport-index l.inports)
