use Rattle.std.proofs.Common.{◌≡◌, map, take}
use Rattle.c_syntax.specs.Plain.{pure_tree}
use Rattle.emit_prelude.specs.Functions.{tree_of}
use Rattle.emit_prelude.proofs.functions.definitions.Given as goal

abbrev pub invariant-loop-function : goal.invariant-loop-function
invariant-loop-function l = map pure_tree l.definitions.items ≡ map tree_of (take l.function-index l.functions)
