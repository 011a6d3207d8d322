use Rattle.std.proofs.Common.{◌≡◌, map}
use Rattle.std.specs.List.{range_with_len}
use Rattle.emit_shape.specs.SystemTree.{system_tree}
use Rattle.emit_shape.specs.Assembled.{has_procedure, numbered_name}
use Rattle.emit_linker.proofs.OutNames.{Pass}
use Rattle.emit_linker.proofs.public.out_names.Given as goal

abbrev pub invariant-loop-before : goal.invariant-loop-before
invariant-loop-before l = record {
  found : l.names.items ≡ map (numbered_name (system_tree l.code)) (range_with_len 1 l.before);
  passed : Pass (λ j. has_procedure (system_tree l.code) (numbered_name (system_tree l.code) j)) l.before;
}
