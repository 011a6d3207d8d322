use Rattle.std.proofs.Common.{◌≡◌, ◌++◌, map, take}
use Rattle.std.specs.List.{enumerate_from}
use Rattle.emit_system_spec.specs.Sources.{output_source}
use Rattle.emit_layout_tables.proofs.sources.push_outputs.Given as goal

abbrev pub invariant-loop-k : goal.invariant-loop-k
invariant-loop-k l = l.list.items ≡ l.initial.list.items ++ map (output_source l.field) (enumerate_from 0 (take l.k l.outputs))
