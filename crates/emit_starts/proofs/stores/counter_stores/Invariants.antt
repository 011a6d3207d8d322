use Rattle.std.proofs.Common.{◌≡◌, map, length}
use Rattle.std.specs.List.{range_with_len}
use Rattle.c_syntax.specs.Plain.{stmt_tree}
use Rattle.emit_system_spec.specs.Fields.{child_field}
use Rattle.emit_system_spec.specs.Renewing.{zero_store}
use Rattle.emit_starts.proofs.stores.counter_stores.Given as goal

abbrev pub invariant-loop-k : goal.invariant-loop-k
invariant-loop-k l = map stmt_tree l.stores.items
    ≡ map zero_store (range_with_len (child_field l.layout.local (length l.layout.local.children)) l.k)
