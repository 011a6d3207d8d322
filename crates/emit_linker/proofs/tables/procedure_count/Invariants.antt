use Rattle.std.proofs.Common.{◌≡◌, length, take}
use Rattle.std.specs.List.{sum_by}
use Rattle.emit_linker.specs.Places.{trees}
use Rattle.emit_linker.proofs.tables.procedure_count.Given as goal

abbrev pub invariant-loop-code : goal.invariant-loop-code
invariant-loop-code l = l.count ≡ sum_by (λ c. length c.procedures) (trees (take l.code-index l.list))
