use Rattle.std.proofs.Common.{◌≡◌, drop, length, map}
use Rattle.std.specs.List.{range_with_len, sum_by}
use Rattle.emit_shape.specs.Assembled.{first_procedure}
use Rattle.emit_linker.specs.Places.{trees}
use Rattle.emit_linker.proofs.tables.firsts_of.Given as goal

abbrev pub invariant-loop-code : goal.invariant-loop-code
invariant-loop-code l = record {
  later : l.later ≡ sum_by (λ c. length c.procedures) (drop l.code-index (trees l.list));
  firsts : l.firsts.items ≡ map (first_procedure (trees l.list)) (range_with_len 0 l.code-index);
}
