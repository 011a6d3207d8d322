use Rattle.std.proofs.Common.{◌≡◌, map, take}
use Rattle.std.specs.List.{range_with_len, zip}
use Rattle.base_core.specs.declared.base.Port.TheVariants.{Number}
use Rattle.emit_layout_tables.proofs.ports.input_types.Given as goal

abbrev pub invariant-loop-k : goal.invariant-loop-k
invariant-loop-k l = l.ports.items ≡ zip (map Number (range_with_len 1 l.k)) (map (λ e. e.out) (take l.k l.inports))
