use Rattle.std.proofs.Common.{ℕ, ◌≡◌, ◌-◌, length}
use Rattle.std.specs.List.{range_with_len}
use Rattle.base_refusals.specs.FirstRefusal.{least_line, as_plain, earlier_of, least_in}
use Rattle.diagram_meaning.specs.TypeRefusals.{type_faults}
use Rattle.diagram_types.proofs.passes.least_bad_type.Given as goal

abbrev pub invariant-loop-b : goal.invariant-loop-b
invariant-loop-b l =
    let rows = l.rows in
    let found = (λ (b : ℕ). least_line (type_faults rows b)) in
    earlier_of (as_plain l.least) (least_in found (range_with_len l.b (length rows - l.b)))
    ≡ least_in found (range_with_len 0 (length rows))
