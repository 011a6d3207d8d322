use Rattle.std.proofs.Common.{◌≡◌, ◌-◌, length}
use Rattle.std.specs.List.{range_with_len}
use Rattle.std.specs.Prelude.{nat_lt}
use Rattle.base_refusals.specs.Refusals.{TooWide}
use Rattle.diagram_meaning.specs.TypeRefusals.{bits_of_row, line_at}
use Rattle.base_refusals.specs.FirstRefusal.{as_plain, earlier_of, least_in, found_where}
use Rattle.diagram_types.proofs.passes.least_wide_row.Given as goal

abbrev pub invariant-loop-b : goal.invariant-loop-b
invariant-loop-b l =
    let rows = l.rows in
    let types = l.types in
    let found = (found_where (λ b. nat_lt 62 (bits_of_row rows types b)) (λ b. TooWide (line_at rows b) (bits_of_row rows types b))) in
    earlier_of (as_plain l.least) (least_in found (range_with_len l.b (length rows - l.b)))
    ≡ least_in found (range_with_len 0 (length rows))
