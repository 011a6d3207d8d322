use Rattle.std.proofs.Common.{◌≡◌, ◌-◌, length}
use Rattle.std.specs.List.{range_with_len}
use Rattle.base_refusals.specs.Refusals.{TriggerSigned}
use Rattle.diagram_meaning.specs.TypeRefusals.{has_signed_trigger, line_at}
use Rattle.base_refusals.specs.FirstRefusal.{as_plain, earlier_of, least_in, found_where}
use Rattle.diagram_types.proofs.passes.least_signed_trigger.Given as goal

abbrev pub invariant-loop-b : goal.invariant-loop-b
invariant-loop-b l =
    let rows = l.rows in
    let found = (found_where (has_signed_trigger rows) (λ e. TriggerSigned (line_at rows e))) in
    earlier_of (as_plain l.least) (least_in found (range_with_len l.b (length rows - l.b)))
    ≡ least_in found (range_with_len 0 (length rows))
