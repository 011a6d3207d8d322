use Rattle.std.proofs.Common.{◌∙◌, ap, length}
use Rattle.std.specs.List.{range_with_len}
use Rattle.std.specs.Prelude.{nat_lt}
use Rattle.base_refusals.specs.Refusals.{TooWide}
use Rattle.diagram_meaning.specs.TypeRefusals.{bits_of_row, line_at}
use Rattle.diagram_meaning.specs.Rows.{row_numbers}
use Rattle.base_refusals.specs.FirstRefusal.{as_plain, earlier_of, least_in, found_where}
use Rattle.base_refusals.proofs.lemmas.FirstRefusals.{least-where}
use Rattle.diagram_types.proofs.lemmas.PassLemmas.{least-more, least-end}
use Rattle.diagram_types.proofs.passes.least_wide_row.Goals as goal

pub loop-b-preserved : goal.loop-b-preserved
loop-b-preserved c =
    let rows = c.args.rows.now in
    let types = c.args.types.now in
    let found = (found_where (λ b. nat_lt 62 (bits_of_row rows types b)) (λ b. TooWide (line_at rows b) (bits_of_row rows types b))) in
    least-more found (length rows) c.loop-b.b (as_plain c.loop-b.least) (as_plain c.earlier-least.result)
    (least_in found (range_with_len 0 (length rows)))
    c.loop-b-test.true (c.earlier-least.ensures ∙ ap (earlier_of (as_plain c.loop-b.least)) c.in_ok-wide_fault.ensures) c.loop-b.invariant

pub returns : goal.returns
returns c =
    let rows = c.args.rows.now in
    let types = c.args.types.now in
    let found = (found_where (λ b. nat_lt 62 (bits_of_row rows types b)) (λ b. TooWide (line_at rows b) (bits_of_row rows types b))) in
    least-end found (length rows) c.loop-b.b (as_plain c.loop-b.least) (least_in found (range_with_len 0 (length rows)))
    c.loop-b-test.false c.loop-b.invariant
    ∙ least-where (λ b. nat_lt 62 (bits_of_row rows types b)) (λ b. TooWide (line_at rows b) (bits_of_row rows types b)) (row_numbers rows)
