use Rattle.std.proofs.Common.{ℕ, ◌∙◌, ap, length}
use Rattle.std.specs.List.{range_with_len}
use Rattle.base_refusals.specs.FirstRefusal.{least_line, as_plain, earlier_of, least_in}
use Rattle.diagram_meaning.specs.TypeRefusals.{type_faults}
use Rattle.diagram_meaning.specs.Rows.{row_numbers}
use Rattle.base_refusals.proofs.lemmas.FirstRefusals.{least-each}
use Rattle.diagram_types.proofs.lemmas.PassLemmas.{least-more, least-end}
use Rattle.diagram_types.proofs.passes.least_bad_type.Goals as goal

pub loop-b-preserved : goal.loop-b-preserved
loop-b-preserved c =
    let rows = c.args.rows.now in
    let found = (λ (b : ℕ). least_line (type_faults rows b)) in
    least-more found (length rows) c.loop-b.b (as_plain c.loop-b.least) (as_plain c.earlier-least.result)
    (least_in found (range_with_len 0 (length rows)))
    c.loop-b-test.true (c.earlier-least.ensures ∙ ap (earlier_of (as_plain c.loop-b.least)) c.type_fault.ensures) c.loop-b.invariant

pub returns : goal.returns
returns c =
    let rows = c.args.rows.now in
    let found = (λ (b : ℕ). least_line (type_faults rows b)) in
    least-end found (length rows) c.loop-b.b (as_plain c.loop-b.least) (least_in found (range_with_len 0 (length rows)))
    c.loop-b-test.false c.loop-b.invariant
    ∙ least-each (type_faults rows) (row_numbers rows)
