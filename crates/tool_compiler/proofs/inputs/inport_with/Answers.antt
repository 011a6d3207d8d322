use Rattle.std.proofs.Common.{sym, ◌∙◌, ap, arith, length, ◌≡◌, true, ◌<◌}
use Rattle.std.proofs.lemmas.List.{get_or_default}
use Rattle.diagram_meaning.specs.Rows.{row_at, no_row}
use Rattle.tool_compiler.specs.Inputs.{is_root_inport_with}
use Rattle.tool_compiler.proofs.RowPasses.{first-in-range, none-in-range}
use Rattle.tool_compiler.proofs.inputs.inport_with.Goals as goal

pub returns-then-is_root_port-clause-found : goal.returns-then-is_root_port-clause-found
returns-then-is_root_port-clause-found c =
    let rows = c.args.rows.now in
    let below : c.loop-b.b < length rows = c.loop-b-test.true in
    let here = c.index-rows-b.is ∙ get_or_default rows c.loop-b.b c.index-rows-b.result no_row below in
    let passes : is_root_inport_with c.args.port (row_at rows c.loop-b.b) ≡ true =
    ap (is_root_inport_with c.args.port) (sym here) ∙ sym c.is_root_port.ensures ∙ c.if-is_root_port.true in
    sym (first-in-range (λ b. is_root_inport_with c.args.port (row_at rows b)) (length rows) 0 c.loop-b.b (omega arith)
    (omega (arith, below)) (λ k above under. c.loop-b.invariant k under) passes)

pub returns-clause-found : goal.returns-clause-found
returns-clause-found c =
    let rows = c.args.rows.now in
    let past = c.loop-b-test.false in
    let within = c.loop-b.auto.b-end in
    sym (none-in-range (λ b. is_root_inport_with c.args.port (row_at rows b)) (length rows) 0
    (λ k above under. c.loop-b.invariant k (omega (arith, under, past, within))))
