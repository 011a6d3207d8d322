use Rattle.std.proofs.Common.{sym, ◌∙◌, ap, ◌≡◌, true}
use Rattle.std.proofs.lemmas.List.{get_or_default}
use Rattle.diagram_meaning.specs.Rows.{row_at, no_row}
use Rattle.tool_system_driver.specs.Ports.{is_at, is_port}
use Rattle.tool_system_driver.proofs.RowPasses.{first-row, no-row, one-more}
use Rattle.tool_system_driver.proofs.ports.row_with.Goals as goal

pub returns-then-is_with-clause-found : goal.returns-then-is_with-clause-found
returns-then-is_with-clause-found c =
    let rows = c.args.rows.now in
    let here = c.index-rows-b.is ∙ get_or_default rows c.loop-b.b c.index-rows-b.result no_row c.loop-b-test.true in
    let passes : is_at (is_port c.args.side) c.args.system c.args.port (row_at rows c.loop-b.b) ≡ true =
    ap (is_at (is_port c.args.side) c.args.system c.args.port) (sym here) ∙ sym c.is_with.ensures ∙ c.if-is_with.true in
    first-row rows
    (λ b. is_at (is_port c.args.side) c.args.system c.args.port (row_at rows b)) c.loop-b.b c.loop-b-test.true c.loop-b.invariant passes

pub returns-clause-found : goal.returns-clause-found
returns-clause-found c =
    no-row c.args.rows.now (λ b. is_at (is_port c.args.side) c.args.system c.args.port (row_at c.args.rows.now b)) c.loop-b.b
    c.loop-b-test.false c.loop-b.invariant

pub loop-b-preserved : goal.loop-b-preserved
loop-b-preserved c =
    let rows = c.args.rows.now in
    let here = c.index-rows-b.is ∙ get_or_default rows c.loop-b.b c.index-rows-b.result no_row c.loop-b-test.true in
    one-more (λ b. is_at (is_port c.args.side) c.args.system c.args.port (row_at rows b)) c.loop-b.b c.loop-b.invariant
    (ap (is_at (is_port c.args.side) c.args.system c.args.port) (sym here) ∙ sym c.is_with.ensures ∙ c.if-is_with.false)
