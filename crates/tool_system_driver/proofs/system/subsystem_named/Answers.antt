use Rattle.std.proofs.Common.{sym, ◌∙◌, ap, ◌≡◌, true, decimal, bytes_eq}
use Rattle.std.proofs.lemmas.Bool.{and_from}
use Rattle.std.proofs.lemmas.List.{get_or_default}
use Rattle.diagram_meaning.specs.declared.table.Row.{Row}
use Rattle.diagram_meaning.specs.Rows.{row_at, no_row}
use Rattle.diagram_blocks.specs.Kinds.{is_subsystem}
use Rattle.tool_system_driver.specs.Words.{is_named}
use Rattle.tool_system_driver.proofs.RowPasses.{first-row, no-row}
use Rattle.tool_system_driver.proofs.system.subsystem_named.Goals as goal

pub returns-then-is_number-clause-found : goal.returns-then-is_number-clause-found
returns-then-is_number-clause-found c =
    let rows = c.args.rows.now in
    let e = c.loop-e.e in
    let here = c.index-rows-e.is ∙ get_or_default rows e c.index-rows-e.result no_row c.loop-e-test.true in
    let subsystem : is_subsystem (row_at rows e).kind ≡ true =
    ap (λ (row : Row). is_subsystem row.kind) (sym here) ∙ sym c.is_subsystem.ensures ∙ c.if-is_subsystem.true in
    first-row rows (is_named rows c.args.word.now) e c.loop-e-test.true c.loop-e.invariant
    (and_from (is_subsystem (row_at rows e).kind) (bytes_eq (decimal e) c.args.word.now) subsystem
    (sym c.is_number.ensures ∙ c.if-is_number.true))

pub returns-clause-found : goal.returns-clause-found
returns-clause-found c =
    no-row c.args.rows.now (is_named c.args.rows.now c.args.word.now) c.loop-e.e c.loop-e-test.false c.loop-e.invariant
