use Rattle.std.proofs.Common.{◌≡◌, ◌∙◌, ◌&&◌, None, ap, subst}
use Rattle.std.specs.Prelude.{List, count_by}
use Rattle.diagram_meaning.specs.declared.table.Row.{Row}
use Rattle.diagram_meaning.specs.RowTable.{RowTable}
use Rattle.diagram_meaning.specs.ResolvedTree.{ResolvedTree, IsResolvedTree}
use Rattle.diagram_meaning.specs.Rows.{same_system}
use Rattle.diagram_blocks.specs.Kinds.{is_inport}
use Rattle.diagram_typed_runs.proofs.lemmas.TraceRows.{root-inputs}
use Rattle.test_solver.proofs.trace.input_count.Goals as goal

pub returns-clause-count : goal.returns-clause-count
returns-clause-count c =
    let table : c.as_slice.result.now ≡ c.args.r.now.tree.table.rows =
    c.as_slice.ensures.value ∙ ap (λ (t : RowTable). t.rows) (c.behind-r.view_is ∙ c.table.ensures.table)
    ∙ ap (λ (r : ResolvedTree). r.tree.table.rows) c.r.view_is in
    c.root_inports.ensures
    ∙ ap (λ (rows : List Row). count_by (λ (row : Row). same_system row.owner None && is_inport row.kind) rows) table
    ∙ root-inputs c.args.r.now (subst IsResolvedTree c.r.view_is c.r.invariant)
