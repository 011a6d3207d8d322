use Rattle.std.proofs.Common.{◌≡◌, ◌<◌, List, length, All, ap, subst, sym, ◌∙◌, arith}
use Rattle.std.proofs.lemmas.List.{get_or_read}
use Rattle.diagram_meaning.specs.declared.table.Row.{Row}
use Rattle.diagram_meaning.specs.RowTable.{RowTable}
use Rattle.diagram_meaning.specs.ResolvedTree.{ResolvedTree, IsResolvedTree}
use Rattle.diagram_meaning.specs.Rows.{row_at, no_row}
use Rattle.diagram_meaning.proofs.WiredRows.{wires-inside}
use Rattle.diagram_meaning.proofs.resolved.Resolved.row.Goals as goal

pub returns-clause-wires : goal.returns-clause-wires
returns-clause-wires c =
    let rows = c.args.self.now.tree.table.rows in
    let rows_is : c.behind-self.inside.rows.items ≡ rows =
    ap (λ (t : RowTable). t.rows) (c.behind-self.view_is ∙ c.table.ensures.table)
    ∙ ap (λ (v : ResolvedTree). v.tree.table.rows) c.self.view_is in
    let below : c.args.b < length c.behind-self.inside.rows.items = omega (arith, ap (λ (xs : List Row). length xs) rows_is) in
    let row : c.index.result.now ≡ row_at rows c.args.b =
    get_or_read c.behind-self.inside.rows.items c.args.b c.index.result.now below c.index.ensures no_row
    ∙ ap (λ (xs : List Row). row_at xs c.args.b) rows_is in
    subst (λ (row : Row). All (λ b. b < length rows) row.inputs) (sym row)
    (wires-inside rows (subst IsResolvedTree c.self.view_is c.self.invariant).tree.table.wired c.args.b c.requires)
