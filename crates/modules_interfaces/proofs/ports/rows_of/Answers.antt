use Rattle.std.proofs.Common.{◌≡◌, ◌≤◌, ap, length, subst, sym, ◌∙◌, List}
use Rattle.std.specs.Prelude.{All}
use Rattle.diagram_meaning.specs.declared.table.Row.{Row}
use Rattle.diagram_meaning.specs.RowTable.{RowTable}
use Rattle.diagram_meaning.specs.ResolvedTree.{IsResolvedTree, ResolvedTree}
use Rattle.modules_interfaces.specs.PortCounts.{place_of}
use Rattle.modules_interfaces.proofs.PortLists.{places-within}
use Rattle.modules_interfaces.proofs.ports.rows_of.Goals as goal

rows-are : (c : goal.After-as_slice) → c.as_slice.result.now ≡ c.args.r.now.tree.table.rows
rows-are c = c.as_slice.ensures.value ∙ ap (λ (t : RowTable). t.rows) (c.behind-r.view_is ∙ c.table.ensures.table)
    ∙ ap (λ (r : ResolvedTree). r.tree.table.rows) c.r.view_is

pub returns-clause-rows : goal.returns-clause-rows
returns-clause-rows c = rows-are c

pub returns-clause-few : goal.returns-clause-few
returns-clause-few c =
    subst (λ (rows : List Row). length rows ≤ 20000) (sym (rows-are c))
    (subst IsResolvedTree c.r.view_is c.r.invariant).tree.table.nested.at_most

pub returns-clause-owners : goal.returns-clause-owners
returns-clause-owners c =
    subst (λ (rows : List Row). All (λ (row : Row). place_of row.owner ≤ length rows) rows) (sym (rows-are c))
    (places-within c.args.r.now.tree.table.rows (subst IsResolvedTree c.r.view_is c.r.invariant).tree.table.nested)
