use Rattle.std.proofs.Common.{◌≡◌, ◌<◌, length, subst, sym, ◌∙◌, ap}
use Rattle.diagram_meaning.specs.declared.table.Row.{Row}
use Rattle.diagram_meaning.specs.RowTable.{RowTable}
use Rattle.std.specs.Prelude.{List, [], ◌∷◌, ◌++◌, slice_index_or}
use Rattle.diagram_meaning.proofs.lemmas.Resolving.{ops_more}
use Rattle.diagram_meaning.proofs.resolve.operations.Goals as goal

pub loop-b-preserved : goal.loop-b-preserved
loop-b-preserved c =
    let rows = c.args.table.now.rows in
    let same : c.as_slice-row-items.result.now ≡ rows =
    c.as_slice-row-items.ensures.value ∙ ap (λ (t : RowTable). t.rows) c.table.view_is in
    let inside : c.loop-b.b < length rows = subst (λ (xs : List Row). c.loop-b.b < length xs) same c.loop-b-test.true in
    let row = subst (λ (xs : List Row). c.row-item.result ≡ slice_index_or xs c.loop-b.b c.row-item.result) same c.row-item.is in
    let more =
    ops_more rows c.args.types.now c.args.delays.now c.loop-b.b c.row-item.result c.index-types-b.result
    c.in_ok-operation.field-0 row c.index-types-b.is inside c.requires.types c.in_ok-operation.ensures in
    c.in_ok-push.ensures.items ∙ ap (λ xs. xs ++ c.in_ok-operation.field-0 ∷ []) c.loop-b.invariant ∙ sym more
