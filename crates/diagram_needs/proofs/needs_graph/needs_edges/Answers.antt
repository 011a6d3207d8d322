use Rattle.std.proofs.Common.{◌≡◌, ◌∙◌, ◌++◌, ◌&&◌, ◌<◌, ℕ, Option, List, [], refl, map, length, slice_index_or, ap, subst, arith, if◌then◌else◌}
use Rattle.std.proofs.lemmas.List.{get_or_default}
use Rattle.diagram_blocks.specs.declared.Op.{Op}
use Rattle.diagram_blocks.specs.declared.Op.TheVariants.{Nothing}
use Rattle.diagram_blocks.specs.Value.{feeds_through}
use Rattle.diagram_meaning.specs.declared.table.Row.{Row}
use Rattle.diagram_meaning.specs.RowTable.{RowTable}
use Rattle.diagram_meaning.specs.ResolvedTree.{ResolvedTree, IsResolvedTree, diagram_of}
use Rattle.diagram_meaning.specs.Diagram.{Diagram, op_at, op_in}
use Rattle.diagram_meaning.specs.Rows.{row_at, no_row, same_system, is_inport_of, around_inside}
use Rattle.diagram_blocks.specs.Kinds.{is_inport}
use Rattle.diagram_meaning.specs.Needs.{inputs_used, needs_inside}
use Rattle.diagram_meaning.specs.Inputs.{wires_of_rows}
use Rattle.diagram_meaning.proofs.lemmas.ByRow.{length-by_row}
use Rattle.diagram_needs.specs.Needed.{AreEdgesBelow}
use Rattle.diagram_needs.proofs.GraphSteps.{edges_to, edges-step}
use Rattle.diagram_needs.proofs.needs_graph.needs_edges.Goals as goal

-- one operation for each row
ops-len : (r : ResolvedTree) → IsResolvedTree r → length r.ops ≡ length r.tree.table.rows
ops-len r is = ap length is.resolved.are_ops ∙ length-by_row r.tree.table.rows (op_in r.tree.table.rows r.types r.times.delays)

pub bounds-ops-b : goal.bounds-ops-b
bounds-ops-b c =
    let rows_is = c.as_slice-rows.ensures.value
    ∙ ap (λ (t : RowTable). t.rows) (c.behind-r.view_is ∙ c.table.ensures.table)
    ∙ ap (λ (v : ResolvedTree). v.tree.table.rows) c.r.view_is in
    let ops_is = c.as_slice-ops.ensures.value ∙ ap (λ (v : ResolvedTree). v.ops) c.r.view_is in
    let lr = ap length rows_is in
    let lo = ap length ops_is in
    let same = ops-len c.args.r.now (subst IsResolvedTree c.r.view_is c.r.invariant) in
    let t = c.loop-b-test.true in
    omega (arith, lr, lo, same, t)

-- what was read of a row, in the words of the diagram
used-of : (d : Diagram) (s : Option ℕ) (n : ℕ) (edges half : List (ℕ × ℕ)) (row : Row) (op : Op) → row ≡ row_at d.rows n → op ≡ op_at d n →
    half ≡ edges ++ map (λ a. (a, n)) (if is_inport row.kind && same_system row.owner s then []
    else (if feeds_through op then row.inputs else [])) →
    half ≡ edges ++ edges_to n (if is_inport_of d.rows s n then [] else inputs_used d n)
used-of d s n edges half row op e f h =
    h ∙ λ i. edges ++ edges_to n (if is_inport (e i).kind && same_system (e i).owner s then []
    else (if feeds_through (f i) then (e i).inputs else []))

pub loop-b-preserved : goal.loop-b-preserved
loop-b-preserved c =
    let d = diagram_of c.args.r.now in
    let rows_is = c.as_slice-rows.ensures.value
    ∙ ap (λ (t : RowTable). t.rows) (c.behind-r.view_is ∙ c.table.ensures.table)
    ∙ ap (λ (v : ResolvedTree). v.tree.table.rows) c.r.view_is in
    let ops_is = c.as_slice-ops.ensures.value ∙ ap (λ (v : ResolvedTree). v.ops) c.r.view_is in
    let lr = ap length rows_is in
    let lo = ap length ops_is in
    let same = ops-len c.args.r.now (subst IsResolvedTree c.r.view_is c.r.invariant) in
    let in_rows : c.loop-b.b < length c.as_slice-rows.result.now = c.loop-b-test.true in
    let in_ops : c.loop-b.b < length c.as_slice-ops.result.now = omega (arith, lr, lo, same, in_rows) in
    let row =
    c.index-rows-b.is ∙ get_or_default c.as_slice-rows.result.now c.loop-b.b c.index-rows-b.result no_row in_rows
    ∙ ap (λ (l : List Row). row_at l c.loop-b.b) rows_is in
    let op = c.index-ops-b.is ∙ get_or_default c.as_slice-ops.result.now c.loop-b.b c.index-ops-b.result Nothing in_ops
    ∙ ap (λ (l : List Op). slice_index_or l c.loop-b.b Nothing) ops_is in
    let used = used-of d c.args.system c.loop-b.b c.loop-b.edges.items c.push_used.new.edges.items
    c.index-rows-b.result c.index-ops-b.result row op c.in_ok-push_used.ensures in
    let controls = c.in_ok-push_controls.ensures
    ∙ ap (λ (l : List Row). c.push_used.new.edges.items
    ++ edges_to c.loop-b.b (wires_of_rows l (around_inside l c.args.system c.loop-b.b))) rows_is in
    edges-step (needs_inside d c.args.system) c.loop-b.b c.loop-b.edges.items c.push_used.new.edges.items c.push_controls.new.edges.items
    (if is_inport_of d.rows c.args.system c.loop-b.b then [] else inputs_used d c.loop-b.b)
    (wires_of_rows d.rows (around_inside d.rows c.args.system c.loop-b.b)) refl used controls c.loop-b.invariant

pub returns : goal.returns
returns c =
    let rows_is = c.as_slice-rows.ensures.value
    ∙ ap (λ (t : RowTable). t.rows) (c.behind-r.view_is ∙ c.table.ensures.table)
    ∙ ap (λ (v : ResolvedTree). v.tree.table.rows) c.r.view_is in
    let lr = ap length rows_is in
    let low = c.loop-b-test.false in
    let high = c.loop-b.auto.b-end in
    let all : c.loop-b.b ≡ length c.args.r.now.tree.table.rows = omega (arith, lr, low, high) in
    subst (λ n. AreEdgesBelow (needs_inside (diagram_of c.args.r.now) c.args.system) n c.loop-b.edges.items) all c.loop-b.invariant
