use Rattle.std.proofs.Common.{◌∙◌}
use Rattle.diagram_meaning.specs.ResolvedTree.{diagram_of}
use Rattle.lustre_system.specs.RowEquations.{row_names}
use Rattle.lustre_system_nodes.specs.declared.own_rows.OwnRow.{OwnRow}
use Rattle.lustre_system_nodes.proofs.NameSteps.{flat-own}
use Rattle.lustre_system_nodes.proofs.OwnSteps.{row-is, row-inside}
use Rattle.lustre_system_nodes.proofs.Steps.{flat-next}
use Rattle.lustre_system_nodes.proofs.node_names.push_rows.Goals as goal

pub push_row-requires-clause-inside : goal.push_row-requires-clause-inside
push_row-requires-clause-inside c =
    row-inside c.args.r.now.tree.table.rows c.args.parts.now.row c.as_slice-own.result.now c.loop-row.row-index c.row-item.result
    (c.as_slice-own.ensures.value ∙ c.requires.own) c.loop-row-test.true c.row-item.is

pub push_row-requires-clause-row : goal.push_row-requires-clause-row
push_row-requires-clause-row c =
    row-is c.args.r.now.tree.table.rows c.args.parts.now.row c.as_slice-own.result.now c.loop-row.row-index c.row-item.result
    (c.as_slice-own.ensures.value ∙ c.requires.own) c.loop-row-test.true c.row-item.is

pub loop-row-preserved : goal.loop-row-preserved
loop-row-preserved c =
    flat-next (λ (x : OwnRow). row_names (diagram_of c.args.r.now) c.args.parts.now.row x.row) c.as_slice-own.result.now
    c.loop-row.row-index c.row-item.result c.args.list.now c.loop-row.list c.push_row.new.list c.loop-row-test.true c.row-item.is
    c.loop-row.invariant c.in_ok-push_row.ensures

pub returns : goal.returns
returns c =
    let d = diagram_of c.args.r.now in
    flat-own d c.args.parts.now c.requires (row_names d c.args.parts.now.row) c.as_slice-own.result.now c.loop-row.row-index
    c.args.list.now c.loop-row.list c.as_slice-own.ensures.value c.loop-row-test.false c.loop-row.invariant
