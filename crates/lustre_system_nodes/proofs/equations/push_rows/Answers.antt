use Rattle.std.proofs.Common.{List, map, ◌++◌, ap, ◌∙◌}
use Rattle.diagram_meaning.specs.ResolvedTree.{diagram_of}
use Rattle.diagram_meaning.specs.Rows.{rows_of}
use Rattle.lustre_syntax.specs.Plain.{equation_tree}
use Rattle.lustre_syntax.specs.Tree.{EquationTree}
use Rattle.lustre_system.specs.RowEquations.{row_equations}
use Rattle.lustre_row_equations.specs.Placed.{placed_equation, placed_equations}
use Rattle.lustre_system_nodes.specs.declared.own_rows.OwnRow.{OwnRow}
use Rattle.lustre_system_nodes.proofs.NameSteps.{flat-own}
use Rattle.lustre_system_nodes.proofs.NodeParts.{map-flat}
use Rattle.lustre_system_nodes.proofs.OwnSteps.{row-is, row-inside}
use Rattle.lustre_system_nodes.proofs.Steps.{flat-next}
use Rattle.lustre_system_nodes.proofs.equations.push_rows.Goals as goal

pub push_row-requires-clause-inside : goal.push_row-requires-clause-inside
push_row-requires-clause-inside c =
    row-inside c.args.r.now.tree.table.rows c.args.parts.now.row c.as_slice-own.result.now c.loop-row.row-index c.row-item.result
    (c.as_slice-own.ensures.value ∙ c.requires.parts.own) c.loop-row-test.true c.row-item.is

pub push_row-requires-clause-row : goal.push_row-requires-clause-row
push_row-requires-clause-row c =
    row-is c.args.r.now.tree.table.rows c.args.parts.now.row c.as_slice-own.result.now c.loop-row.row-index c.row-item.result
    (c.as_slice-own.ensures.value ∙ c.requires.parts.own) c.loop-row-test.true c.row-item.is

pub loop-row-preserved : goal.loop-row-preserved
loop-row-preserved c =
    flat-next (λ (x : OwnRow). placed_equations c.args.names.now (row_equations (diagram_of c.args.r.now) c.args.parts.now.row x.row))
    c.as_slice-own.result.now c.loop-row.row-index c.row-item.result (map equation_tree c.args.equations.now.items)
    (map equation_tree c.loop-row.equations.items) (map equation_tree c.push_row.new.equations.items) c.loop-row-test.true
    c.row-item.is c.loop-row.invariant c.in_ok-push_row.ensures

pub returns : goal.returns
returns c =
    let d = diagram_of c.args.r.now in
    let s = c.args.parts.now.row in
    let before = map equation_tree c.args.equations.now.items in
    flat-own d c.args.parts.now c.requires.parts (λ b. placed_equations c.args.names.now (row_equations d s b))
    c.as_slice-own.result.now c.loop-row.row-index before (map equation_tree c.loop-row.equations.items)
    c.as_slice-own.ensures.value c.loop-row-test.false c.loop-row.invariant
    ∙ ap (λ (es : List EquationTree). before ++ es) (map-flat (placed_equation c.args.names.now) (row_equations d s) (rows_of d.rows s))
