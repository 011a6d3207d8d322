use Rattle.std.proofs.Common.{◌≡◌, ◌∙◌, true, cond, None, sym, ap}
use Rattle.std.specs.Option.{option_map}
use Rattle.diagram_blocks.specs.Kinds.{is_reset_outport}
use Rattle.diagram_meaning.specs.declared.table.Row.{Row}
use Rattle.diagram_meaning.specs.Rows.{row_at, system_control}
use Rattle.diagram_meaning.specs.ResolvedTree.{diagram_of}
use Rattle.emit_row_code.specs.TestCode.{disabled_by}
use Rattle.lustre_system.specs.Names.{control_leaves}
use Rattle.lustre_system.specs.RowEquations.{test_in}
use Rattle.lustre_row_equations.specs.Placed.{placed_expr}
use Rattle.lustre_row_equations.proofs.tests_of_rows.disabled.Goals as goal

pub returns : goal.returns
returns c =
    let d = diagram_of c.args.scope.now.diagram.now in
    let s = c.args.scope.now.system in
    let names = c.args.scope.now.names.now in
    let named = c.requires.named in
    let test = test_in d s (disabled_by (system_control d.rows s) (control_leaves d.rows s)) in
    let reset : is_reset_outport (row_at d.rows c.args.b).kind ≡ true =
    sym (c.is_reset_outport.ensures ∙ ap (λ (row : Row). is_reset_outport row.kind) c.row.ensures.row)
    ∙ c.if-not-is_reset_outport.false in
    c.in_ok-test_value.ensures d s named
    ∙ ap (λ t. option_map (placed_expr names) (test_in d s t))
    (c.in_ok-test.ensures
    ∙ (λ i. disabled_by (named.control i) (c.in_ok-control_leaves.ensures d.rows s None named i)))
    ∙ ap (λ t. option_map (placed_expr names) (cond t test None)) (sym reset)
