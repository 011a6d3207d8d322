use Rattle.std.proofs.Common.{◌∙◌, ◌++◌, map, ap, Some}
use Rattle.c_syntax.specs.Plain as plain
use Rattle.lustre_syntax.specs.Plain.{equation_tree}
use Rattle.lustre_system.specs.FromC.{value_of, calls_of}
use Rattle.lustre_system.specs.Functions.{function_name}
use Rattle.lustre_system.specs.Names.{leaf_name, part_name}
use Rattle.lustre_expressions.specs.Namings.{row_naming}
use Rattle.lustre_expressions.specs.Placed.{placed_calls}
use Rattle.lustre_row_equations.specs.Placed.{placed_expr, placed_equations}
use Rattle.lustre_row_equations.proofs.SystemNames.{value_is, calls_are}
use Rattle.lustre_row_equations.proofs.values.computed.Goals as goal

pub returns-clause-value : goal.returns-clause-value
returns-clause-value c =
    let names = c.args.scope.now.names.now in
    let rows = c.args.scope.now.diagram.now.tree.table.rows in
    let s = c.args.scope.now.system in
    c.in_ok-value.ensures.value ∙ value_is names rows s c.requires.named c.args.b (plain.expr_tree c.in_ok-code.code)
    ∙ ap (λ e. placed_expr names (value_of (leaf_name rows s) function_name (part_name c.args.b) e)) c.in_ok-code.ensures

pub returns-clause-calls : goal.returns-clause-calls
returns-clause-calls c =
    let names = c.args.scope.now.names.now in
    let rows = c.args.scope.now.diagram.now.tree.table.rows in
    let s = c.args.scope.now.system in
    let code = plain.expr_tree c.in_ok-code.code in
    c.in_ok-value.ensures.calls
    ∙ ap (λ l. map equation_tree l ++ placed_calls (row_naming (record names { row = Some c.args.b })) 0 code)
    c.new.ensures.items
    ∙ calls_are names rows s c.requires.named c.args.b code
    ∙ ap (λ e. placed_equations names (calls_of (leaf_name rows s) function_name (part_name c.args.b) e)) c.in_ok-code.ensures
