use Rattle.std.proofs.Common.{sym, ◌∙◌, ap, subst, ℕ, List, Option, ◌<◌, length, All, Contains}
use Rattle.diagram_meaning.specs.declared.table.Row.{Row}
use Rattle.base_core.specs.Ports.{control_ports}
use Rattle.diagram_meaning.specs.Rows.{row_at}
use Rattle.diagram_blocks.specs.Kinds.{control_of}
use Rattle.modules_profile.specs.Systems.{systems}
use Rattle.tool_system_driver.proofs.ControlTypes.{one-each, wires-inside}
use Rattle.tool_system_driver.proofs.SystemRows.{of-systems}
use Rattle.tool_system_driver.proofs.controls.controls_of.Goals as goal

pub row-row-requires : goal.row-row-requires
row-row-requires c =
    let rows = c.args.r.now.tree.table.rows in
    (of-systems rows c.in-Some.e (subst (λ (s : Option ℕ). Contains (systems rows) s) c.in-Some.is c.requires)).0

pub typed_controls-requires-clause-each : goal.typed_controls-requires-clause-each
typed_controls-requires-clause-each c =
    let rows = c.args.r.now.tree.table.rows in
    let is = of-systems rows c.in-Some.e (subst (λ (s : Option ℕ). Contains (systems rows) s) c.in-Some.is c.requires) in
    ap (λ (wires : List ℕ). length wires) (c.wires.ensures ∙ ap (λ (row : Row). row.inputs) c.row-row.ensures.row)
    ∙ one-each rows c.is_resolved.ensures.tree.table.wired c.in-Some.e is.0 is.1
    ∙ ap (λ (row : Row). length (control_ports (control_of row.kind))) (sym {A = Row} c.row-row.ensures.row)
    ∙ ap (λ control. length (control_ports control)) (sym c.control.ensures)

pub typed_controls-requires-clause-inside : goal.typed_controls-requires-clause-inside
typed_controls-requires-clause-inside c =
    let rows = c.args.r.now.tree.table.rows in
    let e = c.in-Some.e in
    let is = of-systems rows e (subst (λ (s : Option ℕ). Contains (systems rows) s) c.in-Some.is c.requires) in
    let wires = c.wires.ensures ∙ ap (λ (row : Row). row.inputs) c.row-row.ensures.row in
    subst (λ (ws : List ℕ). All (λ b. b < length c.types_of.result.now) ws) (sym wires)
    (subst (λ n. All (λ b. b < n) (row_at rows e).inputs) (sym c.types_of.ensures.each)
    (wires-inside rows c.is_resolved.ensures.tree.table.wired e is.0))
