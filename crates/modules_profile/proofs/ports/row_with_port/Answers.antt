use Rattle.std.proofs.Common.{eqb, ap, sym, ◌∙◌}
use Rattle.std.proofs.lemmas.Bool.{eq-eqb, ne_eqb}
use Rattle.diagram_meaning.specs.declared.table.Row.{Row}
use Rattle.diagram_meaning.specs.Rows.{row_at}
use Rattle.diagram_blocks.specs.Kinds.{port_of}
use Rattle.modules_profile.proofs.Found.{found-at, found-not}
use Rattle.modules_profile.proofs.ports.row_with_port.Goals as goal

pub returns-then-port-clause-first : goal.returns-then-port-clause-first
returns-then-port-clause-first c =
    found-at (λ b. eqb (port_of (row_at c.args.r.now.tree.table.rows b).kind) c.args.port) c.args.rows.now
    c.loop-b.b-index 0 c.loop-b-test.true c.loop-b.invariant
    (ap (λ (row : Row). eqb (port_of row.kind) c.args.port) (sym c.row.ensures.row)
    ∙ ap (λ k. eqb k c.args.port) (sym c.port.ensures) ∙ eq-eqb _ _ c.if-port.true)

pub loop-b-preserved : goal.loop-b-preserved
loop-b-preserved c =
    found-not (λ b. eqb (port_of (row_at c.args.r.now.tree.table.rows b).kind) c.args.port) c.args.rows.now
    c.loop-b.b-index 0 c.loop-b-test.true c.loop-b.invariant
    (ap (λ (row : Row). eqb (port_of row.kind) c.args.port) (sym c.row.ensures.row)
    ∙ ap (λ k. eqb k c.args.port) (sym c.port.ensures) ∙ ne_eqb _ _ c.if-port.false)
