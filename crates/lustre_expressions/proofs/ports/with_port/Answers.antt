use Rattle.std.proofs.Common.{eqb, sym, ap, ◌∙◌}
use Rattle.std.proofs.lemmas.Bool.{eq-eqb, ne_eqb}
use Rattle.diagram_blocks.specs.Kinds.{port_of}
use Rattle.diagram_meaning.specs.Rows.{row_at}
use Rattle.emit_row_facts.proofs.lemmas.Steps.{found-at, found-not}
use Rattle.lustre_expressions.proofs.ports.with_port.Goals as goal

pub returns-then-port_at-port : goal.returns-then-port_at-port
returns-then-port_at-port c =
    found-at (λ b. eqb (port_of (row_at c.args.rows.now b).kind) c.args.port) c.args.among.now c.loop-b.b-index 0
    c.loop-b-test.true c.loop-b.invariant
    (ap (λ n. eqb n c.args.port) (sym c.port_at.ensures) ∙ eq-eqb _ _ c.if-port_at-port.true)

pub loop-b-preserved : goal.loop-b-preserved
loop-b-preserved c =
    found-not (λ b. eqb (port_of (row_at c.args.rows.now b).kind) c.args.port) c.args.among.now c.loop-b.b-index 0
    c.loop-b-test.true c.loop-b.invariant
    (ap (λ n. eqb n c.args.port) (sym c.port_at.ensures) ∙ ne_eqb _ _ c.if-port_at-port.false)
