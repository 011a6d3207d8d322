use Rattle.std.proofs.Common.{Some, eqb, sym, ap, ◌∙◌}
use Rattle.std.proofs.lemmas.Bool.{eq-eqb, ne_eqb}
use Rattle.emit_row_facts.specs.declared.ported.Ported.{Ported}
use Rattle.emit_row_facts.proofs.lemmas.Steps.{found-at, found-not}
use Rattle.emit_row_facts.proofs.ported.with_port.Goals as goal

pub returns-then-ported-port : goal.returns-then-ported-port
returns-then-ported-port c =
    ap Some c.ported-item.is
    ∙ found-at (λ (e : Ported). eqb e.port c.args.port) c.args.among.now c.loop-ported.ported-index c.ported-item.result
    c.loop-ported-test.true c.loop-ported.invariant
    (ap (λ (e : Ported). eqb e.port c.args.port) (sym c.ported-item.is) ∙ eq-eqb _ _ c.if-ported-port.true)

pub loop-ported-preserved : goal.loop-ported-preserved
loop-ported-preserved c =
    found-not (λ (e : Ported). eqb e.port c.args.port) c.args.among.now c.loop-ported.ported-index c.ported-item.result
    c.loop-ported-test.true c.loop-ported.invariant
    (ap (λ (e : Ported). eqb e.port c.args.port) (sym c.ported-item.is) ∙ ne_eqb _ _ c.if-ported-port.false)
