use Rattle.std.proofs.Common.{◌∙◌, ◌<◌, ◌==◌, find, get_or, length, ap, sym}
use Rattle.std.proofs.lemmas.List.{get_or_default, take_all}
use Rattle.diagram_meaning.specs.declared.table.Row.{Row}
use Rattle.diagram_meaning.specs.Rows.{no_row, row_at}
use Rattle.diagram_blocks.specs.Kinds.{port_of}
use Rattle.diagram_needs.proofs.OutportSteps.{found-at, found-not}
use Rattle.diagram_needs.proofs.outports.row_with_port.Goals as goal

pub returns-then-has_port : goal.returns-then-has_port
returns-then-has_port c =
    let inside : c.loop-b.b-index < length c.args.own.now = c.loop-b-test.true in
    let row =
    c.index-rows-b.is
    ∙ get_or_default c.args.rows.now (get_or c.args.own.now c.loop-b.b-index 0) c.index-rows-b.result no_row
    (c.requires c.loop-b.b-index 0 inside) in
    found-at (λ b. port_of (row_at c.args.rows.now b).kind == c.args.port) c.args.own.now c.loop-b.b-index 0 inside c.loop-b.invariant
    (ap (λ (r : Row). port_of r.kind == c.args.port) (sym row) ∙ sym c.has_port.ensures ∙ c.if-has_port.true)

pub loop-b-preserved : goal.loop-b-preserved
loop-b-preserved c =
    let inside : c.loop-b.b-index < length c.args.own.now = c.loop-b-test.true in
    let row =
    c.index-rows-b.is
    ∙ get_or_default c.args.rows.now (get_or c.args.own.now c.loop-b.b-index 0) c.index-rows-b.result no_row
    (c.requires c.loop-b.b-index 0 inside) in
    found-not (λ b. port_of (row_at c.args.rows.now b).kind == c.args.port) c.args.own.now c.loop-b.b-index 0 inside c.loop-b.invariant
    (ap (λ (r : Row). port_of r.kind == c.args.port) (sym row) ∙ sym c.has_port.ensures ∙ c.if-has_port.false)

pub returns : goal.returns
returns c =
    sym c.loop-b.invariant ∙ ap (find (λ b. port_of (row_at c.args.rows.now b).kind == c.args.port))
    (take_all c.loop-b.b-index c.args.own.now c.loop-b-test.false)
