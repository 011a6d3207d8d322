use Rattle.std.proofs.Common.{◌∙◌, ap}
use Rattle.mdl_rows.specs.Held.{port_of, port_seen, seen}
use Rattle.mdl_rows.proofs.PassLemmas.{shown-at}
use Rattle.mdl_rows.proofs.interiors.outports_among.Goals as goal

pub loop-block-preserved : goal.loop-block-preserved
loop-block-preserved c =
    shown-at port_of seen port_seen c.args.own.now c.loop-block.block-index c.block-item.result c.loop-block.outports.items
    c.push_if_there.new.list.items c.port_row.result _ c.loop-block-test.true
    (c.port_row.ensures ∙ ap (λ b. port_of (seen b)) c.block-item.is) c.in_ok-push_if_there.ensures c.loop-block.invariant
