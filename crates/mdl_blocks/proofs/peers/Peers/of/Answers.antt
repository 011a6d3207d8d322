use Rattle.std.proofs.Common.{ap, sym, ◌∙◌, ◌+◌, drop}
use Rattle.mdl_tree.specs.Values.{items_of}
use Rattle.mdl_params.specs.declared.BlockType.TheVariants.{Inport, Outport}
use Rattle.mdl_blocks.specs.Peers.{count_in}
use Rattle.mdl_blocks.proofs.PeerLemmas.{count-more, at-most-more}
use Rattle.mdl_blocks.proofs.peers.Peers.of.Goals as goal

pub loop-item-preserved : goal.loop-item-preserved
loop-item-preserved c =
    let items = c.as_slice-item-items.result.now in
    let i = c.loop-item.item-index in
    let item = c.item-item.result in
    let rest = items_of (drop (i + 1) items) in
    let all = items_of c.args.system.now.items.items in
    let port = c.of_item-port.result in (
      at-most-more port.is_inport c.loop-item.inports c.counted-inports.result i c.counted-inports.ensures c.loop-item.invariant.0,
      at-most-more port.is_outport c.loop-item.outports c.counted-outports.result i c.counted-outports.ensures c.loop-item.invariant.1,
      ap (λ n. n + count_in Inport rest) c.counted-inports.ensures
          ∙ count-more Inport items i item port.is_inport c.loop-item.inports (count_in Inport all) c.loop-item-test.true c.item-item.is
          (sym c.of_item-port.ensures.inport) c.loop-item.invariant.2,
      ap (λ n. n + count_in Outport rest) c.counted-outports.ensures
          ∙ count-more Outport items i item port.is_outport c.loop-item.outports (count_in Outport all) c.loop-item-test.true c.item-item.is
          (sym c.of_item-port.ensures.outport) c.loop-item.invariant.3,
    )
