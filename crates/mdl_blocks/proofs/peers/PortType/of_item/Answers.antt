use Rattle.std.proofs.Common.{◌≡◌, true, codes}
use Rattle.std.specs.Prelude.{bytes_eq}
use Rattle.mdl_params.specs.declared.BlockType.TheVariants.{Inport, Outport}
use Rattle.mdl_blocks.proofs.PeerLemmas.{block-at}
use Rattle.mdl_blocks.proofs.peers.PortType.of_item.Goals as goal

pub returns-then-eq-clause-inport : goal.returns-then-eq-clause-inport
returns-then-eq-clause-inport c =
    let section = c.in-Section.section in
    let same : bytes_eq section.name (codes "Block") ≡ true = cc in
    block-at Inport c.args.item.now section c.of_block.result.is_inport c.in-Section.is same c.of_block.ensures.inport

pub returns-then-eq-clause-outport : goal.returns-then-eq-clause-outport
returns-then-eq-clause-outport c =
    let section = c.in-Section.section in
    let same : bytes_eq section.name (codes "Block") ≡ true = cc in
    block-at Outport c.args.item.now section c.of_block.result.is_outport c.in-Section.is same c.of_block.ensures.outport
