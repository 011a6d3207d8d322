use Rattle.std.proofs.Common.{◌∙◌, ap, Some}
use Rattle.mdl_rows.specs.Models.{blocks_of}
use Rattle.mdl_rows.specs.Held.{all_seen, port_among}
use Rattle.mdl_rows.proofs.InteriorLemmas.{port-found}
use Rattle.mdl_rows.proofs.model.ModelBlocks.outport.Goals as goal

pub returns : goal.returns
returns c =
    c.outport.ensures ∙ ap (port_among c.args.port) c.interior.ensures.outports
    ∙ port-found c.args.port (blocks_of (all_seen c.args.self.now.blocks.items) (Some c.args.number))
