use Rattle.std.proofs.Common.{sym}
use Rattle.mdl_tree.specs.Values.{section_tree}
use Rattle.mdl_systems.proofs.RootLemmas.{peers_of_first}
use Rattle.mdl_systems.proofs.numbers.root_peers.Goals as goal

pub returns-in-Some : goal.returns-in-Some
returns-in-Some c =
    peers_of_first (section_tree c.args.system.now) c.args.blocks.now c.in-Some.block.now c.requires (sym c.in-Some.ensures.value)
