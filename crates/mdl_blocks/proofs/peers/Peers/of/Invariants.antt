use Rattle.std.proofs.Common.{◌≡◌, ◌≤◌, ◌+◌, drop}
use Rattle.mdl_tree.specs.Values.{items_of}
use Rattle.mdl_params.specs.declared.BlockType.TheVariants.{Inport, Outport}
use Rattle.mdl_blocks.specs.Peers.{count_in}
use Rattle.mdl_blocks.proofs.peers.Peers.of.Given as goal

abbrev pub invariant-loop-item : goal.invariant-loop-item
invariant-loop-item l =
    (l.inports ≤ l.item-index) × (l.outports ≤ l.item-index)
    × (l.inports + count_in Inport (items_of (drop l.item-index l.item-items)) ≡ count_in Inport (items_of l.fn.system.items.items))
    × (l.outports + count_in Outport (items_of (drop l.item-index l.item-items)) ≡ count_in Outport (items_of l.fn.system.items.items))
