use Rattle.std.proofs.Common.{◌≡◌, ◌≤◌, ◌++◌, length, drop, map}
use Rattle.mdl_tree.specs.Values.{items_of}
use Rattle.mdl_blocks.specs.Peers.{peers_in}
use Rattle.mdl_systems.specs.Outlines.{outlines_in, outlines_inside}
use Rattle.mdl_systems.specs.Held.{all_seen}
use Rattle.mdl_systems.specs.Systems.{own_in, children_in, system_inside, system_of}
use Rattle.mdl_systems.proofs.outlines.+blocks.Given as goal

abbrev pub invariant-take_system-loop-item : goal.invariant-take_system-loop-item
invariant-take_system-loop-item l = record {
  depth : l.depth ≤ length l.blocks.items;
  blocks : all_seen l.blocks.items ++ outlines_in (length l.blocks.items) l.row l.depth
      (peers_in (items_of l.fn.system.items.items)) (items_of (drop l.item-index l.item-items))
      ≡ all_seen l.fn.blocks.items ++ outlines_in (length l.fn.blocks.items) l.fn.row l.fn.depth
      (peers_in (items_of l.fn.system.items.items)) (items_of l.fn.system.items.items);
  own : l.own.items ++ own_in (length l.blocks.items) l.depth (items_of (drop l.item-index l.item-items))
      ≡ own_in (length l.fn.blocks.items) l.fn.depth (items_of l.fn.system.items.items);
  children : map system_of l.children.items ++ children_in (length l.blocks.items) l.depth (items_of (drop l.item-index l.item-items))
      ≡ children_in (length l.fn.blocks.items) l.fn.depth (items_of l.fn.system.items.items);
}

abbrev pub invariant-take_inside-loop-item : goal.invariant-take_inside-loop-item
invariant-take_inside-loop-item l = record {
  same : l.blocks ≡ l.fn.blocks;
  inside : outlines_inside l.number l.depth (items_of (drop l.item-index l.item-items))
      ≡ outlines_inside l.fn.number l.fn.depth (items_of l.fn.section.items.items);
  system : system_inside l.number l.section.line l.depth (items_of (drop l.item-index l.item-items))
      ≡ system_inside l.fn.number l.fn.section.line l.fn.depth (items_of l.fn.section.items.items);
}
