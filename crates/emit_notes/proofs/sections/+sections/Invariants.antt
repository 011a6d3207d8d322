use Rattle.std.proofs.Common.{◌≡◌, ℕ, length, drop}
use Rattle.mdl_tree.specs.Values.{items_of}
use Rattle.mdl_blocks.specs.declared.peers.Peers.{Peers}
use Rattle.mdl_systems.specs.Outlines.{outlines_in, outlines_inside}
use Rattle.emit_notes.specs.Sections.{with_blocks}
use Rattle.emit_notes.proofs.sections.+sections.Given as goal

abbrev pub invariant-take_system-loop-item : goal.invariant-take_system-loop-item
invariant-take_system-loop-item l =
    (depth : ℕ) (peers : Peers) →
    with_blocks l.sections.items (outlines_in (length l.sections.items) l.owner depth peers (items_of (drop l.item-index l.item-items)))
    ≡ with_blocks l.fn.sections.items
    (outlines_in (length l.fn.sections.items) l.fn.owner depth peers (items_of l.fn.system.items.items))

abbrev pub invariant-take_inside-loop-item : goal.invariant-take_inside-loop-item
invariant-take_inside-loop-item l = record {
  same : l.sections ≡ l.fn.sections;
  inside : (depth : ℕ) →
      outlines_inside l.number depth (items_of (drop l.item-index l.item-items))
      ≡ outlines_inside l.fn.number depth (items_of l.fn.section.items.items);
}
