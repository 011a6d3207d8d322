use Rattle.std.proofs.Common.{◌≡◌, ◌+◌, ◌++◌, drop, codes}
use Rattle.std.specs.Prelude.{flat_map}
use Rattle.mdl_tree.specs.Walks.{sections_named}
use Rattle.mdl_tree.specs.Values.{items_of, section_tree, trees_of}
use Rattle.mdl_library.specs.References.{references_at}
use Rattle.mdl_library.proofs.Weights.{weight}
use Rattle.mdl_library.proofs.references.+references.Given as goal

abbrev pub decreases-take_inside : goal.decreases-take_inside
decreases-take_inside l = weight (section_tree l.section.now).items

abbrev pub decreases-take_references : goal.decreases-take_references
decreases-take_references l = weight (section_tree l.system.now).items

abbrev pub decreases-take_block : goal.decreases-take_block
decreases-take_block l = weight (section_tree l.block.now).items + 1

abbrev pub invariant-take_references-loop-block : goal.invariant-take_references-loop-block
invariant-take_references-loop-block l =
    trees_of l.references.items ++ flat_map references_at (trees_of (drop l.block-index l.block-items))
    ≡ trees_of l.fn.references.items
    ++ flat_map references_at (sections_named (codes "Block") (items_of l.fn.system.items.items))
