use Rattle.std.proofs.Common.{◌≡◌, ◌+◌, List, take}
use Rattle.mdl_tree.specs.Values.{section_tree, trees_of}
use Rattle.mdl_library.specs.Held.{given_seen, library_seen}
use Rattle.mdl_library.specs.Sizes.{Size}
use Rattle.mdl_library.specs.HeldSizes.{capped, are_capped}
use Rattle.mdl_library.proofs.Weights.{weight}
use Rattle.mdl_library.proofs.Blocks.{blocks_size}
use Rattle.mdl_library.proofs.sizes.Measured.+sizes.Given as goal

abbrev pub decreases-block : goal.decreases-block
decreases-block l = weight (section_tree l.block.now).items + 1

abbrev pub decreases-inside : goal.decreases-inside
decreases-inside l = weight (section_tree l.section.now).items

abbrev pub decreases-system : goal.decreases-system
decreases-system l = weight (section_tree l.system.now).items

abbrev pub invariant-system-loop-block : goal.invariant-system-loop-block
invariant-system-loop-block l =
    (sizes : List Size) → l.fn.self.sizes.now ≡ are_capped sizes →
    l.size ≡ capped (blocks_size (library_seen l.fn.self.library.now).sources (given_seen l.fn.self.given.now) sizes
    (trees_of (take l.block-index l.block-items)))
