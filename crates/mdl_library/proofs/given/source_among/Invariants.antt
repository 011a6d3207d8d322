use Rattle.std.proofs.Common.{◌≡◌, drop}
use Rattle.mdl_tree.specs.Values.{trees_of}
use Rattle.mdl_library.specs.Given.{default_source}
use Rattle.mdl_library.proofs.given.source_among.Given as goal

abbrev pub invariant-loop-block : goal.invariant-loop-block
invariant-loop-block l = default_source (trees_of (drop l.block-index l.blocks)) ≡ default_source (trees_of l.fn.blocks)
