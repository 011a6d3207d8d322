use Rattle.std.proofs.Common.{◌≡◌, drop, map}
use Rattle.mdl_tree.specs.Values.{trees_of}
use Rattle.mdl_library.specs.Library.{sources_among}
use Rattle.mdl_library.specs.Held.{given_seen, source_seen}
use Rattle.mdl_library.proofs.SourceLemmas.{sources_with}
use Rattle.mdl_library.proofs.library.sources_among.Given as goal

abbrev pub invariant-loop-block : goal.invariant-loop-block
invariant-loop-block l =
    sources_with l.library (given_seen l.given) (map source_seen l.sources.entries) (trees_of (drop l.block-index l.blocks))
    ≡ sources_among l.fn.library (given_seen l.fn.given) (trees_of l.fn.blocks)
