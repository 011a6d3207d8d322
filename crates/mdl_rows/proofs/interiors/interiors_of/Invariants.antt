use Rattle.std.proofs.Common.{List, ◌++◌, drop, Some}
use Rattle.std.specs.List.{AllZip}
use Rattle.mdl_rows.specs.declared.interiors.Interior.{Interior}
use Rattle.mdl_rows.specs.Models.{Block, blocks_of}
use Rattle.mdl_rows.specs.Held.{AreInteriorsOf, IsInteriorOf, all_seen}
use Rattle.mdl_rows.proofs.interiors.interiors_of.Given as goal

abbrev pub invariant-loop-block : goal.invariant-loop-block
invariant-loop-block l =
    let blocks = all_seen l.fn.blocks in
    (rest : List Interior) →
    AllZip (λ (b : Block). IsInteriorOf (blocks_of blocks (Some b.number)))
    (all_seen (drop l.block-index l.blocks)) rest →
    AreInteriorsOf blocks (l.interiors.items ++ rest)
