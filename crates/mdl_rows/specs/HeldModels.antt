-- A model in memory, as a plain one.
use Rattle.mdl_tree.specs.Values.{section_tree}
use Rattle.mdl_rows.specs.declared.model.ModelBlocks.{ModelBlocks}
use Rattle.mdl_rows.specs.Models.{Model}
use Rattle.mdl_rows.specs.Held.{AreBlocks, AreGroupsOf, AreInteriorsOf, all_seen}

-- a model in memory as a plain one
abbrev pub model_of : ModelBlocks → Model
model_of m = record { root = section_tree m.root.now; blocks = all_seen m.blocks.items }

-- its groups are those of its blocks, and so is what is inside each
pub record IsModel (m : ModelBlocks) : Type 0 where
  pub blocks : AreBlocks (all_seen m.blocks.items)
  pub groups : AreGroupsOf (all_seen m.blocks.items) m.groups
  pub interiors : AreInteriorsOf (all_seen m.blocks.items) m.interiors.items
