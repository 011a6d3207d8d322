-- What was read of a model, and why nothing was.
use Rattle.std.specs.Prelude.{◌≡◌, List, Option, Some, None, Result, Ok, ⊤}
use Rattle.std.specs.List.{AllZip}
use Rattle.std.specs.Result.{result_err}
use Rattle.base_refusals.specs.Refusals.{PlainRefusal, plain_refusal}
use Rattle.mdl_tree.specs.Values.{section_tree}
use Rattle.mdl_tree.specs.Walks.{SectionTree}
use Rattle.mdl_params.specs.Defaults.{DefaultTexts}
use Rattle.mdl_blocks.specs.Held.{block_text}
use Rattle.diagram_meaning.specs.declared.BuildFault.{BuildFault}
use Rattle.diagram_meaning.specs.declared.BuildFault.TheVariants.{Refused, Memory}
use Rattle.mdl_systems.specs.declared.placed.ModelSections.{ModelSections}
use Rattle.mdl_systems.specs.declared.placed.PlacedBlock.{PlacedBlock}
use Rattle.mdl_systems.specs.declared.blocks.BlockFaults.{BlockFaults}
use Rattle.base_refusals.specs.FirstRefusal.{as_plain}
use Rattle.mdl_systems.specs.Outlines.{Outline, outlines_of}
use Rattle.mdl_systems.specs.Models.{Model}
use Rattle.mdl_systems.specs.Refusals.{read}

-- a model in memory as a plain one
abbrev pub model_seen : ModelSections → Model
model_seen m = record { section = section_tree m.model.now; system = section_tree m.system.now }

-- a block in memory is what was read of this one
pub record IsRead (defaults : DefaultTexts) (b : Outline) (placed : PlacedBlock) : Type 0 where
  pub owner : placed.owner ≡ b.owner
  pub block : read defaults b ≡ Ok (block_text placed.block)

-- no error was found
abbrev pub IsFaultless : BlockFaults → Type 0
IsFaultless f = (as_plain f.unread ≡ None) × (as_plain f.misformed ≡ None)

-- the blocks of a model with these defaults and this System, in the order of the file
abbrev pub AreBlocksOf : DefaultTexts → SectionTree → List PlacedBlock → Type 0
AreBlocksOf defaults system blocks = AllZip (IsRead defaults) (outlines_of system) blocks

-- the error of what has this first refusal: that one, or out of memory
abbrev pub IsFaultBy : Option PlainRefusal → BuildFault → Type 0
IsFaultBy found (Refused refusal) = found ≡ Some (plain_refusal refusal)
IsFaultBy found Memory = ⊤

-- the error of what should give this result: its refusal, or out of memory
abbrev pub IsFaultOf : {A : Type 0} → Result A PlainRefusal → BuildFault → Type 0
IsFaultOf result fault = IsFaultBy (result_err result) fault
