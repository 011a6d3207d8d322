-- What the section of a block says to its label.
use Rattle.std.specs.Prelude.{ℕ, List, ◌++◌, map, Option, None, option_and_then, option_map, codes}
use Rattle.base_core.specs.declared.ParamName.TheVariants.{Name}
use Rattle.base_core.specs.declared.ParamName.TheVariants as param
use Rattle.mdl_tree.specs.Walks.{SectionTree, first_value}
use Rattle.mdl_tree.specs.Values.{section_tree}
use Rattle.mdl_params.specs.declared.BlockType.{BlockType}
use Rattle.mdl_params.specs.declared.BlockType.TheVariants.{Inport, Outport}
use Rattle.mdl_params.specs.BlockTypes.{block_type_of}
use Rattle.mdl_params.specs.Defaults.{DefaultTexts, parameter_text}
use Rattle.mdl_blocks.specs.Words.{number_up_to}
use Rattle.mdl_systems.specs.Outlines.{Outline}
use Rattle.emit_notes.specs.declared.labels.Label.{Label}
use Rattle.emit_notes.specs.declared.sections.PlacedSection.{PlacedSection}

-- ---- Sections

-- The section of a block where it is: the number of the subsystem block around it, none in the
-- root.
pub record BlockSection : Type 0 where
  pub owner : Option ℕ
  pub section : SectionTree

-- that of a block of a model
abbrev pub section_of : Outline → BlockSection
section_of b = record { owner = b.owner; section = b.section }

-- one in memory as a plain one
abbrev pub section_seen : PlacedSection → BlockSection
section_seen p = record { owner = p.owner; section = section_tree p.section.now }

-- the same of all in a list
abbrev pub all_seen : List PlacedSection → List BlockSection
all_seen sections = map section_seen sections

-- those in memory, and then those of these blocks of a model
abbrev pub with_blocks : List PlacedSection → List Outline → List BlockSection
with_blocks sections blocks = all_seen sections ++ map section_of blocks

-- ---- Labels

-- the port of a block of this type, if it is an Inport with this one
abbrev pub inport_said : BlockType → (port : Option ℕ) → Option ℕ
inport_said Inport port = port
inport_said _ port = None

-- the same of an Outport
abbrev pub outport_said : BlockType → (port : Option ℕ) → Option ℕ
outport_said Outport port = port
outport_said _ port = None

-- the port that a block with this section says; of one that is read it fits 32 bits
abbrev pub port_said : DefaultTexts → SectionTree → (type_name : List ℕ) → Option ℕ
port_said defaults section type_name =
    option_and_then (number_up_to 4_294_967_295)
    (parameter_text defaults section.items type_name param.Port)

-- the label of a block of this type with this name
abbrev pub label_named : DefaultTexts → BlockSection → (type_name : List ℕ) → BlockType →
    (name : List ℕ) → Label
label_named defaults b type_name type name = record {
  block_type = type;
  inport = inport_said type (port_said defaults b.section type_name);
  outport = outport_said type (port_said defaults b.section type_name);
  name = name;
  line = b.section.line;
  owner = b.owner;
}

-- the label of a block whose BlockType has this text, if it is a type that is read and there is a
-- name
abbrev pub label_typed : DefaultTexts → BlockSection → (type_name : List ℕ) → Option Label
label_typed defaults b type_name =
    option_and_then
    (λ type. option_map (label_named defaults b type_name type)
    (parameter_text defaults b.section.items type_name Name))
    (block_type_of type_name)

-- the label of a block, if its section says its type and its name
abbrev pub label_said : DefaultTexts → BlockSection → Option Label
label_said defaults b =
    option_and_then (label_typed defaults b) (first_value (codes "BlockType") b.section.items)
