-- The blocks of a model in memory, as plain ones.
use Rattle.std.specs.Prelude.{◌≡◌, ℕ, suc, ◌<◌, ◌==◌, if◌then◌else◌, List, [], ◌∷◌, map, filter_map, length, slice_get, Option, Some, None, is_some, true, option_map, MatchOption, ⊤}
use Rattle.std.specs.List.{All, AllZip}
use Rattle.std.specs.Option.{option_map_or}
use Rattle.base_core.specs.declared.Control.{Control}
use Rattle.mdl_tree.specs.Walks.{SectionTree}
use Rattle.mdl_blocks.specs.Held.{block_text}
use Rattle.mdl_blocks.specs.Blocks.{BodyText}
use Rattle.mdl_blocks.specs.declared.row.RowText.{RowText}
use Rattle.mdl_wiring.specs.declared.wiring.Wiring.{Wiring}
use Rattle.mdl_wiring.specs.Lines.{ends_in}
use Rattle.mdl_wiring.specs.Wiring.{wiring_seen, sources_from}
use Rattle.mdl_systems.specs.declared.placed.PlacedBlock.{PlacedBlock}
use Rattle.mdl_rows.specs.declared.blocks.NumberedBlock.{NumberedBlock}
use Rattle.mdl_rows.specs.declared.groups.Groups.{Groups}
use Rattle.mdl_rows.specs.declared.interiors.Interior.{Interior}
use Rattle.mdl_rows.specs.declared.interiors.PortRow.{PortRow}
use Rattle.mdl_rows.specs.declared.wirings.Wirings.{Wirings}
use Rattle.mdl_rows.specs.Models.{Block, Model, System, kind_of, blocks_of, root_system, inner_system}
use Rattle.mdl_rows.specs.Interiors.{inside_among, control_among, outport_number}
use Rattle.mdl_rows.specs.Wires.{place_of, members_of}
use Rattle.mdl_rows.specs.RowTexts.{IsKind, IsType, IsTime}
use Rattle.mdl_rows.specs.Refusals.{system_refusal}

-- ---- Blocks

-- blocks as they were read, numbered from n on
abbrev pub numbered_from : (n : ℕ) → List PlacedBlock → List Block
numbered_from n [] = []
numbered_from n (b ∷ rest) =
    record { number = n; owner = b.owner; text = block_text b.block } ∷ numbered_from (suc n) rest

-- the model of this System with these blocks
abbrev pub model_seen : SectionTree → List PlacedBlock → Model
model_seen root blocks = record { root = root; blocks = numbered_from 0 blocks }

-- a block with its number
abbrev pub seen : NumberedBlock → Block
seen b = record { number = b.number; owner = b.owner; text = block_text b.block }

-- the same of all in a list
abbrev pub all_seen : List NumberedBlock → List Block
all_seen blocks = map seen blocks

-- each block has the number of its place, from n on
abbrev pub AreNumbered : (n : ℕ) → List Block → Type 0
AreNumbered n [] = ⊤
AreNumbered n (b ∷ rest) = (b.number ≡ n) × AreNumbered (suc n) rest

-- an owner is there among n blocks
abbrev pub IsThere : (n : ℕ) → Option ℕ → Type 0
IsThere n None = ⊤
IsThere n (Some e) = e < n

-- the blocks are at their numbers, and their owners are among them
pub record AreBlocks (blocks : List Block) : Type 0 where
  pub numbers : AreNumbered 0 blocks
  pub owners : All (λ (b : Block). IsThere (length blocks) b.owner) blocks

-- a block is one of these
abbrev pub IsAmong : List Block → Block → Type 0
IsAmong blocks b = slice_get blocks b.number ≡ Some b

-- ---- Groups

-- the group of a system in memory, empty where there is none
abbrev pub group_of : Groups → Option ℕ → List NumberedBlock
group_of g None = g.root.items
group_of g (Some e) = option_map_or (λ own. own.items) (slice_get g.inner.items e) []

-- the blocks of each system
pub record AreGroupsOf (blocks : List Block) (g : Groups) : Type 0 where
  pub groups : (o : Option ℕ) → IsThere (length blocks) o →
      all_seen (group_of g o) ≡ blocks_of blocks o
  pub count : length g.inner.items ≡ length blocks
  pub places : g.places.items ≡ map (place_of blocks) blocks

-- ---- Interiors

-- an Outport: its port, and its number
pub record Port : Type 0 where
  pub port : ℕ
  pub number : ℕ

-- a block as an Outport, if it is one
abbrev pub port_of : Block → Option Port
port_of b =
    option_map (λ port. record { port = port; number = b.number }) (outport_number (kind_of b))

-- the Outports among these blocks
abbrev pub outports_among : List Block → List Port
outports_among own = filter_map port_of own

-- the number of the first one with a port
abbrev pub port_among : (port : ℕ) → List Port → Option ℕ
port_among port [] = None
port_among port (p ∷ rest) = if p.port == port then Some p.number else port_among port rest

-- an Outport in memory as a plain one
abbrev pub port_seen : PortRow → Port
port_seen p = record { port = p.port; number = p.number }

-- what is inside a subsystem with these blocks
pub record IsInteriorOf (own : List Block) (i : Interior) : Type 0 where
  pub inside : i.inside ≡ inside_among own
  pub control : i.control ≡ control_among own
  pub outports : map port_seen i.outports.items ≡ outports_among own

-- the same of each block
abbrev pub AreInteriorsOf : List Block → List Interior → Type 0
AreInteriorsOf blocks interiors =
    AllZip (λ (b : Block). IsInteriorOf (blocks_of blocks (Some b.number))) blocks interiors

-- ---- Wirings

-- where the inputs of a system's blocks read from; nothing is said of a system that is refused
abbrev pub IsSystemWired : Model → System → Option Wiring → Type 0
IsSystemWired m s None = is_some (system_refusal m s) ≡ true
IsSystemWired m s (Some w) =
    wiring_seen w ≡ sources_from (ends_in (members_of m.blocks s.row) s.items) 0
    (members_of m.blocks s.row)

-- the same of the system inside a block
abbrev pub IsInnerWired : Model → Block → Option Wiring → Type 0
IsInnerWired m b w = MatchOption (inner_system b) (w ≡ None) (λ s. IsSystemWired m s w)

-- where the inputs of all systems read from
pub record AreWiringsOf (m : Model) (w : Wirings) : Type 0 where
  pub root : IsSystemWired m (root_system m) w.root
  pub inner : AllZip (IsInnerWired m) m.blocks w.inner.items

-- ---- Rows

-- what a row says is what a block says, with this control where it is a subsystem
pub record IsBodyRow (body : BodyText) (control : Control) (text : RowText) : Type 0 where
  pub kind : IsKind body.kind control text.kind
  pub type_text : IsType body.type_text text.type_text
  pub time_text : IsTime body.time_text text.time_text

-- the same of a block
abbrev pub IsRowText : Control → Block → RowText → Type 0
IsRowText control b text = IsBodyRow b.text.body control text
