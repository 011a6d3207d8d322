-- The rows that the inputs of blocks read.
use Rattle.std.specs.Prelude.{ℕ, ◌-◌, List, [], map, filter_map, take, drop, length, slice_get, Option, Some, None, option_and_then, option_to_list}
use Rattle.mdl_tree.specs.Walks.{SectionTree}
use Rattle.mdl_blocks.specs.Blocks.{KindText, inport, outport, subsystem, constant, ground, terminator, gain, sum, product, unit_delay, delay, zero_order_hold, switch, relational, logic, convert, rate_transition, enable_port, trigger_port}
use Rattle.mdl_wiring.specs.declared.ports.Source.{Source}
use Rattle.mdl_wiring.specs.Members.{Member}
use Rattle.mdl_wiring.specs.Shapes.{shape_of}
use Rattle.mdl_wiring.specs.Lines.{ends_in}
use Rattle.mdl_wiring.specs.Wiring.{sources_of}
use Rattle.mdl_rows.specs.Models.{Block, Model, kind_of, blocks_of, system_in, items_of}
use Rattle.mdl_rows.specs.Interiors.{inside_of, outport_of}

-- what lines see of a block
abbrev pub member_of : List Block → Block → Member
member_of blocks b =
    record {
      name = b.text.name;
      line = b.text.line;
      shape = shape_of (inside_of blocks b.number) (kind_of b);
    }

-- what the lines of a system see of its blocks
abbrev pub members_of : List Block → Option ℕ → List Member
members_of blocks o = map (member_of blocks) (blocks_of blocks o)

-- the place of a block among those of its system, from 0
abbrev pub place_of : List Block → Block → ℕ
place_of blocks b = length (blocks_of (take b.number blocks) b.owner)

-- where the inputs of a block read from: its data inputs by port, then its enable, then its trigger
abbrev pub block_sources : Model → Block → List Source
block_sources m b =
    sources_of (ends_in (members_of m.blocks b.owner) (items_of m b.owner)) (place_of m.blocks b)
    (member_of m.blocks b)

-- the row of an output of a block, given the System inside it if there is one: of a subsystem that
-- of its Outport with this port, of any other block its own
abbrev pub output_row : List Block → Block → (system : Option SectionTree) → (output : ℕ) → Option ℕ
output_row blocks b None output = Some b.number
output_row blocks b (Some system) output = outport_of blocks b.number output

-- the row of a source in a system
abbrev pub source_row : List Block → Option ℕ → Source → Option ℕ
source_row blocks o s =
    option_and_then (λ (b : Block). output_row blocks b (system_in (kind_of b)) s.output)
    (slice_get (blocks_of blocks o) s.member)

-- the rows of these sources in a system
abbrev pub source_rows : List Block → Option ℕ → List Source → List ℕ
source_rows blocks o sources = filter_map (source_row blocks o) sources

-- the rows that all inputs of a block read
abbrev pub wires_of : Model → Block → List ℕ
wires_of m b = source_rows m.blocks b.owner (block_sources m b)

-- the row that enters a port of the subsystem block b
abbrev pub entering_row : Model → (port : ℕ) → Block → Option ℕ
entering_row m port b =
    option_and_then (source_row m.blocks b.owner) (slice_get (block_sources m b) (port - 1))

-- the row that enters the Inport with this port of a system; none enters the root
abbrev pub entering : Model → (port : ℕ) → Option ℕ → List ℕ
entering m port None = []
entering m port (Some e) =
    option_to_list (option_and_then (entering_row m port) (slice_get m.blocks e))

-- the rows that control a subsystem block, the enable first
abbrev pub controlling : Model → Block → List ℕ
controlling m b =
    source_rows m.blocks b.owner (drop (inside_of m.blocks b.number).inports (block_sources m b))

-- the rows that the row of a block of this kind reads: an Inport what enters it, a subsystem what
-- controls it, any other what its inputs read
abbrev pub wires_by : KindText → Model → Block → List ℕ
wires_by (inport port) m b = entering m port b.owner
wires_by (subsystem system) m b = controlling m b
wires_by _ m b = wires_of m b

-- the rows that the row of a block reads
abbrev pub row_wires : Model → Block → List ℕ
row_wires m b = wires_by (kind_of b) m b
