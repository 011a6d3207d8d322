-- Why the blocks of a model can't be read.
use Rattle.std.specs.Prelude.{ℕ, ◌&&◌, nat_lt, nat_le, if◌then◌else◌, List, [], ◌∷◌, length, slice_get, Option, Some, None, option_map, Result, Ok, Err}
use Rattle.base_refusals.specs.declared.Many.{Many}
use Rattle.base_refusals.specs.declared.Many.TheVariants.{Blocks, Inports, Outports}
use Rattle.base_core.specs.Numbers.{reported_number}
use Rattle.base_refusals.specs.Refusals.{PlainRefusal, TooDeep, TooMany}
use Rattle.base_refusals.specs.Refusals as refusal
use Rattle.mdl_tree.specs.Walks.{SectionTree}
use Rattle.mdl_params.specs.Defaults.{DefaultTexts}
use Rattle.mdl_blocks.specs.declared.fault.Fault.{Fault}
use Rattle.mdl_blocks.specs.declared.fault.Fault.TheVariants as fault
use Rattle.mdl_blocks.specs.declared.peers.Peers.{Peers}
use Rattle.mdl_blocks.specs.Peers.{peers_in}
use Rattle.mdl_blocks.specs.Blocks.{BlockText, block_of}
use Rattle.mdl_wiring.specs.Refusals.{newer_lines}
use Rattle.base_refusals.specs.FirstRefusal.{least_in, earlier_of, first_there, found_where}
use Rattle.mdl_systems.specs.Outlines.{Outline, SystemText, is_subsystem, outlines_of, systems_of}

-- ---- Numbers of blocks

-- a subsystem inside 32 others
abbrev pub deep : Outline → Option PlainRefusal
deep b = found_where (λ b. is_subsystem b && nat_le 32 b.depth) (λ b. TooDeep b.section.line) b

-- more than 20,000 blocks, at the first one too many; a count is reported as a line's number is, at
-- most 4,294,967,295
abbrev pub too_many_blocks : List Outline → Option PlainRefusal
too_many_blocks blocks =
    option_map (λ (b : Outline). TooMany b.section.line Blocks (reported_number (length blocks)))
    (slice_get blocks 20_000)

-- more than 32 ports of one kind in a system at this line
abbrev pub crowd_at : (line : ℕ) → Many → (count : ℕ) → Option PlainRefusal
crowd_at line what count = if nat_lt 32 count then Some (TooMany line what count) else None

-- more than 32 Inports or Outports in a system at this line
abbrev pub crowd_of : (line : ℕ) → Peers → Option PlainRefusal
crowd_of line peers =
    earlier_of (crowd_at line Inports peers.inports) (crowd_at line Outports peers.outports)

-- the same of a system
abbrev pub crowd : SystemText → Option PlainRefusal
crowd s = crowd_of s.line (peers_in s.items)

-- the first refusal of a model with this System for how many blocks there are, and where
abbrev pub numbers_refusal : SectionTree → Option PlainRefusal
numbers_refusal system =
    first_there (least_in deep (outlines_of system) ∷ too_many_blocks (outlines_of system)
    ∷ least_in crowd (systems_of system) ∷ [])

-- ---- Blocks

-- what a block says, by the defaults of the model, or what is wrong with it
abbrev pub read : DefaultTexts → Outline → Result BlockText Fault
read defaults b = block_of defaults b.peers b.section

-- the refusal of a block at a line that isn't read
abbrev pub unread_at : (line : ℕ) → Result BlockText Fault → Option PlainRefusal
unread_at line (Err fault.Unsupported) = Some (refusal.Unsupported line)
unread_at line _ = None

-- the refusal of a block at a line for a parameter out of form; a time or a type that may not be is
-- reported of its row, not here
abbrev pub misformed_at : (line : ℕ) → Result BlockText Fault → Option PlainRefusal
misformed_at line (Ok block) = None
misformed_at line (Err fault.Unsupported) = None
misformed_at line (Err (fault.Parameter parameter)) = Some (refusal.Parameter line parameter)
misformed_at line (Err fault.Continuous) = Some (refusal.Continuous line)
misformed_at line (Err fault.FloatType) = Some (refusal.FloatType line)

-- a block that isn't read
abbrev pub unread : DefaultTexts → Outline → Option PlainRefusal
unread defaults b = unread_at b.section.line (read defaults b)

-- a block with a parameter out of form
abbrev pub misformed : DefaultTexts → Outline → Option PlainRefusal
misformed defaults b = misformed_at b.section.line (read defaults b)

-- a line of a system in the newer form
abbrev pub newer : SystemText → Option PlainRefusal
newer s = newer_lines s.items

-- the first refusal of a model with this System for its blocks and the form of its lines
abbrev pub blocks_refusal : DefaultTexts → SectionTree → Option PlainRefusal
blocks_refusal defaults system =
    first_there
    (earlier_of (least_in (unread defaults) (outlines_of system))
    (least_in newer (systems_of system))
    ∷ least_in (misformed defaults) (outlines_of system) ∷ [])

-- ---- The first refusal

-- the first refusal of a model with these defaults and this System
abbrev pub model_refusal : DefaultTexts → SectionTree → Option PlainRefusal
model_refusal defaults system =
    first_there (numbers_refusal system ∷ blocks_refusal defaults system ∷ [])
