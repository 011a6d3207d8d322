-- The tree of a generated model, by the lines of its text.
use Rattle.std.proofs.Common.{ℕ, zero, suc, ◌+◌, ◌-◌, ◌*◌, Bool, true, false, List, codes, decimal, refl, ◌==◌}
use Rattle.tool_generator.specs.Draws.{gain_of, initial_of, signs_of, state_after}
use Rattle.tool_generator.specs.Models.{group_name}
use Rattle.right_generated.proofs.Plans.{Plan, Done, Word, Part}
use Rattle.right_generated.proofs.Words.{SaysType, SaysQuoted, SaysSource, SaysTarget, IsQuotable, block_head, line_head, system_head, model_head, inport_says, outport_says, subsystem_says, gain_type_says, sum_says, unit_delay_says, name_says, port_says, type_text_says, gain_says, initial_says, inputs_says, source_says, target_says, decimal_quotable, group_quotable, signs_quotable, source_one, source_two, target_one, target_two}

-- ---- Blocks and lines, each in front of others

abbrev pub block_inside : (type name param value : List ℕ) → SaysType type → SaysQuoted (codes "Name") name → SaysQuoted param value → Plan
block_inside type name param value t n p = Word _ _ _ _ t (Word _ _ _ _ n (Word _ _ _ _ p Done))

abbrev pub block_plan : (type name param value : List ℕ) → SaysType type → SaysQuoted (codes "Name") name →
    SaysQuoted param value → Plan → Plan
block_plan type name param value t n p rest = Part (codes "Block {") (codes "Block") block_head
    (block_inside type name param value t n p) rest

abbrev pub inport_plan : (name : List ℕ) → IsQuotable name → (port : ℕ) → Plan → Plan
inport_plan name fine port rest =
    block_plan (codes "Inport") name (codes "Port") (decimal port) inport_says (name_says name fine)
    (port_says (decimal port) (decimal_quotable port)) rest

abbrev pub outport_inside : (name : List ℕ) → IsQuotable name → (port : ℕ) → Plan
outport_inside name fine port =
    block_inside (codes "Outport") name (codes "Port") (decimal port) outport_says (name_says name fine)
    (port_says (decimal port) (decimal_quotable port))

abbrev pub outport_plan : (name : List ℕ) → IsQuotable name → (port : ℕ) → Plan → Plan
outport_plan name fine port rest = Part (codes "Block {") (codes "Block") block_head (outport_inside name fine port) rest

abbrev pub line_plan : (from : List ℕ) → IsQuotable from → (from_port : ℕ) → SaysSource from_port →
    (to : List ℕ) → IsQuotable to → (to_port : ℕ) → SaysTarget to_port → Plan → Plan
line_plan from from_fine from_port source to to_fine to_port target rest =
    Part (codes "Line {") (codes "Line") line_head
    (Word _ _ _ _ (source_says from from_fine) (Word _ _ _ _ source (Word _ _ _ _ (target_says to to_fine) (Word _ _ _ _ target Done))))
    rest

-- ---- A subsystem

abbrev pub group_blocks_plan : (gain : ℕ) (signs : List ℕ) → IsQuotable signs → (initial : ℕ) → Plan → Plan
group_blocks_plan gain signs fine initial rest =
    inport_plan (codes "a") refl 1 (inport_plan (codes "b") refl 2
    (block_plan (codes "Gain") (codes "g") (codes "Gain") (decimal gain) gain_type_says (name_says (codes "g") refl)
    (gain_says (decimal gain) (decimal_quotable gain))
    (block_plan (codes "UnitDelay") (codes "d") (codes "InitialCondition") (decimal initial)
    unit_delay_says (name_says (codes "d") refl)
    (initial_says (decimal initial) (decimal_quotable initial))
    (block_plan (codes "Sum") (codes "s") (codes "Inputs") signs sum_says (name_says (codes "s") refl) (inputs_says signs fine)
    (outport_plan (codes "p") refl 1 (outport_plan (codes "q") refl 2 rest))))))

abbrev pub group_lines_plan : Plan
group_lines_plan =
    line_plan (codes "a") refl 1 source_one (codes "g") refl 1 target_one
    (line_plan (codes "g") refl 1 source_one (codes "p") refl 1 target_one
    (line_plan (codes "b") refl 1 source_one (codes "s") refl 1 target_one
    (line_plan (codes "d") refl 1 source_one (codes "s") refl 2 target_two
    (line_plan (codes "s") refl 1 source_one (codes "d") refl 1 target_one
    (line_plan (codes "s") refl 1 source_one (codes "q") refl 1 target_one Done)))))

abbrev pub group_inside : (k : ℕ) (gain : ℕ) (signs : List ℕ) → IsQuotable signs → (initial : ℕ) → Plan
group_inside k gain signs fine initial =
    Word _ _ _ _ subsystem_says (Word _ _ _ _ (name_says (group_name k) (group_quotable k))
    (Part (codes "System {") (codes "System") system_head (group_blocks_plan gain signs fine initial group_lines_plan) Done))

abbrev pub group_plan : (k : ℕ) (gain : ℕ) (signs : List ℕ) → IsQuotable signs → (initial : ℕ) → Plan → Plan
group_plan k gain signs fine initial rest = Part (codes "Block {") (codes "Block") block_head (group_inside k gain signs fine initial) rest

abbrev pub drawn_inside : (start k : ℕ) → Plan
drawn_inside start k =
    let before = 3 * (k - 1) in
    group_inside k (gain_of (state_after start (before + 1))) (signs_of (state_after start (before + 2)))
    (signs_quotable (state_after start (before + 2)))
    (initial_of (state_after start (before + 3)))

abbrev pub drawn_plan : (start k : ℕ) → Plan → Plan
drawn_plan start k rest = Part (codes "Block {") (codes "Block") block_head (drawn_inside start k) rest

-- ---- A model

-- so many subsystems from k on
abbrev pub groups_plan : (start k count : ℕ) → Plan → Plan
groups_plan start k zero rest = rest
groups_plan start k (suc n) rest = drawn_plan start k (groups_plan start (k + 1) n rest)

-- what enters subsystem k, which is the first one or not
abbrev pub entering_plan : (is_first : Bool) (k : ℕ) → Plan → Plan
entering_plan true k rest =
    line_plan (codes "In1") refl 1 source_one (group_name 1) (group_quotable 1) 1 target_one
    (line_plan (group_name k) (group_quotable k) 1 source_one (group_name k) (group_quotable k) 2 target_two rest)
entering_plan false k rest =
    line_plan (group_name (k - 1)) (group_quotable (k - 1)) 2 source_two (group_name k) (group_quotable k) 1 target_one
    (line_plan (group_name k) (group_quotable k) 1 source_one (group_name k) (group_quotable k) 2 target_two rest)

abbrev pub all_entering_plan : (k count : ℕ) → Plan → Plan
all_entering_plan k zero rest = rest
all_entering_plan k (suc n) rest = entering_plan (k == 1) k (all_entering_plan (k + 1) n rest)

abbrev pub last_plan : ℕ → Plan
last_plan size =
    line_plan (group_name size) (group_quotable size) 2 source_two (codes "Out1") refl 1 target_one
    (line_plan (group_name size) (group_quotable size) 1 source_one (codes "Out2") refl 1 target_one Done)

-- what follows the subsystems
abbrev pub after_groups_plan : ℕ → Plan
after_groups_plan size =
    outport_plan (codes "Out1") refl 1 (outport_plan (codes "Out2") refl 2 (all_entering_plan 1 size (last_plan size)))

abbrev pub input_plan : Plan → Plan
input_plan rest =
    Part (codes "Block {") (codes "Block") block_head
    (Word _ _ _ _ inport_says (Word _ _ _ _ (name_says (codes "In1") refl)
    (Word _ _ _ _ (port_says (codes "1") refl) (Word _ _ _ _ (type_text_says (codes "int32") refl) Done))))
    rest

abbrev pub root_plan : (start size : ℕ) → Plan
root_plan start size = input_plan (groups_plan start 1 size (after_groups_plan size))

abbrev pub model_plan : (start size : ℕ) → Plan
model_plan start size =
    Part (codes "Model {") (codes "Model") model_head (Word _ _ _ _ (name_says (codes "gen") refl)
    (Part (codes "System {") (codes "System") system_head (root_plan start size) Done)) Done
