-- The text of a generated model is that of the lines of its tree.
use Rattle.std.proofs.Common.{◌≡◌, refl, sym, ◌∙◌, ap, ℕ, zero, suc, ◌+◌, ◌-◌, ◌*◌, Bool, true, false, cond, List, [], ◌∷◌, ◌++◌, append_assoc, append-nil, codes, decimal, flat_map, ◌==◌}
use Rattle.std.specs.List.{range_with_len}
use Rattle.tool_generator.specs.Draws.{gain_of, initial_of, signs_of, state_after}
use Rattle.tool_generator.specs.Models.{group_name, group_head, group_blocks, group_lines, group_text, drawn_group, entering_lines, last_lines, model_head, model_text}
use Rattle.tool_generator.specs.Texts.{text_of, quoted, block_text, source_text, target_text, line_text, input_text, inport_text, outport_text, ends_text}
use Rattle.right_generated.proofs.OneLines.{text_of-append}
use Rattle.right_generated.proofs.Plans.{Plan, Done, plan_lines}
use Rattle.right_generated.proofs.Words.{SaysType, SaysQuoted, SaysSource, SaysTarget, IsQuotable, source_one, source_two, target_one, target_two, group_quotable, signs_quotable, inport_says, outport_says, name_says, port_says, gain_says, gain_type_says, sum_says, unit_delay_says, initial_says, inputs_says, decimal_quotable}
use Rattle.right_generated.proofs.ModelPlans.{block_plan, line_plan, inport_plan, outport_plan, group_blocks_plan, group_lines_plan, group_plan, groups_plan, entering_plan, all_entering_plan, last_plan, input_plan, root_plan, model_plan}

-- the text of a tree
abbrev pub plan_text : Plan → List ℕ
plan_text p = text_of (plan_lines p)

-- what is placed in front of a tree has this text
record Writes (front : Plan → Plan) (piece : List ℕ) : Type 0 where
  text : (rest : Plan) → plan_text (front rest) ≡ piece ++ plan_text rest

-- one after the other
both : {f g : Plan → Plan} {a b : List ℕ} → Writes f a → Writes g b → Writes (λ rest. f (g rest)) (a ++ b)
both {f} {g} {a} {b} p q = record {
  text = λ rest. p.text (g rest) ∙ ap (λ t. a ++ t) (q.text rest) ∙ sym (append_assoc a b (plan_text rest));
}

-- ---- Pieces

block_piece : (type name param value : List ℕ) (t : SaysType type) (n : SaysQuoted (codes "Name") name) (p : SaysQuoted param value) →
    Writes (block_plan type name param value t n p) (block_text type name param value)
unfolding block_text
block_piece type name param value t n p = record {
  text = λ rest. text_of-append
      (codes "Block {" ∷ (codes "BlockType " ++ type) ∷ quoted (codes "Name") name ∷ quoted param value ∷ codes "}" ∷ []) (plan_lines rest);
}

line_piece : (from : List ℕ) (from_fine : IsQuotable from) (from_port : ℕ) (source : SaysSource from_port)
    (to : List ℕ) (to_fine : IsQuotable to) (to_port : ℕ) (target : SaysTarget to_port) →
    Writes (line_plan from from_fine from_port source to to_fine to_port target) (line_text from from_port to to_port)
unfolding line_text source_text target_text
line_piece from from_fine from_port source to to_fine to_port target =
    let sources = codes "Line {" ∷ quoted (codes "SrcBlock") from ∷ (codes "SrcPort " ++ decimal from_port) ∷ [] in
    let targets = quoted (codes "DstBlock") to ∷ (codes "DstPort " ++ decimal to_port) ∷ codes "}" ∷ [] in
    record {
      text = λ rest. text_of-append (sources ++ targets) (plan_lines rest) ∙ ap (λ t. t ++ plan_text rest) (text_of-append sources targets);
    }

inport_piece : (name : List ℕ) (fine : IsQuotable name) (port : ℕ) → Writes (inport_plan name fine port) (inport_text name port)
inport_piece name fine port =
    block_piece (codes "Inport") name (codes "Port") (decimal port) inport_says (name_says name fine)
    (port_says (decimal port) (decimal_quotable port))

outport_piece : (name : List ℕ) (fine : IsQuotable name) (port : ℕ) → Writes (outport_plan name fine port) (outport_text name port)
outport_piece name fine port =
    block_piece (codes "Outport") name (codes "Port") (decimal port) outport_says (name_says name fine)
    (port_says (decimal port) (decimal_quotable port))

-- ---- A subsystem

blocks_piece : (gain : ℕ) (signs : List ℕ) (fine : IsQuotable signs) (initial : ℕ) →
    Writes (group_blocks_plan gain signs fine initial) (group_blocks gain signs initial)
unfolding group_blocks
blocks_piece gain signs fine initial =
    let gains = block_piece (codes "Gain") (codes "g") (codes "Gain") (decimal gain) gain_type_says (name_says (codes "g") refl)
    (gain_says (decimal gain) (decimal_quotable gain)) in
    let delays = block_piece (codes "UnitDelay") (codes "d") (codes "InitialCondition") (decimal initial) unit_delay_says
    (name_says (codes "d") refl)
    (initial_says (decimal initial) (decimal_quotable initial)) in
    let sums = block_piece (codes "Sum") (codes "s") (codes "Inputs") signs sum_says (name_says (codes "s") refl)
    (inputs_says signs fine) in
    both (both (both (both (both (both (inport_piece (codes "a") refl 1) (inport_piece (codes "b") refl 2)) gains) delays) sums)
    (outport_piece (codes "p") refl 1)) (outport_piece (codes "q") refl 2)

lines_piece : plan_text group_lines_plan ≡ group_lines
unfolding group_lines
lines_piece =
    let one = line_piece (codes "a") refl 1 source_one (codes "g") refl 1 target_one in
    let two = line_piece (codes "g") refl 1 source_one (codes "p") refl 1 target_one in
    let three = line_piece (codes "b") refl 1 source_one (codes "s") refl 1 target_one in
    let four = line_piece (codes "d") refl 1 source_one (codes "s") refl 2 target_two in
    let five = line_piece (codes "s") refl 1 source_one (codes "d") refl 1 target_one in
    let six = line_piece (codes "s") refl 1 source_one (codes "q") refl 1 target_one in
    (both (both (both (both (both one two) three) four) five) six).text Done ∙ append-nil _

-- a section in a section, and what follows both
nested : (head : List (List ℕ)) (inside rest : Plan) →
    text_of (head ++ ((plan_lines inside ++ (125 ∷ []) ∷ []) ++ (125 ∷ []) ∷ plan_lines rest))
    ≡ ((text_of head ++ plan_text inside) ++ ends_text) ++ plan_text rest
unfolding ends_text
nested head inside rest =
    let close : List (List ℕ) = (125 ∷ []) ∷ [] in
    let both : List (List ℕ) = (125 ∷ []) ∷ (125 ∷ []) ∷ [] in
    ap (λ ls. text_of (head ++ ls)) (append_assoc (plan_lines inside) close (close ++ plan_lines rest))
    ∙ text_of-append head (plan_lines inside ++ (both ++ plan_lines rest))
    ∙ ap (λ t. text_of head ++ t) (text_of-append (plan_lines inside) (both ++ plan_lines rest))
    ∙ sym (append_assoc (text_of head) (plan_text inside) (text_of (both ++ plan_lines rest)))
    ∙ ap (λ t. (text_of head ++ plan_text inside) ++ t) (text_of-append both (plan_lines rest))
    ∙ sym (append_assoc (text_of head ++ plan_text inside) (text_of both) (plan_text rest))

group_piece : (k gain : ℕ) (signs : List ℕ) (fine : IsQuotable signs) (initial : ℕ) →
    Writes (group_plan k gain signs fine initial) (group_text k gain signs initial)
unfolding group_text group_head
group_piece k gain signs fine initial =
    let head = codes "Block {" ∷ codes "BlockType SubSystem" ∷ quoted (codes "Name") (group_name k) ∷ codes "System {" ∷ [] in
    record {
      text = λ rest.
          nested head (group_blocks_plan gain signs fine initial group_lines_plan) rest
          ∙ ap (λ t. ((text_of head ++ t) ++ ends_text) ++ plan_text rest)
          ((blocks_piece gain signs fine initial).text group_lines_plan ∙ ap (λ t. group_blocks gain signs initial ++ t) lines_piece)
          ∙ ap (λ t. (t ++ ends_text) ++ plan_text rest) (sym (append_assoc (text_of head) (group_blocks gain signs initial) group_lines));
    }

none : Writes (λ rest. rest) []
none = record { text = λ rest. refl }

groups_piece : (start k count : ℕ) → Writes (groups_plan start k count) (flat_map (drawn_group start) (range_with_len k count))
groups_piece start k zero = none
groups_piece start k (suc n) =
    let before = 3 * (k - 1) in
    let drawn = state_after start (before + 2) in
    both (group_piece k (gain_of (state_after start (before + 1))) (signs_of drawn) (signs_quotable drawn)
    (initial_of (state_after start (before + 3))))
    (groups_piece start (k + 1) n)

-- ---- A model

entering_piece : (k : ℕ) (t : Bool) →
    Writes (entering_plan t k)
    (cond t (line_text (codes "In1") 1 (group_name 1) 1) (line_text (group_name (k - 1)) 2 (group_name k) 1)
    ++ line_text (group_name k) 1 (group_name k) 2)
entering_piece k true =
    both (line_piece (codes "In1") refl 1 source_one (group_name 1) (group_quotable 1) 1 target_one)
    (line_piece (group_name k) (group_quotable k) 1 source_one (group_name k) (group_quotable k) 2 target_two)
entering_piece k false =
    both (line_piece (group_name (k - 1)) (group_quotable (k - 1)) 2 source_two (group_name k) (group_quotable k) 1 target_one)
    (line_piece (group_name k) (group_quotable k) 1 source_one (group_name k) (group_quotable k) 2 target_two)

all_entering_piece : (k count : ℕ) → Writes (all_entering_plan k count) (flat_map entering_lines (range_with_len k count))
unfolding entering_lines
all_entering_piece k zero = none
all_entering_piece k (suc n) = both (entering_piece k (k == 1)) (all_entering_piece (k + 1) n)

last_piece : (size : ℕ) → plan_text (last_plan size) ≡ last_lines size
last_piece size =
    (both (line_piece (group_name size) (group_quotable size) 2 source_two (codes "Out1") refl 1 target_one)
    (line_piece (group_name size) (group_quotable size) 1 source_one (codes "Out2") refl 1 target_one)).text Done ∙ append-nil _

input_piece : Writes input_plan input_text
unfolding input_text
input_piece = record {
  text = λ rest. text_of-append (codes "Block {" ∷ codes "BlockType Inport" ∷ quoted (codes "Name") (codes "In1")
      ∷ quoted (codes "Port") (codes "1") ∷ quoted (codes "OutDataTypeStr") (codes "int32") ∷ codes "}" ∷ []) (plan_lines rest);
}

-- all of the root but the last lines
abbrev root_front : (start size : ℕ) → List ℕ
root_front start size =
    input_text ++ flat_map (drawn_group start) (range_with_len 1 size) ++ outport_text (codes "Out1") 1 ++ outport_text (codes "Out2") 2
    ++ flat_map entering_lines (range_with_len 1 size)

root_piece : (start size : ℕ) → plan_text (root_plan start size) ≡ root_front start size ++ last_lines size
root_piece start size =
    (both (both (both (both input_piece (groups_piece start 1 size)) (outport_piece (codes "Out1") refl 1))
    (outport_piece (codes "Out2") refl 2))
    (all_entering_piece 1 size)).text (last_plan size)
    ∙ ap (λ t. root_front start size ++ t) (last_piece size)

-- pieces of a front, after a head
behind : (h a b c d e f : List ℕ) → h ++ (((((a ++ b) ++ c) ++ d) ++ e) ++ f) ≡ (((((h ++ a) ++ b) ++ c) ++ d) ++ e) ++ f
behind h a b c d e f =
    sym (append_assoc h ((((a ++ b) ++ c) ++ d) ++ e) f)
    ∙ ap (λ t. t ++ f) (sym (append_assoc h (((a ++ b) ++ c) ++ d) e))
    ∙ ap (λ t. (t ++ e) ++ f) (sym (append_assoc h ((a ++ b) ++ c) d))
    ∙ ap (λ t. ((t ++ d) ++ e) ++ f) (sym (append_assoc h (a ++ b) c))
    ∙ ap (λ t. (((t ++ c) ++ d) ++ e) ++ f) (sym (append_assoc h a b))

-- the text of a generated model
pub model_piece : (start size : ℕ) → plan_text (model_plan start size) ≡ model_text start size
unfolding model_head
model_piece start size =
    let head = codes "Model {" ∷ quoted (codes "Name") (codes "gen") ∷ codes "System {" ∷ [] in
    nested head (root_plan start size) Done
    ∙ append-nil ((text_of head ++ plan_text (root_plan start size)) ++ ends_text)
    ∙ ap (λ t. (text_of head ++ t) ++ ends_text) (root_piece start size)
    ∙ ap (λ t. t ++ ends_text)
    (behind (text_of head) input_text (flat_map (drawn_group start) (range_with_len 1 size)) (outport_text (codes "Out1") 1)
    (outport_text (codes "Out2") 2) (flat_map entering_lines (range_with_len 1 size)) (last_lines size))
