-- The models and traces that are generated.
use Rattle.std.specs.Prelude.{ℕ, ◌+◌, ◌-◌, ◌*◌, ◌==◌, if◌then◌else◌, List, [], ◌∷◌, ◌++◌, flat_map, codes, decimal}
use Rattle.std.specs.Fmt.{signed_decimal}
use Rattle.std.specs.List.{range_with_len}
use Rattle.tool_generator.specs.Draws.{gain_of, initial_of, input_of, signs_of, state_after}
use Rattle.tool_generator.specs.Texts.{block_text, ends_text, inport_text, input_text, line_text, outport_text, quoted, text_of}

-- subsystem k, from 1
abbrev pub group_name : ℕ → List ℕ
group_name k = codes "G" ++ decimal k

unfoldable pub group_head : ℕ → List ℕ
group_head k =
    text_of (codes "Block {" ∷ codes "BlockType SubSystem" ∷ quoted (codes "Name") (group_name k)
    ∷ codes "System {" ∷ [])

-- its blocks: it passes its first input through a gain, and sums its second one with a delay of the
-- sum
unfoldable pub group_blocks : ℕ → List ℕ → ℕ → List ℕ
group_blocks gain signs initial =
    inport_text (codes "a") 1 ++ inport_text (codes "b") 2
    ++ block_text (codes "Gain") (codes "g") (codes "Gain") (decimal gain)
    ++ block_text (codes "UnitDelay") (codes "d") (codes "InitialCondition") (decimal initial)
    ++ block_text (codes "Sum") (codes "s") (codes "Inputs") signs
    ++ outport_text (codes "p") 1 ++ outport_text (codes "q") 2

unfoldable pub group_lines : List ℕ
group_lines =
    line_text (codes "a") 1 (codes "g") 1 ++ line_text (codes "g") 1 (codes "p") 1
    ++ line_text (codes "b") 1 (codes "s") 1
    ++ line_text (codes "d") 1 (codes "s") 2 ++ line_text (codes "s") 1 (codes "d") 1
    ++ line_text (codes "s") 1 (codes "q") 1

unfoldable pub group_text : ℕ → ℕ → List ℕ → ℕ → List ℕ
group_text k gain signs initial =
    group_head k ++ group_blocks gain signs initial ++ group_lines ++ ends_text

-- subsystem k, from 1, by the next three draws after those of the subsystems before it
abbrev pub drawn_group : ℕ → ℕ → List ℕ
drawn_group start k =
    let before = 3 * (k - 1) in
    group_text k (gain_of (state_after start (before + 1)))
    (signs_of (state_after start (before + 2))) (initial_of (state_after start
    (before + 3)))

-- what enters subsystem k: the second output of the one before it, the input for the first, and its
-- own first output
unfoldable pub entering_lines : ℕ → List ℕ
entering_lines k =
    (if k == 1 then line_text (codes "In1") 1 (group_name 1) 1
    else line_text (group_name (k - 1)) 2 (group_name k) 1)
    ++ line_text (group_name k) 1 (group_name k) 2

-- the lines that enter the outputs
abbrev pub last_lines : ℕ → List ℕ
last_lines size =
    line_text (group_name size) 2 (codes "Out1") 1 ++ line_text (group_name size) 1 (codes "Out2") 1

unfoldable pub model_head : List ℕ
model_head = text_of (codes "Model {" ∷ quoted (codes "Name") (codes "gen") ∷ codes "System {" ∷ [])

-- the model of so many subsystems
abbrev pub model_text : ℕ → ℕ → List ℕ
model_text start size =
    model_head ++ input_text ++ flat_map (drawn_group start) (range_with_len 1 size)
    ++ outport_text (codes "Out1") 1 ++ outport_text (codes "Out2") 2
    ++ flat_map entering_lines (range_with_len 1 size)
    ++ last_lines size ++ ends_text

-- one line of a trace
abbrev pub row_text : ℕ → List ℕ
row_text drawn = signed_decimal (input_of drawn) ++ 10 ∷ []

-- the trace of four ticks, by the next four draws after those of the subsystems
abbrev pub trace_text : ℕ → ℕ → List ℕ
trace_text start size =
    flat_map (λ k. row_text (state_after start (3 * size + k))) (range_with_len 1 4)
