-- The lines that the calls of a script print.
use Rattle.std.specs.Prelude.{ℕ, ℤ, pos, List, [], ◌∷◌, map, flat_map, codes}
use Rattle.std.specs.Fmt.{signed_decimal}
use Rattle.base_core.specs.Bytes.{line_of_words}
use Rattle.right_claim.specs.Scripts.{Call, out_with, update_with}
use Rattle.tool_script_runner.specs.Answers.{Answered}

-- the line of a call of function j that reported these outputs: `out`, j and the outputs, with a space
-- between each two
abbrev pub out_line : ℕ → List ℤ → List ℕ
out_line j outputs = line_of_words (codes "out" ∷ map signed_decimal (pos j ∷ outputs))

-- the text of a call that reported these outputs; an update has none
abbrev pub call_text : Call → List ℤ → List ℕ
call_text (out_with j values) outputs = out_line j outputs
call_text (update_with values) outputs = []

-- the text of calls
abbrev pub answers_text : List Answered → List ℕ
answers_text answers = flat_map (λ a. call_text a.call a.outputs) answers
