-- What is wrong with the delays of a table: all of them together remember too many samples.
use Rattle.std.specs.Prelude.{ℕ, ◌+◌, nat_lt, if◌then◌else◌, List, [], ◌∷◌, flat_map, Option, Some, None, option_map}
use Rattle.base_refusals.specs.Refusals.{PlainRefusal, LongDelays}
use Rattle.diagram_blocks.specs.declared.Kind.{Kind}
use Rattle.diagram_blocks.specs.declared.Kind.TheVariants.{Delay}
use Rattle.diagram_meaning.specs.declared.table.Row.{Row}
use Rattle.diagram_meaning.specs.Rows.{row_at, row_numbers}
use Rattle.diagram_meaning.specs.TypeRefusals.{line_at}
use Rattle.diagram_meaning.specs.TimeRefusals.{AtLine}

-- the length of a delay of several samples at this line; rows of other kinds, a delay of one sample
-- too, don't count
abbrev pub length_at : ℕ → Kind → List AtLine
length_at line (Delay length initial) = record { line = line; number = length } ∷ []
length_at line _ = []

-- the lengths of a table's delays of several samples, row by row
abbrev pub lengths_by_line : List Row → List AtLine
lengths_by_line rows =
    flat_map (λ b. length_at (line_at rows b) (row_at rows b).kind) (row_numbers rows)

-- the first sum that exceeds the limit, of the number so far and the first ones of the list
abbrev pub first_sum_over : (limit so_far : ℕ) → List AtLine → Option AtLine
first_sum_over limit so_far [] = None
first_sum_over limit so_far (next ∷ rest) =
    let total = so_far + next.number in
    if nat_lt limit total then Some (record { line = next.line; number = total })
    else first_sum_over limit total rest

-- the refusal of a table whose delays together remember more than a million samples
abbrev pub delay_refusal : List Row → Option PlainRefusal
delay_refusal rows =
    option_map (λ (over : AtLine). LongDelays over.line over.number)
    (first_sum_over 1_000_000 0 (lengths_by_line rows))
