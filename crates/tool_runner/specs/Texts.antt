-- The lines that a run prints.
use Rattle.std.specs.Prelude.{ℕ, ℤ, List, map, flat_map}
use Rattle.std.specs.Fmt.{signed_decimal}
use Rattle.base_core.specs.Bytes.{line_of_words}
use Rattle.c_semantics.specs.Rows.{TickRow}

-- the line of a tick with these outputs: their decimal numbers, with a space between each two
abbrev pub outputs_line : List ℤ → List ℕ
outputs_line outputs = line_of_words (map signed_decimal outputs)

-- the lines of ticks
abbrev pub ticks_text : List TickRow → List ℕ
ticks_text ticks = flat_map (λ tick. outputs_line tick.outputs) ticks
