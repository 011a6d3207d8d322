-- Delays that are too long for a file of Lustre, which has a name for each sample.
use Rattle.std.specs.Prelude.{ℕ, Bool, nat_lt, Option, option_map, find}
use Rattle.base_core.specs.declared.Place.{Place}
use Rattle.diagram_blocks.specs.Meaning.{delay_length}
use Rattle.diagram_meaning.specs.Rows.{row_at, row_numbers}
use Rattle.diagram_meaning.specs.Diagram.{Diagram, op_at}

-- the most samples of a delay
abbrev pub sample_limit : ℕ
sample_limit = 64

abbrev pub is_long : Diagram → ℕ → Bool
is_long d b = nat_lt sample_limit (delay_length (op_at d b))

-- the place of the first delay that is too long, if there is one
abbrev pub long_delay : Diagram → Option Place
long_delay d = option_map (λ b. (row_at d.rows b).place) (find (is_long d) (row_numbers d.rows))
