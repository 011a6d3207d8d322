-- Which rows remember one sample, and which remember several.
use Rattle.std.specs.Prelude.{Bool, true, false}
use Rattle.diagram_blocks.specs.declared.Op.{Op}
use Rattle.diagram_blocks.specs.declared.Op.TheVariants.{Delay, Line}

-- whether a row remembers one sample, in a field
abbrev pub is_single : Op → Bool
is_single (Delay initial) = true
is_single _ = false

-- whether a row is a delay of so many samples as it says, in a ring: an array, the place of the
-- oldest item, and how many samples were taken
abbrev pub is_line : Op → Bool
is_line (Line length start) = true
is_line _ = false
