-- What is known of rows while rules are followed.
use Rattle.std.specs.Prelude.{ℕ, Bool, true, false, List, slice_index_or, Option, None}
use Rattle.base_fixed_point.specs.declared.FixType.{FixType}
use Rattle.diagram_types.specs.declared.marks.Mark.{Mark}
use Rattle.diagram_types.specs.declared.marks.Mark.TheVariants.{New, OnPath, Settled}

-- the mark of row b; from past the end no type is met
abbrev pub mark_at : List Mark → ℕ → Mark
mark_at marks b = slice_index_or marks b (Settled None)

-- whether nothing is known of a row yet
abbrev pub is_new : Mark → Bool
is_new New = true
is_new OnPath = false
is_new (Settled met) = false

-- the type that is met from a row with this mark
abbrev pub met_by : Mark → Option FixType
met_by New = None
met_by OnPath = None
met_by (Settled met) = met
