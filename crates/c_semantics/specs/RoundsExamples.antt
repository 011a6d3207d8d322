-- The rows of a program with pure functions, conditions, a private procedure and a field that is a
-- struct.
use Rattle.std.specs.Prelude.{◌≡◌, ℤ, pos, negsuc, [], ◌∷◌, refl}
use Rattle.std.specs.Fmt.{digits}
use Rattle.c_syntax.specs.RoundsProgram.{rounds_program}
use Rattle.c_semantics.specs.Rows.{TickRow, c_rows}

abbrev pub rounds_tick : ℤ → ℤ → ℤ → TickRow
rounds_tick a b c = record {
  outputs = a ∷ b ∷ c ∷ [];
  steps = 12;
  log = record { path = 1 ∷ []; procedure = 1 } ∷ [];
  stores = record { path = 1 ∷ []; field = 0 } ∷ record { path = 1 ∷ []; field = 1 }
      ∷ record { path = []; field = 2 } ∷ record { path = []; field = 0 }
      ∷ record { path = []; field = 3 } ∷ [];
}

pub rounds-rows : (c_rows rounds_program ((pos 2040 ∷ []) ∷ (negsuc 39 ∷ []) ∷ [])).ticks
    ≡ rounds_tick (pos 127) (pos 127) (pos 2041000)
    ∷ rounds_tick (negsuc 1) (negsuc 2) (negsuc 37999) ∷ []
unfolding digits
rounds-rows = refl
