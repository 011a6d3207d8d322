-- The program of a model with one input and one output, and a division by zero, run.
use Rattle.std.specs.Prelude.{◌≡◌, ℤ, pos, negsuc, [], ◌∷◌, Some, refl}
use Rattle.std.specs.Fmt.{digits}
use Rattle.c_syntax.specs.declared.fault.Why.TheVariants.{ZeroDivisor}
use Rattle.c_semantics.specs.Rows.{TickRow, c_rows}
use Rattle.c_syntax.specs.ProgramExamples.{one_program, zero_program}

abbrev pub one_tick : ℤ → TickRow
one_tick v = record {
  outputs = v ∷ [];
  steps = 6;
  log = record { path = 2 ∷ []; procedure = 2 } ∷ record { path = 2 ∷ []; procedure = 3 } ∷ [];
  stores = record { path = 2 ∷ []; field = 0 } ∷ record { path = 2 ∷ []; field = 1 }
      ∷ record { path = []; field = 1 } ∷ record { path = []; field = 0 } ∷ [];
}

-- each tick gives its input, in six steps and two calls
pub one_program-rows : (c_rows one_program ((pos 5 ∷ []) ∷ (negsuc 6 ∷ []) ∷ (pos 2147483647 ∷ [])
    ∷ [])).ticks ≡ one_tick (pos 5) ∷ one_tick (negsuc 6) ∷ one_tick (pos 2147483647) ∷ []
unfolding digits
one_program-rows = refl

pub zero_program-stuck : (c_rows zero_program ((pos 1 ∷ []) ∷ [])).stuck_place
    ≡ Some (record { line = 5; why = ZeroDivisor })
unfolding digits
zero_program-stuck = refl
