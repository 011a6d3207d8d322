-- Worked runs.
use Rattle.std.specs.Prelude.{◌≡◌, refl, [], ◌∷◌, pos, negsuc, codes}
use Rattle.std.specs.Fmt.{digits}
use Rattle.c_semantics.specs.Rows.{c_rows}
use Rattle.c_syntax.specs.ProgramExamples.{one_program}
use Rattle.c_semantics.specs.RowsExamples.{one_tick}
use Rattle.tool_runner.specs.Texts.{outputs_line, ticks_text}
use Rattle.tool_runner.specs.Runs.{totals_of}

two-outputs : outputs_line (pos 5 ∷ negsuc 6 ∷ []) ≡ codes "5 -7\n"
unfolding digits
two-outputs = refl

no-outputs : outputs_line [] ≡ codes "\n"
no-outputs = refl

three-ticks : ticks_text
    (c_rows one_program ((pos 5 ∷ []) ∷ (negsuc 6 ∷ []) ∷ (pos 2147483647 ∷ []) ∷ [])).ticks
    ≡ codes "5\n-7\n2147483647\n"
unfolding digits
three-ticks = refl

three-totals : totals_of (one_tick (pos 5) ∷ one_tick (negsuc 6) ∷ one_tick (pos 2147483647) ∷ [])
    ≡ record { ticks = 3; steps = 18; calls = 6 }
three-totals = refl
