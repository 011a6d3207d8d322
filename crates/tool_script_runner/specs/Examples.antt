-- Worked scripts.
use Rattle.std.specs.Prelude.{◌≡◌, refl, List, [], ◌∷◌, pos, negsuc, codes}
use Rattle.std.specs.Fmt.{digits}
use Rattle.right_claim.specs.Scripts.{out_with, update_with}
use Rattle.tool_script_runner.specs.Answers.{Answered}
use Rattle.tool_script_runner.specs.Standings.{totals_of}
use Rattle.tool_script_runner.specs.Texts.{out_line, answers_text}

two-outputs : out_line 3 (pos 5 ∷ negsuc 6 ∷ []) ≡ codes "out 3 5 -7\n"
unfolding digits
two-outputs = refl

no-outputs : out_line 12 [] ≡ codes "out 12\n"
unfolding digits
no-outputs = refl

-- two calls and the update of a system whose outputs are its inputs
crossed_calls : List Answered
crossed_calls =
    record {
      call = out_with 2 (pos 9 ∷ []);
      outputs = pos 9 ∷ [];
      cost = record { steps = 2; calls = 1 };
    }
    ∷ record {
      call = out_with 1 (pos 4 ∷ []);
      outputs = pos 4 ∷ [];
      cost = record { steps = 2; calls = 1 };
    }
    ∷ record {
      call = update_with (pos 4 ∷ pos 9 ∷ []);
      outputs = [];
      cost = record { steps = 0; calls = 1 };
    }
    ∷ []

crossed-text : answers_text crossed_calls ≡ codes "out 2 9\nout 1 4\n"
unfolding crossed_calls digits
crossed-text = refl

crossed-totals : totals_of crossed_calls ≡ record { ticks = 1; steps = 4; calls = 3 }
unfolding crossed_calls
crossed-totals = refl
