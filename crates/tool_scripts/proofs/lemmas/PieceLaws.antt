-- Pieces of a script, one after another.
use Rattle.std.proofs.Common.{◌≡◌, refl, sym, ◌∙◌, ap, ℕ, ◌+◌, Bool, true, false, List, [], ◌∷◌, ◌++◌, length, append_assoc, arith, ◌==◌}
use Rattle.std.specs.Prelude.{Result, Ok, Err, None, Some, if◌then◌else◌}
use Rattle.std.specs.List.{AllByRecursion}
use Rattle.std.proofs.lemmas.List.{append-nil, length-append}
use Rattle.tool_traces.specs.Rows.{most_lines}
use Rattle.tool_traces.specs.Pieces.{BeginsLine}
use Rattle.right_claim.specs.Scripts.{Call}
use Rattle.tool_scripts.specs.declared.calls.ScriptWhy.{ScriptWhy}
use Rattle.tool_scripts.specs.declared.calls.ScriptWhy.TheVariants.{Many}
use Rattle.tool_scripts.specs.Calls.{call_of_line, HasItsValues}
use Rattle.tool_scripts.specs.Scripts.{Script, with_call, calls_behind, whole_calls_of}
use Rattle.tool_scripts.specs.Pieces.{calls_after, whole_calls_after, with_calls, WritesCalls}
use Rattle.tool_scripts.proofs.lemmas.CallWalk.{call_has_values}

with_both : (calls more : List Call) (s : Script) → with_calls calls (with_calls more s) ≡ with_calls (calls ++ more) s
with_both calls more s = ap (λ cs. record { calls = cs; bad = s.bad }) (sym (append_assoc calls more s.calls))

-- no text writes no calls
pub none_written : (counts : List ℕ) (all count : ℕ) → WritesCalls [] counts all count []
none_written counts all count =
    let same : count ≡ count + length {A = Call} [] = omega arith in
    record {
      every = λ behind. ap (λ n. with_calls [] (calls_after n counts all behind)) same;
      whole = λ behind. ap (λ n. with_calls [] (whole_calls_after n counts all behind)) same;
    }

-- a text after another writes its calls after the other's
pub both_written : (text more counts : List ℕ) (all count : ℕ) (calls others : List Call) → WritesCalls text counts all count calls →
    WritesCalls more counts all (count + length calls) others → WritesCalls (text ++ more) counts all count (calls ++ others)
both_written text more counts all count calls others first second =
    let size : count + length calls + length others ≡ count + length (calls ++ others) = omega (arith, length-append calls others) in
    record {
      every = λ behind. ap (calls_after count counts all) (append_assoc text more behind) ∙ first.every (more ++ behind)
          ∙ ap (with_calls calls) (second.every behind)
          ∙ with_both calls others (calls_after (count + length calls + length others) counts all behind)
          ∙ ap (λ n. with_calls (calls ++ others) (calls_after n counts all behind)) size;
      whole = λ behind. ap (whole_calls_after count counts all) (append_assoc text more behind)
          ∙ first.whole (more ++ behind) ∙ ap (with_calls calls) (second.whole behind)
          ∙ with_both calls others (whole_calls_after (count + length calls + length others) counts all behind)
          ∙ ap (λ n. with_calls (calls ++ others) (whole_calls_after n counts all behind)) size;
    }

-- whole lines that write these calls, and the beginning of a line
pub whole_calls_are : (text begun counts : List ℕ) (all : ℕ) (calls : List Call) → WritesCalls text counts all 0 calls → BeginsLine begun →
    whole_calls_of counts all (text ++ begun) ≡ record { calls = calls; bad = None }
whole_calls_are text begun counts all calls written begins =
    written.whole begun ∙ ap (λ ls. with_calls calls (calls_behind (0 + length calls) counts all ls)) begins.no_whole
    ∙ ap (λ cs. record { calls = cs; bad = None }) (append-nil calls)

-- each call of a script has as many values as it takes
with_values : (counts : List ℕ) (all line : ℕ) (call : Result Call ScriptWhy) (rest : Script) →
    ((c : Call) → call ≡ Ok c → HasItsValues counts all c) →
    AllByRecursion (HasItsValues counts all) rest.calls → AllByRecursion (HasItsValues counts all) (with_call line call rest).calls
with_values counts all line (Ok c) rest first later = (first c refl, later)
with_values counts all line (Err why) rest first later = tt

pub calls_have_values : (line : ℕ) (counts : List ℕ) (all : ℕ) (texts : List (List ℕ)) →
    AllByRecursion (HasItsValues counts all) (calls_behind line counts all texts).calls
calls_have_values line counts all [] = tt
calls_have_values line counts all (text ∷ texts) = by_line (line == most_lines) (calls_have_values (line + 1) counts all texts)
  where
    by_line : (last : Bool) → AllByRecursion (HasItsValues counts all) (calls_behind (line + 1) counts all texts).calls →
        AllByRecursion (HasItsValues counts all)
        (if last then record { calls = []; bad = Some (record { line = most_lines; why = Many }) }
        else with_call (line + 1) (call_of_line counts all text) (calls_behind (line + 1) counts all texts)).calls
    by_line true later = tt
    by_line false later =
        with_values counts all (line + 1) (call_of_line counts all text) (calls_behind (line + 1) counts all texts)
        (call_has_values counts all text) later
