-- The call of a function by the numbers after its word.
use Rattle.std.proofs.Common.{◌≡◌, ◌≢◌, sym, ◌∙◌, ap, ℕ, zero, suc, ◌-◌, ◌<◌, ◌≤◌, List, ◌∷◌, length, take, get_or, arith}
use Rattle.std.specs.Prelude.{ℤ, Option, None, Some, Result, Ok, Err, MatchResult, if◌then◌else◌}
use Rattle.std.proofs.lemmas.Bool.{eq-eqb, ne_eqb}
use Rattle.std.proofs.lemmas.List.{take_all}
use Rattle.right_claim.specs.Scripts.{out_with}
use Rattle.tool_scripts.specs.declared.calls.ScriptWhy.{ScriptWhy}
use Rattle.tool_scripts.specs.declared.calls.ScriptWhy.TheVariants.{Count}
use Rattle.tool_scripts.specs.declared.calls.ScriptLine.TheVariants.{Out}
use Rattle.tool_scripts.specs.declared.calls.ReadCall.{ReadCall}
use Rattle.tool_scripts.specs.Numbers.{with_number, HasRead}
use Rattle.tool_scripts.specs.Calls.{function_numbered, count_of, counted, call_of_function, out_of_numbers, read_as}

count_at : (counts : List ℕ) (j : ℕ) → 0 < j → count_of counts j ≡ get_or counts (j - 1) 0
count_at counts zero some = absurd (omega arith)
count_at counts (suc k) some = ap (λ i. get_or counts i 0) (omega arith)

-- the call of these numbers, where the first is that of function j
of_function : (counts : List ℕ) (all : Option (List ℤ)) (number : ℤ) (numbers : List ℤ) (j : ℕ) →
    all ≡ Some (number ∷ numbers) → Some j ≡ function_numbered (length counts) number → 0 < j →
    out_of_numbers counts all ≡ counted (get_or counts (j - 1) 0) numbers (out_with j numbers)
of_function counts all number numbers j whole function some =
    ap (out_of_numbers counts) whole ∙ ap (call_of_function counts number numbers) (sym function)
    ∙ ap (λ n. counted n numbers (out_with j numbers)) (count_at counts j some)

pub out_counted : (counts : List ℕ) (all numbers : Option (List ℤ)) (number : ℤ) (found j : ℕ) (into : List ℤ)
    (result : Result ReadCall ScriptWhy) →
    all ≡ with_number (Some number) numbers → HasRead numbers found into →
    Some j ≡ function_numbered (length counts) number → 0 < j → get_or counts (j - 1) 0 ≤ length into →
    MatchResult result (λ read. (found ≡ get_or counts (j - 1) 0) × (read ≡ record { line = Out j; count = found }))
    (λ why. (found ≢ get_or counts (j - 1) 0) × (why ≡ Count found)) →
    MatchResult result (λ read. out_of_numbers counts all ≡ Ok (read_as read into)) (λ why. out_of_numbers counts all ≡ Err why)
out_counted counts all None number found j into result whole read function some room counted = absurd read
out_counted counts all (Some numbers) number found j into (Ok call) whole read function some room is =
    let values : take found into ≡ numbers = read.1 ∙ take_all (length into) numbers (omega (arith, read.0, is.0, room)) in
    of_function counts all number numbers j whole function some
    ∙ ap (λ t. if t then Ok (out_with j numbers) else Err (Count (length numbers)))
    (eq-eqb (length numbers) (get_or counts (j - 1) 0) (read.0 ∙ is.0))
    ∙ ap (λ xs. Ok (out_with j xs)) (sym values) ∙ ap (λ (r : ReadCall). Ok (read_as r into)) (sym is.1)
out_counted counts all (Some numbers) number found j into (Err why) whole read function some room is =
    of_function counts all number numbers j whole function some
    ∙ ap (λ t. if t then Ok (out_with j numbers) else Err (Count (length numbers)))
    (ne_eqb (length numbers) (get_or counts (j - 1) 0) (λ same. is.0 (sym read.0 ∙ same)))
    ∙ ap (λ n. Err (Count n)) read.0 ∙ ap (λ w. Err w) (sym is.1)
