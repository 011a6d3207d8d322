-- The calls of a script, one after another.
use Rattle.std.proofs.Common.{◌≡◌, ◌≢◌, refl, sym, ◌∙◌, ap, subst, ℕ, ◌+◌, ◌-◌, ◌<◌, ◌≤◌, Bool, true, false, List, [], ◌∷◌, length, take, drop, arith, ◌==◌}
use Rattle.std.specs.Prelude.{ℤ, pos, negsuc, Ok, Err, Option, None, Some, nat_lt, nat_le, bytes_eq, codes, ◌&&◌, if◌then◌else◌}
use Rattle.std.specs.Str.Lines.{lines}
use Rattle.std.proofs.lemmas.Bool.{eqb-true, ne_eqb, lt-leb, leb-true, ltb-true}
use Rattle.tool_traces.specs.declared.lines.Next.{Next}
use Rattle.tool_traces.specs.declared.lines.Next.TheVariants.{Line, More, Long as LongNext, End}
use Rattle.tool_traces.specs.Lines.{next_line_of, whole_lines, longest}
use Rattle.tool_traces.specs.Fields.{fields}
use Rattle.tool_traces.specs.Rows.{most_lines}
use Rattle.tool_traces.proofs.lemmas.LineWalk.{shows, some_line, last_is}
use Rattle.right_claim.specs.Scripts.{Call, out_with, update_with}
use Rattle.tool_scripts.specs.declared.calls.ScriptWhy.{ScriptWhy}
use Rattle.tool_scripts.specs.declared.calls.ScriptWhy.TheVariants.{Long, Many, Form, Count}
use Rattle.tool_scripts.specs.Numbers.{numbers_of}
use Rattle.tool_scripts.specs.Calls.{function_numbered, count_of, counted, call_of_function, out_of_numbers, update_of_numbers, call_of_fields, call_of_line, HasItsValues}
use Rattle.tool_scripts.specs.Scripts.{with_call, calls_behind}
use Rattle.tool_scripts.specs.Pieces.{calls_after, with_calls, BeginsBadly, IsNextCall, IsLastCall}

-- ---- The values of a call

-- a function that a number names is there
named : (count : ℕ) (number : ℤ) (j : ℕ) → function_numbered count number ≡ Some j → (0 < j) × (j ≤ count)
named count (negsuc n) j is = cc
named count (pos i) j is = by_tests (nat_lt 0 i) (nat_le i count) refl refl is
  where
    by_tests : (some few : Bool) → nat_lt 0 i ≡ some → nat_le i count ≡ few →
        (if some && few then Some i else None) ≡ Some j → (0 < j) × (j ≤ count)
    by_tests true true some few is =
        let same : i ≡ j = cc in
        (omega (arith, same, ltb-true 0 i some), omega (arith, same, leb-true i count few))
    by_tests true false some few is = cc
    by_tests false few_test some few is = cc

-- of a call that is counted, it has so many values
so_many : (count : ℕ) (values : List ℤ) (c call : Call) → counted count values c ≡ Ok call → (length values ≡ count) × (c ≡ call)
so_many count values c call is = by_test (length values == count) refl is
  where
    by_test : (same : Bool) → (length values == count) ≡ same →
        (if same then Ok c else Err (Count (length values))) ≡ Ok call → (length values ≡ count) × (c ≡ call)
    by_test true same is = (eqb-true (length values) count same, cc)
    by_test false other is = cc

out_values : (counts : List ℕ) (all : ℕ) (numbers : Option (List ℤ)) (call : Call) →
    out_of_numbers counts numbers ≡ Ok call → HasItsValues counts all call
out_values counts all None call is = cc
out_values counts all (Some []) call is = cc
out_values counts all (Some (number ∷ values)) call is = by_function (function_numbered (length counts) number) refl is
  where
    by_function : (function : Option ℕ) → function_numbered (length counts) number ≡ function →
        call_of_function counts number values function ≡ Ok call → HasItsValues counts all call
    by_function None function is = cc
    by_function (Some j) function is =
        let many = so_many (count_of counts j) values (out_with j values) call is in
        let there = named (length counts) number j function in
        subst (HasItsValues counts all) many.1 (there.0, there.1, many.0)

update_values : (counts : List ℕ) (all : ℕ) (numbers : Option (List ℤ)) (call : Call) →
    update_of_numbers all numbers ≡ Ok call → HasItsValues counts all call
update_values counts all None call is = cc
update_values counts all (Some values) call is =
    let many = so_many all values (update_with values) call is in
    subst (HasItsValues counts all) many.1 many.0

field_values : (counts : List ℕ) (all : ℕ) (texts : List (List ℕ)) (call : Call) →
    call_of_fields counts all texts ≡ Ok call → HasItsValues counts all call
field_values counts all [] call is = cc
field_values counts all (word ∷ behind) call is = by_word (bytes_eq word (codes "out")) (bytes_eq word (codes "update")) is
  where
    by_word : (out update : Bool) →
        (if out then out_of_numbers counts (numbers_of behind) else if update
        then update_of_numbers all (numbers_of behind) else Err Form) ≡ Ok call → HasItsValues counts all call
    by_word true update is = out_values counts all (numbers_of behind) call is
    by_word false true is = update_values counts all (numbers_of behind) call is
    by_word false false is = cc

-- a line's call has as many values as it takes
pub call_has_values : (counts : List ℕ) (all : ℕ) (text : List ℕ) (call : Call) →
    call_of_line counts all text ≡ Ok call → HasItsValues counts all call
call_has_values counts all text call is = by_length (nat_le (length text) longest) is
  where
    by_length : (short : Bool) → (if short then call_of_fields counts all (fields text) else Err Long) ≡ Ok call →
        HasItsValues counts all call
    by_length true is = field_values counts all (fields text) call is
    by_length false is = cc

-- ---- One line

long_call : (counts : List ℕ) (all : ℕ) (text : List ℕ) → 4096 < length text → call_of_line counts all text ≡ Err Long
long_call counts all text long =
    ap (λ b. if b then call_of_fields counts all (fields text) else Err Long) (lt-leb (length text) longest long)

one_line : (count : ℕ) (counts : List ℕ) (all : ℕ) (text : List ℕ) (behind : List (List ℕ)) → count ≢ most_lines →
    calls_behind count counts all (text ∷ behind)
    ≡ with_call (count + 1) (call_of_line counts all text) (calls_behind (count + 1) counts all behind)
one_line count counts all text behind fewer =
    ap (λ b. if b then record { calls = []; bad = Some (record { line = most_lines; why = Many }) }
    else with_call (count + 1) (call_of_line counts all text) (calls_behind (count + 1) counts all behind))
    (ne_eqb count most_lines fewer)

one_line_too_many : (count : ℕ) (counts : List ℕ) (all : ℕ) (text : List ℕ) (behind : List (List ℕ)) → count ≡ most_lines →
    calls_behind count counts all (text ∷ behind) ≡ record { calls = []; bad = Some (record { line = count; why = Many }) }
one_line_too_many count counts all text behind is =
    ap (λ n. calls_behind n counts all (text ∷ behind)) is
    ∙ ap (λ n. record { calls = []; bad = Some (record { line = n; why = Many }) }) (sym is)

-- a line that is a call, in front of others
good_line : (count : ℕ) (counts : List ℕ) (all : ℕ) (text : List ℕ) (call : Call) (behind : List (List ℕ)) →
    count < most_lines → call_of_line counts all text ≡ Ok call →
    calls_behind count counts all (text ∷ behind) ≡ with_calls (call ∷ []) (calls_behind (count + 1) counts all behind)
good_line count counts all text call behind fewer good =
    one_line count counts all text behind (omega arith)
    ∙ ap (λ r. with_call (count + 1) r (calls_behind (count + 1) counts all behind)) good

-- a line that is none
bad_line : (count : ℕ) (counts : List ℕ) (all : ℕ) (text : List ℕ) (why : ScriptWhy) (behind : List (List ℕ)) →
    count ≢ most_lines → call_of_line counts all text ≡ Err why →
    calls_behind count counts all (text ∷ behind) ≡ record { calls = []; bad = Some (record { line = count + 1; why = why }) }
bad_line count counts all text why behind fewer bad =
    one_line count counts all text behind fewer ∙ ap (λ r. with_call (count + 1) r (calls_behind (count + 1) counts all behind)) bad

-- ---- The next call

pub line_places : (bytes : List ℕ) (from start end after : ℕ) → Line start end after ≡ next_line_of bytes from false →
    (start ≤ end) × (end ≤ length bytes)
line_places bytes from start end after is = let line = shows bytes from (Line start end after) is in (line.ordered, line.inside)

pub long_next : (bytes counts : List ℕ) (all count from : ℕ) → LongNext ≡ next_line_of bytes from false → count ≢ most_lines →
    BeginsBadly (record { line = count + 1; why = Long }) (drop from bytes) counts all count
long_next bytes counts all count from is fewer = λ behind.
    let first = shows bytes from LongNext is behind in
    ap (calls_behind count counts all) first.is
    ∙ bad_line count counts all first.line Long first.behind fewer (long_call counts all first.line first.has)

pub call_next : (bytes counts : List ℕ) (all count from start end after : ℕ) (call : Call) →
    Line start end after ≡ next_line_of bytes from false → count < most_lines →
    call_of_line counts all (take (end - start) (drop start bytes)) ≡ Ok call → IsNextCall bytes counts all count from after call
call_next bytes counts all count from start end after call is fewer good =
    let text = take (end - start) (drop start bytes) in
    let line = shows bytes from (Line start end after) is in
    record {
      goes_on = line.goes_on;
      within = line.within;
      fewer = fewer;
      values = call_has_values counts all text call good;
      writes = record {
        every = λ behind. ap (calls_behind count counts all) (line.all behind)
            ∙ good_line count counts all text call (lines behind) fewer good;
        whole = λ behind. ap (calls_behind count counts all) (line.whole behind)
            ∙ good_line count counts all text call (whole_lines behind) fewer good;
      };
    }

pub bad_next : (bytes counts : List ℕ) (all count from start end after : ℕ) (why : ScriptWhy) →
    Line start end after ≡ next_line_of bytes from false → count ≢ most_lines →
    call_of_line counts all (take (end - start) (drop start bytes)) ≡ Err why →
    BeginsBadly (record { line = count + 1; why = why }) (drop from bytes) counts all count
bad_next bytes counts all count from start end after why is fewer bad = λ behind.
    let first = (shows bytes from (Line start end after) is).first behind in
    ap (calls_behind count counts all) first.is
    ∙ bad_line count counts all first.line why first.behind fewer (ap (call_of_line counts all) first.has ∙ bad)

pub too_many : (bytes counts : List ℕ) (all count from : ℕ) (next : Next) → next ≡ next_line_of bytes from false →
    next ≢ End → next ≢ More → count ≡ most_lines →
    BeginsBadly (record { line = count; why = Many }) (drop from bytes) counts all count
too_many bytes counts all count from next is some unended full = λ behind.
    let first = some_line bytes from next is some unended behind in
    ap (calls_behind count counts all) first.is ∙ one_line_too_many count counts all first.line first.behind full

-- ---- The last call

pub call_last : (text counts : List ℕ) (all count : ℕ) (call : Call) → whole_lines text ≡ [] → length text ≢ 0 →
    count < most_lines → call_of_line counts all text ≡ Ok call →
    IsLastCall text counts all count call
call_last text counts all count call none some fewer good = record {
  fewer = fewer;
  values = call_has_values counts all text call good;
  calls = ap (calls_behind count counts all) (last_is text none some) ∙ good_line count counts all text call [] fewer good;
}

pub bad_last : (text counts : List ℕ) (all count : ℕ) (why : ScriptWhy) → whole_lines text ≡ [] → length text ≢ 0 →
    count ≢ most_lines → call_of_line counts all text ≡ Err why →
    calls_after count counts all text ≡ record { calls = []; bad = Some (record { line = count + 1; why = why }) }
bad_last text counts all count why none some fewer bad =
    ap (calls_behind count counts all) (last_is text none some) ∙ bad_line count counts all text why [] fewer bad

pub too_many_last : (text counts : List ℕ) (all count : ℕ) → whole_lines text ≡ [] → length text ≢ 0 → count ≡ most_lines →
    calls_after count counts all text ≡ record { calls = []; bad = Some (record { line = count; why = Many }) }
too_many_last text counts all count none some full =
    ap (calls_behind count counts all) (last_is text none some) ∙ one_line_too_many count counts all text [] full
