-- What a table in which nothing is wrong is within.
use Rattle.std.specs.Prelude.{◌≡◌, refl, ℕ, zero, suc, ◌+◌, ◌<◌, ◌≤◌, nat_lt, Bool, true, false, List, [], ◌∷◌, ◌++◌, map, filter, flat_map, fold, length, slice_index_or, Option, Some, None, option_map, unwrap_or, MatchOption, if◌then◌else◌}
use Rattle.std.specs.List.{range_with_len}
use Rattle.std.specs.Option.{option_or}
use Rattle.std.proofs.Common.{sym, ◌∙◌, ap, ap₂, subst, arith, lit≤}
use Rattle.std.proofs.lemmas.Bool.Decides.{nat_tests}
use Rattle.std.proofs.lemmas.List.{get_or_past}
use native.Mathlib.Decide.{dec_lt, ℕ_discrete}
use mathlib.Core.Path.{fun_ext}
use Rattle.base_core.specs.Numbers.{lcm}
use Rattle.base_core.specs.declared.TimeText.{TimeText}
use Rattle.base_refusals.specs.Refusals.{PlainRefusal, TooWide, LongCycle}
use Rattle.base_refusals.specs.declared.CycleWhat.TheVariants.{Hyper}
use Rattle.base_fixed_point.specs.declared.FixType.{FixType}
use Rattle.base_fixed_point.specs.Types.{boolean}
use Rattle.diagram_blocks.specs.Width.{wide_bits}
use Rattle.diagram_meaning.specs.declared.table.Row.{Row}
use Rattle.diagram_meaning.specs.RowTable.{RowTable}
use Rattle.diagram_meaning.specs.declared.times.Time.{Time}
use Rattle.diagram_meaning.specs.Rows.{row_at, no_row}
use Rattle.diagram_meaning.specs.Types.{HasType, type_at}
use Rattle.base_refusals.specs.FirstRefusal.{least_line}
use Rattle.diagram_meaning.specs.TypeRefusals.{line_at, type_of_row, types_of_rows, bits_of_row, bad_types, signed_triggers, wide_rows}
use Rattle.diagram_meaning.specs.SampleTimes.{written_by, written_time, periods_in, hyperperiod}
use Rattle.diagram_meaning.specs.TimeRefusals.{AtLine, by_line, first_over, times_inside, long_denominator, long_period, long_cycle, written_time_refusal, AreInputTimes, rate_refusal, HasTimeRefusal}
use Rattle.diagram_meaning.specs.ResolvedLaws.{ResolvedRowsAreNarrow, ResolvedCyclesAreShort}
use Rattle.diagram_meaning.proofs.lemmas.TypeFollowed.{type_followed}
use Rattle.diagram_meaning.proofs.lemmas.ByRow.{by_row-at, length-by_row}

-- ---- Passes that find nothing

pub none_later : (found rest : Option PlainRefusal) → option_or found rest ≡ None → (found ≡ None) × (rest ≡ None)
none_later None rest e = (refl, e)
none_later (Some refusal) rest e = absurd (let wrong : ⊥ = cc e in wrong)

pub nothing_listed : (refusals : List PlainRefusal) → least_line refusals ≡ None → refusals ≡ []
nothing_listed [] e = refl
nothing_listed (refusal ∷ rest) e = absurd (let wrong : ⊥ = cc e in wrong)

-- where a filter keeps none of the numbers from a on, none of them passes
pub none_pass : {X : Type 0} (test : ℕ → Bool) (f : ℕ → X) (n a b : ℕ) → map f (filter test (range_with_len a n)) ≡ [] →
    a ≤ b → b < a + n → test b ≡ false
none_pass test f zero a b e low high = absurd (omega arith)
none_pass test f (suc n) a b e low high = by (test a) refl e (none_pass test f n (a + 1) b)
  where
    by : (r : Bool) → test a ≡ r →
        map f (if r then a ∷ filter test (range_with_len (a + 1) n) else filter test (range_with_len (a + 1) n)) ≡ [] →
        (map f (filter test (range_with_len (a + 1) n)) ≡ [] → a + 1 ≤ b → b < a + 1 + n → test b ≡ false) → test b ≡ false
    by true q e rest = absurd (let wrong : ⊥ = cc e in wrong)
    by false q e rest = elim (ℕ_discrete a b) [
      | yes same ↦ subst (λ k. test k ≡ false) same q
      | no differ ↦ rest e (omega arith) (omega arith)
    ]

-- ---- Bits

-- the types that are given are those that rules lead to
types_same : (rows : List Row) (types : List FixType) → length types ≡ length rows →
    ((b : ℕ) → b < length rows → HasType rows b (type_at types b)) → (c : ℕ) → type_at (types_of_rows rows) c ≡ type_at types c
types_same rows types len has c = elim (dec_lt c (length rows)) [
  | yes inside ↦
      by_row-at rows (λ b. unwrap_or (type_of_row rows b) boolean) c boolean inside
      ∙ ap (λ (o : Option FixType). unwrap_or o boolean) ((type_followed rows c (type_at types c)).0 (has c inside))
  | no past ↦
      get_or_past (types_of_rows rows) c boolean (omega (arith, length-by_row rows (λ b. unwrap_or (type_of_row rows b) boolean)))
      ∙ sym (get_or_past types c boolean (omega arith))
]

bits_same : (rows : List Row) (types : List FixType) (b : ℕ) → ((c : ℕ) → type_at (types_of_rows rows) c ≡ type_at types c) →
    bits_of_row rows (types_of_rows rows) b ≡ bits_of_row rows types b
bits_same rows types b e =
    ap₂ (wide_bits (row_at rows b).kind) (ap (λ (f : ℕ → FixType). map f (row_at rows b).inputs) (fun_ext e)) (e b)

pub rows_are_narrow : ResolvedRowsAreNarrow
rows_are_narrow table types ops times b resolved inside =
    let rows = table.rows in
    let typed = none_later (least_line (bad_types rows)) _ resolved.types_accepted in
    let signed = none_later (least_line (signed_triggers rows)) _ typed.1 in
    let wide = none_later (least_line (wide_rows rows)) _ signed.1 in
    let test : ℕ → Bool = λ k. nat_lt 62 (bits_of_row rows (types_of_rows rows) k) in
    let fails = none_pass test (λ k. TooWide (line_at rows k) (bits_of_row rows (types_of_rows rows) k)) (length rows) 0 b
    (nothing_listed (wide_rows rows) wide.0) (omega arith) (omega arith) in
    let few : bits_of_row rows (types_of_rows rows) b ≤ 62 = grind (arith, nat_tests) in
    omega (arith, few, bits_same rows types b (types_same rows types resolved.one_type_each resolved.are_types))

-- ---- Cycles

-- the numbers of a list of numbers with lines
abbrev numbers_of : List AtLine → List ℕ
numbers_of = map (λ (p : AtLine). p.number)

within_limit : (limit so_far : ℕ) (xs : List AtLine) → so_far ≤ limit → first_over limit so_far xs ≡ None →
    fold lcm so_far (numbers_of xs) ≤ limit
within_limit limit so_far [] h e = h
within_limit limit so_far (x ∷ xs) h e = by (nat_lt limit (lcm so_far x.number)) refl e (within_limit limit (lcm so_far x.number) xs)
  where
    by : (r : Bool) → nat_lt limit (lcm so_far x.number) ≡ r →
        (if r then Some (record { line = x.line; number = lcm so_far x.number }) else first_over limit (lcm so_far x.number) xs) ≡ None →
        (lcm so_far x.number ≤ limit → first_over limit (lcm so_far x.number) xs ≡ None →
        fold lcm (lcm so_far x.number) (numbers_of xs) ≤ limit) →
        fold lcm (lcm so_far x.number) (numbers_of xs) ≤ limit
    by true q e rest = absurd (let wrong : ⊥ = cc e in wrong)
    by false q e rest = rest (grind (arith, nat_tests)) e

-- a line beside each number changes none of them
numbers-append : (line : ℕ) (ns : List ℕ) (ys : List AtLine) →
    numbers_of (map (λ n. record { line = line; number = n }) ns ++ ys) ≡ ns ++ numbers_of ys
numbers-append line [] ys = refl
numbers-append line (n ∷ ns) ys = ap (λ l. n ∷ l) (numbers-append line ns ys)

-- what a function of the written times gives for these rows of all, which are numbered from a on
numbers-by_line : (f : TimeText → List ℕ) (all rest : List Row) (a : ℕ) →
    ((b i : ℕ) → b ≡ a + i → row_at all b ≡ slice_index_or rest i no_row) →
    numbers_of (flat_map (λ b. map (λ n. record { line = line_at all b; number = n }) (f (written_time all b)))
    (range_with_len a (length rest)))
    ≡ flat_map (λ (row : Row). f (written_by row.kind row.time_text)) rest
numbers-by_line f all [] a e = refl
numbers-by_line f all (row ∷ rest) a e =
    let first : row_at all a ≡ row = e a 0 (omega arith) in
    numbers-append (line_at all a) (f (written_time all a)) _
    ∙ ap₂ ◌++◌ (ap (λ (r : Row). f (written_by r.kind r.time_text)) first)
    (numbers-by_line f all rest (a + 1) (λ b i q. e b (suc i) (omega arith)))

cycle_is : (table : RowTable) → fold lcm 1 (numbers_of (by_line table.rows (periods_in table))) ≡ hyperperiod table
cycle_is table =
    ap (fold lcm 1)
    (numbers-by_line (periods_in table) table.rows table.rows 0
    (λ b i e. ap (row_at table.rows) (let same : b ≡ i = omega arith in same)))

no_long_cycle : (table : RowTable) (found : Option AtLine) →
    option_map (λ (over : AtLine). LongCycle over.line Hyper over.number) found ≡ None → found ≡ None
no_long_cycle table None e = refl
no_long_cycle table (Some over) e = absurd (let wrong : ⊥ = cc e in wrong)

pub nothing_written : (table : RowTable) → HasTimeRefusal table None → written_time_refusal table ≡ None
nothing_written table h = by (written_time_refusal table) h
  where
    by : (found : Option PlainRefusal) →
        MatchOption found ((inside : List Time) × AreInputTimes table inside × (None ≡ rate_refusal table inside))
        (λ refusal. None ≡ Some refusal) → found ≡ None
    by None h = refl
    by (Some refusal) h = absurd (let wrong : ⊥ = cc h in wrong)

pub cycles_are_short : ResolvedCyclesAreShort
cycles_are_short table types ops times resolved =
    let inside = none_later (least_line (times_inside table.rows)) _ (nothing_written table resolved.times_accepted) in
    let common = none_later (long_denominator table) _ inside.1 in
    let period = none_later (long_period table) _ common.1 in
    let cycle = none_later (long_cycle table) _ period.1 in
    let short = within_limit 1073741824 1 (by_line table.rows (periods_in table)) (lit≤ tt) (no_long_cycle table _ cycle.0) in
    omega (arith, short, cycle_is table, resolved.are_times.hyper)
