-- A text that is a sample time stands for one within the limits.
use Rattle.std.proofs.Common.{◌≡◌, refl, sym, subst, ℕ, zero, suc, ◌*◌, ◌^◌, ◌<◌, ◌≤◌, nat_le, Bool, true, false, ◌&&◌, cond, true≢false, List, Option, None, Some, ℤ, pos, negsuc, unsigned_abs, arith, leb-true, ltb-true}
use Rattle.std.specs.Prelude.{◌==◌, Result, Ok, Err, not, take_while}
use Rattle.base_core.specs.Numbers.{AreLowest}
use Rattle.base_core.specs.Bytes.{trim, drop_while}
use Rattle.base_numerals.specs.Literals.{Ratio, frac_parts, plain_value, number_value, without_brackets}
use Rattle.base_core.specs.declared.NumFault.{NumFault}
use Rattle.base_core.specs.declared.NumFault.TheVariants.{Range}
use Rattle.base_core.specs.declared.TimeText.{TimeText}
use Rattle.base_core.specs.declared.TimeText.TheVariants as time
use Rattle.mdl_params.specs.declared.ParamFault.{ParamFault}
use Rattle.mdl_params.specs.declared.ParamFault.TheVariants.{Parameter, Continuous}
use Rattle.mdl_params.specs.Times.{TimeMeaning, Inherit, Constant, Each, time_of, is_below, each_time, time_by_values, time_by_numbers, time_by_texts, pair_text, time_by_pair, is_separator, behind_separator, is_inherited, is_constant, trimmed_time, time_form}
use Rattle.mdl_table.proofs.NumberValues.{IsDecimal, GivesDecimal, plain-gives, zero_is}

-- a period above 0 and an offset below it, in lowest terms and in parts of at most 10^9
abbrev pub IsEach : (period offset : ℕ × ℕ) → Type 0
IsEach period offset =
    ((0 < period.0) × (period.0 ≤ 10 ^ 9) × (period.1 ≤ 10 ^ 9)) × ((offset.0 ≤ 10 ^ 9) × (offset.1 ≤ 10 ^ 9))
    × (offset.0 * period.1 < period.0 * offset.1)
    × (AreLowest period.0 period.1 × AreLowest offset.0 offset.1)

abbrev pub IsHeld : TimeMeaning → Type 0
IsHeld Inherit = Unit {0}
IsHeld Constant = Unit {0}
IsHeld (Each period offset) = IsEach period offset

abbrev GivesTime : Result TimeMeaning ParamFault → Type 0
GivesTime (Ok meaning) = IsHeld meaning
GivesTime (Err fault) = Unit {0}

gives-by : (t : Bool) (r s : Result TimeMeaning ParamFault) → (t ≡ true → GivesTime r) → (t ≡ false → GivesTime s) → GivesTime (cond t r s)
gives-by true r s p q = p refl
gives-by false r s p q = q refl

-- parts within the limits
abbrev GivesParts : Result (ℕ × ℕ) NumFault → Type 0
GivesParts (Ok parts) = (parts.0 ≤ 10 ^ 9) × (parts.1 ≤ 10 ^ 9) × AreLowest parts.0 parts.1
GivesParts (Err fault) = Unit {0}

-- the same above 0
abbrev GivesPositive : Result (ℕ × ℕ) NumFault → Type 0
GivesPositive (Ok parts) = (0 < parts.0) × (parts.0 ≤ 10 ^ 9) × (parts.1 ≤ 10 ^ 9) × AreLowest parts.0 parts.1
GivesPositive (Err fault) = Unit {0}

pub both-true : (t u : Bool) → (t && u) ≡ true → (t ≡ true) × (u ≡ true)
both-true true u e = (refl, e)
both-true false u e = absurd (true≢false (sym e))

parts-given : (num : ℤ) (den : ℕ) → AreLowest (unsigned_abs num) den → GivesParts (frac_parts num den)
parts-given (negsuc n) den is = tt
parts-given (pos n) den is = by (nat_le n 1_000_000_000 && nat_le den 1_000_000_000) refl
  where
    by : (t : Bool) → (nat_le n 1_000_000_000 && nat_le den 1_000_000_000) ≡ t → GivesParts (cond t (Ok (n, den)) (Err Range))
    by true e = let both = both-true _ _ e in (leb-true n 1_000_000_000 both.0, leb-true den 1_000_000_000 both.1, is)
    by false e = tt

pub above-zero : (n : ℕ) → (n == 0) ≡ false → 0 < n
above-zero zero e = absurd (true≢false e)
above-zero (suc n) e = omega arith

positive-given : (num : ℤ) (den : ℕ) → AreLowest (unsigned_abs num) den → (unsigned_abs num == 0) ≡ false →
    GivesPositive (frac_parts num den)
positive-given (negsuc n) den is some = tt
positive-given (pos n) den is some = by (nat_le n 1_000_000_000 && nat_le den 1_000_000_000) refl
  where
    by : (t : Bool) → (nat_le n 1_000_000_000 && nat_le den 1_000_000_000) ≡ t → GivesPositive (cond t (Ok (n, den)) (Err Range))
    by true e = let both = both-true _ _ e in (above-zero n some, leb-true n 1_000_000_000 both.0, leb-true den 1_000_000_000 both.1, is)
    by false e = tt

each-given : (period offset : Result (ℕ × ℕ) NumFault) → GivesPositive period → GivesParts offset → GivesTime (each_time period offset)
each-given (Err fault) offset p q = tt
each-given (Ok period) (Err fault) p q = tt
each-given (Ok period) (Ok offset) p q =
    gives-by (is_below offset period) (Ok (Each period offset)) (Err Parameter)
    (λ e. ((p.0, p.1, p.2), (q.0, q.1), ltb-true (offset.0 * period.1) (period.0 * offset.1) e, (p.3, q.2))) (λ e. tt)

values-given : (period offset : Ratio) → IsDecimal period → IsDecimal offset → GivesTime (time_by_values period offset)
values-given period offset is has =
    gives-by (unsigned_abs period.num == 0) (Err Continuous)
    (each_time (frac_parts period.num period.den) (frac_parts offset.num offset.den)) (λ e. tt)
    (λ e. each-given (frac_parts period.num period.den) (frac_parts offset.num offset.den)
    (positive-given period.num period.den is.lowest e) (parts-given offset.num offset.den has.lowest))

numbers-given : (period offset : Result Ratio NumFault) → GivesDecimal period → GivesDecimal offset →
    GivesTime (time_by_numbers period offset)
numbers-given (Err fault) offset is has = tt
numbers-given (Ok period) (Err fault) is has = tt
numbers-given (Ok period) (Ok offset) is has = values-given period offset is has

texts-given : (period : List ℕ) (offset : Option (List ℕ)) → GivesTime (time_by_texts period offset)
texts-given period None = tt
texts-given period (Some offset) = numbers-given (plain_value period) (plain_value offset) (plain-gives period) (plain-gives offset)

pair-given : (text : List ℕ) (inside : Option (List ℕ)) → GivesTime (time_by_pair text inside)
pair-given text None =
    numbers-given (number_value text) (Ok (record { num = pos 0; den = 1 })) (plain-gives (without_brackets (trim text))) zero_is
pair-given text (Some inside) =
    texts-given (take_while (λ c. not (is_separator c)) inside) (behind_separator (drop_while (λ c. not (is_separator c)) inside))

trimmed-given : (text : List ℕ) → GivesTime (trimmed_time text)
trimmed-given text =
    gives-by (is_inherited text) _ _ (λ e. tt) (λ e. gives-by (is_constant text) _ _ (λ e. tt) (λ e. pair-given text (pair_text text)))

-- a time that is written is within its limits
pub time-held : (text : List ℕ) (meaning : TimeMeaning) → time_form text ≡ Ok meaning → IsHeld meaning
time-held text meaning e = subst GivesTime e (trimmed-given (trim text))

-- the text of a meaning within its limits
pub time-by : (meaning : TimeMeaning) → IsHeld meaning → (t : TimeText) × (time_of t ≡ meaning)
time-by Inherit is = (time.Inherit, refl)
time-by Constant is = (time.Constant, refl)
time-by (Each period offset) is = (
  time.Each (record { num = period.0; den = period.1; lowest = is.3.0 }) (record { num = offset.0; den = offset.1; lowest = is.3.1 }),
  refl,
)
