-- What the parameters of a block that is read say is within their limits.
use Rattle.std.proofs.Common.{◌≡◌, refl, sym, ◌∙◌, ap, subst, ℕ, ◌^◌, ◌<◌, ◌≤◌, nat_le, Bool, true, false, ◌&&◌, ◌||◌, cond, List, [], length, replicate, Option, None, Some, inl, inr, codes, leb-true, pos, arith}
use Rattle.std.specs.Prelude.{◌==◌, bytes_eq, ok_or, option_and_then, option_map, Result, Ok, Err, ◌⊎◌}
use Rattle.std.specs.Option.{option_or}
use Rattle.std.specs.Result.{result_ok, result_map_both}
use Rattle.std.proofs.lemmas.Slice.Eq.{bytes_eq-Decides}
use Rattle.std.proofs.lemmas.Bool.{eqb-true}
use Rattle.std.proofs.lemmas.List.{length-replicate}
use Rattle.base_core.specs.Bytes.{trim}
use Rattle.base_numerals.specs.Literals.{Ratio, plain_value, without_brackets}
use Rattle.base_core.specs.declared.ParamName.{ParamName}
use Rattle.base_fixed_point.specs.Conversion.{fits_32}
use Rattle.base_fixed_point.specs.Rounding.{nearest}
use Rattle.mdl_type_texts.specs.TypeTexts.{Meaning, Inherit, Logical, Back, Fixed}
use Rattle.diagram_blocks.specs.declared.Kind.TheVariants as row
use Rattle.diagram_blocks.specs.declared.Logic.{Logic}
use Rattle.diagram_blocks.specs.declared.Logic.TheVariants.{Not}
use Rattle.diagram_blocks.specs.Limits.{IsCount}
use Rattle.diagram_meaning.specs.WellFormed.{IsKind}
use Rattle.mdl_params.specs.declared.ParamFault.{ParamFault}
use Rattle.mdl_params.specs.declared.ParamFault.TheVariants as param_fault
use Rattle.mdl_params.specs.Forms.{number_form, type_form}
use Rattle.mdl_params.specs.Times.{TimeMeaning, time_form}
use Rattle.mdl_params.specs.Times as time
use Rattle.mdl_blocks.specs.declared.fault.Fault.{Fault}
use Rattle.mdl_blocks.specs.declared.fault.Fault.TheVariants.{Parameter}
use Rattle.mdl_blocks.specs.declared.signs.SignMask.{SignMask}
use Rattle.base_core.specs.Results.{◌>>=◌}
use Rattle.mdl_blocks.specs.Meanings.{TypeSaid, known_type, float_type, type_by, type_in, unless_fractional, whole_type_in, TimeSaid, known_time, zero_time, time_by, any_time_in, unless_constant, time_in, out_time, ConstantSaid, is_truth, constant_in}
use Rattle.mdl_blocks.specs.Words.{number_in, whole_number, number_up_to, factor_in, initial_output_in}
use Rattle.mdl_blocks.specs.Signs.{up_to_16, signs_of, are_signs, written_signs, pluses, signs_in, mask_of, sum_signs, are_stars, star_count, product_count, logic_count}
use Rattle.mdl_blocks.specs.Blocks.{Texts, required}
use Rattle.mdl_blocks.proofs.lemmas.Signs.{minus_mask-bound}
use Rattle.mdl_table.proofs.NumberValues.{IsDecimal, zero_is, number-decimal}
use Rattle.mdl_table.proofs.TypeValues as type_value
use Rattle.mdl_table.proofs.TimeValues as time_value
use Rattle.mdl_table.proofs.TimeValues.{both-true}

-- ---- Values that are there

pub none-some : {A : Type 0} (x : A) → None ≡ Some x → ⊥
none-some x e = cc e

pub some-same : {A : Type 0} (x y : A) → Some x ≡ Some y → x ≡ y
some-same x y e = cc e

pub err-ok : {A E : Type 0} (fault : E) (x : A) → Err fault ≡ Ok x → ⊥
err-ok fault x e = cc e

pub ok-same : {A E : Type 0} (x y : A) → (let one : Result A E = Ok x in one) ≡ Ok y → x ≡ y
ok-same x y e = cc e

ok-form : {A E : Type 0} (r : Result A E) (x : A) → result_ok r ≡ Some x → r ≡ Ok x
ok-form (Ok y) x e = ap Ok (some-same y x e)
ok-form (Err fault) x e = absurd (none-some x e)

-- the text of a parameter that has its form
pub text-of : {A : Type 0} (meaning : List ℕ → Option A) (texts : Texts) (name : ParamName) (a : A) → required meaning texts name ≡ Ok a →
    (text : List ℕ) × (meaning text ≡ Some a)
text-of {A} meaning texts name a e = by (texts name) e
  where
    means : (text : List ℕ) (o : Option A) → meaning text ≡ o → ok_or o (Parameter name) ≡ Ok a → (text : List ℕ) × (meaning text ≡ Some a)
    means text None p e = absurd (err-ok (Parameter name) a e)
    means text (Some b) p e = (text, p ∙ ap Some (ok-same b a e))

    by : (r : Result (List ℕ) Fault) → (r >>= λ text. ok_or (meaning text) (Parameter name)) ≡ Ok a →
        (text : List ℕ) × (meaning text ≡ Some a)
    by (Ok text) e = means text (meaning text) refl e
    by (Err fault) e = absurd (err-ok fault a e)

-- ---- Numbers

-- a number that is written is a decimal
pub number-sound : (text : List ℕ) (r : Ratio) → number_in text ≡ Some r → IsDecimal r
number-sound text r e = number-decimal text r (ok-form (number_form text) r e)

pub initial-sound : (text : List ℕ) (r : Ratio) → initial_output_in text ≡ Some r → IsDecimal r
initial-sound text r e = by (bytes_eq text (codes "[]")) e
  where
    by : (t : Bool) → cond t (Some (record { num = pos 0; den = 1 })) (number_in text) ≡ Some r → IsDecimal r
    by true e = subst IsDecimal (some-same (record { num = pos 0; den = 1 }) r e) zero_is
    by false e = number-sound text r e

-- the nearest whole number fits
abbrev pub IsFactor : Ratio → Type 0
IsFactor r = IsDecimal r × (fits_32 (nearest r.num r.den) ≡ true)

pub factor-sound : (text : List ℕ) (r : Ratio) → factor_in text ≡ Some r → IsFactor r
factor-sound text r e = by (number_in text) refl e
  where
    fits : (s : Ratio) (t : Bool) → number_in text ≡ Some s → fits_32 (nearest s.num s.den) ≡ t → cond t (Some s) None ≡ Some r → IsFactor r
    fits s true p q e = subst IsFactor (some-same s r e) (number-sound text s p, q)
    fits s false p q e = absurd (none-some r e)

    by : (o : Option Ratio) → number_in text ≡ o →
        option_and_then (λ (r : Ratio). cond (fits_32 (nearest r.num r.den)) (Some r) None) o ≡ Some r → IsFactor r
    by None p e = absurd (none-some r e)
    by (Some s) p e = fits s (fits_32 (nearest s.num s.den)) p refl e

-- n is from 1 up to a greatest one
abbrev pub IsUpTo : (most n : ℕ) → Type 0
IsUpTo most n = (0 < n) × (n ≤ most)

up-to : (most n : ℕ) → (nat_le 1 n && nat_le n most) ≡ true → IsUpTo most n
up-to most n e = let both = both-true (nat_le 1 n) (nat_le n most) e in (leb-true 1 n both.0, leb-true n most both.1)

pub number-up-to : (most : ℕ) (text : List ℕ) (n : ℕ) → number_up_to most text ≡ Some n → IsUpTo most n
number-up-to most text n e = by (whole_number text) e
  where
    within : (k : ℕ) (t : Bool) → (nat_le 1 k && nat_le k most) ≡ t → cond t (Some k) None ≡ Some n → IsUpTo most n
    within k true p e = subst (IsUpTo most) (some-same k n e) (up-to most k p)
    within k false p e = absurd (none-some n e)

    by : (o : Option ℕ) → option_and_then (λ n. cond (nat_le 1 n && nat_le n most) (Some n) None) o ≡ Some n → IsUpTo most n
    by None e = absurd (none-some n e)
    by (Some k) e = within k (nat_le 1 k && nat_le k most) refl e

-- ---- Counts of inputs

listed-up-to : {A : Type 0} (ys xs : List A) → up_to_16 ys ≡ Some xs → IsUpTo 16 (length xs)
listed-up-to {A} ys xs e = by (nat_le 1 (length ys) && nat_le (length ys) 16) refl e
  where
    by : (t : Bool) → (nat_le 1 (length ys) && nat_le (length ys) 16) ≡ t → cond t (Some ys) None ≡ Some xs → IsUpTo 16 (length xs)
    by true p e = subst (λ zs. IsUpTo 16 (length zs)) (some-same ys xs e) (up-to 16 (length ys) p)
    by false p e = absurd (none-some xs e)

written-count : (text : List ℕ) (signs : List Bool) → written_signs text ≡ Some signs → IsUpTo 16 (length signs)
written-count text signs e = by (are_signs text) e
  where
    by : (t : Bool) → cond t (up_to_16 (signs_of text)) None ≡ Some signs → IsUpTo 16 (length signs)
    by true e = listed-up-to (signs_of text) signs e
    by false e = absurd (none-some signs e)

signs-count : (text : List ℕ) (signs : List Bool) → signs_in text ≡ Some signs → IsUpTo 16 (length signs)
signs-count text signs e = by (number_up_to 16 text) refl e
  where
    by : (o : Option ℕ) → number_up_to 16 text ≡ o → option_or (option_map pluses o) (written_signs text) ≡ Some signs →
        IsUpTo 16 (length signs)
    by None p e = written-count text signs e
    by (Some n) p e =
        subst (IsUpTo 16) (sym (length-replicate n false) ∙ ap length (some-same (replicate n false) signs e)) (number-up-to 16 text n p)

-- 1 to 16 signs, and no minus past them
abbrev pub IsMask : SignMask → Type 0
IsMask mask = IsCount mask.count × (mask.minus < 2 ^ mask.count)

pub signs-sound : (text : List ℕ) (mask : SignMask) → sum_signs text ≡ Some mask → IsMask mask
signs-sound text mask e = by (signs_in text) refl e
  where
    by : (o : Option (List Bool)) → signs_in text ≡ o → option_map mask_of o ≡ Some mask → IsMask mask
    by None p e = absurd (none-some mask e)
    by (Some signs) p e =
        subst IsMask (some-same (mask_of signs) mask e) (signs-count text signs p, minus_mask-bound signs (length signs) (omega arith))

pub factors-sound : (text : List ℕ) (n : ℕ) → product_count text ≡ Some n → IsUpTo 16 n
factors-sound text n e = by (number_up_to 16 text) refl e
  where
    stars : (o : Option (List ℕ)) → up_to_16 text ≡ o → option_map length o ≡ Some n → IsUpTo 16 n
    stars None p e = absurd (none-some n e)
    stars (Some xs) p e = subst (IsUpTo 16) (some-same (length xs) n e) (listed-up-to text xs p)

    starred : (t : Bool) → cond t (option_map length (up_to_16 text)) None ≡ Some n → IsUpTo 16 n
    starred true e = stars (up_to_16 text) refl e
    starred false e = absurd (none-some n e)

    by : (o : Option ℕ) → number_up_to 16 text ≡ o → option_or o (star_count text) ≡ Some n → IsUpTo 16 n
    by None p e = starred (are_stars text) e
    by (Some k) p e = subst (IsUpTo 16) (some-same k n e) (number-up-to 16 text k p)

pub logic-sound : (op : Logic) (text : List ℕ) (n : ℕ) → logic_count op text ≡ Some n → IsKind (row.Logic op n)
logic-sound Not text n e = sym (some-same 1 n e)
logic-sound _ text n e = number-up-to 16 text n e

-- ---- Constants

-- 0 or 1
abbrev pub IsTruthRatio : Ratio → Type 0
IsTruthRatio r = (r.den ≡ 1) × ((r.num ≡ pos 0) ⊎ (r.num ≡ pos 1))

true-number : (text : List ℕ) (r : Ratio) → trim text ≡ codes "true" → number_form text ≡ Ok r → IsTruthRatio r
true-number text r e h =
    let same : record { num = pos 1; den = 1 } ≡ r =
    ok-same (record { num = pos 1; den = 1 }) r
    (sym (ap (λ t. result_map_both (λ value. value) (λ fault. param_fault.Parameter) (plain_value (without_brackets t))) e) ∙ h) in
    (sym (ap (λ (r : Ratio). r.den) same), inr (sym (ap (λ (r : Ratio). r.num) same)))

false-number : (text : List ℕ) (r : Ratio) → trim text ≡ codes "false" → number_form text ≡ Ok r → IsTruthRatio r
false-number text r e h =
    let same : record { num = pos 0; den = 1 } ≡ r =
    ok-same (record { num = pos 0; den = 1 }) r
    (sym (ap (λ t. result_map_both (λ value. value) (λ fault. param_fault.Parameter) (plain_value (without_brackets t))) e) ∙ h) in
    (sym (ap (λ (r : Ratio). r.den) same), inl (sym (ap (λ (r : Ratio). r.num) same)))

truth : (text : List ℕ) (r : Ratio) → number_in text ≡ Some r → is_truth text ≡ true → IsTruthRatio r
truth text r h e = by (bytes_eq (trim text) (codes "true")) refl e
  where
    form : number_form text ≡ Ok r
    form = ok-form (number_form text) r h

    by : (t : Bool) → bytes_eq (trim text) (codes "true") ≡ t → (t || bytes_eq (trim text) (codes "false")) ≡ true → IsTruthRatio r
    by true p e = true-number text r ((bytes_eq-Decides (trim text) (codes "true")).0 p) form
    by false p e = false-number text r ((bytes_eq-Decides (trim text) (codes "false")).0 e) form

-- a decimal that is 0 or 1 where it is written as a truth value
abbrev pub IsSoundConstant : ConstantSaid → Type 0
IsSoundConstant said = IsDecimal said.value × (said.is_truth ≡ true → IsTruthRatio said.value)

pub constant-sound : (text : List ℕ) (said : ConstantSaid) → constant_in text ≡ Some said → IsSoundConstant said
constant-sound text said e = by (number_in text) refl e
  where
    by : (o : Option Ratio) → number_in text ≡ o → option_map (λ value. record { value = value; is_truth = is_truth text }) o ≡ Some said →
        IsSoundConstant said
    by None p e = absurd (none-some said e)
    by (Some r) p e =
        subst IsSoundConstant (some-same (record { value = r; is_truth = is_truth text }) said e) (number-sound text r p, truth text r p)

-- ---- Types

-- a type that is said is one of the profile
abbrev pub IsSoundType : TypeSaid → Type 0
IsSoundType (known_type meaning) = type_value.IsHeld meaning
IsSoundType float_type = Unit {0}

-- it has no bits after the point
abbrev pub IsWhole : TypeSaid → Type 0
IsWhole (known_type (Fixed type)) = type.frac ≡ 0
IsWhole _ = Unit {0}

pub type-sound : (text : List ℕ) (said : TypeSaid) → type_in text ≡ Some said → IsSoundType said
type-sound text said e = by (type_form text) refl e
  where
    by : (r : Result Meaning ParamFault) → type_form text ≡ r → type_by r ≡ Some said → IsSoundType said
    by (Ok meaning) p e = subst IsSoundType (some-same (known_type meaning) said e) (type_value.type-held text meaning p)
    by (Err param_fault.Parameter) p e = absurd (none-some said e)
    by (Err param_fault.Float) p e = subst IsSoundType (some-same float_type said e) tt
    by (Err param_fault.Continuous) p e = absurd (none-some said e)

abbrev pub IsWholeType : TypeSaid → Type 0
IsWholeType said = IsSoundType said × IsWhole said

whole-by : (own said : TypeSaid) → IsSoundType own → unless_fractional own ≡ Some said → IsWholeType said
whole-by (known_type Inherit) said h e = subst IsWholeType (some-same (known_type Inherit) said e) (h, tt)
whole-by (known_type Logical) said h e = subst IsWholeType (some-same (known_type Logical) said e) (h, tt)
whole-by (known_type Back) said h e = subst IsWholeType (some-same (known_type Back) said e) (h, tt)
whole-by (known_type (Fixed type)) said h e = by (type.frac == 0) refl e
  where
    by : (t : Bool) → (type.frac == 0) ≡ t → cond t (Some (known_type (Fixed type))) None ≡ Some said → IsWholeType said
    by true p e = subst IsWholeType (some-same (known_type (Fixed type)) said e) (h, eqb-true type.frac 0 p)
    by false p e = absurd (none-some said e)
whole-by float_type said h e = subst IsWholeType (some-same float_type said e) (tt, tt)

pub whole-sound : (text : List ℕ) (said : TypeSaid) → whole_type_in text ≡ Some said → IsWholeType said
whole-sound text said e = by (type_in text) refl e
  where
    by : (o : Option TypeSaid) → type_in text ≡ o → option_and_then unless_fractional o ≡ Some said → IsWholeType said
    by None p e = absurd (none-some said e)
    by (Some own) p e = whole-by own said (type-sound text own p) e

-- ---- Times

-- a time that is said is within its limits
abbrev pub IsSoundTime : TimeSaid → Type 0
IsSoundTime (known_time meaning) = time_value.IsHeld meaning
IsSoundTime zero_time = Unit {0}

-- it isn't constant
abbrev pub IsVarying : TimeSaid → Type 0
IsVarying (known_time time.Inherit) = Unit {0}
IsVarying (known_time time.Constant) = ⊥
IsVarying (known_time (time.Each period offset)) = Unit {0}
IsVarying zero_time = Unit {0}

pub any-time-sound : (text : List ℕ) (said : TimeSaid) → any_time_in text ≡ Some said → IsSoundTime said
any-time-sound text said e = by (time_form text) refl e
  where
    by : (r : Result TimeMeaning ParamFault) → time_form text ≡ r → time_by r ≡ Some said → IsSoundTime said
    by (Ok meaning) p e = subst IsSoundTime (some-same (known_time meaning) said e) (time_value.time-held text meaning p)
    by (Err param_fault.Parameter) p e = absurd (none-some said e)
    by (Err param_fault.Float) p e = absurd (none-some said e)
    by (Err param_fault.Continuous) p e = subst IsSoundTime (some-same zero_time said e) tt

abbrev pub IsVaryingTime : TimeSaid → Type 0
IsVaryingTime said = IsSoundTime said × IsVarying said

varying-by : (own said : TimeSaid) → IsSoundTime own → unless_constant own ≡ Some said → IsVaryingTime said
varying-by (known_time time.Inherit) said h e = subst IsVaryingTime (some-same (known_time time.Inherit) said e) (h, tt)
varying-by (known_time time.Constant) said h e = absurd (none-some said e)
varying-by (known_time (time.Each period offset)) said h e =
    subst IsVaryingTime (some-same (known_time (time.Each period offset)) said e) (h, tt)
varying-by zero_time said h e = subst IsVaryingTime (some-same zero_time said e) (tt, tt)

pub time-sound : (text : List ℕ) (said : TimeSaid) → time_in text ≡ Some said → IsVaryingTime said
time-sound text said e = by (any_time_in text) refl e
  where
    by : (o : Option TimeSaid) → any_time_in text ≡ o → option_and_then unless_constant o ≡ Some said → IsVaryingTime said
    by None p e = absurd (none-some said e)
    by (Some own) p e = varying-by own said (any-time-sound text own p) e

pub out-sound : (inherits : Bool) (said : TimeSaid) → IsVaryingTime said → IsVaryingTime (out_time inherits said)
out-sound false said h = h
out-sound true (known_time meaning) h = (tt, tt)
out-sound true zero_time h = (tt, tt)
