-- A text that is a type stands for one of the profile.
use Rattle.std.proofs.Common.{◌≡◌, refl, ap, ℕ, Bool, true, false, ◌&&◌, cond, subst, List, Option, None, Some, arith, leb-true, codes}
use Rattle.std.specs.Prelude.{bytes_eq, Result, Ok, Err, nat_eq, drop, take, length, ◌-◌}
use Rattle.std.specs.List.{starts_with, before_first, after_first}
use Rattle.std.specs.Result.{result_map_both}
use Rattle.std.specs.Str.Parse.{digits_value}
use Rattle.base_core.specs.Bytes.{trim}
use Rattle.base_numerals.specs.Literals.{is_numeral}
use Rattle.base_fixed_point.specs.declared.TypeText.{TypeText}
use Rattle.base_fixed_point.specs.declared.TypeText.TheVariants as held
use Rattle.base_fixed_point.specs.declared.types.TypeFault.{TypeFault}
use Rattle.base_fixed_point.specs.Profile.{InProfile, in_profile}
use Rattle.mdl_type_texts.specs.TypeTexts.{Format, Meaning, Inherit, Logical, Back, Fixed, meaning_of, stands_in, named_format, is_float, sign_of, format_meaning, is_comma, fixdt_meaning, is_fixdt, unnamed_meaning, named_meaning, type_meaning}
use Rattle.mdl_params.specs.Forms.{fault_of_type, type_form}
use Rattle.mdl_table.proofs.NumberValues.{and-left, and-right}

-- a type that is written is one of the profile
abbrev pub IsHeld : Meaning → Type 0
IsHeld Inherit = Unit {0}
IsHeld Logical = Unit {0}
IsHeld Back = Unit {0}
IsHeld (Fixed format) = InProfile format.signed format.bits format.frac

abbrev pub GivesHeld : Result Meaning TypeFault → Type 0
GivesHeld (Ok meaning) = IsHeld meaning
GivesHeld (Err fault) = Unit {0}

gives-by : (t : Bool) (r s : Result Meaning TypeFault) → (t ≡ true → GivesHeld r) → (t ≡ false → GivesHeld s) → GivesHeld (cond t r s)
gives-by true r s p q = p refl
gives-by false r s p q = q refl

profile-by : (signed : Bool) (bits frac : ℕ) → in_profile signed bits frac ≡ true → InProfile signed bits frac
profile-by signed bits frac e =
    let both = and-left _ _ e in
    (leb-true (cond signed 2 1) bits (and-left _ _ both), leb-true bits 32 (and-right _ _ both), leb-true frac 31 (and-right _ _ e))

format-held : (signed : Option Bool) (width frac : List ℕ) → GivesHeld (format_meaning signed width frac)
format-held None width frac = tt
format-held (Some signed) width frac =
    gives-by (is_numeral width && is_numeral frac) _ _
    (λ e. gives-by (in_profile signed (digits_value 10 width) (digits_value 10 frac)) _ _
    (profile-by signed (digits_value 10 width) (digits_value 10 frac)) (λ e. tt))
    (λ e. tt)

inherited-held : (t u : Bool) → IsHeld (cond t Logical (cond u Back Inherit))
inherited-held true u = tt
inherited-held false true = tt
inherited-held false false = tt

unnamed-held : (text : List ℕ) → GivesHeld (unnamed_meaning text)
unnamed-held text =
    gives-by (is_float text) _ _ (λ e. tt)
    (λ e. gives-by (starts_with nat_eq text (codes "Inherit:")) _ _
    (λ e. inherited-held (starts_with nat_eq text (codes "Inherit: Logical")) (stands_in (codes "back propagation") text))
    (λ e. gives-by (is_fixdt text) _ _ (λ e. fixdt-held (drop 6 (take (length text - 1) text))) (λ e. tt)))
  where
    fixdt-held : (text : List ℕ) → GivesHeld (fixdt_meaning text)
    fixdt-held text =
        let rest = after_first is_comma text in
        format-held (sign_of (trim (before_first is_comma text))) (trim (before_first is_comma rest)) (trim (after_first is_comma rest))

-- a type that may be named is one of the profile
abbrev IsHeldFormat : Option Format → Type 0
IsHeldFormat None = Unit {0}
IsHeldFormat (Some format) = InProfile format.signed format.bits format.frac

held-by : (t : Bool) (format : Format) (rest : Option Format) → InProfile format.signed format.bits format.frac → IsHeldFormat rest →
    IsHeldFormat (cond t (Some format) rest)
held-by true format rest h k = h
held-by false format rest h k = k

named-held : (text : List ℕ) → IsHeldFormat (named_format text)
named-held text =
    held-by (bytes_eq text (codes "int8")) _ _ (omega arith, omega arith, omega arith)
    (held-by (bytes_eq text (codes "int16")) _ _ (omega arith, omega arith, omega arith)
    (held-by (bytes_eq text (codes "int32")) _ _ (omega arith, omega arith, omega arith)
    (held-by (bytes_eq text (codes "uint8")) _ _ (omega arith, omega arith, omega arith)
    (held-by (bytes_eq text (codes "uint16")) _ _ (omega arith, omega arith, omega arith)
    (held-by (bytes_eq text (codes "uint32")) _ _ (omega arith, omega arith, omega arith)
    (held-by (bytes_eq text (codes "boolean")) _ _ (omega arith, omega arith, omega arith) tt))))))

meaning-held : (text : List ℕ) (format : Option Format) → IsHeldFormat format → GivesHeld (named_meaning format text)
meaning-held text (Some format) h = h
meaning-held text None h = unnamed-held text

-- a type that a text means is one of the profile
pub type-held : (text : List ℕ) (meaning : Meaning) → type_form text ≡ Ok meaning → IsHeld meaning
type-held text meaning e = by (type_meaning text) (meaning-held (trim text) (named_format (trim text)) (named-held (trim text))) e
  where
    by : (result : Result Meaning TypeFault) → GivesHeld result → result_map_both (λ meaning. meaning) fault_of_type result ≡ Ok meaning →
        IsHeld meaning
    by (Ok own) is e = subst IsHeld (ap (λ x. elim x [ Ok y ↦ y | Err fault ↦ own ]) e) is
    by (Err fault) is e = absurd (let wrong : ⊥ = cc e in wrong)

-- the text of a meaning that is one of the profile
pub type-by : (meaning : Meaning) → IsHeld meaning → (t : TypeText) × (meaning_of t ≡ meaning)
type-by Inherit h = (held.Inherit, refl)
type-by Logical h = (held.Logical, refl)
type-by Back h = (held.Back, refl)
type-by (Fixed format) h = (held.Fixed (record { signed = format.signed; bits = format.bits; frac = format.frac; in_profile = h }), refl)
