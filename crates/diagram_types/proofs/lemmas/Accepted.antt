-- Rows in whose types nothing is wrong.
use Rattle.std.specs.Prelude.{◌≡◌, refl, ℕ, ◌<◌, nat_lt, Bool, List, [], ◌∷◌, map, filter, length, Option, Some, None, is_some, unwrap_or, if◌then◌else◌}
use Rattle.std.specs.Option.{option_or}
use Rattle.std.proofs.Common.{sym, ◌∙◌, ap, subst, arith}
use Rattle.base_refusals.specs.declared.TypeWhy.TheVariants.{Missing, Unlike}
use Rattle.base_refusals.specs.declared.refusal.Refusal.{Refusal}
use Rattle.base_refusals.specs.Refusals.{PlainRefusal, plain_refusal, NoType, TooWide}
use Rattle.base_fixed_point.specs.declared.FixType.{FixType}
use Rattle.base_fixed_point.specs.Types.{boolean}
use Rattle.diagram_meaning.specs.declared.table.Row.{Row}
use Rattle.diagram_meaning.specs.Rows.{row_numbers}
use Rattle.diagram_meaning.specs.Types.{HasType, type_at}
use Rattle.base_refusals.specs.FirstRefusal.{least_line, as_plain}
use Rattle.diagram_meaning.specs.TypeRefusals.{line_at, type_of_row, types_of_rows, is_unlike, type_faults, bad_types, signed_triggers, bits_of_row, wide_rows, type_refusal}
use Rattle.diagram_meaning.proofs.lemmas.ByRow.{by_row-at, length-by_row}
use Rattle.diagram_meaning.proofs.lemmas.TypeFollowed.{type_followed}
use Rattle.diagram_types.specs.Inferred.{AreTypes}
use Rattle.base_refusals.proofs.lemmas.FirstRefusals.{least-each}
use Rattle.diagram_types.proofs.lemmas.PassLemmas.{none-found}

-- a row without an error has a type
typed : (rows : List Row) (b : ℕ) (o : Option FixType) (unlike : Bool) →
    least_line (if is_some o then (if unlike then NoType (line_at rows b) Unlike ∷ [] else [])
    else NoType (line_at rows b) Missing ∷ []) ≡ None →
    o ≡ Some (unwrap_or o boolean)
typed rows b None unlike e = absurd (let wrong : ⊥ = cc e in wrong)
typed rows b (Some t) unlike e = refl

-- where no type is bad each row has its type
pub each-typed : (rows : List Row) → least_line (bad_types rows) ≡ None → (b : ℕ) → b < length rows →
    HasType rows b (type_at (types_of_rows rows) b)
each-typed rows e b h =
    let none =
    none-found (λ b. least_line (type_faults rows b)) (length rows) 0 b
    (least-each (type_faults rows) (row_numbers rows) ∙ e) (omega arith) (omega arith) in
    let there = typed rows b (type_of_row rows b) (is_unlike rows b) none in
    subst (HasType rows b) (sym (by_row-at rows (λ b. unwrap_or (type_of_row rows b) boolean) b boolean h))
    ((type_followed rows b (unwrap_or (type_of_row rows b) boolean)).1 there)

either-none : (a b : Option PlainRefusal) → option_or a b ≡ None → (a ≡ None) × (b ≡ None)
either-none None b e = (refl, e)
either-none (Some a) b e = absurd (let wrong : ⊥ = cc e in wrong)

-- nothing is found, so these are the types
pub types-accepted : (rows : List Row) (types : List FixType) (found : Option Refusal) → types ≡ types_of_rows rows →
    option_or (least_line (bad_types rows)) (least_line (signed_triggers rows)) ≡ None → found ≡ None →
    as_plain found
    ≡ least_line
    (map (λ b. TooWide (line_at rows b) (bits_of_row rows types b))
    (filter (λ b. nat_lt 62 (bits_of_row rows types b)) (row_numbers rows))) →
    AreTypes rows types
types-accepted rows types found e rules nothing wide = subst (AreTypes rows) (sym e) (record {
  accepted = accepted;
  one_each = length-by_row rows (λ b. unwrap_or (type_of_row rows b) boolean);
  each = each-typed rows (either-none _ _ rules).0;
})
  where
    no_wide : least_line (wide_rows rows) ≡ None
    no_wide =
        ap (λ (types : List FixType). least_line (map (λ b. TooWide (line_at rows b) (bits_of_row rows types b))
        (filter (λ b. nat_lt 62 (bits_of_row rows types b)) (row_numbers rows)))) (sym e) ∙ sym wide ∙ ap as_plain nothing

    accepted : type_refusal rows ≡ None
    accepted =
        let none = either-none (least_line (bad_types rows)) (least_line (signed_triggers rows)) rules in
        ap (λ o. option_or o (option_or (least_line (signed_triggers rows)) (option_or (least_line (wide_rows rows)) None))) none.0
        ∙ ap (λ o. option_or o (option_or (least_line (wide_rows rows)) None)) none.1
        ∙ ap (λ (o : Option PlainRefusal). option_or o None) no_wide

or_assoc : (a b c : Option PlainRefusal) (refusal : PlainRefusal) → option_or a b ≡ Some refusal →
    option_or a (option_or b c) ≡ Some refusal
or_assoc None None c refusal e = absurd (let wrong : ⊥ = cc e in wrong)
or_assoc None (Some b) c refusal e = e
or_assoc (Some a) b c refusal e = e

-- the rules refuse
pub rules-refused : (rows : List Row) (refused : Refusal) →
    as_plain (Some refused) ≡ option_or (least_line (bad_types rows)) (least_line (signed_triggers rows)) →
    type_refusal rows ≡ Some (plain_refusal refused)
rules-refused rows refused e = or_assoc (least_line (bad_types rows)) (least_line (signed_triggers rows)) _ (plain_refusal refused) (sym e)

or_last : (a : Option PlainRefusal) (refusal : PlainRefusal) → a ≡ Some refusal → option_or a None ≡ Some refusal
or_last None refusal e = e
or_last (Some a) refusal e = e

-- the widths refuse
pub widths-refused : (rows : List Row) (types : List FixType) (refused : Refusal) → types ≡ types_of_rows rows →
    option_or (least_line (bad_types rows)) (least_line (signed_triggers rows)) ≡ None →
    as_plain (Some refused)
    ≡ least_line
    (map (λ b. TooWide (line_at rows b) (bits_of_row rows types b))
    (filter (λ b. nat_lt 62 (bits_of_row rows types b)) (row_numbers rows))) →
    type_refusal rows ≡ Some (plain_refusal refused)
widths-refused rows types refused e rules wide =
    let none = either-none (least_line (bad_types rows)) (least_line (signed_triggers rows)) rules in
    let found : least_line (wide_rows rows) ≡ Some (plain_refusal refused) =
    ap (λ (types : List FixType). least_line (map (λ b. TooWide (line_at rows b) (bits_of_row rows types b))
    (filter (λ b. nat_lt 62 (bits_of_row rows types b)) (row_numbers rows)))) (sym e) ∙ sym wide in
    ap (λ o. option_or o (option_or (least_line (signed_triggers rows)) (option_or (least_line (wide_rows rows)) None))) none.0
    ∙ ap (λ o. option_or o (option_or (least_line (wide_rows rows)) None)) none.1
    ∙ or_last (least_line (wide_rows rows)) (plain_refusal refused) found
