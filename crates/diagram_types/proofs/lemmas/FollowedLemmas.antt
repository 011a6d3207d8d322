-- Types that are met by following rules.
use Rattle.std.specs.Prelude.{◌≡◌, refl, ℕ, zero, suc, ◌+◌, ◌*◌, ◌<◌, ◌≤◌, Bool, true, false, ◌↔◌, List, length, Option, Some, None, MatchBool, if◌then◌else◌}
use Rattle.std.proofs.Common.{sym, ◌∙◌, ap, subst, arith}
use Rattle.std.proofs.lemmas.List.{get_or_past}
use native.Mathlib.Decide.{dec_le}
use Rattle.base_fixed_point.specs.declared.FixType.{FixType}
use Rattle.base_fixed_point.specs.declared.TypeText.{TypeText}
use Rattle.base_fixed_point.specs.declared.TypeText.TheVariants.{Inherit, Logical, Back, Fixed}
use Rattle.base_fixed_point.specs.Types.{boolean}
use Rattle.diagram_blocks.specs.declared.Kind.{Kind}
use Rattle.diagram_blocks.specs.declared.Kind.TheVariants.{SubSystem, Ground, Terminator, EnablePort, TriggerPort}
use Rattle.diagram_meaning.specs.declared.table.Row.{Row}
use Rattle.diagram_meaning.specs.Rows.{row_at, no_row}
use Rattle.diagram_meaning.specs.Types.{TypeRule, Known, SameAs, NoRule, rule_of, inherited_rule, type_rule, type_by, type_within, MeetsType, is_boolean_by_kind}
use Rattle.diagram_meaning.specs.TypeRefusals.{followed_type}
use Rattle.diagram_meaning.proofs.lemmas.TypeFollowed.{type_followed}
use Rattle.diagram_types.specs.Walks.{LeadsTo}

-- a row past the end has no rule
past_rule : (rows : List Row) (b : ℕ) → length rows ≤ b → type_rule rows b ≡ NoRule
past_rule rows b h = ap (λ (row : Row). rule_of row.type_text (inherited_rule row.kind row.inputs)) (get_or_past rows b no_row h)

past_within : (rows : List Row) (n b : ℕ) → length rows ≤ b → type_within rows n b ≡ None
past_within rows zero b h = refl
past_within rows (suc n) b h = ap (λ r. type_by r (type_within rows n)) (past_rule rows b h)

-- from past the end no type is met
pub past-followed : (rows : List Row) (b : ℕ) → length rows ≤ b → followed_type rows b ≡ None
past-followed rows b h = past_within rows (length rows) b h

-- more rules lose no type
more-within : (rows : List Row) (n k b : ℕ) (t : FixType) → n ≤ k → type_within rows n b ≡ Some t → type_within rows k b ≡ Some t
more-within rows zero k b t h e = absurd (let wrong : ⊥ = cc e in wrong)
more-within rows (suc n) zero b t h e = absurd (omega arith)
more-within rows (suc n) (suc k) b t h e = by (type_rule rows b) e (λ c. more-within rows n k c t (omega arith))
  where
    by : (r : TypeRule) → type_by r (type_within rows n) ≡ Some t →
        ((c : ℕ) → type_within rows n c ≡ Some t → type_within rows k c ≡ Some t) →
        type_by r (type_within rows k) ≡ Some t
    by (Known u) e next = e
    by (SameAs c) e next = next c e
    by NoRule e next = e

-- a row that is boolean by its kind inherits no type
no_rule-by_kind : (kind : Kind) (inputs : List ℕ) → is_boolean_by_kind kind ≡ true → inherited_rule kind inputs ≡ NoRule
no_rule-by_kind (SubSystem control) inputs e = refl
no_rule-by_kind Ground inputs e = refl
no_rule-by_kind Terminator inputs e = refl
no_rule-by_kind EnablePort inputs e = refl
no_rule-by_kind TriggerPort inputs e = refl
no_rule-by_kind _ inputs e = absurd (let wrong : ⊥ = cc e in wrong)

-- a text without a rule to inherit leads to no other row
one_step : (text : TypeText) (f g : ℕ → Option FixType) → type_by (rule_of text NoRule) f ≡ type_by (rule_of text NoRule) g
one_step Inherit f g = refl
one_step Logical f g = refl
one_step Back f g = refl
one_step (Fixed type) f g = refl

within-one : (rows : List Row) (n k b : ℕ) → is_boolean_by_kind (row_at rows b).kind ≡ true →
    type_within rows (suc n) b ≡ type_within rows (suc k) b
within-one rows n k b e =
    let none = no_rule-by_kind (row_at rows b).kind (row_at rows b).inputs e in
    ap (λ r. type_by (rule_of (row_at rows b).type_text r) (type_within rows n)) none
    ∙ one_step (row_at rows b).type_text (type_within rows n) (type_within rows k)
    ∙ sym (ap (λ r. type_by (rule_of (row_at rows b).type_text r) (type_within rows k)) none)

within-boolean : (rows : List Row) (n k b : ℕ) (t : FixType) → is_boolean_by_kind (row_at rows b).kind ≡ true → b < k →
    type_within rows n b ≡ Some t →
    type_within rows k b ≡ Some t
within-boolean rows zero k b t boolean h e = absurd (let wrong : ⊥ = cc e in wrong)
within-boolean rows (suc n) zero b t boolean h e = absurd (omega arith)
within-boolean rows (suc n) (suc k) b t boolean h e = within-one rows k n b boolean ∙ e

-- a type that is met by any number of rules is met by as many as there are rows
pub meets-followed : (rows : List Row) (n b : ℕ) (t : FixType) → type_within rows n b ≡ Some t → followed_type rows b ≡ Some t
meets-followed rows n b t e = by (is_boolean_by_kind (row_at rows b).kind) refl
  where
    law : (r : Bool) → is_boolean_by_kind (row_at rows b).kind ≡ r →
        MatchBool r (t ≡ boolean) (MeetsType rows b t) ↔ ((if r then Some boolean else followed_type rows b) ≡ Some t)
    law r q =
        subst (λ r. MatchBool r (t ≡ boolean) (MeetsType rows b t)
        ↔ ((if r then Some boolean else followed_type rows b) ≡ Some t)) q (type_followed rows b t)

    by : (r : Bool) → is_boolean_by_kind (row_at rows b).kind ≡ r → followed_type rows b ≡ Some t
    by true q = elim (dec_le (length rows) b) [
      | yes past ↦ absurd (let none = past_within rows n b past in let wrong : ⊥ = cc (e, none) in wrong)
      | no inside ↦ within-boolean rows n (length rows) b t q (omega arith) e
    ]
    by false q = (law false q).0 (n, e)

-- what is met from a row is what its rule gives
pub followed-step : (rows : List Row) (b : ℕ) → followed_type rows b ≡ type_by (type_rule rows b) (followed_type rows)
followed-step rows b = by (type_rule rows b) refl
  where
    known : (n : ℕ) (t : FixType) → type_rule rows b ≡ Known t → type_within rows (suc n) b ≡ Some t
    known n t e = ap (λ r. type_by r (type_within rows n)) e

    none : (n : ℕ) → type_rule rows b ≡ NoRule → type_within rows n b ≡ None
    none zero e = refl
    none (suc n) e = ap (λ r. type_by r (type_within rows n)) e

    same : (c n : ℕ) → type_rule rows b ≡ SameAs c → type_within rows (suc n) b ≡ type_within rows n c
    same c n e = ap (λ r. type_by r (type_within rows n)) e

    back : (c n : ℕ) (o : Option FixType) → type_rule rows b ≡ SameAs c → followed_type rows c ≡ None → type_within rows n b ≡ o → o ≡ None
    back c n None e f q = refl
    back c zero (Some t) e f q = absurd (let wrong : ⊥ = cc q in wrong)
    back c (suc n) (Some t) e f q =
        absurd (let met = meets-followed rows n c t (sym (same c n e) ∙ q) in let wrong : ⊥ = cc (met, f) in wrong)

    next : (c : ℕ) (o : Option FixType) → type_rule rows b ≡ SameAs c → followed_type rows c ≡ o → followed_type rows b ≡ o
    next c None e f = back c (length rows) (followed_type rows b) e f refl
    next c (Some t) e f = meets-followed rows (suc (length rows)) b t (same c (length rows) e ∙ f)

    by : (r : TypeRule) → type_rule rows b ≡ r → followed_type rows b ≡ type_by r (followed_type rows)
    by (Known t) e = meets-followed rows 1 b t (known 0 t e)
    by (SameAs c) e = next c (followed_type rows c) e refl
    by NoRule e = none (length rows) e

-- where rules go round no type is met
round_within : (rows : List Row) (b : ℕ) (round : LeadsTo rows b b) (turns : ℕ) → type_within rows (turns * suc round.more) b ≡ None
round_within rows b round zero = ap (λ n. type_within rows n b) (let nothing : 0 * suc round.more ≡ 0 = omega arith in nothing)
round_within rows b round (suc turns) =
    round.same_within (turns * suc round.more) (suc turns * suc round.more) (omega arith) ∙ round_within rows b round turns

pub round-followed : (rows : List Row) (b : ℕ) → LeadsTo rows b b → followed_type rows b ≡ None
round-followed rows b round = by (followed_type rows b) refl
  where
    by : (o : Option FixType) → followed_type rows b ≡ o → o ≡ None
    by None e = refl
    by (Some t) e =
        let long : length rows ≤ length rows * suc round.more = omega arith in
        let met = more-within rows (length rows) (length rows * suc round.more) b t long e in
        absurd (let none = round_within rows b round (length rows) in let wrong : ⊥ = cc (met, none) in wrong)

-- a row leads to that of its rule
pub leads-one : (rows : List Row) (b c : ℕ) → type_rule rows b ≡ SameAs c → LeadsTo rows b c
leads-one rows b c e = record { more = 0; same_within = by }
  where
    step : (m : ℕ) → type_within rows (suc m) b ≡ type_within rows m c
    step m = ap (λ r. type_by r (type_within rows m)) e

    by : (m n : ℕ) → n ≡ 1 + m → type_within rows n b ≡ type_within rows m c
    by m n q = ap (λ n. type_within rows n b) (let same : n ≡ suc m = omega arith in same) ∙ step m

-- and so does a row that leads to it
pub leads-more : (rows : List Row) (a b c : ℕ) → LeadsTo rows a b → type_rule rows b ≡ SameAs c → LeadsTo rows a c
leads-more rows a b c path e = record { more = suc path.more; same_within = by }
  where
    by : (m n : ℕ) → n ≡ suc (suc path.more) + m → type_within rows n a ≡ type_within rows m c
    by m n q = path.same_within (suc m) n (omega arith) ∙ ap (λ r. type_by r (type_within rows m)) e
