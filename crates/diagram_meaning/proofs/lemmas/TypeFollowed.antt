-- Following as many rules as there are rows finds the type that is met first.
use Rattle.std.specs.Prelude.{◌≡◌, refl, ℕ, zero, suc, ◌+◌, ◌<◌, ◌≤◌, Bool, true, false, ◌⊎◌, ◌↔◌, List, length, Option, Some, None, is_some, MatchBool, if◌then◌else◌}
use Rattle.std.proofs.Common.{sym, ap, subst, arith, inl, inr}
use Rattle.std.proofs.lemmas.List.{get_or_past}
use native.Mathlib.Decide.{ℕ_discrete, dec_le}
use Rattle.base_fixed_point.specs.declared.FixType.{FixType}
use Rattle.base_fixed_point.specs.Types.{boolean}
use Rattle.diagram_meaning.specs.declared.table.Row.{Row}
use Rattle.diagram_meaning.specs.Rows.{row_at, no_row}
use Rattle.diagram_meaning.specs.Types.{TypeRule, Known, SameAs, NoRule, rule_of, inherited_rule, type_rule, type_by, type_within, MeetsType, is_boolean_by_kind}
use Rattle.diagram_meaning.proofs.lemmas.OneType.{meets-one}
use Rattle.diagram_meaning.specs.TypeRefusals.{followed_type}
use Rattle.diagram_meaning.specs.ResolvedLaws.{TypeIsFollowed}

-- ---- How many numbers below n pass a test

bit : Bool → ℕ
bit true = 1
bit false = 0

count : (ℕ → Bool) → ℕ → ℕ
count p zero = 0
count p (suc n) = bit (p n) + count p n

bit-le : (x y : Bool) → (x ≡ true → y ≡ true) → bit x ≤ bit y
unfolding bit
bit-le true true h = omega arith
bit-le true false h = absurd (let e = h refl in let wrong : ⊥ = cc e in wrong)
bit-le false y h = omega arith

bit-true : (x y : Bool) → bit y ≤ bit x → y ≡ true → x ≡ true
unfolding bit
bit-true true y h e = refl
bit-true false true h e = absurd (omega arith)
bit-true false false h e = e

bit-small : (x : Bool) → bit x ≤ 1
unfolding bit
bit-small true = omega arith
bit-small false = omega arith

bit-one : (x : Bool) → 1 ≤ bit x → x ≡ true
unfolding bit
bit-one true h = refl
bit-one false h = absurd (omega arith)

count-le : (p q : ℕ → Bool) → ((b : ℕ) → p b ≡ true → q b ≡ true) → (n : ℕ) → count p n ≤ count q n
unfolding count
count-le p q sub zero = omega arith
count-le p q sub (suc n) = omega (arith, bit-le (p n) (q n) (sub n), count-le p q sub n)

count-same : (p q : ℕ → Bool) → ((b : ℕ) → p b ≡ true → q b ≡ true) → (n : ℕ) → count q n ≤ count p n → (b : ℕ) →
    b < n → q b ≡ true → p b ≡ true
unfolding count
count-same p q sub zero h b less e = absurd (omega arith)
count-same p q sub (suc n) h b less e =
    elim (ℕ_discrete b n) [ yes same ↦ at_end same | no differ ↦ count-same p q sub n below b (omega arith) e ]
  where
    below : count q n ≤ count p n
    below = omega (arith, h, bit-le (p n) (q n) (sub n))

    at_end : b ≡ n → p b ≡ true
    at_end same =
        let last : bit (q n) ≤ bit (p n) = omega (arith, h, count-le p q sub n) in
        subst (λ k. p k ≡ true) (sym same) (bit-true (p n) (q n) last (subst (λ k. q k ≡ true) same e))

count-small : (p : ℕ → Bool) (n : ℕ) → count p n ≤ n
unfolding count
count-small p zero = omega arith
count-small p (suc n) = omega (arith, bit-small (p n), count-small p n)

count-full : (p : ℕ → Bool) (n : ℕ) → n ≤ count p n → (b : ℕ) → b < n → p b ≡ true
unfolding count
count-full p zero h b less = absurd (omega arith)
count-full p (suc n) h b less =
    elim (ℕ_discrete b n) [
      | yes same ↦ subst (λ k. p k ≡ true) (sym same) (bit-one (p n) (omega (arith, h, count-small p n)))
      | no differ ↦ count-full p n (omega (arith, h, bit-small (p n))) b (omega arith)
    ]

-- ---- Rows whose type is met within a number of rules

module _ (rows : List Row) where
  -- whether row b's type is met within k rules
  abbrev met : ℕ → ℕ → Bool
  met k b = is_some (type_within rows k b)

  -- one more rule loses none
  met-more : (k b : ℕ) → met k b ≡ true → met (suc k) b ≡ true
  met-more zero b e = absurd (let wrong : ⊥ = cc e in wrong)
  met-more (suc k) b e = by (type_rule rows b) (met-more k) e
    where
      by : (r : TypeRule) → ((c : ℕ) → met k c ≡ true → met (suc k) c ≡ true)
          → is_some (type_by r (type_within rows k)) ≡ true → is_some (type_by r (type_within rows (suc k))) ≡ true
      by (Known t) next e = refl
      by (SameAs c) next e = next c e
      by NoRule next e = e

  -- no row is met by one more rule alone
  Settled : ℕ → Type 0
  Settled k = (b : ℕ) → met (suc k) b ≡ true → met k b ≡ true

  settled-more : (k : ℕ) → Settled k → Settled (suc k)
  unfolding Settled
  settled-more k s b e = by (type_rule rows b) e
    where
      by : (r : TypeRule) → is_some (type_by r (type_within rows (suc k))) ≡ true → is_some (type_by r (type_within rows k)) ≡ true
      by (Known t) e = refl
      by (SameAs c) e = s c e
      by NoRule e = e

  -- then no row is met by any number of rules more
  settled-all : (k : ℕ) → Settled k → (n b : ℕ) → met n b ≡ true → met k b ≡ true
  unfolding Settled
  settled-all k s zero b e = absurd (let wrong : ⊥ = cc e in wrong)
  settled-all k s (suc n) b e = s b (by (type_rule rows b) (settled-all k s n) e)
    where
      by : (r : TypeRule) → ((c : ℕ) → met n c ≡ true → met k c ≡ true)
          → is_some (type_by r (type_within rows n)) ≡ true → is_some (type_by r (type_within rows k)) ≡ true
      by (Known t) next e = refl
      by (SameAs c) next e = next c e
      by NoRule next e = e

  -- a row past the end has no rule
  past-end : (k b : ℕ) → length rows ≤ b → met k b ≡ true → ⊥
  past-end zero b h e = cc e
  past-end (suc k) b h e =
      let none : type_rule rows b ≡ NoRule =
      ap (λ (row : Row). rule_of row.type_text (inherited_rule row.kind row.inputs))
      (get_or_past rows b no_row h) in
      let wrong : is_some (type_by NoRule (type_within rows k)) ≡ true =
      subst (λ r. is_some (type_by r (type_within rows k)) ≡ true) none e in
      cc wrong

  -- either no more are met, or each rule more has met a row more
  settled-or_more : (k : ℕ) → Settled k ⊎ (k ≤ count (met k) (length rows))
  unfolding Settled
  settled-or_more zero = inr (omega arith)
  settled-or_more (suc k) = step (settled-or_more k)
    where
      few : count (met (suc k)) (length rows) ≤ count (met k) (length rows) → Settled k
      few h b e = elim (dec_le (length rows) b) [
        | yes past ↦ absurd (past-end (suc k) b past e)
        | no inside ↦ count-same (met k) (met (suc k)) (met-more k) (length rows) h b (omega arith) e
      ]

      step : Settled k ⊎ (k ≤ count (met k) (length rows)) → Settled (suc k) ⊎ (suc k ≤ count (met (suc k)) (length rows))
      step (inl s) = inl (settled-more k s)
      step (inr h) = elim (dec_le (count (met (suc k)) (length rows)) (count (met k) (length rows))) [
        | yes same ↦ inl (settled-more k (few same))
        | no more ↦ inr (omega arith)
      ]

  settled-end : Settled (length rows)
  unfolding Settled
  settled-end = by (settled-or_more (length rows))
    where
      by : Settled (length rows) ⊎ (length rows ≤ count (met (length rows)) (length rows)) → Settled (length rows)
      by (inl s) b e = s b e
      by (inr h) b e = elim (dec_le (length rows) b) [
        | yes past ↦ absurd (past-end (suc (length rows)) b past e)
        | no inside ↦ count-full (met (length rows)) (length rows) h b (omega arith)
      ]

  followed-met : (b : ℕ) (t : FixType) → MeetsType rows b t → followed_type rows b ≡ Some t
  followed-met b t (n, e) = by (followed_type rows b) refl (settled-all (length rows) settled-end n b (ap is_some e))
    where
      by : (found : Option FixType) → type_within rows (length rows) b ≡ found → is_some found ≡ true → found ≡ Some t
      by None f h = absurd (let wrong : ⊥ = cc h in wrong)
      by (Some u) f h = ap Some (meets-one rows (length rows) n b u t f e)

pub type_followed : TypeIsFollowed
type_followed rows b t = by (is_boolean_by_kind (row_at rows b).kind)
  where
    by : (counts : Bool) →
        MatchBool counts (t ≡ boolean) (MeetsType rows b t)
        ↔ ((if counts then Some boolean else followed_type rows b) ≡ Some t)
    by true = (λ e. ap Some (sym e), λ e. sym (ap (λ o. elim o [ Some x ↦ x | None ↦ boolean ]) e))
    by false = (followed-met rows b t, λ e. (length rows, e))
