-- A row has at most one type and one sample time.
use Rattle.std.specs.Prelude.{◌≡◌, ℕ, zero, suc, Bool, true, false, List, Option, Some, None, MatchBool}
use Rattle.std.proofs.Common.{sym, ◌∙◌}
use Rattle.base_fixed_point.specs.declared.FixType.{FixType}
use Rattle.base_fixed_point.specs.Types.{boolean}
use Rattle.diagram_meaning.specs.declared.table.Row.{Row}
use Rattle.diagram_meaning.specs.Rows.{row_at}
use Rattle.diagram_meaning.specs.Types.{TypeRule, Known, SameAs, NoRule, type_rule, type_by, type_within, MeetsType, is_boolean_by_kind, HasType}

some-same : (a b : FixType) → (let x : Option FixType = Some a in x ≡ Some b) → a ≡ b
some-same a b e = cc e

none-some : (a : FixType) → (let x : Option FixType = None in x ≡ Some a) → ⊥
none-some a e = cc e

-- two walks from one row meet the same type
pub meets-one : (rows : List Row) (n k b : ℕ) (t u : FixType) → type_within rows n b ≡ Some t → type_within rows k b ≡ Some u → t ≡ u
meets-one rows zero k b t u e f = absurd (none-some t e)
meets-one rows (suc n) zero b t u e f = absurd (none-some u f)
meets-one rows (suc n) (suc k) b t u e f = by (type_rule rows b) e f (λ c. meets-one rows n k c t u)
  where
    by : (r : TypeRule) → type_by r (type_within rows n) ≡ Some t → type_by r (type_within rows k) ≡ Some u →
        ((c : ℕ) → type_within rows n c ≡ Some t → type_within rows k c ≡ Some u → t ≡ u) → t ≡ u
    by (Known w) e f next = sym (some-same w t e) ∙ some-same w u f
    by (SameAs c) e f next = next c e f
    by NoRule e f next = absurd (none-some t e)

pub HasType-one : (rows : List Row) (b : ℕ) (t u : FixType) → HasType rows b t → HasType rows b u → t ≡ u
HasType-one rows b t u h k = by (is_boolean_by_kind (row_at rows b).kind) h k
  where
    by : (r : Bool) → MatchBool r (t ≡ boolean) (MeetsType rows b t) → MatchBool r (u ≡ boolean) (MeetsType rows b u) → t ≡ u
    by true p q = p ∙ sym q
    by false p q = meets-one rows p.0 q.0 b t u p.1 q.1
