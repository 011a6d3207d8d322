-- The operators of Lustre give what those of C give.
use Rattle.std.proofs.Common.{◌≡◌, refl, ap, ◌∙◌, ℕ, ◌-◌, ◌^◌, Bool, true, false, not, ◌&&◌, ◌||◌, if◌then◌else◌, ℤ, pos, neg_ℤ, ◌+ℤ◌, ◌-ℤ◌, ◌*ℤ◌, int_lt, int_le, arith}
use Rattle.std.specs.Prelude.{int_div, int_rem}
use Rattle.std.specs.Ordering.{int_eq}
use Rattle.std.proofs.lemmas.Bool.{and_from, and_parts}
use Rattle.std.proofs.lemmas.Int.{ints}
use Rattle.base_core.specs.declared.Compare.{Compare}
use Rattle.base_core.specs.declared.Compare.TheVariants as how
use Rattle.c_syntax.specs.declared.BinOp.{BinOp}
use Rattle.c_syntax.specs.declared.BinOp.TheVariants.{Add, Sub, Mul, Div, Rem}
use Rattle.c_syntax.specs.declared.CType.TheVariants.{I64}
use Rattle.c_syntax.specs.declared.Why.TheVariants.{Overflow, ZeroDivisor}
use Rattle.c_semantics.specs.Values.{gives, and_then, compares, within, stuck_at}
use Rattle.c_semantics.specs.Values as c
use Rattle.c_semantics.specs.EvaluationLaws.{in_64}
use Rattle.lustre_syntax.specs.declared.LusOp.{LusOp}
use Rattle.lustre_syntax.specs.declared.LusOp.TheVariants as op
use Rattle.lustre_flows.specs.declared.LusWhy.TheVariants as why
use Rattle.lustre_flows.specs.Values.{Outcome, checked, fails, fits, tests, number_of, holds, chosen, operate}
use Rattle.lustre_flows.specs.Values as flow
use Rattle.lustre_system.specs.FromC.{operator, comparison}
use Rattle.lustre_functions.proofs.lemmas.Given.{given-same, given-first, given-if, given-unless}

-- ---- Numbers of 64 bits

below_next : (v : ℤ) → int_le v (pos (2 ^ 63 - 1)) ≡ true → int_lt v (pos (2 ^ 63)) ≡ true
below_next v h = grind (arith, ints)

pub fits_64 : (v : ℤ) → in_64 v ≡ true → fits v ≡ true
fits_64 v h =
    let parts = and_parts (int_le (neg_ℤ (pos (2 ^ 63))) v) (int_le v (pos (2 ^ 63 - 1))) h in
    and_from (int_le (neg_ℤ (pos (2 ^ 63))) v) (int_lt v (pos (2 ^ 63))) parts.0 (below_next v parts.1)

pub checked-is : (line : ℕ) (v w : ℤ) (steps end : ℕ) → within I64 Overflow line v steps ≡ gives w end → checked v ≡ flow.gives w
checked-is line v w steps end is =
    let (inside, same) = given-if (in_64 v) (gives v steps) (stuck_at line Overflow) w end is in
    ap (λ b. if b then flow.gives v else fails why.Overflow) (fits_64 v inside) ∙ ap flow.gives (given-same v w steps end same)

-- ---- Operators

pub operated : (o : BinOp) (line : ℕ) (x y v : ℤ) (steps end : ℕ) → c.operate o line x y steps ≡ gives v end →
    operate (operator o) x y ≡ flow.gives v
operated Add line x y v steps end is = checked-is line (x +ℤ y) v steps end is
operated Sub line x y v steps end is = checked-is line (x -ℤ y) v steps end is
operated Mul line x y v steps end is = checked-is line (x *ℤ y) v steps end is
operated Div line x y v steps end is =
    let (some, kept) = given-unless (int_eq y (pos 0)) (within I64 Overflow line (int_div x y) steps)
    (stuck_at line ZeroDivisor) v end is in
    ap (λ b. if b then fails why.ZeroDivisor else checked (int_div x y)) some ∙ checked-is line (int_div x y) v steps end kept
operated Rem line x y v steps end is =
    let go = λ (quotient : ℤ) (count : ℕ). gives (int_rem x y) count in
    let first = within I64 Overflow line (int_div x y) steps in
    let (some, kept) = given-unless (int_eq y (pos 0)) (and_then first go) (stuck_at line ZeroDivisor) v end is in
    let (q, mid, fit, rest) = given-first first go v end kept in
    ap (λ b. flow.and_then (if b then fails why.ZeroDivisor else checked (int_div x y)) (λ w. flow.gives (int_rem x y))) some
    ∙ ap (λ r. flow.and_then r (λ w. flow.gives (int_rem x y))) (checked-is line (int_div x y) q steps mid fit)
    ∙ ap flow.gives (given-same (int_rem x y) v mid end rest)

pub compared : (h : Compare) (x y : ℤ) → operate (comparison h) x y ≡ tests (compares h x y)
compared how.Eq x y = refl
compared how.Ne x y = refl
compared how.Lt x y = refl
compared how.Le x y = refl
compared how.Ge x y = refl
compared how.Gt x y = refl

-- ---- Truth values

pub and-is : (p q : Bool) → operate op.And (number_of p) (number_of q) ≡ tests (p && q)
and-is true true = refl
and-is true false = refl
and-is false true = refl
and-is false false = refl

pub or-is : (p q : Bool) → operate op.Or (number_of p) (number_of q) ≡ tests (p || q)
or-is true true = refl
or-is true false = refl
or-is false true = refl
or-is false false = refl

pub not-is : (p : Bool) → tests (not (holds (number_of p))) ≡ tests (not p)
not-is true = refl
not-is false = refl

-- ---- Parts

pub two-is : (o : LusOp) (r s : Outcome) (x y : ℤ) → r ≡ flow.gives x → s ≡ flow.gives y →
    flow.and_then r (λ v. flow.and_then s (operate o v)) ≡ operate o x y
two-is o r s x y left right =
    ap (λ (t : Outcome). flow.and_then t (λ v. flow.and_then s (operate o v))) left
    ∙ ap (λ (t : Outcome). flow.and_then t (operate o x)) right

pub choice-is : (p : Bool) (r a b : Outcome) → r ≡ tests p → flow.and_then r (λ v. chosen (holds v) a b) ≡ (if p then a else b)
choice-is true r a b is = ap (λ (t : Outcome). flow.and_then t (λ v. chosen (holds v) a b)) is
choice-is false r a b is = ap (λ (t : Outcome). flow.and_then t (λ v. chosen (holds v) a b)) is
