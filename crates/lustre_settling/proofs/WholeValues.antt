-- Values that are all there: what is reported of equations over them, and what follows where nothing is reported.
use Rattle.std.specs.Prelude.{◌≡◌, ⊤, ℕ, zero, suc, ◌<◌, ℤ, pos, ◌+ℤ◌, ◌-ℤ◌, ◌*ℤ◌, neg_ℤ, int_div, int_rem, not, Bool, true, false, if◌then◌else◌, List, [], ◌∷◌, ◌++◌, map, take, length, Option, Some, None, refl}
use Rattle.std.specs.Ordering.{int_eq}
use Rattle.std.specs.List.{AllByRecursion, flat_map, list_all}
use Rattle.std.proofs.Common.{ap, ap₂, subst, ◌∙◌, arith, inl, inr}
use Rattle.std.proofs.lemmas.Bool.{and_parts, and_from, cases_eq}
use Rattle.lustre_syntax.specs.declared.code.LusOp.{LusOp}
use Rattle.lustre_syntax.specs.declared.code.LusOp.TheVariants.{Add, Sub, Mul, Div, Mod, Eq, Ne, Lt, Le, Gt, Ge, And, Or}
use Rattle.lustre_syntax.specs.Tree.{ExprTree, number, truth, name, negative, negation, two, choice, arrow, previous, EquationTree, names_read, given_by, line_of}
use Rattle.lustre_syntax.specs.Lawful.{IsWritable}
use Rattle.lustre_flows.specs.declared.stuck.LusStuck.{LusStuck}
use Rattle.lustre_flows.specs.declared.stuck.LusWhy.TheVariants.{Overflow, ZeroDivisor, Cycle}
use Rattle.lustre_flows.specs.Values.{Outcome, gives, waits, fails, and_then, value_of, read, fits, checked, tests, holds, quotient, operate, chosen, value_at, by_tick, read_before, evaluate}
use Rattle.lustre_flows.specs.Instances.{has_value}
use Rattle.lustre_flows.specs.Ticks.{stuck_at, failure, waiting, least_place, place_among}
use Rattle.lustre_flows.specs.FlowLaws.{below}
use Rattle.lustre_settling.proofs.lemmas.Given.{times, times-other, times-append}

-- ---- What is reported

pub none-of-both : {A : Type 0} (xs ys : List A) → xs ++ ys ≡ [] → (xs ≡ []) × (ys ≡ [])
none-of-both [] ys none = (refl, none)
none-of-both (x ∷ xs) ys none = grind arith

pub both-none : {A : Type 0} (xs ys : List A) → xs ≡ [] → ys ≡ [] → xs ++ ys ≡ []
both-none {A} xs ys first second = ap₂ {C = List A} (λ us ws. us ++ ws) first second

no-place : (places : List LusStuck) → least_place places ≡ None → places ≡ []
no-place [] none = refl
no-place (p ∷ ps) none = grind arith

pub neither-place : (failed waits : List LusStuck) → place_among (least_place failed) (least_place waits) ≡ None →
    (failed ≡ []) × (waits ≡ [])
neither-place [] ws none = (refl, no-place ws none)
neither-place (p ∷ ps) ws none = grind arith

pub place-of-none : (failed waits : List LusStuck) → failed ≡ [] → waits ≡ [] → place_among (least_place failed) (least_place waits) ≡ None
place-of-none failed ws none also = ap₂ (λ xs ys. place_among (least_place xs) (least_place ys)) none also

-- ---- Values that are there

pub values-there : (vs : List (Option ℤ)) (k : ℕ) → list_all has_value vs ≡ true → k < length vs → has_value (value_at vs k) ≡ true
values-there [] k whole below = absurd (omega arith)
values-there (v ∷ vs) zero whole below = (and_parts _ _ whole).0
values-there (v ∷ vs) (suc k) whole below = values-there vs k (and_parts _ _ whole).1 (omega arith)

pub all-there : (vs : List (Option ℤ)) → ((k : ℕ) → k < length vs → has_value (value_at vs k) ≡ true) → list_all has_value vs ≡ true
all-there [] each = refl
all-there (v ∷ vs) each = and_from _ _ (each 0 (omega arith)) (all-there vs (λ k below. each (suc k) (omega arith)))

-- an outcome that doesn't wait, and one that is a value
abbrev pub GoesOn : Outcome → Type 0
GoesOn (gives v) = ⊤
GoesOn waits = ⊥
GoesOn (fails why) = ⊤

read-goes-on : (v : Option ℤ) → has_value v ≡ true → GoesOn (read v)
read-goes-on None there = grind arith
read-goes-on (Some v) there = tt

then-goes-on : (o : Outcome) (f : ℤ → Outcome) → GoesOn o → ((v : ℤ) → GoesOn (f v)) → GoesOn (and_then o f)
then-goes-on (gives v) f on each = each v
then-goes-on waits f on each = on
then-goes-on (fails why) f on each = tt

checked-goes-on : (v : ℤ) → GoesOn (checked v)
checked-goes-on v = by (fits v)
  where
    by : (t : Bool) → GoesOn (if t then gives v else fails Overflow)
    by true = tt
    by false = tt

quotient-goes-on : (x y : ℤ) → GoesOn (quotient x y)
quotient-goes-on x y = by (int_eq y (pos 0))
  where
    by : (t : Bool) → GoesOn (if t then fails ZeroDivisor else checked (int_div x y))
    by true = tt
    by false = checked-goes-on (int_div x y)

operate-goes-on : (op : LusOp) (x y : ℤ) → GoesOn (operate op x y)
operate-goes-on Add x y = checked-goes-on (x +ℤ y)
operate-goes-on Sub x y = checked-goes-on (x -ℤ y)
operate-goes-on Mul x y = checked-goes-on (x *ℤ y)
operate-goes-on Div x y = quotient-goes-on x y
operate-goes-on Mod x y = then-goes-on (quotient x y) (λ q. gives (int_rem x y)) (quotient-goes-on x y) (λ q. tt)
operate-goes-on Eq x y = tt
operate-goes-on Ne x y = tt
operate-goes-on Lt x y = tt
operate-goes-on Le x y = tt
operate-goes-on Gt x y = tt
operate-goes-on Ge x y = tt
operate-goes-on And x y = tt
operate-goes-on Or x y = tt

chosen-goes-on : (t : Bool) (a b : Outcome) → GoesOn a → GoesOn b → GoesOn (chosen t a b)
chosen-goes-on true a b first second = first
chosen-goes-on false a b first second = second

by-tick-goes-on : (before : Option (List (Option ℤ))) (a b : Outcome) → GoesOn a → GoesOn b → GoesOn (by_tick before a b)
by-tick-goes-on None a b first later = first
by-tick-goes-on (Some before) a b first later = later

pub all-append : {A : Type 0} (P : A → Type 0) (xs ys : List A) → AllByRecursion P (xs ++ ys) → AllByRecursion P xs × AllByRecursion P ys
all-append P [] ys all = (tt, all)
all-append P (x ∷ xs) ys all = let rest = all-append P xs ys all.1 in ((all.0, rest.0), rest.1)

-- so many values, all there
abbrev pub AreWhole : ℕ → List (Option ℤ) → Type 0
AreWhole n vs = (length vs ≡ n) × (list_all has_value vs ≡ true)

abbrev pub WereWhole : ℕ → Option (List (Option ℤ)) → Type 0
WereWhole n None = ⊤
WereWhole n (Some vs) = AreWhole n vs

read-before-goes-on : (n : ℕ) (before : Option (List (Option ℤ))) (k : ℕ) → WereWhole n before → k < n → GoesOn (read_before before k)
read-before-goes-on n None k were below = tt
read-before-goes-on n (Some vs) k were below =
    let many = were.0 in read-goes-on (value_at vs k) (values-there vs k were.1 (omega arith))

-- an expression over names that all have values doesn't wait
module _ (n : ℕ) (before : Option (List (Option ℤ))) (vs : List (Option ℤ)) (were : WereWhole n before) (are : AreWhole n vs) where
  evaluate-goes-on : (e : ExprTree) → AllByRecursion (λ k. k < n) (names_read e) → GoesOn (evaluate before vs e)
  evaluate-goes-on (number value) reads = tt
  evaluate-goes-on (truth value) reads = tt
  evaluate-goes-on (name k) reads =
      let many = are.0 in let below = reads.0 in read-goes-on (value_at vs k) (values-there vs k are.1 (omega arith))
  evaluate-goes-on (negative a) reads =
      then-goes-on (evaluate before vs a) (λ v. checked (neg_ℤ v)) (evaluate-goes-on a reads) (λ v. checked-goes-on (neg_ℤ v))
  evaluate-goes-on (negation a) reads =
      then-goes-on (evaluate before vs a) (λ v. tests (not (holds v))) (evaluate-goes-on a reads) (λ v. tt)
  evaluate-goes-on (two op a b) reads =
      let parts = all-append (λ k. k < n) (names_read a) (names_read b) reads in
      then-goes-on (evaluate before vs a) (λ x. and_then (evaluate before vs b) (operate op x)) (evaluate-goes-on a parts.0)
      (λ x. then-goes-on (evaluate before vs b) (operate op x) (evaluate-goes-on b parts.1) (operate-goes-on op x))
  evaluate-goes-on (choice test a b) reads =
      let parts = all-append (λ k. k < n) (names_read test ++ names_read a) (names_read b) reads in
      let first = all-append (λ k. k < n) (names_read test) (names_read a) parts.0 in
      then-goes-on (evaluate before vs test) (λ v. chosen (holds v) (evaluate before vs a) (evaluate before vs b))
      (evaluate-goes-on test first.0)
      (λ v. chosen-goes-on (holds v) (evaluate before vs a) (evaluate before vs b) (evaluate-goes-on a first.1)
      (evaluate-goes-on b parts.1))
  evaluate-goes-on (arrow a b) reads =
      let parts = all-append (λ k. k < n) (names_read a) (names_read b) reads in
      by-tick-goes-on before (evaluate before vs a) (evaluate before vs b) (evaluate-goes-on a parts.0) (evaluate-goes-on b parts.1)
  evaluate-goes-on (previous k) reads = read-before-goes-on n before k were reads.0

has-value-unless : (line : ℕ) (o : Outcome) → GoesOn o → failure line o ≡ [] → has_value (value_of o) ≡ true
has-value-unless line (gives v) on none = refl
has-value-unless line waits on none = absurd on
has-value-unless line (fails why) on none = grind arith

pub value-no-failure : (line : ℕ) (o : Outcome) → has_value (value_of o) ≡ true → failure line o ≡ []
value-no-failure line (gives v) there = refl
value-no-failure line waits there = grind arith
value-no-failure line (fails why) there = grind arith

pub arguments-no-failure : (before : Option (List (Option ℤ))) (vs : List (Option ℤ)) (line : ℕ) (es : List ExprTree) →
    list_all has_value (map (λ e. value_of (evaluate before vs e)) es) ≡ true →
    flat_map (λ x. failure line (evaluate before vs x)) es ≡ []
arguments-no-failure before vs line [] whole = refl
arguments-no-failure before vs line (e ∷ es) whole =
    let parts = and_parts (has_value (value_of (evaluate before vs e))) _ whole in
    both-none (failure line (evaluate before vs e)) _ (value-no-failure line (evaluate before vs e) parts.0)
    (arguments-no-failure before vs line es parts.1)

pub arguments-whole : (n : ℕ) (before : Option (List (Option ℤ))) (vs : List (Option ℤ)) (line : ℕ) (es : List ExprTree) →
    WereWhole n before → AreWhole n vs → AllByRecursion (IsWritable n) es →
    flat_map (λ x. failure line (evaluate before vs x)) es ≡ [] →
    list_all has_value (map (λ e. value_of (evaluate before vs e)) es) ≡ true
arguments-whole n before vs line [] were are writable none = refl
arguments-whole n before vs line (e ∷ es) were are writable none =
    let parts = none-of-both (failure line (evaluate before vs e)) (flat_map (λ x. failure line (evaluate before vs x)) es) none in
    and_from (has_value (value_of (evaluate before vs e))) _
    (has-value-unless line (evaluate before vs e) (evaluate-goes-on n before vs were are e writable.0.reads) parts.0)
    (arguments-whole n before vs line es were are writable.1 parts.1)

pub whole-take : (n : ℕ) (vs : List (Option ℤ)) → list_all has_value vs ≡ true → list_all has_value (take n vs) ≡ true
whole-take zero vs whole = refl
whole-take (suc n) [] whole = refl
whole-take (suc n) (v ∷ vs) whole =
    let parts = and_parts (has_value v) (list_all has_value vs) whole in and_from _ _ parts.0 (whole-take n vs parts.1)

pub given-there : (vs : List (Option ℤ)) (ks : List ℕ) → list_all has_value vs ≡ true → AllByRecursion (λ k. k < length vs) ks →
    list_all (λ k. has_value (value_at vs k)) ks ≡ true
given-there vs [] whole within = refl
given-there vs (k ∷ ks) whole within = and_from _ _ (values-there vs k whole within.0) (given-there vs ks whole within.1)

pub none-waits : (before : Option (List (Option ℤ))) (vs : List (Option ℤ)) (e : EquationTree) →
    list_all (λ k. has_value (value_at vs k)) (given_by e) ≡ true → waiting before vs e ≡ []
none-waits before vs e there = ap (λ t. if t then [] else stuck_at (line_of e) Cycle ∷ []) there

given-unless-waits : (before : Option (List (Option ℤ))) (vs : List (Option ℤ)) (e : EquationTree) → waiting before vs e ≡ [] →
    list_all (λ k. has_value (value_at vs k)) (given_by e) ≡ true
given-unless-waits before vs e none = by (list_all (λ k. has_value (value_at vs k)) (given_by e)) none
  where
    by : (t : Bool) → (if t then [] else stuck_at (line_of e) Cycle ∷ []) ≡ [] → t ≡ true
    by true none = refl
    by false none = grind arith

listed-there : (test : ℕ → Bool) (ks : List ℕ) (k : ℕ) → list_all test ks ≡ true → (times k ks ≡ 0 → ⊥) → test k ≡ true
listed-there test [] k all some = absurd (some refl)
listed-there test (j ∷ js) k all some =
    let parts = and_parts (test j) (list_all test js) all in
    elim (cases_eq j k) [
      | inl same ↦ subst (λ i. test i ≡ true) same parts.0
      | inr other ↦ listed-there test js k parts.1 (λ none. some (times-other j k js other ∙ none))
    ]

pub given-has : (before : Option (List (Option ℤ))) (vs : List (Option ℤ)) (es : List EquationTree) (k : ℕ) →
    (times k (flat_map given_by es) ≡ 0 → ⊥) → flat_map (waiting before vs) es ≡ [] → has_value (value_at vs k) ≡ true
given-has before vs [] k some none = absurd (some refl)
given-has before vs (e ∷ es) k some none =
    let parts = none-of-both (waiting before vs e) (flat_map (waiting before vs) es) none in
    let both = times-append k (given_by e) (flat_map given_by es) in
    elim (cases_eq (times k (given_by e)) 0) [
      | inl first ↦ given-has before vs es k (λ rest. some (omega arith)) parts.1
      | inr first ↦ listed-there (λ j. has_value (value_at vs j)) (given_by e) k (given-unless-waits before vs e parts.0) first
    ]
