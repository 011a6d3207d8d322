-- The Lustre of an expression of C gives what the expression gives.
use Rattle.std.proofs.Common.{◌≡◌, refl, ap, ap₂, ◌∙◌, ℕ, ◌+◌, Bool, true, false, not, ◌&&◌, ◌||◌, if◌then◌else◌, List, [], ◌∷◌, map, Option, Some, ℤ, neg_ℤ}
use Rattle.c_syntax.specs.declared.CType.TheVariants.{I64}
use Rattle.c_syntax.specs.declared.Leaf.{Leaf}
use Rattle.c_syntax.specs.declared.Why.TheVariants.{Overflow}
use Rattle.c_syntax.specs.Tree.{ExprTree, literal, neg, read, binary, pick, pure, item, ExprTrees, no_exprs, more_exprs, CondTree, compare, both, either, negated}
use Rattle.c_semantics.specs.Values.{Answer, Function, Reads, gives, and_then, within, compares, eval, eval_all, eval_cond}
use Rattle.c_semantics.specs.Values as c
use Rattle.lustre_syntax.specs.declared.LusOp.TheVariants as op
use Rattle.lustre_syntax.specs.Named.{renamed}
use Rattle.lustre_flows.specs.Values.{Outcome, checked, tests, number_of, holds, value_of, evaluate}
use Rattle.lustre_flows.specs.Values as flow
use Rattle.lustre_system.specs.FromC.{operator, comparison, call_count, cond_call_count, value_from, values_from, test_from}
use Rattle.lustre_functions.specs.FromCLaws.{HasNames, AllHaveNames, TestHasNames, ExpressionsGiveTheSame}
use Rattle.lustre_functions.proofs.lemmas.Given.{given-same, given-first}
use Rattle.lustre_functions.proofs.lemmas.Operators.{checked-is, operated, compared, and-is, or-is, not-is, two-is, choice-is}

-- ---- Parts that C may not look at

-- the one of two expressions that C evaluates
picked-is : (p : Bool) (f g : ℕ → Answer ℤ) (a b : Outcome) (mid end : ℕ) (v : ℤ) →
    ((steps last : ℕ) (w : ℤ) → f steps ≡ gives w last → a ≡ flow.gives w) →
    ((steps last : ℕ) (w : ℤ) → g steps ≡ gives w last → b ≡ flow.gives w) →
    (if p then f else g) mid ≡ gives v end → (if p then a else b) ≡ flow.gives v
picked-is true f g a b mid end v on_true on_false is = on_true mid end v is
picked-is false f g a b mid end v on_true on_false is = on_false mid end v is

-- the right side of a test, which gives a truth value in any case
both-right : (p : Bool) (f : ℕ → Answer Bool) (r : Outcome) (mid end : ℕ) (b : Bool) →
    ((steps last : ℕ) (q : Bool) → f steps ≡ gives q last → r ≡ tests q) →
    ((q : Bool) × (last : ℕ) × (f mid ≡ gives q last)) →
    (if p then f else gives false) mid ≡ gives b end → (q : Bool) × (r ≡ tests q) × ((p && q) ≡ b)
both-right true f r mid end b right some is = (b, right mid end b is, refl)
both-right false f r mid end b right (q, last, there) is = (q, right mid last q there, given-same false b mid end is)

either-right : (p : Bool) (f : ℕ → Answer Bool) (r : Outcome) (mid end : ℕ) (b : Bool) →
    ((steps last : ℕ) (q : Bool) → f steps ≡ gives q last → r ≡ tests q) →
    ((q : Bool) × (last : ℕ) × (f mid ≡ gives q last)) →
    (if p then gives true else f) mid ≡ gives b end → (q : Bool) × (r ≡ tests q) × ((p || q) ≡ b)
either-right true f r mid end b right (q, last, there) is = (q, right mid last q there, given-same true b mid end is)
either-right false f r mid end b right some is = (b, right mid end b is, refl)

-- ---- Expressions

module _ (functions : List Function) (reads : Reads) (line : ℕ) (before : Option (List (Option ℤ))) (values : List (Option ℤ))
    (leaf_name : Leaf → List ℕ) (function_name part_name : ℕ → List ℕ) (place : List ℕ → ℕ) where
  abbrev Has : ℕ → ExprTree → Type 0
  Has = HasNames functions reads line values leaf_name part_name place

  abbrev AllHave : ℕ → ExprTrees → Type 0
  AllHave = AllHaveNames functions reads line values leaf_name part_name place

  abbrev TestHas : ℕ → CondTree → Type 0
  TestHas = TestHasNames functions reads line values leaf_name part_name place

  abbrev number_given : ℕ → ExprTree → Outcome
  number_given n e = evaluate before values (renamed place (value_from leaf_name function_name part_name n e))

  abbrev test_given : ℕ → CondTree → Outcome
  test_given n test = evaluate before values (renamed place (test_from leaf_name function_name part_name n test))

  abbrev arguments_given : ℕ → ExprTrees → List (Option ℤ)
  arguments_given n es =
      map (λ e. value_of (evaluate before values (renamed place e))) (values_from leaf_name function_name part_name n es)

  mutual
    pub number-is : (n : ℕ) (e : ExprTree) → Has n e → (steps end : ℕ) (v : ℤ) → eval functions reads line e steps ≡ gives v end →
        number_given n e ≡ flow.gives v
    number-is n (literal value) names steps end v is = ap flow.gives (given-same value v steps end is)
    number-is n (neg a) names steps end v is =
        let (x, mid, first, rest) = given-first (eval functions reads line a steps)
        (λ w count. within I64 Overflow line (neg_ℤ w) count) v end is in
        ap (λ (r : Outcome). flow.and_then r (λ w. checked (neg_ℤ w))) (number-is n a names steps mid x first)
        ∙ checked-is line (neg_ℤ x) v mid end rest
    number-is n (read leaf) names steps end v is = ap flow.read names ∙ ap flow.gives (given-same (reads.leaf leaf) v steps end is)
    number-is n (binary o a b) names steps end v is =
        let (x, mid, left, after) = given-first (eval functions reads line a steps)
        (λ x count. and_then (eval functions reads line b count) (λ y last. c.operate o line x y last)) v end is in
        let (y, last, right, rest) = given-first (eval functions reads line b mid) (λ y last. c.operate o line x y last) v end after in
        two-is (operator o) (number_given n a) (number_given (n + call_count a) b) x y (number-is n a names.0 steps mid x left)
        (number-is (n + call_count a) b names.1 mid last y right)
        ∙ operated o line x y v last end rest
    number-is n (pick test a b) names steps end v is =
        let na = n + cond_call_count test in
        let nb = n + cond_call_count test + call_count a in
        let (p, mid, first, rest) = given-first (eval_cond functions reads line test steps)
        (λ holds. if holds then eval functions reads line a else eval functions reads line b) v end is in
        choice-is p (test_given n test) (number_given na a) (number_given nb b) (test-is n test names.0 steps mid p first)
        ∙ picked-is p (eval functions reads line a) (eval functions reads line b) (number_given na a) (number_given nb b) mid end v
        (number-is na a names.1) (number-is nb b names.2) rest
    number-is n (pure function es) names steps end v is = ap flow.read (names.1 steps end v is)
    number-is n (item field index) names steps end v is = absurd names

    pub arguments-are : (n : ℕ) (es : ExprTrees) → AllHave n es → (steps end : ℕ) (vs : List ℤ) →
        eval_all functions reads line es steps ≡ gives vs end → arguments_given n es ≡ map Some vs
    arguments-are n no_exprs names steps end vs is = ap (map Some) (given-same [] vs steps end is)
    arguments-are n (more_exprs e es) names steps end vs is =
        let (x, mid, first, after) = given-first (eval functions reads line e steps)
        (λ v count. and_then (eval_all functions reads line es count) (λ ws last. gives (v ∷ ws) last)) vs end is in
        let (xs, last, others, rest) = given-first (eval_all functions reads line es mid) (λ ws last. gives (x ∷ ws) last) vs end after in
        ap₂ (λ (y : Option ℤ) (ys : List (Option ℤ)). y ∷ ys) (ap value_of (number-is n e names.0 steps mid x first))
        (arguments-are (n + call_count e) es names.1 mid last xs others)
        ∙ ap (map Some) (given-same (x ∷ xs) vs last end rest)

    pub test-is : (n : ℕ) (test : CondTree) → TestHas n test → (steps end : ℕ) (b : Bool) →
        eval_cond functions reads line test steps ≡ gives b end → test_given n test ≡ tests b
    test-is n (compare how l r) names steps end b is =
        let (x, mid, left, after) = given-first (eval functions reads line l steps)
        (λ x count. and_then (eval functions reads line r count) (λ y last. gives (compares how x y) last)) b end is in
        let (y, last, right, rest) = given-first (eval functions reads line r mid) (λ y last. gives (compares how x y) last) b end after in
        two-is (comparison how) (number_given n l) (number_given (n + call_count l) r) x y (number-is n l names.0 steps mid x left)
        (number-is (n + call_count l) r names.1 mid last y right)
        ∙ compared how x y ∙ ap tests (given-same (compares how x y) b last end rest)
    test-is n (both l r) names steps end b is =
        let nr = n + cond_call_count l in
        let (p, mid, left, after) = given-first (eval_cond functions reads line l steps)
        (λ holds. if holds then eval_cond functions reads line r else gives false) b end is in
        let (q, right, same) = both-right p (eval_cond functions reads line r) (test_given nr r) mid end b (test-is nr r names.1)
        (names.2 steps mid p left) after in
        two-is op.And (test_given n l) (test_given nr r) (number_of p) (number_of q) (test-is n l names.0 steps mid p left) right
        ∙ and-is p q ∙ ap tests same
    test-is n (either l r) names steps end b is =
        let nr = n + cond_call_count l in
        let (p, mid, left, after) = given-first (eval_cond functions reads line l steps)
        (λ holds. if holds then gives true else eval_cond functions reads line r) b end is in
        let (q, right, same) = either-right p (eval_cond functions reads line r) (test_given nr r) mid end b (test-is nr r names.1)
        (names.2 steps mid p left) after in
        two-is op.Or (test_given n l) (test_given nr r) (number_of p) (number_of q) (test-is n l names.0 steps mid p left) right
        ∙ or-is p q ∙ ap tests same
    test-is n (negated a) names steps end b is =
        let (p, mid, first, rest) = given-first (eval_cond functions reads line a steps)
        (λ holds count. gives (not holds) count) b end is in
        ap (λ (r : Outcome). flow.and_then r (λ v. tests (not (holds v)))) (test-is n a names steps mid p first)
        ∙ not-is p ∙ ap tests (given-same (not p) b mid end rest)

pub expressions_give_the_same : ExpressionsGiveTheSame
expressions_give_the_same functions reads line before values leaf_name function_name part_name place = record {
  number = number-is functions reads line before values leaf_name function_name part_name place;
  arguments = arguments-are functions reads line before values leaf_name function_name part_name place;
  test = test-is functions reads line before values leaf_name function_name part_name place;
}
