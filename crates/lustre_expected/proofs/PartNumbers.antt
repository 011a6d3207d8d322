-- What each call in an expression of C gives, in the order of the calls.
use Rattle.std.proofs.Common.{◌≡◌, refl, ap, ap₂, ◌∙◌, ℕ, ◌+◌, ◌<◌, ◌≤◌, List, [], ◌∷◌, ◌++◌, length, Option, Some, ℤ, pos, arith, length-append}
use Rattle.std.proofs.lemmas.List.{get_or_append_left, get_or-append-add}
use Rattle.base_core.specs.Numbers.{int_at}
use Rattle.c_syntax.specs.Tree.{ExprTree, literal, neg, read, binary, pick, pure, item, ExprTrees, no_exprs, more_exprs, CondTree, compare, both, either, negated}
use Rattle.c_semantics.specs.Values.{Answer, Function, Reads, gives, sticks, eval}
use Rattle.c_refinement.specs.Evaluations.{RefinesAnswer, AreSteady}
use Rattle.c_refinement.proofs.lemmas.Answers.{expr-refines}
use Rattle.lustre_flows.specs.Values.{value_at}
use Rattle.lustre_system.specs.FromC.{call_count, call_counts, cond_call_count}
use Rattle.lustre_rows.specs.CallNames.{CallsHave, AllCallsHave, TestCallsHave}

-- the number of an answer, 0 where it is stuck
abbrev pub number_given : Answer ℤ → ℤ
number_given (gives v end) = v
number_given (sticks at) = pos 0

joined-count : (xs ys : List ℤ) (n m : ℕ) → length xs ≡ n → length ys ≡ m → length (xs ++ ys) ≡ n + m
joined-count xs ys n m first second = length-append xs ys ∙ ap₂ (λ (i j : ℕ). i + j) first second

module _ (functions : List Function) (reads : Reads) where
  abbrev mutual
    pub part_numbers : ExprTree → List ℤ
    part_numbers (literal value) = []
    part_numbers (neg a) = part_numbers a
    part_numbers (read leaf) = []
    part_numbers (binary o a b) = part_numbers a ++ part_numbers b
    part_numbers (pick test a b) = test_part_numbers test ++ (part_numbers a ++ part_numbers b)
    part_numbers (pure k es) = all_part_numbers es ++ number_given (eval functions reads 0 (pure k es) 0) ∷ []
    part_numbers (item field index) = part_numbers index

    pub all_part_numbers : ExprTrees → List ℤ
    all_part_numbers no_exprs = []
    all_part_numbers (more_exprs e es) = part_numbers e ++ all_part_numbers es

    pub test_part_numbers : CondTree → List ℤ
    test_part_numbers (compare how a b) = part_numbers a ++ part_numbers b
    test_part_numbers (both a b) = test_part_numbers a ++ test_part_numbers b
    test_part_numbers (either a b) = test_part_numbers a ++ test_part_numbers b
    test_part_numbers (negated a) = test_part_numbers a

  -- there are as many as calls
  mutual
    count-of_parts : (e : ExprTree) → length (part_numbers e) ≡ call_count e
    count-of_parts (literal value) = refl
    count-of_parts (neg a) = count-of_parts a
    count-of_parts (read leaf) = refl
    count-of_parts (binary o a b) =
        joined-count (part_numbers a) (part_numbers b) (call_count a) (call_count b) (count-of_parts a) (count-of_parts b)
    count-of_parts (pick test a b) =
        joined-count (test_part_numbers test) (part_numbers a ++ part_numbers b) (cond_call_count test) (call_count a + call_count b)
        (count-of_test test)
        (joined-count (part_numbers a) (part_numbers b) (call_count a) (call_count b) (count-of_parts a) (count-of_parts b))
    count-of_parts (pure k es) =
        joined-count (all_part_numbers es) (number_given (eval functions reads 0 (pure k es) 0) ∷ []) (call_counts es) 1
        (count-of_all es) refl
    count-of_parts (item field index) = count-of_parts index

    count-of_all : (es : ExprTrees) → length (all_part_numbers es) ≡ call_counts es
    count-of_all no_exprs = refl
    count-of_all (more_exprs e es) =
        joined-count (part_numbers e) (all_part_numbers es) (call_count e) (call_counts es) (count-of_parts e) (count-of_all es)

    count-of_test : (c : CondTree) → length (test_part_numbers c) ≡ cond_call_count c
    count-of_test (compare how a b) =
        joined-count (part_numbers a) (part_numbers b) (call_count a) (call_count b) (count-of_parts a) (count-of_parts b)
    count-of_test (both a b) =
        joined-count (test_part_numbers a) (test_part_numbers b) (cond_call_count a) (cond_call_count b) (count-of_test a) (count-of_test b)
    count-of_test (either a b) =
        joined-count (test_part_numbers a) (test_part_numbers b) (cond_call_count a) (cond_call_count b) (count-of_test a) (count-of_test b)
    count-of_test (negated a) = count-of_test a

-- ---- Numbers at a place among others

abbrev StandAt : List ℤ → ℕ → List ℤ → Type 0
StandAt whole n xs = (i : ℕ) → i < length xs → int_at whole (n + i) ≡ int_at xs i

stand-first : (whole : List ℤ) (n : ℕ) (xs ys : List ℤ) → StandAt whole n (xs ++ ys) → StandAt whole n xs
stand-first whole n xs ys stand i below =
    let many = length-append xs ys in
    stand i (omega (arith, below, many)) ∙ get_or_append_left xs ys (pos 0) i below

stand-later : (whole : List ℤ) (n m : ℕ) (xs ys : List ℤ) → length xs ≡ m → StandAt whole n (xs ++ ys) → StandAt whole (n + m) ys
stand-later whole n m xs ys long stand i below =
    let many = length-append xs ys in
    ap (int_at whole) (let e : n + m + i ≡ n + (length xs + i) = omega (arith, long) in e)
    ∙ stand (length xs + i) (omega (arith, below, many)) ∙ get_or-append-add xs ys i (pos 0)

stand-one : (whole : List ℤ) (n : ℕ) (x : ℤ) → StandAt whole n (x ∷ []) → int_at whole n ≡ x
stand-one whole n x stand = ap (int_at whole) (let e : n ≡ n + 0 = omega arith in e) ∙ stand 0 (omega arith)

-- these numbers stand at place n among them all, and are so many
pub record Stands (whole : List ℤ) (count n m : ℕ) (xs : List ℤ) : Type 0 where
  pub few : n + m ≤ count
  pub at : StandAt whole n xs

split : (whole : List ℤ) (count n m k : ℕ) (xs ys : List ℤ) → length xs ≡ m → Stands whole count n (m + k) (xs ++ ys) →
    Stands whole count n m xs × Stands whole count (n + m) k ys
split whole count n m k xs ys long stands =
    let few = stands.few in (
      record { few = omega (arith, few); at = stand-first whole n xs ys stands.at },
      record { few = omega (arith, few); at = stand-later whole n m xs ys long stands.at },
    )

-- ---- An answer from 0 steps on is the answer from each count

same-given : (a b : Answer ℤ) (v : ℤ) (end : ℕ) → a ≡ gives v end → RefinesAnswer a b → number_given b ≡ v
same-given (gives x count) (gives y other) v end is refines = let same : x ≡ v = cc in refines.0 ∙ same
same-given (gives x count) (sticks at) v end is refines = absurd refines
same-given (sticks at) b v end is refines = absurd (cc)

module _ (functions : List Function) (steady : AreSteady functions) (reads : Reads) (values : List (Option ℤ)) (part_name : ℕ → List ℕ)
    (place : List ℕ → ℕ) (whole : List ℤ) (count : ℕ)
    (named : (j : ℕ) → j < count → value_at values (place (part_name (j + 1))) ≡ Some (int_at whole j)) where
  abbrev parts : ExprTree → List ℤ
  parts = part_numbers functions reads

  abbrev all_parts : ExprTrees → List ℤ
  all_parts = all_part_numbers functions reads

  abbrev test_parts : CondTree → List ℤ
  test_parts = test_part_numbers functions reads

  call-has : (n : ℕ) (e : ExprTree) → Stands whole count n 1 (number_given (eval functions reads 0 e 0) ∷ []) →
      (steps end : ℕ) (v : ℤ) → eval functions reads 0 e steps ≡ gives v end → value_at values (place (part_name (n + 1))) ≡ Some v
  call-has n e stands steps end v is =
      let few = stands.few in
      named n (omega (arith, few))
      ∙ ap Some (stand-one whole n (number_given (eval functions reads 0 e 0)) stands.at
      ∙ same-given (eval functions reads 0 e steps) (eval functions reads 0 e 0) v end is
      (expr-refines functions steady reads 0 0 e steps 0 (omega arith)))

  split-parts : (n : ℕ) (a b : ExprTree) → Stands whole count n (call_count a + call_count b) (parts a ++ parts b) →
      Stands whole count n (call_count a) (parts a) × Stands whole count (n + call_count a) (call_count b) (parts b)
  split-parts n a b = split whole count n (call_count a) (call_count b) (parts a) (parts b) (count-of_parts functions reads a)

  split-tests : (n : ℕ) (a b : CondTree) → Stands whole count n (cond_call_count a + cond_call_count b) (test_parts a ++ test_parts b) →
      Stands whole count n (cond_call_count a) (test_parts a)
      × Stands whole count (n + cond_call_count a) (cond_call_count b) (test_parts b)
  split-tests n a b =
      split whole count n (cond_call_count a) (cond_call_count b) (test_parts a) (test_parts b) (count-of_test functions reads a)

  mutual
    calls-have : (n : ℕ) (e : ExprTree) → Stands whole count n (call_count e) (parts e) →
        CallsHave functions reads 0 values part_name place n e
    calls-have n (literal value) stands = tt
    calls-have n (neg a) stands = calls-have n a stands
    calls-have n (read leaf) stands = tt
    calls-have n (binary o a b) stands =
        let both = split-parts n a b stands in (calls-have n a both.0, calls-have (n + call_count a) b both.1)
    calls-have n (pick test a b) stands =
        let c = cond_call_count test in
        let first = split whole count n c (call_count a + call_count b) (test_parts test) (parts a ++ parts b)
        (count-of_test functions reads test) stands in
        let both = split-parts (n + c) a b first.1 in
        (test-has n test first.0, calls-have (n + c) a both.0, calls-have (n + c + call_count a) b both.1)
    calls-have n (pure k es) stands =
        let both = split whole count n (call_counts es) 1 (all_parts es) (number_given (eval functions reads 0 (pure k es) 0) ∷ [])
        (count-of_all functions reads es) stands in
        (all-have n es both.0, call-has (n + call_counts es) (pure k es) both.1)
    calls-have n (item field index) stands = tt

    all-have : (n : ℕ) (es : ExprTrees) → Stands whole count n (call_counts es) (all_parts es) →
        AllCallsHave functions reads 0 values part_name place n es
    all-have n no_exprs stands = tt
    all-have n (more_exprs e es) stands =
        let both = split whole count n (call_count e) (call_counts es) (parts e) (all_parts es) (count-of_parts functions reads e) stands in
        (calls-have n e both.0, all-have (n + call_count e) es both.1)

    test-has : (n : ℕ) (c : CondTree) → Stands whole count n (cond_call_count c) (test_parts c) →
        TestCallsHave functions reads 0 values part_name place n c
    test-has n (compare how a b) stands =
        let both = split-parts n a b stands in (calls-have n a both.0, calls-have (n + call_count a) b both.1)
    test-has n (both a b) stands =
        let parts = split-tests n a b stands in (test-has n a parts.0, test-has (n + cond_call_count a) b parts.1)
    test-has n (either a b) stands =
        let parts = split-tests n a b stands in (test-has n a parts.0, test-has (n + cond_call_count a) b parts.1)
    test-has n (negated a) stands = test-has n a stands

-- the calls of a whole expression
pub all-calls-have : (functions : List Function) (steady : AreSteady functions) (reads : Reads) (values : List (Option ℤ))
    (part_name : ℕ → List ℕ) (place : List ℕ → ℕ) (e : ExprTree) →
    ((j : ℕ) → j < call_count e → value_at values (place (part_name (j + 1))) ≡ Some (int_at (part_numbers functions reads e) j)) →
    CallsHave functions reads 0 values part_name place 0 e
all-calls-have functions steady reads values part_name place e named =
    let whole = part_numbers functions reads e in
    calls-have functions steady reads values part_name place whole (call_count e) named 0 e
    (record { few = omega arith; at = λ i below. ap (int_at whole) (let same : 0 + i ≡ i = omega arith in same) })
