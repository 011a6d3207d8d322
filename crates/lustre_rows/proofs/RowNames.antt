-- The names of the code of a row have what its parts give.
use Rattle.std.proofs.Common.{◌≡◌, refl, sym, subst, false, ℕ, ◌+◌, Bool, true, ◌&&◌, ◌||◌, not, cond, List, [], ◌++◌, Option, Some, ℤ}
use Rattle.std.specs.Prelude.{Contains}
use Rattle.std.specs.List.{AllByRecursion}
use Rattle.base_fixed_point.specs.declared.FixType.{FixType}
use Rattle.diagram_blocks.specs.declared.Op.{Op}
use Rattle.diagram_blocks.specs.Kinds.{is_delay}
use Rattle.c_syntax.specs.declared.Leaf.{Leaf}
use Rattle.c_syntax.specs.Tree.{ExprTree, literal, neg, read, binary, pick, pure, item, ExprTrees, no_exprs, more_exprs, CondTree, compare, both, either, negated}
use Rattle.c_semantics.specs.Values.{Function, Reads, compares}
use Rattle.c_semantics.specs.EvaluationLaws.{Gives, Holds}
use Rattle.c_semantics.proofs.lemmas.WithoutSteps.{gives_literal, gives_read, gives_pick, holds_compare, holds_both, holds_either, holds_negated}
use Rattle.emit_row_code.specs.Reading.{ReadsOnly, AllReadOnly, TestsOnly}
use Rattle.emit_row_code.specs.RowCode.{rhs_code}
use Rattle.lustre_flows.specs.Values.{value_at}
use Rattle.lustre_system.specs.FromC.{call_count, cond_call_count}
use Rattle.lustre_functions.specs.FromCLaws.{HasNames, AllHaveNames, TestHasNames}
use Rattle.lustre_rows.specs.CallNames.{CallsHave, AllCallsHave, TestCallsHave}
use Rattle.lustre_rows.proofs.lemmas.Lists.{all-after, all-member}
use Rattle.lustre_rows.proofs.lemmas.SimpleCodes.{Always, TestAlways, Simple, AllSimple, TestSimple, row-simple}
use Rattle.lustre_rows.proofs.lemmas.MemoryCodes.{only-memory, reads-leaves}

-- ---- What gives something whatever leaves read

module _ (functions : List Function) (reads : Reads) (line : ℕ) where
  mutual
    number-always : (e : ExprTree) → Always e → (v : ℤ) × Gives functions reads line e v
    number-always (literal value) sure = (value, gives_literal functions reads line value)
    number-always (neg a) sure = absurd sure
    number-always (read leaf) sure = (reads.leaf leaf, gives_read functions reads line leaf)
    number-always (binary o a b) sure = absurd sure
    number-always (pick test a b) sure =
        let (t, holds) = test-always test sure.0 in
        let (x, first) = number-always a sure.1 in
        let (y, second) = number-always b sure.2 in
        (cond t x y, gives_pick functions reads line test a b t x y holds first second)
    number-always (pure k es) sure = absurd sure
    number-always (item field index) sure = absurd sure

    test-always : (c : CondTree) → TestAlways c → (b : Bool) × Holds functions reads line c b
    test-always (compare how a b) sure =
        let (x, first) = number-always a sure.0 in
        let (y, second) = number-always b sure.1 in
        (compares how x y, holds_compare functions reads line how a b x y first second)
    test-always (both a b) sure =
        let (p, first) = test-always a sure.0 in
        let (q, second) = test-always b sure.1 in
        (p && q, holds_both functions reads line a b p q first second)
    test-always (either a b) sure =
        let (p, first) = test-always a sure.0 in
        let (q, second) = test-always b sure.1 in
        (p || q, holds_either functions reads line a b p q first second)
    test-always (negated a) sure =
        let (p, first) = test-always a sure in
        (not p, holds_negated functions reads line a p first)

-- ---- Names of expressions

module _ (functions : List Function) (reads : Reads) (line : ℕ) (values : List (Option ℤ)) (leaf_name : Leaf → List ℕ)
    (part_name : ℕ → List ℕ) (place : List ℕ → ℕ) (P : Leaf → Type 0)
    (named : (l : Leaf) → P l → value_at values (place (leaf_name l)) ≡ Some (reads.leaf l)) where
  mutual
    names-from : (n : ℕ) (e : ExprTree) → Simple e → ReadsOnly P e → CallsHave functions reads line values part_name place n e →
        HasNames functions reads line values leaf_name part_name place n e
    names-from n (literal value) simple given calls = tt
    names-from n (neg a) simple given calls = names-from n a simple given calls
    names-from n (read leaf) simple given calls = named leaf given
    names-from n (binary o a b) simple given calls =
        (names-from n a simple.0 given.0 calls.0, names-from (n + call_count a) b simple.1 given.1 calls.1)
    names-from n (pick test a b) simple given calls = (
      test-names-from n test simple.0 given.0 calls.0,
      names-from (n + cond_call_count test) a simple.1 given.1 calls.1,
      names-from (n + cond_call_count test + call_count a) b simple.2 given.2 calls.2,
    )
    names-from n (pure k es) simple given calls = (all-names-from n es simple given calls.0, calls.1)
    names-from n (item field index) simple given calls = absurd simple

    all-names-from : (n : ℕ) (es : ExprTrees) → AllSimple es → AllReadOnly P es →
        AllCallsHave functions reads line values part_name place n es →
        AllHaveNames functions reads line values leaf_name part_name place n es
    all-names-from n no_exprs simple given calls = tt
    all-names-from n (more_exprs e es) simple given calls =
        (names-from n e simple.0 given.0 calls.0, all-names-from (n + call_count e) es simple.1 given.1 calls.1)

    test-names-from : (n : ℕ) (test : CondTree) → TestSimple test → TestsOnly P test →
        TestCallsHave functions reads line values part_name place n test →
        TestHasNames functions reads line values leaf_name part_name place n test
    test-names-from n (compare how a b) simple given calls =
        (names-from n a simple.0 given.0 calls.0, names-from (n + call_count a) b simple.1 given.1 calls.1)
    test-names-from n (both a b) simple given calls = (
      test-names-from n a simple.0 given.0 calls.0,
      test-names-from (n + cond_call_count a) b simple.1 given.1 calls.1,
      λ steps mid p is. let (q, holds) = test-always functions reads line b simple.2 in (q, mid, holds mid),
    )
    test-names-from n (either a b) simple given calls = (
      test-names-from n a simple.0 given.0 calls.0,
      test-names-from (n + cond_call_count a) b simple.1 given.1 calls.1,
      λ steps mid p is. let (q, holds) = test-always functions reads line b simple.2 in (q, mid, holds mid),
    )
    test-names-from n (negated a) simple given calls = test-names-from n a simple given calls

-- ---- The names of the codes of rows

module _ (functions : List Function) (reads : Reads) (values : List (Option ℤ)) (leaf_name : Leaf → List ℕ) (part_name : ℕ → List ℕ)
    (place : List ℕ → ℕ) (leaves : List Leaf) (types : List FixType) (memory : Leaf)
    (given : AllByRecursion (λ l. value_at values (place (leaf_name l)) ≡ Some (reads.leaf l)) leaves) where
  abbrev code : Op → ExprTree
  code o = rhs_code o leaves types (read memory)

  abbrev Has : Op → Type 0
  Has o = HasNames functions reads 0 values leaf_name part_name place 0 (code o)

  abbrev Calls : Op → Type 0
  Calls o = CallsHave functions reads 0 values part_name place 0 (code o)

  by-leaves : (o : Op) → ReadsOnly (Contains (leaves ++ [])) (code o) → Calls o → Has o
  by-leaves o reads_only calls =
      names-from functions reads 0 values leaf_name part_name place (Contains (leaves ++ []))
      (all-member (λ l. value_at values (place (leaf_name l)) ≡ Some (reads.leaf l)) (leaves ++ [])
      (all-after (λ l. value_at values (place (leaf_name l)) ≡ Some (reads.leaf l)) leaves [] given tt)) 0 (code o)
      (row-simple o leaves types memory) reads_only calls

  pub code-names : (o : Op) → (is_delay o ≡ true → value_at values (place (leaf_name memory)) ≡ Some (reads.leaf memory)) →
      Calls o → Has o
  code-names o remembers calls = by (is_delay o) refl
    where
      by : (b : Bool) → is_delay o ≡ b → Has o
      by true is =
          subst (λ e. HasNames functions reads 0 values leaf_name part_name place 0 e) (sym (only-memory o leaves types (read memory) is))
          (remembers is)
      by false is = by-leaves o (reads-leaves o leaves types (read memory) is) calls
