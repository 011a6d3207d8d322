-- An expression of C and its Lustre give the same number.
use Rattle.std.specs.Prelude.{◌≡◌, ℕ, ◌+◌, Bool, List, map, Option, Some, ℤ, ⊤}
use Rattle.c_syntax.specs.declared.Leaf.{Leaf}
use Rattle.c_syntax.specs.Tree.{ExprTree, literal, neg, read, binary, pick, pure, item, ExprTrees, no_exprs, more_exprs, CondTree, compare, both, either, negated}
use Rattle.c_semantics.specs.Values.{Function, Reads, gives, eval, eval_all, eval_cond}
use Rattle.lustre_syntax.specs.Named.{renamed}
use Rattle.lustre_flows.specs.Values as flow
use Rattle.lustre_flows.specs.Values.{value_at, value_of, evaluate}
use Rattle.lustre_system.specs.FromC.{call_count, call_counts, cond_call_count, value_from, values_from, test_from}

-- by these functions, leaves and at this line
module _ (functions : List Function) (reads : Reads) (line : ℕ) where
  -- the second test gives a truth value where the first one does, though C may not look at it
  abbrev pub BothGive : CondTree → CondTree → Type 0
  BothGive a b =
      (steps mid : ℕ) (p : Bool) → eval_cond functions reads line a steps ≡ gives p mid →
      (q : Bool) × (end : ℕ) × (eval_cond functions reads line b mid ≡ gives q end)

  -- the names of an instance have these values; leaves and calls have names, each at its place
  module _ (values : List (Option ℤ)) (leaf_name : Leaf → List ℕ) (part_name : ℕ → List ℕ)
      (place : List ℕ → ℕ) where
    -- a name has this value
    abbrev pub NameHas : List ℕ → ℤ → Type 0
    NameHas text v = value_at values (place text) ≡ Some v

    -- a name has what a call gives
    abbrev pub NameHasCall : List ℕ → ExprTree → Type 0
    NameHasCall text e =
        (steps end : ℕ) (v : ℤ) → eval functions reads line e steps ≡ gives v end → NameHas text v

    -- the names of the leaves and calls of an expression after n calls have what these give; it
    -- reads no array
    abbrev mutual
      pub HasNames : ℕ → ExprTree → Type 0
      HasNames n (literal value) = ⊤
      HasNames n (neg a) = HasNames n a
      HasNames n (read leaf) = NameHas (leaf_name leaf) (reads.leaf leaf)
      HasNames n (binary op a b) = HasNames n a × HasNames (n + call_count a) b
      HasNames n (pick test a b) =
          TestHasNames n test × HasNames (n + cond_call_count test) a
          × HasNames (n + cond_call_count test + call_count a) b
      HasNames n (pure function es) =
          AllHaveNames n es × NameHasCall (part_name (n + call_counts es + 1)) (pure function es)
      HasNames n (item field index) = ⊥

      pub AllHaveNames : ℕ → ExprTrees → Type 0
      AllHaveNames n no_exprs = ⊤
      AllHaveNames n (more_exprs e es) = HasNames n e × AllHaveNames (n + call_count e) es

      pub TestHasNames : ℕ → CondTree → Type 0
      TestHasNames n (compare how a b) = HasNames n a × HasNames (n + call_count a) b
      TestHasNames n (both a b) =
          TestHasNames n a × TestHasNames (n + cond_call_count a) b × BothGive a b
      TestHasNames n (either a b) =
          TestHasNames n a × TestHasNames (n + cond_call_count a) b × BothGive a b
      TestHasNames n (negated a) = TestHasNames n a

-- where its names have what its parts give, the Lustre of an expression gives the number that the
-- expression gives in C, that of arguments their numbers, and that of a test its truth value
pub record GivesTheSame (functions : List Function) (reads : Reads) (line : ℕ)
    (before : Option (List (Option ℤ))) (values : List (Option ℤ)) (leaf_name : Leaf → List ℕ)
    (function_name part_name : ℕ → List ℕ) (place : List ℕ → ℕ) : Type 0 where
  pub number : (n : ℕ) (e : ExprTree) →
      HasNames functions reads line values leaf_name part_name place n e → (steps end : ℕ) (v : ℤ) →
      eval functions reads line e steps ≡ gives v end →
      evaluate before values (renamed place (value_from leaf_name function_name part_name n e))
      ≡ flow.gives v
  pub arguments : (n : ℕ) (es : ExprTrees) →
      AllHaveNames functions reads line values leaf_name part_name place n es →
      (steps end : ℕ) (vs : List ℤ) → eval_all functions reads line es steps ≡ gives vs end →
      map (λ e. value_of (evaluate before values (renamed place e)))
      (values_from leaf_name function_name part_name n es)
      ≡ map Some vs
  pub test : (n : ℕ) (c : CondTree) →
      TestHasNames functions reads line values leaf_name part_name place n c →
      (steps end : ℕ) (p : Bool) → eval_cond functions reads line c steps ≡ gives p end →
      evaluate before values (renamed place (test_from leaf_name function_name part_name n c))
      ≡ flow.tests p

abbrev pub ExpressionsGiveTheSame : Type 0
ExpressionsGiveTheSame =
    (functions : List Function) (reads : Reads) (line : ℕ) (before : Option (List (Option ℤ)))
    (values : List (Option ℤ)) (leaf_name : Leaf → List ℕ) (function_name part_name : ℕ → List ℕ)
    (place : List ℕ → ℕ) →
    GivesTheSame functions reads line before values leaf_name function_name part_name place
