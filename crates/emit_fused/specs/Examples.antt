-- What is fused, and what is not: each statement stores a number in the field of its own number.
use Rattle.std.specs.Prelude.{◌≡◌, ℕ, pos, List, [], ◌∷◌, refl}
use Rattle.base_core.specs.declared.base.Compare.TheVariants.{Eq, Gt}
use Rattle.c_syntax.specs.declared.code.BinOp.TheVariants.{Add, Mul, Rem}
use Rattle.c_syntax.specs.declared.code.Leaf.TheVariants.{Param, Own, Child}
use Rattle.c_syntax.specs.declared.code.Target.TheVariants.{Own as OnSelf, Child as OnChild}
use Rattle.c_syntax.specs.Tree.{ExprTree, literal, read, binary, CondTree, compare, negated, StmtTree, assign, branch, call, no_exprs, no_stmts, stmts_of_list}
use Rattle.emit_fused.specs.Simplified.{simplified_expr}
use Rattle.emit_fused.specs.Fused.{fused_stmts}

abbrev number : ℕ → ExprTree
number n = literal (pos n)

-- `s->fK = K;`
abbrev store : ℕ → StmtTree
store k = assign 0 k (number k)

-- `if (TEST) { .. }` and `if (TEST) { .. } else { .. }`
abbrev when : CondTree → List StmtTree → StmtTree
when test body = branch 0 test (stmts_of_list body) no_stmts

abbrev choose : CondTree → List StmtTree → List StmtTree → StmtTree
choose test body other = branch 0 test (stmts_of_list body) (stmts_of_list other)

-- `(u1 > 0)`, `(s->f9 == 0)` and `(s->f8.g0 == 0)`
abbrev control : CondTree
control = compare Gt (read (Param 0)) (number 0)

abbrev counter : CondTree
counter = compare Eq (read (Own 9)) (number 0)

abbrev inside : CondTree
inside = compare Eq (read (Child 8 0)) (number 0)

-- statements are fused to those
abbrev Fuses : List StmtTree → List StmtTree → Type 0
Fuses before after = fused_stmts (stmts_of_list before) ≡ stmts_of_list after

-- ---- What is fused

same_test : Fuses (when control (store 1 ∷ []) ∷ when control (store 2 ∷ [])
    ∷ when control (store 3 ∷ []) ∷ [])
    (when control (store 1 ∷ store 2 ∷ store 3 ∷ []) ∷ [])
same_test = refl

-- the test is then the one without `!`
opposite_test : Fuses (when (negated control) (store 1 ∷ []) ∷ when control (store 2 ∷ []) ∷ [])
    (choose control (store 2 ∷ []) (store 1 ∷ []) ∷ [])
opposite_test = refl

test_and_opposite : Fuses (when control (store 1 ∷ []) ∷ when (negated control) (store 2 ∷ [])
    ∷ when control (store 3 ∷ []) ∷ [])
    (choose control (store 1 ∷ store 3 ∷ []) (store 2 ∷ []) ∷ [])
test_and_opposite = refl

-- a delay that is reset
test_decided : Fuses (choose control (store 1 ∷ []) (when (negated control) (store 2 ∷ []) ∷ [])
    ∷ [])
    (choose control (store 1 ∷ []) (store 2 ∷ []) ∷ [])
test_decided = refl

-- neighbours inside of what is fused are fused there
nested_tests : Fuses (when control (when counter (store 1 ∷ []) ∷ [])
    ∷ when control (when counter (store 2 ∷ []) ∷ []) ∷ [])
    (when control (when counter (store 1 ∷ store 2 ∷ []) ∷ []) ∷ [])
nested_tests = refl

-- a call on `s` changes no parameter
call_and_parameter : Fuses (when control (call 0 7 OnSelf no_exprs ∷ [])
    ∷ when control (store 2 ∷ []) ∷ [])
    (when control (call 0 7 OnSelf no_exprs ∷ store 2 ∷ []) ∷ [])
call_and_parameter = refl

-- and one on a child changes nothing outside it
call_on_other : Fuses (when counter (call 0 7 (OnChild 8) no_exprs ∷ [])
    ∷ when counter (store 2 ∷ []) ∷ [])
    (when counter (call 0 7 (OnChild 8) no_exprs ∷ store 2 ∷ []) ∷ [])
call_on_other = refl

-- ---- What is not

-- statements stay as they are
abbrev Stays : List StmtTree → Type 0
Stays body = Fuses body body

-- the body brings the counter up that the test reads
counter_set : Stays (when counter (store 9 ∷ []) ∷ when counter (store 2 ∷ []) ∷ [])
counter_set = refl

-- below an `if` too
counter_set_below : Stays (when counter (when control (store 9 ∷ []) ∷ [])
    ∷ when counter (store 2 ∷ []) ∷ [])
counter_set_below = refl

-- a call on `s` may
call_and_counter : Stays (when counter (call 0 7 OnSelf no_exprs ∷ [])
    ∷ when counter (store 2 ∷ []) ∷ [])
call_and_counter = refl

-- and one on the child whose field the test reads
call_on_child : Stays (when inside (call 0 7 (OnChild 8) no_exprs ∷ [])
    ∷ when inside (store 2 ∷ []) ∷ [])
call_on_child = refl

-- something is between
store_between : Stays (when control (store 1 ∷ []) ∷ store 2 ∷ when control (store 3 ∷ []) ∷ [])
store_between = refl

-- other tests
other_tests : Stays (when control (store 1 ∷ []) ∷ when counter (store 2 ∷ []) ∷ [])
other_tests = refl

-- what else is done where the test fails would be lost
decided_with_else : Stays (choose control (store 1 ∷ [])
    (choose (negated control) (store 2 ∷ []) (store 3 ∷ []) ∷ []) ∷ [])
decided_with_else = refl

-- ---- Ones

abbrev u : ExprTree
u = read (Param 0)

times_one : simplified_expr (binary Mul (binary Mul u (number 1)) (number 8))
    ≡ binary Mul u (number 8)
times_one = refl

tick_of_one : simplified_expr (binary Rem (binary Add u (number 1)) (number 1)) ≡ number 0
tick_of_one = refl

two_stays : simplified_expr (binary Rem (binary Mul u (number 2)) (number 4))
    ≡ binary Rem (binary Mul u (number 2)) (number 4)
two_stays = refl

-- a sum of 1 is none
sum_stays : simplified_expr (binary Add u (number 1)) ≡ binary Add u (number 1)
sum_stays = refl
