-- Statements that refine others, from what they evaluate and call.
use Rattle.std.specs.Prelude.{◌≡◌, ℕ, ◌+◌, ◌≤◌, Bool, true, false, if◌then◌else◌, List, ℤ}
use Rattle.std.proofs.Common.{refl, sym, subst, arith}
use Rattle.c_syntax.specs.declared.code.CType.{CType}
use Rattle.c_syntax.specs.declared.code.Target.{Target}
use Rattle.c_syntax.specs.declared.code.Target.TheVariants.{Own}
use Rattle.c_syntax.specs.Tree.{ExprTree, ExprTrees, CondTree, StmtTree, assign, assign_at, branch, call, StmtTrees, no_stmts, more_stmts, stmts_append, type_at}
use Rattle.c_semantics.specs.Cells.{Cells, items_at}
use Rattle.c_semantics.specs.Values.{Answer, gives, sticks, and_then, reads, index_in, eval, eval_cond}
use Rattle.c_semantics.specs.Machine.{Outcome, then_run, on_answer, on_target, Routine, routine_at, Scope, arguments, store, store_at, run_stmt, run_stmts}
use Rattle.c_semantics.specs.CallLaws.{passed_in}
use Rattle.c_semantics.specs.NumberingLaws.{with_routines}
use Rattle.c_semantics.proofs.lemmas.Runs.{run_stmts-append}
use Rattle.c_refinement.specs.Evaluations.{RefinesAnswer, GivesFrom, AreSteady, RefinesExpr, RefinesCond, RefinesArguments}
use Rattle.c_refinement.specs.Refinement.{Refines}
use Rattle.c_refinement.specs.Routines.{RefinesRoutine, RefinesStmt, RefinesStmts, EndsFrom, IsSteadyScope}
use Rattle.c_refinement.proofs.lemmas.Answers.{and_then-refines, index-refines, expr-refines, cond-refines, arguments-refine}
use Rattle.c_refinement.proofs.lemmas.Onward.{and_then-onward, index-onward, expr-onward, cond-onward, arguments-onward}
use Rattle.c_refinement.proofs.lemmas.Outcomes.{then_run-refines, on_answer-refines, begin_step-refines, begin_step-dropped, on_target-refines, store-refines, store_at-refines, then_run-onward, on_answer-onward, begin_step-onward, on_target-onward, store-onward, store_at-onward}

module _ (place : ℕ → ℕ) (s other : Scope) where
  -- ---- One statement, in another scope

  module _ (line later : ℕ) (cells : Cells) (n m : ℕ) (fewer : m ≤ n) where
    pub assign-refines : (f : ℕ) (e d : ExprTree) → type_at other.types f ≡ type_at s.types f →
        RefinesExpr s other line later cells e d →
        Refines place (run_stmt s (assign line f e) cells n) (run_stmt other (assign later f d) cells m)
    assign-refines f e d types value =
        begin_step-refines place line later cells cells n m
        (λ count. on_answer (eval s.functions (reads s.values cells) line e count) cells
        (λ v end. store line (type_at s.types f) f v cells end))
        (λ count. on_answer (eval other.functions (reads other.values cells) later d count) cells
        (λ v end. store later (type_at other.types f) f v cells end)) fewer
        (λ i j below. on_answer-refines place (eval s.functions (reads s.values cells) line e i)
        (eval other.functions (reads other.values cells) later d j) cells cells
        (λ v end. store line (type_at s.types f) f v cells end) (λ v end. store later (type_at other.types f) f v cells end)
        (value i j below)
        (λ v p q lower. subst (λ t. Refines place (store line (type_at s.types f) f v cells p) (store later t f v cells q)) (sym types)
        (store-refines place line later (type_at s.types f) f v cells p q lower)))

    pub assign_at-refines : (f : ℕ) (index e place_of d : ExprTree) → type_at other.types f ≡ type_at s.types f →
        RefinesExpr s other line later cells index place_of → RefinesExpr s other line later cells e d →
        Refines place (run_stmt s (assign_at line f index e) cells n) (run_stmt other (assign_at later f place_of d) cells m)
    assign_at-refines f index e place_of d types at value =
        begin_step-refines place line later cells cells n m (λ count. on_answer (one count) cells (λ i mid. stored i mid))
        (λ count. on_answer (two count) cells (λ i mid. stored_there i mid)) fewer
        (λ i j below. on_answer-refines place (one i) (two j) cells cells stored stored_there
        (and_then-refines (eval s.functions (reads s.values cells) line index i)
        (eval other.functions (reads other.values cells) later place_of j) (index_in line (items_at cells f))
        (index_in later (items_at cells f)) (at i j below) (λ k p q lower. index-refines line later (items_at cells f) k p q lower))
        (λ k p q lower. on_answer-refines place (eval s.functions (reads s.values cells) line e p)
        (eval other.functions (reads other.values cells) later d q) cells cells
        (λ v end. store_at line (type_at s.types f) f k v cells end) (λ v end. store_at later (type_at other.types f) f k v cells end)
        (value p q lower)
        (λ v x y less. subst (λ t. Refines place (store_at line (type_at s.types f) f k v cells x) (store_at later t f k v cells y))
        (sym types) (store_at-refines place line later (type_at s.types f) f k v cells x y less))))
      where
        one : ℕ → Answer ℕ
        one count = and_then (eval s.functions (reads s.values cells) line index count) (index_in line (items_at cells f))

        two : ℕ → Answer ℕ
        two count = and_then (eval other.functions (reads other.values cells) later place_of count) (index_in later (items_at cells f))

        stored : ℕ → ℕ → Outcome
        stored i mid = on_answer (eval s.functions (reads s.values cells) line e mid) cells
            (λ v end. store_at line (type_at s.types f) f i v cells end)

        stored_there : ℕ → ℕ → Outcome
        stored_there i mid = on_answer (eval other.functions (reads other.values cells) later d mid) cells
            (λ v end. store_at later (type_at other.types f) f i v cells end)

    pub branch-refines : (test judge : CondTree) (on_true on_false xs ys : StmtTrees) →
        RefinesCond s other line later cells test judge → RefinesStmts place s other on_true xs →
        RefinesStmts place s other on_false ys →
        Refines place (run_stmt s (branch line test on_true on_false) cells n) (run_stmt other (branch later judge xs ys) cells m)
    branch-refines test judge on_true on_false xs ys tests firsts seconds =
        begin_step-refines place line later cells cells n m
        (λ count. on_answer (eval_cond s.functions (reads s.values cells) line test count) cells chosen)
        (λ count. on_answer (eval_cond other.functions (reads other.values cells) later judge count) cells chosen_there) fewer
        (λ i j below. on_answer-refines place (eval_cond s.functions (reads s.values cells) line test i)
        (eval_cond other.functions (reads other.values cells) later judge j) cells cells chosen chosen_there (tests i j below)
        (λ holds p q lower. by holds p q lower))
      where
        chosen : Bool → ℕ → Outcome
        chosen holds = (if holds then run_stmts s on_true else run_stmts s on_false) cells

        chosen_there : Bool → ℕ → Outcome
        chosen_there holds = (if holds then run_stmts other xs else run_stmts other ys) cells

        by : (holds : Bool) (p q : ℕ) → q ≤ p →
            Refines place ((if holds then run_stmts s on_true else run_stmts s on_false) cells p)
            ((if holds then run_stmts other xs else run_stmts other ys) cells q)
        by true p q lower = firsts cells p q lower
        by false p q lower = seconds cells p q lower

    pub call-refines : (k j : ℕ) (target : Target) (es ds : ExprTrees) →
        RefinesRoutine place (routine_at s.routines k) (routine_at other.routines j) →
        RefinesArguments s other line later cells es ds →
        Refines place (run_stmt s (call line k target es) cells n) (run_stmt other (call later j target ds) cells m)
    call-refines k j target es ds called values =
        begin_step-refines place line later cells cells n m (λ count. on_answer (passed count) cells done_here)
        (λ count. on_answer (passed_there (routine_at other.routines j).params count) cells done_there) fewer
        (λ x y below. on_answer-refines place (passed x) (passed_there (routine_at other.routines j).params y) cells cells done_here
        done_there (subst (λ types. RefinesAnswer (passed x) (passed_there types y)) (sym called.params)
        (values (routine_at s.routines k).params x y below))
        (λ given p q lower. on_target-refines place target ((routine_at s.routines k).run given)
        ((routine_at other.routines j).run given) (called.run given) cells p q lower))
      where
        passed : ℕ → Answer (List ℤ)
        passed count = arguments s.functions (reads s.values cells) line (routine_at s.routines k).params es count

        passed_there : List CType → ℕ → Answer (List ℤ)
        passed_there types count = arguments other.functions (reads other.values cells) later types ds count

        done_here : List ℤ → ℕ → Outcome
        done_here given = on_target target ((routine_at s.routines k).run given) cells

        done_there : List ℤ → ℕ → Outcome
        done_there given = on_target target ((routine_at other.routines j).run given) cells

  -- ---- Lists of statements

  pub none-refine : RefinesStmts place s other no_stmts no_stmts
  none-refine cells n m fewer = record { cells = refl; steps = fewer; log = refl; stores = refl }

  pub more-refine : (x y : StmtTree) (xs ys : StmtTrees) → RefinesStmt place s other x y → RefinesStmts place s other xs ys →
      RefinesStmts place s other (more_stmts x xs) (more_stmts y ys)
  more-refine x y xs ys first rest cells n m fewer =
      then_run-refines place (run_stmt s x cells n) (run_stmt other y cells m) (run_stmts s xs) (run_stmts other ys)
      (first cells n m fewer) rest

  -- a statement that several stand for
  pub more-refine-several : (x : StmtTree) (ys xs zs : StmtTrees) →
      ((cells : Cells) (n m : ℕ) → m ≤ n → Refines place (run_stmt s x cells n) (run_stmts other ys cells m)) →
      RefinesStmts place s other xs zs → RefinesStmts place s other (more_stmts x xs) (stmts_append ys zs)
  more-refine-several x ys xs zs first rest cells n m fewer =
      subst (Refines place (then_run (run_stmt s x cells n) (run_stmts s xs))) (sym (run_stmts-append other ys zs cells m))
      (then_run-refines place (run_stmt s x cells n) (run_stmts other ys cells m) (run_stmts s xs) (run_stmts other zs)
      (first cells n m fewer) rest)

-- ---- A call that a body stands for

-- A call on the same instance is refined by what refines the procedure, from the arguments to which
-- the call's come and no lower count of steps.
pub own_call-refines : (place : ℕ → ℕ) (s : Scope) → AreSteady s.functions → (line k : ℕ) (es : ExprTrees) (cells : Cells) (n : ℕ)
    (other : Outcome) →
    ((values : List ℤ) (end : ℕ) → passed_in s cells line (n + 1) k es ≡ gives values end → n + 1 ≤ end →
    Refines place ((routine_at s.routines k).run values cells end) other) →
    Refines place (run_stmt s (call line k Own es) cells n) other
own_call-refines place s steady line k es cells n other body =
    begin_step-dropped place line cells n (λ count. on_answer (passed_in s cells line count k es) cells runs) other
    (by (passed_in s cells line (n + 1) k es) refl
    (arguments-onward s.functions steady (reads s.values cells) line es (routine_at s.routines k).params (n + 1)))
  where
    runs : List ℤ → ℕ → Outcome
    runs values = (routine_at s.routines k).run values cells

    by : (a : Answer (List ℤ)) → passed_in s cells line (n + 1) k es ≡ a → GivesFrom (n + 1) a →
        Refines place (on_answer a cells runs) other
    by (gives values end) is later = body values end is later
    by (sticks at) is later = tt

-- ---- The same code, whose calls are of procedures that refine those before

module _ (place : ℕ → ℕ) (s : Scope) (routines : List Routine) (steady : AreSteady s.functions)
    (each : (k : ℕ) → RefinesRoutine place (routine_at s.routines k) (routine_at routines k)) where
  abbrev there : Scope
  there = with_routines s routines

  mutual
    pub same_stmt-refines : (x : StmtTree) → RefinesStmt place s there x x
    same_stmt-refines (assign line f e) cells n m fewer =
        assign-refines place s there line line cells n m fewer f e e refl
        (expr-refines s.functions steady (reads s.values cells) line line e)
    same_stmt-refines (assign_at line f index e) cells n m fewer =
        assign_at-refines place s there line line cells n m fewer f index e index e refl
        (expr-refines s.functions steady (reads s.values cells) line line index)
        (expr-refines s.functions steady (reads s.values cells) line line e)
    same_stmt-refines (branch line test on_true on_false) cells n m fewer =
        branch-refines place s there line line cells n m fewer test test on_true on_false on_true on_false
        (cond-refines s.functions steady (reads s.values cells) line line test) (same-refine on_true) (same-refine on_false)
    same_stmt-refines (call line k target es) cells n m fewer =
        call-refines place s there line line cells n m fewer k k target es es (each k)
        (arguments-refine s.functions steady (reads s.values cells) line line es)

    pub same-refine : (xs : StmtTrees) → RefinesStmts place s there xs xs
    same-refine no_stmts = none-refine place s there
    same-refine (more_stmts x xs) = more-refine place s there x x xs xs (same_stmt-refines x) (same-refine xs)

-- ---- Statements never count back

branches-onward : (f g : Cells → ℕ → Outcome) → ((cells : Cells) (n : ℕ) → EndsFrom n (f cells n)) →
    ((cells : Cells) (n : ℕ) → EndsFrom n (g cells n)) → (holds : Bool) (cells : Cells) (n : ℕ) →
    EndsFrom n ((if holds then f else g) cells n)
branches-onward f g one other true cells n = one cells n
branches-onward f g one other false cells n = other cells n

module _ (s : Scope) (steady : IsSteadyScope s) where
  mutual
    pub stmt-onward : (x : StmtTree) (cells : Cells) (n : ℕ) → EndsFrom n (run_stmt s x cells n)
    stmt-onward (assign line f e) cells n =
        begin_step-onward line cells n
        (λ count. on_answer (eval s.functions (reads s.values cells) line e count) cells
        (λ v end. store line (type_at s.types f) f v cells end))
        (λ m. on_answer-onward (eval s.functions (reads s.values cells) line e m) cells
        (λ v end. store line (type_at s.types f) f v cells end) m
        (expr-onward s.functions steady.functions (reads s.values cells) line e m)
        (λ v end. store-onward line (type_at s.types f) f v cells end))
    stmt-onward (assign_at line f index e) cells n =
        begin_step-onward line cells n (λ count. on_answer (found count) cells stored)
        (λ m. on_answer-onward (found m) cells stored m
        (and_then-onward (eval s.functions (reads s.values cells) line index m) (index_in line (items_at cells f)) m
        (expr-onward s.functions steady.functions (reads s.values cells) line index m)
        (λ i mid. index-onward line (items_at cells f) i mid))
        (λ i mid. on_answer-onward (eval s.functions (reads s.values cells) line e mid) cells
        (λ v end. store_at line (type_at s.types f) f i v cells end) mid
        (expr-onward s.functions steady.functions (reads s.values cells) line e mid)
        (λ v end. store_at-onward line (type_at s.types f) f i v cells end)))
      where
        found : ℕ → Answer ℕ
        found count = and_then (eval s.functions (reads s.values cells) line index count) (index_in line (items_at cells f))

        stored : ℕ → ℕ → Outcome
        stored i mid = on_answer (eval s.functions (reads s.values cells) line e mid) cells
            (λ v end. store_at line (type_at s.types f) f i v cells end)
    stmt-onward (branch line test on_true on_false) cells n =
        begin_step-onward line cells n
        (λ count. on_answer (eval_cond s.functions (reads s.values cells) line test count) cells
        (λ holds. (if holds then run_stmts s on_true else run_stmts s on_false) cells))
        (λ m. on_answer-onward (eval_cond s.functions (reads s.values cells) line test m) cells
        (λ holds. (if holds then run_stmts s on_true else run_stmts s on_false) cells) m
        (cond-onward s.functions steady.functions (reads s.values cells) line test m)
        (λ holds end. branches-onward (run_stmts s on_true) (run_stmts s on_false) (stmts-onward on_true) (stmts-onward on_false) holds
        cells end))
    stmt-onward (call line k target es) cells n =
        begin_step-onward line cells n
        (λ count. on_answer (arguments s.functions (reads s.values cells) line (routine_at s.routines k).params es count) cells
        (λ values. on_target target ((routine_at s.routines k).run values) cells))
        (λ m. on_answer-onward (arguments s.functions (reads s.values cells) line (routine_at s.routines k).params es m) cells
        (λ values. on_target target ((routine_at s.routines k).run values) cells) m
        (arguments-onward s.functions steady.functions (reads s.values cells) line es (routine_at s.routines k).params m)
        (λ values end. on_target-onward target ((routine_at s.routines k).run values) ((steady.routines k).onward values) cells end))

    pub stmts-onward : (xs : StmtTrees) (cells : Cells) (n : ℕ) → EndsFrom n (run_stmts s xs cells n)
    stmts-onward no_stmts cells n = omega arith
    stmts-onward (more_stmts x xs) cells n =
        then_run-onward (run_stmt s x cells n) (run_stmts s xs) n (stmt-onward x cells n) (stmts-onward xs)
