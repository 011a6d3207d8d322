-- What a program does doesn't depend on the lines of its statements, except for the line where it is stuck.
use Rattle.std.proofs.Common.{◌≡◌, refl, sym, ◌∙◌, ap, ℕ, zero, suc, ◌+◌, List, [], ◌∷◌, ◌++◌, length, map, Bool, true, false, ◌&&◌, if◌then◌else◌, nat_lt}
use Rattle.std.specs.Prelude.{ℤ, pos, Some, unwrap_or, codes, bytes_eq, neg_ℤ, int_le, int_lt, unsigned_abs, ◌+ℤ◌, ◌-ℤ◌, ◌*ℤ◌, int_div, int_rem, not}
use Rattle.std.specs.Ordering.{int_eq}
use Rattle.std.specs.List.{position_from}
use Rattle.std.proofs.Math.Path.{fun_ext}
use Rattle.c_syntax.specs.declared.code.BinOp.{BinOp}
use Rattle.c_syntax.specs.declared.code.BinOp.TheVariants.{Add, Sub, Mul, Div, Rem}
use Rattle.c_syntax.specs.declared.code.CType.{CType}
use Rattle.c_syntax.specs.declared.code.CType.TheVariants.{I64}
use Rattle.c_syntax.specs.declared.code.Target.{Target}
use Rattle.c_syntax.specs.declared.code.Target.TheVariants.{Own, Child}
use Rattle.c_syntax.specs.declared.fault.Why.{Why}
use Rattle.c_syntax.specs.declared.fault.Why.TheVariants.{Overflow, ZeroDivisor, Range, Steps, Index}
use Rattle.c_syntax.specs.Tree.{ExprTree, literal, neg, read, binary, pick, pure, item, ExprTrees, no_exprs, more_exprs, CondTree, compare, both, either, negated, StmtTree, assign, assign_at, branch, call, StmtTrees, no_stmts, more_stmts, StructTree, struct_fields, field_types, type_at, PureTree, ProcedureTree, ProgramTree}
use Rattle.c_semantics.specs.Cells.{Cells, no_cells, number, items, set_cell, set_item, fields_at, items_at}
use Rattle.c_semantics.specs.Values.{Answer, gives, sticks, and_then, within, is_in_type, stuck_at, step_limit, take_step, operate, Function, function_at, function_of, functions_of, Reads, reads, index_in, eval, eval_all, eval_cond, compares}
use Rattle.base_core.specs.Numbers.{int_at}
use Rattle.c_semantics.specs.Machine.{LoggedCall, StoredField, After, Outcome, done, stuck, behind, then_run, on_answer, begin_step, in_child, at_path, on_target, Routine, routine_at, routine_of, routines_of, program_routines, call_entry, call_from_outside, Scope, arguments, store, store_at, run_stmt, run_stmts}
use Rattle.c_semantics.specs.Rows.{Rows, tick_row, with_tick, rows_after, rows_from, rows_of_start, c_rows, zero_root, start_run, step_run}
use Rattle.c_syntax.specs.RootFields.{procedure_named}
use Rattle.c_semantics.specs.LinesAside.{outcome_aside, rows_aside, LinesMeanNothing}
use Rattle.c_syntax.specs.Lawful.{stmt_without_lines, stmts_without_lines, without_lines}

-- ---- Answers

-- an answer that doesn't say at which line it is stuck
abbrev pub aside : {A : Type 0} → Answer A → Answer A
aside (gives result steps) = gives result steps
aside (sticks at) = sticks (stuck_at 0 at.why)

-- a function with such answers
abbrev pub aside_function : Function → Function
aside_function f values steps = aside (f values steps)

pub aside_functions : List Function → List Function
aside_functions functions = map aside_function functions

pub function_at-aside : (functions : List Function) (k : ℕ) →
    function_at (aside_functions functions) k ≡ aside_function (function_at functions k)
unfolding aside_functions
function_at-aside [] k = refl
function_at-aside (f ∷ fs) zero = refl
function_at-aside (f ∷ fs) (suc k) = function_at-aside fs k

-- a next step of one answer after another
and_then-aside : {A B : Type 0} (o p : Answer A) (go go' : A → ℕ → Answer B) → o ≡ aside p →
    ((r : A) (n : ℕ) → go r n ≡ aside (go' r n)) → and_then o go ≡ aside (and_then p go')
and_then-aside o (gives r n) go go' is after = ap (λ x. and_then x go) is ∙ after r n
and_then-aside o (sticks at) go go' is after = ap (λ x. and_then x go) is

within-aside : (t : CType) (why : Why) (line : ℕ) (v : ℤ) (n : ℕ) → within t why 0 v n ≡ aside (within t why line v n)
within-aside t why line v n = by_test (is_in_type t v)
  where
    by_test : (b : Bool) → (if b then gives v n else sticks (stuck_at 0 why)) ≡ aside (if b then gives v n else sticks (stuck_at line why))
    by_test true = refl
    by_test false = refl

operate-aside : (op : BinOp) (line : ℕ) (x y : ℤ) (n : ℕ) → operate op 0 x y n ≡ aside (operate op line x y n)
operate-aside Add line x y n = within-aside I64 Overflow line (x +ℤ y) n
operate-aside Sub line x y n = within-aside I64 Overflow line (x -ℤ y) n
operate-aside Mul line x y n = within-aside I64 Overflow line (x *ℤ y) n
operate-aside Div line x y n = by_test (int_eq y (pos 0))
  where
    by_test : (b : Bool) → (if b then sticks (stuck_at 0 ZeroDivisor) else within I64 Overflow 0 (int_div x y) n)
        ≡ aside (if b then sticks (stuck_at line ZeroDivisor) else within I64 Overflow line (int_div x y) n)
    by_test true = refl
    by_test false = within-aside I64 Overflow line (int_div x y) n
operate-aside Rem line x y n = by_test (int_eq y (pos 0))
  where
    by_test : (b : Bool) →
        (if b then sticks (stuck_at 0 ZeroDivisor)
        else and_then (within I64 Overflow 0 (int_div x y) n) (λ quotient count. gives (int_rem x y) count))
        ≡ aside (if b then sticks (stuck_at line ZeroDivisor) else and_then (within I64 Overflow line (int_div x y) n)
        (λ quotient count. gives (int_rem x y) count))
    by_test true = refl
    by_test false = and_then-aside (within I64 Overflow 0 (int_div x y) n) (within I64 Overflow line (int_div x y) n)
        (λ quotient count. gives (int_rem x y) count) (λ quotient count. gives (int_rem x y) count)
        (within-aside I64 Overflow line (int_div x y) n) (λ r m. refl)

index_in-aside : (line : ℕ) (array : List ℤ) (i : ℤ) (n : ℕ) → index_in 0 array i n ≡ aside (index_in line array i n)
index_in-aside line array i n = by_test (int_le (pos 0) i && int_lt i (pos (length array)))
  where
    by_test : (b : Bool) →
        (if b then gives (unsigned_abs i) n else sticks (stuck_at 0 Index))
        ≡ aside (if b then gives (unsigned_abs i) n else sticks (stuck_at line Index))
    by_test true = refl
    by_test false = refl

-- ---- Expressions

module _ (functions : List Function) (leaf : Reads) (line : ℕ) where
  -- a choice of two next steps
  choice-aside : {A : Type 0} (f g f' g' : ℕ → Answer A) → ((n : ℕ) → f n ≡ aside (f' n)) →
      ((n : ℕ) → g n ≡ aside (g' n)) → (b : Bool) (n : ℕ) → (if b then f else g) n ≡ aside ((if b then f' else g') n)
  choice-aside f g f' g' same_f same_g true n = same_f n
  choice-aside f g f' g' same_f same_g false n = same_g n

  mutual
    pub eval-aside : (e : ExprTree) (n : ℕ) → eval (aside_functions functions) leaf 0 e n ≡ aside (eval functions leaf line e n)
    eval-aside (literal value) n = refl
    eval-aside (neg e) n =
        and_then-aside (eval (aside_functions functions) leaf 0 e n) (eval functions leaf line e n)
        (λ v count. within I64 Overflow 0 (neg_ℤ v) count) (λ v count. within I64 Overflow line (neg_ℤ v) count)
        (eval-aside e n) (λ v count. within-aside I64 Overflow line (neg_ℤ v) count)
    eval-aside (read l) n = refl
    eval-aside (binary op a b) n =
        and_then-aside (eval (aside_functions functions) leaf 0 a n) (eval functions leaf line a n)
        (λ x count. and_then (eval (aside_functions functions) leaf 0 b count) (λ y end. operate op 0 x y end))
        (λ x count. and_then (eval functions leaf line b count) (λ y end. operate op line x y end)) (eval-aside a n)
        (λ x count. and_then-aside (eval (aside_functions functions) leaf 0 b count)
        (eval functions leaf line b count) (λ y end. operate op 0 x y end) (λ y end. operate op line x y end)
        (eval-aside b count) (λ y end. operate-aside op line x y end))
    eval-aside (pick test a b) n =
        and_then-aside (eval_cond (aside_functions functions) leaf 0 test n) (eval_cond functions leaf line test n)
        (λ holds. if holds then eval (aside_functions functions) leaf 0 a
        else eval (aside_functions functions) leaf 0 b) (λ holds. if holds then eval functions leaf line a
        else eval functions leaf line b) (eval_cond-aside test n)
        (choice-aside (eval (aside_functions functions) leaf 0 a) (eval (aside_functions functions) leaf 0 b)
        (eval functions leaf line a) (eval functions leaf line b) (eval-aside a) (eval-aside b))
    eval-aside (pure k es) n =
        and_then-aside (eval_all (aside_functions functions) leaf 0 es n) (eval_all functions leaf line es n)
        (function_at (aside_functions functions) k) (function_at functions k) (eval_all-aside es n)
        (λ values count. ap (λ f. f values count) (function_at-aside functions k))
    eval-aside (item f index) n =
        and_then-aside (and_then (eval (aside_functions functions) leaf 0 index n) (index_in 0 (leaf.array f)))
        (and_then (eval functions leaf line index n) (index_in line (leaf.array f)))
        (λ i count. gives (int_at (leaf.array f) i) count) (λ i count. gives (int_at (leaf.array f) i) count)
        (and_then-aside (eval (aside_functions functions) leaf 0 index n) (eval functions leaf line index n)
        (index_in 0 (leaf.array f)) (index_in line (leaf.array f)) (eval-aside index n)
        (index_in-aside line (leaf.array f))) (λ i count. refl)

    pub eval_all-aside : (es : ExprTrees) (n : ℕ) →
        eval_all (aside_functions functions) leaf 0 es n ≡ aside (eval_all functions leaf line es n)
    eval_all-aside no_exprs n = refl
    eval_all-aside (more_exprs e es) n =
        and_then-aside (eval (aside_functions functions) leaf 0 e n) (eval functions leaf line e n)
        (λ v count. and_then (eval_all (aside_functions functions) leaf 0 es count) (λ vs end. gives (v ∷ vs) end))
        (λ v count. and_then (eval_all functions leaf line es count) (λ vs end. gives (v ∷ vs) end))
        (eval-aside e n) (λ v count. and_then-aside (eval_all (aside_functions functions) leaf 0 es count)
        (eval_all functions leaf line es count) (λ vs end. gives (v ∷ vs) end) (λ vs end. gives (v ∷ vs) end)
        (eval_all-aside es count) (λ vs end. refl))

    pub eval_cond-aside : (c : CondTree) (n : ℕ) →
        eval_cond (aside_functions functions) leaf 0 c n ≡ aside (eval_cond functions leaf line c n)
    eval_cond-aside (compare how a b) n =
        and_then-aside (eval (aside_functions functions) leaf 0 a n) (eval functions leaf line a n)
        (λ x count. and_then (eval (aside_functions functions) leaf 0 b count)
        (λ y end. gives (compares how x y) end))
        (λ x count. and_then (eval functions leaf line b count) (λ y end. gives (compares how x y) end))
        (eval-aside a n) (λ x count. and_then-aside (eval (aside_functions functions) leaf 0 b count)
        (eval functions leaf line b count) (λ y end. gives (compares how x y) end)
        (λ y end. gives (compares how x y) end) (eval-aside b count) (λ y end. refl))
    eval_cond-aside (both a b) n =
        and_then-aside (eval_cond (aside_functions functions) leaf 0 a n) (eval_cond functions leaf line a n)
        (λ holds. if holds then eval_cond (aside_functions functions) leaf 0 b else gives false) (λ holds. if holds
        then eval_cond functions leaf line b else gives false) (eval_cond-aside a n)
        (choice-aside (eval_cond (aside_functions functions) leaf 0 b) (gives false)
        (eval_cond functions leaf line b) (gives false) (eval_cond-aside b) (λ m. refl))
    eval_cond-aside (either a b) n =
        and_then-aside (eval_cond (aside_functions functions) leaf 0 a n) (eval_cond functions leaf line a n)
        (λ holds. if holds then gives true else eval_cond (aside_functions functions) leaf 0 b) (λ holds. if holds
        then gives true else eval_cond functions leaf line b) (eval_cond-aside a n)
        (choice-aside (gives true) (eval_cond (aside_functions functions) leaf 0 b) (gives true)
        (eval_cond functions leaf line b) (λ m. refl) (eval_cond-aside b))
    eval_cond-aside (negated a) n =
        and_then-aside (eval_cond (aside_functions functions) leaf 0 a n) (eval_cond functions leaf line a n)
        (λ holds count. gives (not holds) count) (λ holds count. gives (not holds) count) (eval_cond-aside a n)
        (λ holds count. refl)

-- ---- Pure functions

abbrev pub pure_without_line : PureTree → PureTree
pure_without_line q = record { name = q.name; params = q.params; body = q.body; line = 0 }

take_step-aside : {A : Type 0} (line n : ℕ) (go go' : ℕ → Answer A) → ((m : ℕ) → go m ≡ aside (go' m)) →
    take_step 0 n go ≡ aside (take_step line n go')
take_step-aside {A} line n go go' same = by_test (nat_lt n step_limit)
  where
    by_test : (b : Bool) →
        (if b then go (n + 1) else sticks (stuck_at 0 Steps))
        ≡ aside (if b then go' (n + 1) else sticks (stuck_at line Steps))
    by_test true = same (n + 1)
    by_test false = refl

function_of-aside : (earlier : List Function) (p : PureTree) →
    function_of (aside_functions earlier) (pure_without_line p) ≡ aside_function (function_of earlier p)
function_of-aside earlier p =
    fun_ext (λ values.
    fun_ext (λ n. take_step-aside p.line n (eval (aside_functions earlier) (reads values no_cells) 0 p.body)
    (eval earlier (reads values no_cells) p.line p.body)
    (eval-aside earlier (reads values no_cells) p.line p.body)))

functions-append : (a b : List Function) → aside_functions (a ++ b) ≡ aside_functions a ++ aside_functions b
unfolding aside_functions
functions-append [] b = refl
functions-append (f ∷ fs) b = ap (λ rest. aside_function f ∷ rest) (functions-append fs b)

functions-one : (f : Function) → aside_functions (f ∷ []) ≡ aside_function f ∷ []
unfolding aside_functions
functions-one f = refl

functions-none : aside_functions [] ≡ []
unfolding aside_functions
functions-none = refl

pub functions_of-aside : (earlier : List Function) (ps : List PureTree) →
    functions_of (aside_functions earlier) (map pure_without_line ps) ≡ aside_functions (functions_of earlier ps)
functions_of-aside earlier [] = refl
functions_of-aside earlier (p ∷ ps) =
    ap (λ fs. functions_of fs (map pure_without_line ps))
    (ap (λ f. aside_functions earlier ++ f ∷ []) (function_of-aside earlier p)
    ∙ ap (λ fs. aside_functions earlier ++ fs) (sym (functions-one (function_of earlier p)))
    ∙ sym (functions-append earlier (function_of earlier p ∷ [])))
    ∙ functions_of-aside (earlier ++ function_of earlier p ∷ []) ps

-- ---- Outcomes

abbrev pub aside_routine : Routine → Routine
aside_routine r = record { params = r.params; run = λ values cells n. outcome_aside (r.run values cells n) }

pub aside_routines : List Routine → List Routine
aside_routines routines = map aside_routine routines

routine_at-aside : (routines : List Routine) (k : ℕ) → routine_at (aside_routines routines) k ≡ aside_routine (routine_at routines k)
unfolding aside_routines
routine_at-aside [] k = refl
routine_at-aside (r ∷ rs) zero = refl
routine_at-aside (r ∷ rs) (suc k) = routine_at-aside rs k

behind-aside : (l : List LoggedCall) (s : List StoredField) (o : Outcome) → behind l s (outcome_aside o) ≡ outcome_aside (behind l s o)
behind-aside l s (done a) = refl
behind-aside l s (stuck at cells) = refl

then_run-aside : (o p : Outcome) (go go' : Cells → ℕ → Outcome) → o ≡ outcome_aside p →
    ((c : Cells) (n : ℕ) → go c n ≡ outcome_aside (go' c n)) → then_run o go ≡ outcome_aside (then_run p go')
then_run-aside o (done a) go go' is after =
    ap (λ x. then_run x go) is ∙ ap (behind a.log a.stores) (after a.cells a.steps) ∙ behind-aside a.log a.stores (go' a.cells a.steps)
then_run-aside o (stuck at cells) go go' is after = ap (λ x. then_run x go) is

on_answer-aside : {A : Type 0} (o p : Answer A) (cells : Cells) (go go' : A → ℕ → Outcome) → o ≡ aside p →
    ((r : A) (n : ℕ) → go r n ≡ outcome_aside (go' r n)) → on_answer o cells go ≡ outcome_aside (on_answer p cells go')
on_answer-aside o (gives r n) cells go go' is after = ap (λ x. on_answer x cells go) is ∙ after r n
on_answer-aside o (sticks at) cells go go' is after = ap (λ x. on_answer x cells go) is

begin_step-aside : (line : ℕ) (cells : Cells) (n : ℕ) (go go' : ℕ → Outcome) →
    ((m : ℕ) → go m ≡ outcome_aside (go' m)) → begin_step 0 cells n go ≡ outcome_aside (begin_step line cells n go')
begin_step-aside line cells n go go' same = by_test (nat_lt n step_limit)
  where
    by_test : (b : Bool) →
        (if b then go (n + 1) else stuck (stuck_at 0 Steps) cells)
        ≡ outcome_aside (if b then go' (n + 1) else stuck (stuck_at line Steps) cells)
    by_test true = same (n + 1)
    by_test false = refl

in_child-aside : (f : ℕ) (cells : Cells) (o : Outcome) → in_child f cells (outcome_aside o) ≡ outcome_aside (in_child f cells o)
in_child-aside f cells (done a) = refl
in_child-aside f cells (stuck at inner) = refl

on_target-aside : (target : Target) (run run' : Cells → ℕ → Outcome) →
    ((c : Cells) (n : ℕ) → run c n ≡ outcome_aside (run' c n)) → (cells : Cells) (n : ℕ) →
    on_target target run cells n ≡ outcome_aside (on_target target run' cells n)
on_target-aside Own run run' same cells n = same cells n
on_target-aside (Child f) run run' same cells n =
    ap (in_child f cells) (same (fields_at cells f) n) ∙ in_child-aside f cells (run' (fields_at cells f) n)

store-aside : (line : ℕ) (t : CType) (f : ℕ) (v : ℤ) (cells : Cells) (n : ℕ) →
    store 0 t f v cells n ≡ outcome_aside (store line t f v cells n)
store-aside line t f v cells n =
    by_test (is_in_type t v)
    (record { cells = set_cell cells f (number v); steps = n; log = []; stores = record { path = []; field = f } ∷ [] })
  where
    by_test : (b : Bool) (after : After) →
        (if b then done after else stuck (stuck_at 0 Range) cells)
        ≡ outcome_aside (if b then done after else stuck (stuck_at line Range) cells)
    by_test true after = refl
    by_test false after = refl

store_at-aside : (line : ℕ) (t : CType) (f i : ℕ) (v : ℤ) (cells : Cells) (n : ℕ) →
    store_at 0 t f i v cells n ≡ outcome_aside (store_at line t f i v cells n)
store_at-aside line t f i v cells n =
    by_test (is_in_type t v) (record {
      cells = set_cell cells f (items (set_item (items_at cells f) i v));
      steps = n;
      log = [];
      stores = record { path = []; field = f } ∷ [];
    })
  where
    by_test : (b : Bool) (after : After) →
        (if b then done after else stuck (stuck_at 0 Range) cells)
        ≡ outcome_aside (if b then done after else stuck (stuck_at line Range) cells)
    by_test true after = refl
    by_test false after = refl

-- ---- Statements

arguments-aside : (functions : List Function) (leaf : Reads) (line : ℕ) (types : List CType) (es : ExprTrees) (n : ℕ) →
    arguments (aside_functions functions) leaf 0 types es n ≡ aside (arguments functions leaf line types es n)
arguments-aside functions leaf line types no_exprs n = refl
arguments-aside functions leaf line [] (more_exprs e es) n = refl
arguments-aside functions leaf line (t ∷ types) (more_exprs e es) n =
    and_then-aside (and_then (eval (aside_functions functions) leaf 0 e n) (within t Range 0))
    (and_then (eval functions leaf line e n) (within t Range line))
    (λ v count. and_then (arguments (aside_functions functions) leaf 0 types es count)
    (λ vs end. gives (v ∷ vs) end))
    (λ v count. and_then (arguments functions leaf line types es count) (λ vs end. gives (v ∷ vs) end))
    (and_then-aside (eval (aside_functions functions) leaf 0 e n) (eval functions leaf line e n) (within t Range 0)
    (within t Range line) (eval-aside functions leaf line e n) (within-aside t Range line))
    (λ v count. and_then-aside (arguments (aside_functions functions) leaf 0 types es count)
    (arguments functions leaf line types es count) (λ vs end. gives (v ∷ vs) end) (λ vs end. gives (v ∷ vs) end)
    (arguments-aside functions leaf line types es count) (λ vs end. refl))

-- a scope whose functions and procedures don't say at which line they are stuck
abbrev pub aside_scope : Scope → Scope
aside_scope s = record { functions = aside_functions s.functions; routines = aside_routines s.routines; types = s.types; values = s.values }

-- a choice of two branches
branch-aside : (f g f' g' : Cells → ℕ → Outcome) → ((c : Cells) (n : ℕ) → f c n ≡ outcome_aside (f' c n)) →
    ((c : Cells) (n : ℕ) → g c n ≡ outcome_aside (g' c n)) → (holds : Bool) (cells : Cells) (n : ℕ) →
    (if holds then f else g) cells n ≡ outcome_aside ((if holds then f' else g') cells n)
branch-aside f g f' g' same_f same_g true cells n = same_f cells n
branch-aside f g f' g' same_f same_g false cells n = same_g cells n

module _ (s : Scope) where
  mutual
    pub run_stmt-aside : (x : StmtTree) (cells : Cells) (n : ℕ) →
        run_stmt (aside_scope s) (stmt_without_lines x) cells n ≡ outcome_aside (run_stmt s x cells n)
    run_stmt-aside (assign line f e) cells n =
        begin_step-aside line cells n
        (λ count. on_answer (eval (aside_functions s.functions) (reads s.values cells) 0 e count) cells
        (λ v end. store 0 (type_at s.types f) f v cells end))
        (λ count. on_answer (eval s.functions (reads s.values cells) line e count) cells
        (λ v end. store line (type_at s.types f) f v cells end))
        (λ count. on_answer-aside (eval (aside_functions s.functions) (reads s.values cells) 0 e count)
        (eval s.functions (reads s.values cells) line e count) cells
        (λ v end. store 0 (type_at s.types f) f v cells end) (λ v end. store line (type_at s.types f) f v cells end)
        (eval-aside s.functions (reads s.values cells) line e count)
        (λ v end. store-aside line (type_at s.types f) f v cells end))
    run_stmt-aside (assign_at line f index e) cells n =
        begin_step-aside line cells n (λ count. stored (aside_functions s.functions) 0 count)
        (λ count. stored s.functions line count)
        (λ count. on_answer-aside (placed (aside_functions s.functions) 0 count)
        (placed s.functions line count) cells (λ i mid. valued (aside_functions s.functions) 0 i mid)
        (λ i mid. valued s.functions line i mid)
        (and_then-aside (eval (aside_functions s.functions) (reads s.values cells) 0 index count)
        (eval s.functions (reads s.values cells) line index count) (index_in 0 (items_at cells f))
        (index_in line (items_at cells f)) (eval-aside s.functions (reads s.values cells) line index count)
        (index_in-aside line (items_at cells f)))
        (λ i mid. on_answer-aside (eval (aside_functions s.functions) (reads s.values cells) 0 e mid)
        (eval s.functions (reads s.values cells) line e mid) cells
        (λ v end. store_at 0 (type_at s.types f) f i v cells end)
        (λ v end. store_at line (type_at s.types f) f i v cells end)
        (eval-aside s.functions (reads s.values cells) line e mid)
        (λ v end. store_at-aside line (type_at s.types f) f i v cells end)))
      where
        placed : List Function → ℕ → ℕ → Answer ℕ
        placed functions l count = and_then (eval functions (reads s.values cells) l index count) (index_in l (items_at cells f))

        valued : List Function → ℕ → ℕ → ℕ → Outcome
        valued functions l i mid =
            on_answer (eval functions (reads s.values cells) l e mid) cells
            (λ v end. store_at l (type_at s.types f) f i v cells end)

        stored : List Function → ℕ → ℕ → Outcome
        stored functions l count = on_answer (placed functions l count) cells (λ i mid. valued functions l i mid)
    run_stmt-aside (branch line test on_true on_false) cells n =
        begin_step-aside line cells n
        (λ count. on_answer (eval_cond (aside_functions s.functions) (reads s.values cells) 0 test count) cells
        (λ holds. (if holds then run_stmts (aside_scope s) (stmts_without_lines on_true)
        else run_stmts (aside_scope s) (stmts_without_lines on_false)) cells))
        (λ count. on_answer (eval_cond s.functions (reads s.values cells) line test count) cells
        (λ holds. (if holds then run_stmts s on_true else run_stmts s on_false) cells))
        (λ count. on_answer-aside (eval_cond (aside_functions s.functions) (reads s.values cells) 0 test count)
        (eval_cond s.functions (reads s.values cells) line test count) cells
        (λ holds. (if holds then run_stmts (aside_scope s) (stmts_without_lines on_true)
        else run_stmts (aside_scope s) (stmts_without_lines on_false)) cells)
        (λ holds. (if holds then run_stmts s on_true else run_stmts s on_false) cells)
        (eval_cond-aside s.functions (reads s.values cells) line test count)
        (λ holds m. branch-aside (run_stmts (aside_scope s) (stmts_without_lines on_true))
        (run_stmts (aside_scope s) (stmts_without_lines on_false)) (run_stmts s on_true) (run_stmts s on_false)
        (run_stmts-aside on_true) (run_stmts-aside on_false) holds cells m))
    run_stmt-aside (call line k target es) cells n =
        begin_step-aside line cells n
        (λ count.
        on_answer
        (arguments (aside_functions s.functions) (reads s.values cells) 0
        (routine_at (aside_routines s.routines) k).params es count) cells
        (λ values. on_target target ((routine_at (aside_routines s.routines) k).run values) cells))
        (λ count.
        on_answer (arguments s.functions (reads s.values cells) line (routine_at s.routines k).params es count)
        cells (λ values. on_target target ((routine_at s.routines k).run values) cells))
        (λ count.
        on_answer-aside
        (arguments (aside_functions s.functions) (reads s.values cells) 0
        (routine_at (aside_routines s.routines) k).params es count)
        (arguments s.functions (reads s.values cells) line (routine_at s.routines k).params es count) cells
        (λ values. on_target target ((routine_at (aside_routines s.routines) k).run values) cells)
        (λ values. on_target target ((routine_at s.routines k).run values) cells)
        (ap (λ r. arguments (aside_functions s.functions) (reads s.values cells) 0 r.params es count)
        (routine_at-aside s.routines k)
        ∙ arguments-aside s.functions (reads s.values cells) line (routine_at s.routines k).params es count)
        (λ values m. on_target-aside target ((routine_at (aside_routines s.routines) k).run values)
        ((routine_at s.routines k).run values) (λ c i. ap (λ r. r.run values c i) (routine_at-aside s.routines k))
        cells m))

    pub run_stmts-aside : (xs : StmtTrees) (cells : Cells) (n : ℕ) →
        run_stmts (aside_scope s) (stmts_without_lines xs) cells n ≡ outcome_aside (run_stmts s xs cells n)
    run_stmts-aside no_stmts cells n = refl
    run_stmts-aside (more_stmts x xs) cells n =
        then_run-aside (run_stmt (aside_scope s) (stmt_without_lines x) cells n) (run_stmt s x cells n)
        (run_stmts (aside_scope s) (stmts_without_lines xs)) (run_stmts s xs) (run_stmt-aside x cells n)
        (run_stmts-aside xs)

-- ---- Procedures

abbrev pub procedure_without_lines : ProcedureTree → ProcedureTree
procedure_without_lines q = record { name = q.name; private = q.private; of = q.of; params = q.params; body = stmts_without_lines q.body }

routine_of-aside : (structs : List StructTree) (functions : List Function) (earlier : List Routine) (k : ℕ)
    (p : ProcedureTree) →
    routine_of structs (aside_functions functions) (aside_routines earlier) k (procedure_without_lines p)
    ≡ aside_routine (routine_of structs functions earlier k p)
routine_of-aside structs functions earlier k p =
    let scope : List ℤ → Scope =
    λ values. record {
      functions = functions;
      routines = earlier;
      types = field_types (struct_fields structs p.of);
      values = values;
    } in
    ap (λ run. record { params = map (λ q. q.type) p.params; run = run })
    (fun_ext
    (λ values.
    fun_ext (λ cells.
    fun_ext (λ n. ap (behind (call_entry k p.name) []) (run_stmts-aside (scope values) p.body cells n)
    ∙ behind-aside (call_entry k p.name) [] (run_stmts (scope values) p.body cells n)))))

routines-append : (a b : List Routine) → aside_routines (a ++ b) ≡ aside_routines a ++ aside_routines b
unfolding aside_routines
routines-append [] b = refl
routines-append (r ∷ rs) b = ap (λ rest. aside_routine r ∷ rest) (routines-append rs b)

routines-one : (r : Routine) → aside_routines (r ∷ []) ≡ aside_routine r ∷ []
unfolding aside_routines
routines-one r = refl

routines-none : aside_routines [] ≡ []
unfolding aside_routines
routines-none = refl

routines-length : (rs : List Routine) → length (aside_routines rs) ≡ length rs
unfolding aside_routines
routines-length [] = refl
routines-length (r ∷ rs) = ap suc (routines-length rs)

routines_of-aside : (structs : List StructTree) (functions : List Function) (earlier : List Routine)
    (ps : List ProcedureTree) →
    routines_of structs (aside_functions functions) (aside_routines earlier) (map procedure_without_lines ps)
    ≡ aside_routines (routines_of structs functions earlier ps)
routines_of-aside structs functions earlier [] = refl
routines_of-aside structs functions earlier (p ∷ ps) =
    ap (λ rs. routines_of structs (aside_functions functions) rs (map procedure_without_lines ps))
    (ap (λ k. aside_routines earlier ++ routine_of structs (aside_functions functions) (aside_routines earlier) k
    (procedure_without_lines p) ∷ []) (routines-length earlier)
    ∙ ap (λ r. aside_routines earlier ++ r ∷ []) (routine_of-aside structs functions earlier (length earlier) p)
    ∙ ap (λ rs. aside_routines earlier ++ rs)
    (sym (routines-one (routine_of structs functions earlier (length earlier) p)))
    ∙ sym (routines-append earlier (routine_of structs functions earlier (length earlier) p ∷ [])))
    ∙ routines_of-aside structs functions (earlier ++ routine_of structs functions earlier (length earlier) p
    ∷ []) ps

pub program_routines-aside : (p : ProgramTree) → program_routines (without_lines p) ≡ aside_routines (program_routines p)
program_routines-aside p =
    ap (λ fs. routines_of p.structs fs [] (map procedure_without_lines p.procedures))
    (ap (λ fs. functions_of fs (map pure_without_line p.pures)) (sym functions-none)
    ∙ functions_of-aside [] p.pures)
    ∙ ap (λ rs. routines_of p.structs (aside_functions (functions_of [] p.pures)) rs
    (map procedure_without_lines p.procedures)) (sym routines-none)
    ∙ routines_of-aside p.structs (functions_of [] p.pures) [] p.procedures

-- ---- Calls from outside

at_path-aside : (path : List ℕ) (go go' : Cells → Outcome) → ((c : Cells) → go c ≡ outcome_aside (go' c)) →
    (cells : Cells) → at_path path go cells ≡ outcome_aside (at_path path go' cells)
at_path-aside [] go go' same cells = same cells
at_path-aside (f ∷ path) go go' same cells =
    ap (in_child f cells) (at_path-aside path go go' same (fields_at cells f))
    ∙ in_child-aside f cells (at_path path go' (fields_at cells f))

pub call-aside : (p : ProgramTree) (k : ℕ) (path : List ℕ) (values : List ℤ) (cells : Cells) →
    call_from_outside (without_lines p) k path values cells ≡ outcome_aside (call_from_outside p k path values cells)
call-aside p k path values cells =
    at_path-aside path (λ inner. (routine_at (program_routines (without_lines p)) k).run values inner 0)
    (λ inner. (routine_at (program_routines p) k).run values inner 0)
    (λ inner. ap (λ rs. (routine_at rs k).run values inner 0) (program_routines-aside p)
    ∙ ap (λ r. r.run values inner 0) (routine_at-aside (program_routines p) k)) cells

-- ---- Rows

place-aside : (name : List ℕ) (n : ℕ) (ps : List ProcedureTree) →
    position_from (λ q. bytes_eq q.name name) n (map procedure_without_lines ps)
    ≡ position_from (λ q. bytes_eq q.name name) n ps
place-aside name n [] = refl
place-aside name n (p ∷ ps) = ap (λ rest. if bytes_eq p.name name then Some n else rest) (place-aside name (n + 1) ps)

pub named-aside : (p : ProgramTree) (name : List ℕ) → procedure_named (without_lines p) name ≡ procedure_named p name
named-aside p name = place-aside name 0 p.procedures

pub start-aside : (p : ProgramTree) → start_run (without_lines p) ≡ outcome_aside (start_run p)
start-aside p =
    ap (λ k. call_from_outside (without_lines p) (unwrap_or k 0) [] [] (zero_root p))
    (named-aside p (codes "root_start")) ∙ call-aside p (unwrap_or (procedure_named p (codes "root_start")) 0) [] []
    (zero_root p)

step-aside : (p : ProgramTree) (row : List ℤ) (cells : Cells) → step_run (without_lines p) row cells ≡ outcome_aside (step_run p row cells)
step-aside p row cells =
    ap (λ k. call_from_outside (without_lines p) (unwrap_or k 0) [] row cells) (named-aside p (codes "root_step"))
    ∙ call-aside p (unwrap_or (procedure_named p (codes "root_step")) 0) [] row cells

after-aside : (p : ProgramTree) (o o' : Outcome) (go go' : Cells → Rows) → o ≡ outcome_aside o' →
    ((c : Cells) → go c ≡ rows_aside (go' c)) → rows_after (without_lines p) o go ≡ rows_aside (rows_after p o' go')
after-aside p o (done a) go go' is same =
    ap (λ x. rows_after (without_lines p) x go) is ∙ ap (with_tick (tick_row p a)) (same a.cells)
after-aside p o (stuck at cells) go go' is same = ap (λ x. rows_after (without_lines p) x go) is

rows_from-aside : (p : ProgramTree) (trace : List (List ℤ)) (cells : Cells) →
    rows_from (without_lines p) trace cells ≡ rows_aside (rows_from p trace cells)
rows_from-aside p [] cells = refl
rows_from-aside p (row ∷ trace) cells =
    after-aside p (step_run (without_lines p) row cells) (step_run p row cells) (rows_from (without_lines p) trace)
    (rows_from p trace) (step-aside p row cells) (rows_from-aside p trace)

of_start-aside : (p : ProgramTree) (o o' : Outcome) (trace : List (List ℤ)) → o ≡ outcome_aside o' →
    rows_of_start (without_lines p) o trace ≡ rows_aside (rows_of_start p o' trace)
of_start-aside p o (done a) trace is = ap (λ x. rows_of_start (without_lines p) x trace) is ∙ rows_from-aside p trace a.cells
of_start-aside p o (stuck at cells) trace is = ap (λ x. rows_of_start (without_lines p) x trace) is

pub rows-aside : (p : ProgramTree) (trace : List (List ℤ)) → c_rows (without_lines p) trace ≡ rows_aside (c_rows p trace)
rows-aside p trace = of_start-aside p (start_run (without_lines p)) (start_run p) trace (start-aside p)

-- ---- Two programs that differ in lines alone

pub lines_mean_nothing : LinesMeanNothing
lines_mean_nothing p q same = record {
  calls = λ k path values cells. sym (call-aside p k path values cells)
      ∙ ap (λ x. call_from_outside x k path values cells) same ∙ call-aside q k path values cells;
  start = sym (start-aside p) ∙ ap start_run same ∙ start-aside q;
  rows = λ trace. sym (rows-aside p trace) ∙ ap (λ x. c_rows x trace) same ∙ rows-aside q trace;
}
