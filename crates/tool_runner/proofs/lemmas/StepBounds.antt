-- A tick, and any call from outside, takes at most 2 ^ 32 steps, and makes at most one call more than steps.
use Rattle.std.proofs.Common.{◌≡◌, refl, ap, subst, ℕ, zero, suc, ◌+◌, ◌^◌, ◌≤◌, ◌<◌, Bool, true, false, not, List, [], ◌∷◌, ◌++◌, length, arith}
use Rattle.std.specs.Prelude.{◌+ℤ◌, ◌-ℤ◌, ◌*ℤ◌, ℤ, pos, neg_ℤ, int_div, int_rem, int_le, int_lt, unsigned_abs, ◌&&◌, nat_lt, unwrap_or, codes, if◌then◌else◌}
use Rattle.std.specs.Ordering.{int_eq}
use Rattle.std.proofs.lemmas.Bool.{ltb-true}
use Rattle.std.proofs.lemmas.List.{length-append, length-map}
use Rattle.c_syntax.specs.declared.code.BinOp.{BinOp}
use Rattle.c_syntax.specs.declared.code.BinOp.TheVariants.{Add, Sub, Mul, Div, Rem}
use Rattle.c_syntax.specs.declared.code.CType.{CType}
use Rattle.c_syntax.specs.declared.code.CType.TheVariants.{I64}
use Rattle.c_syntax.specs.declared.code.Target.{Target}
use Rattle.c_syntax.specs.declared.code.Target.TheVariants.{Own, Child}
use Rattle.c_syntax.specs.declared.fault.Why.{Why}
use Rattle.c_syntax.specs.declared.fault.Why.TheVariants.{Overflow, ZeroDivisor, Range, Steps, Index}
use Rattle.c_syntax.specs.Tree.{ExprTree, literal, neg, read, binary, pick, pure, item, ExprTrees, no_exprs, more_exprs, CondTree, compare, both, either, negated, PureTree, StmtTree, assign, assign_at, branch, call, StmtTrees, no_stmts, more_stmts, StructTree, ProcedureTree, ProgramTree, struct_fields, field_types, type_at}
use Rattle.c_semantics.specs.Cells.{Cells, no_cells, fields_at, items_at}
use Rattle.c_semantics.specs.Values.{Answer, gives, sticks, and_then, within, is_in_type, stuck_at, step_limit, operate, compares, Function, function_at, function_of, functions_of, Reads, reads, index_in, eval, eval_all, eval_cond}
use Rattle.base_core.specs.Numbers.{int_at}
use Rattle.c_semantics.specs.Machine.{After, Outcome, done, stuck, behind, then_run, begin_step, on_answer, in_child, on_target, arguments, store, store_at, LoggedCall, StoredField, call_under, Scope, run_stmt, run_stmts, Routine, routine_at, routine_of, routines_of, program_routines, call_entry, is_interface, at_path, call_from_outside}
use Rattle.c_syntax.specs.RootFields.{procedure_named}
use Rattle.c_semantics.specs.Rows.{step_run}

-- ---- Expressions

-- an evaluation from a count of steps takes it no lower, and not above the limit
abbrev Grows : {A : Type 0} → ℕ → Answer A → Type 0
Grows n (gives result steps) = (n ≤ steps) × (steps ≤ step_limit)
Grows n (sticks at) = Unit {0}

from_lower : {A : Type 0} (n m : ℕ) (o : Answer A) → n ≤ m → Grows m o → Grows n o
from_lower n m (gives result steps) le grows = (omega (arith, le, grows.0), grows.1)
from_lower n m (sticks at) le grows = tt

and_then-grows : {A B : Type 0} (n : ℕ) (o : Answer A) (go : A → ℕ → Answer B) → Grows n o →
    ((r : A) (m : ℕ) → m ≤ step_limit → Grows m (go r m)) → Grows n (and_then o go)
and_then-grows n (gives result steps) go grows after = from_lower n steps (go result steps) grows.0 (after result steps grows.1)
and_then-grows n (sticks at) go grows after = tt

stays : (n : ℕ) → n ≤ step_limit → (n ≤ n) × (n ≤ step_limit)
stays n most = (omega arith, most)

within-grows : (t : CType) (why : Why) (line : ℕ) (v : ℤ) (n : ℕ) → n ≤ step_limit → Grows n (within t why line v n)
within-grows t why line v n most = by_test (is_in_type t v)
  where
    by_test : (b : Bool) → Grows n (if b then gives v n else sticks (stuck_at line why))
    by_test true = stays n most
    by_test false = tt

operate-grows : (op : BinOp) (line : ℕ) (x y : ℤ) (n : ℕ) → n ≤ step_limit → Grows n (operate op line x y n)
operate-grows Add line x y n most = within-grows I64 Overflow line (x +ℤ y) n most
operate-grows Sub line x y n most = within-grows I64 Overflow line (x -ℤ y) n most
operate-grows Mul line x y n most = within-grows I64 Overflow line (x *ℤ y) n most
operate-grows Div line x y n most = by_test (int_eq y (pos 0))
  where
    by_test : (b : Bool) → Grows n (if b then sticks (stuck_at line ZeroDivisor) else within I64 Overflow line (int_div x y) n)
    by_test true = tt
    by_test false = within-grows I64 Overflow line (int_div x y) n most
operate-grows Rem line x y n most = by_test (int_eq y (pos 0))
  where
    by_test : (b : Bool) →
        Grows n (if b then sticks (stuck_at line ZeroDivisor) else and_then (within I64 Overflow line (int_div x y) n)
        (λ quotient count. gives (int_rem x y) count))
    by_test true = tt
    by_test false =
        and_then-grows n (within I64 Overflow line (int_div x y) n) (λ quotient count. gives (int_rem x y) count)
        (within-grows I64 Overflow line (int_div x y) n most) (λ quotient m. stays m)

abbrev FunctionGrows : Function → Type 0
FunctionGrows f = (values : List ℤ) (n : ℕ) → n ≤ step_limit → Grows n (f values n)

abbrev AllGrow : List Function → Type 0
AllGrow [] = Unit {0}
AllGrow (f ∷ fs) = FunctionGrows f × AllGrow fs

function_at-grows : (functions : List Function) → AllGrow functions → (k : ℕ) → FunctionGrows (function_at functions k)
function_at-grows [] all k = λ values n. stays n
function_at-grows (f ∷ fs) all zero = all.0
function_at-grows (f ∷ fs) all (suc k) = function_at-grows fs all.1 k

one_more_grows : (functions : List Function) (f : Function) → AllGrow functions → FunctionGrows f → AllGrow (functions ++ f ∷ [])
one_more_grows [] f all grows = (grows, tt)
one_more_grows (g ∷ gs) f all grows = (all.0, one_more_grows gs f all.1 grows)

choice-grows : {A : Type 0} (f g : ℕ → Answer A) → ((m : ℕ) → m ≤ step_limit → Grows m (f m)) →
    ((m : ℕ) → m ≤ step_limit → Grows m (g m)) → (holds : Bool) (m : ℕ) → m ≤ step_limit →
    Grows m ((if holds then f else g) m)
choice-grows f g f_grows g_grows true m most = f_grows m most
choice-grows f g f_grows g_grows false m most = g_grows m most

index_in-grows : (line : ℕ) (array : List ℤ) (i : ℤ) (n : ℕ) → n ≤ step_limit → Grows n (index_in line array i n)
index_in-grows line array i n most = by_test (int_le (pos 0) i && int_lt i (pos (length array)))
  where
    by_test : (b : Bool) → Grows n (if b then gives (unsigned_abs i) n else sticks (stuck_at line Index))
    by_test true = stays n most
    by_test false = tt

module _ (functions : List Function) (leaf : Reads) (line : ℕ) (all : AllGrow functions) where
  mutual
    eval-grows : (e : ExprTree) (n : ℕ) → n ≤ step_limit → Grows n (eval functions leaf line e n)
    eval-grows (literal value) n most = stays n most
    eval-grows (neg e) n most =
        and_then-grows n (eval functions leaf line e n) (λ v count. within I64 Overflow line (neg_ℤ v) count)
        (eval-grows e n most) (λ v m. within-grows I64 Overflow line (neg_ℤ v) m)
    eval-grows (read l) n most = stays n most
    eval-grows (binary op a b) n most =
        and_then-grows n (eval functions leaf line a n)
        (λ x count. and_then (eval functions leaf line b count) (λ y end. operate op line x y end))
        (eval-grows a n most)
        (λ x m le. and_then-grows m (eval functions leaf line b m) (λ y end. operate op line x y end)
        (eval-grows b m le) (λ y end. operate-grows op line x y end))
    eval-grows (pick test a b) n most =
        and_then-grows n (eval_cond functions leaf line test n) (λ holds. if holds then eval functions leaf line a
        else eval functions leaf line b) (eval_cond-grows test n most)
        (choice-grows (eval functions leaf line a) (eval functions leaf line b) (eval-grows a) (eval-grows b))
    eval-grows (pure k es) n most =
        and_then-grows n (eval_all functions leaf line es n) (function_at functions k) (eval_all-grows es n most)
        (function_at-grows functions all k)
    eval-grows (item f index) n most =
        and_then-grows n (and_then (eval functions leaf line index n) (index_in line (leaf.array f)))
        (λ i count. gives (int_at (leaf.array f) i) count)
        (and_then-grows n (eval functions leaf line index n) (index_in line (leaf.array f))
        (eval-grows index n most) (index_in-grows line (leaf.array f))) (λ i m. stays m)

    eval_all-grows : (es : ExprTrees) (n : ℕ) → n ≤ step_limit → Grows n (eval_all functions leaf line es n)
    eval_all-grows no_exprs n most = stays n most
    eval_all-grows (more_exprs e es) n most =
        and_then-grows n (eval functions leaf line e n)
        (λ v count. and_then (eval_all functions leaf line es count) (λ vs end. gives (v ∷ vs) end))
        (eval-grows e n most)
        (λ v m le. and_then-grows m (eval_all functions leaf line es m) (λ vs end. gives (v ∷ vs) end)
        (eval_all-grows es m le) (λ vs end. stays end))

    eval_cond-grows : (c : CondTree) (n : ℕ) → n ≤ step_limit → Grows n (eval_cond functions leaf line c n)
    eval_cond-grows (compare how a b) n most =
        and_then-grows n (eval functions leaf line a n)
        (λ x count. and_then (eval functions leaf line b count) (λ y end. gives (compares how x y) end))
        (eval-grows a n most)
        (λ x m le. and_then-grows m (eval functions leaf line b m) (λ y end. gives (compares how x y) end)
        (eval-grows b m le) (λ y end. stays end))
    eval_cond-grows (both a b) n most =
        and_then-grows n (eval_cond functions leaf line a n) (λ holds. if holds then eval_cond functions leaf line b
        else gives false) (eval_cond-grows a n most)
        (choice-grows (eval_cond functions leaf line b) (gives false) (eval_cond-grows b) stays)
    eval_cond-grows (either a b) n most =
        and_then-grows n (eval_cond functions leaf line a n) (λ holds. if holds then gives true
        else eval_cond functions leaf line b) (eval_cond-grows a n most)
        (choice-grows (gives true) (eval_cond functions leaf line b) stays (eval_cond-grows b))
    eval_cond-grows (negated a) n most =
        and_then-grows n (eval_cond functions leaf line a n) (λ holds count. gives (not holds) count)
        (eval_cond-grows a n most) (λ holds end. stays end)

function_of-grows : (earlier : List Function) (p : PureTree) → AllGrow earlier → FunctionGrows (function_of earlier p)
function_of-grows earlier p all values n most = by_test (nat_lt n step_limit) refl
  where
    by_test : (b : Bool) → nat_lt n step_limit ≡ b →
        Grows n (if b then eval earlier (reads values no_cells) p.line p.body (n + 1)
        else sticks (stuck_at p.line Steps))
    by_test true below =
        let less : n < step_limit = ltb-true n step_limit below in
        from_lower n (n + 1) (eval earlier (reads values no_cells) p.line p.body (n + 1)) (omega arith)
        (eval-grows earlier (reads values no_cells) p.line all p.body (n + 1) (omega arith))
    by_test false below = tt

functions_of-grow : (earlier : List Function) (ps : List PureTree) → AllGrow earlier → AllGrow (functions_of earlier ps)
functions_of-grow earlier [] all = all
functions_of-grow earlier (p ∷ ps) all =
    functions_of-grow (earlier ++ function_of earlier p ∷ []) ps
    (one_more_grows earlier (function_of earlier p) all (function_of-grows earlier p all))

arguments-grows : (functions : List Function) (leaf : Reads) (line : ℕ) (types : List CType) (es : ExprTrees) (n : ℕ) →
    AllGrow functions → n ≤ step_limit → Grows n (arguments functions leaf line types es n)
arguments-grows functions leaf line types no_exprs n all most = stays n most
arguments-grows functions leaf line [] (more_exprs e es) n all most = stays n most
arguments-grows functions leaf line (t ∷ types) (more_exprs e es) n all most =
    and_then-grows n (and_then (eval functions leaf line e n) (within t Range line))
    (λ v count. and_then (arguments functions leaf line types es count) (λ vs end. gives (v ∷ vs) end))
    (and_then-grows n (eval functions leaf line e n) (within t Range line)
    (eval-grows functions leaf line all e n most) (λ v m. within-grows t Range line v m))
    (λ v m le. and_then-grows m (arguments functions leaf line types es m) (λ vs end. gives (v ∷ vs) end)
    (arguments-grows functions leaf line types es m all le) (λ vs end. stays end))

-- ---- Statements

-- an execution from a count of steps makes no more calls than it takes steps, except for so many
record Took (n extra : ℕ) (a : After) : Type 0 where
  calls : n + length a.log ≤ a.steps + extra
  more : n ≤ a.steps
  most : a.steps ≤ step_limit

abbrev Takes : ℕ → ℕ → Outcome → Type 0
Takes n extra (done a) = Took n extra a
Takes n extra (stuck at cells) = Unit {0}

weaker : (n m extra least : ℕ) (o : Outcome) → n ≤ m → least ≤ extra → Takes m least o → Takes n extra o
weaker n m extra least (done a) le less took =
    record { calls = omega (arith, took.calls, le, less); more = omega (arith, took.more, le); most = took.most }
weaker n m extra least (stuck at cells) le less took = tt

behind-takes : (n m extra : ℕ) (log : List LoggedCall) (stores : List StoredField) (o : Outcome) →
    n + length log ≤ m + extra → n ≤ m → Takes m 0 o → Takes n extra (behind log stores o)
behind-takes n m extra log stores (done a) calls le took =
    record { calls = omega (arith, took.calls, calls, length-append log a.log); more = omega (arith, took.more, le); most = took.most }
behind-takes n m extra log stores (stuck at cells) calls le took = tt

then_run-takes : (n : ℕ) (o : Outcome) (go : Cells → ℕ → Outcome) → Takes n 0 o →
    ((c : Cells) (m : ℕ) → m ≤ step_limit → Takes m 0 (go c m)) → Takes n 0 (then_run o go)
then_run-takes n (done a) go took after =
    behind-takes n a.steps 0 a.log a.stores (go a.cells a.steps) took.calls took.more (after a.cells a.steps took.most)
then_run-takes n (stuck at cells) go took after = tt

on_answer-takes : {A : Type 0} (n : ℕ) (o : Answer A) (cells : Cells) (go : A → ℕ → Outcome) → Grows n o →
    ((r : A) (m : ℕ) → m ≤ step_limit → Takes m 1 (go r m)) → Takes n 1 (on_answer o cells go)
on_answer-takes n (gives r m) cells go grows after = weaker n m 1 1 (go r m) grows.0 (omega arith) (after r m grows.1)
on_answer-takes n (sticks at) cells go grows after = tt

counted_step : (n : ℕ) (o : Outcome) → Takes (n + 1) 1 o → Takes n 0 o
counted_step n (done a) took = record { calls = omega (arith, took.calls); more = omega (arith, took.more); most = took.most }
counted_step n (stuck at cells) took = tt

begin_step-takes : (line : ℕ) (cells : Cells) (n : ℕ) (go : ℕ → Outcome) →
    (n + 1 ≤ step_limit → Takes (n + 1) 1 (go (n + 1))) → Takes n 0 (begin_step line cells n go)
begin_step-takes line cells n go after = by_test (nat_lt n step_limit) refl
  where
    by_test : (b : Bool) → nat_lt n step_limit ≡ b → Takes n 0 (if b then go (n + 1) else stuck (stuck_at line Steps) cells)
    by_test true below =
        let less : n < step_limit = ltb-true n step_limit below in
        counted_step n (go (n + 1)) (after (omega arith))
    by_test false below = tt

in_child-takes : (n extra f : ℕ) (cells : Cells) (o : Outcome) → Takes n extra o → Takes n extra (in_child f cells o)
in_child-takes n extra f cells (done a) took =
    record { calls = omega (arith, took.calls, length-map a.log (call_under f)); more = took.more; most = took.most }
in_child-takes n extra f cells (stuck at inner) took = tt

store-takes : (line : ℕ) (t : CType) (f : ℕ) (v : ℤ) (cells : Cells) (n : ℕ) → n ≤ step_limit → Takes n 1 (store line t f v cells n)
store-takes line t f v cells n most = by_test (is_in_type t v) _ refl refl
  where
    by_test : (b : Bool) (a : After) → a.steps ≡ n → a.log ≡ [] → Takes n 1 (if b then done a else stuck (stuck_at line Range) cells)
    by_test true a steps log =
        record {
          calls = omega (arith, steps, ap length log);
          more = omega (arith, steps);
          most = omega (arith, steps, most);
        }
    by_test false a steps log = tt

store_at-takes : (line : ℕ) (t : CType) (f i : ℕ) (v : ℤ) (cells : Cells) (n : ℕ) → n ≤ step_limit →
    Takes n 1 (store_at line t f i v cells n)
store_at-takes line t f i v cells n most = by_test (is_in_type t v) _ refl refl
  where
    by_test : (b : Bool) (a : After) → a.steps ≡ n → a.log ≡ [] → Takes n 1 (if b then done a else stuck (stuck_at line Range) cells)
    by_test true a steps log =
        record {
          calls = omega (arith, steps, ap length log);
          more = omega (arith, steps);
          most = omega (arith, steps, most);
        }
    by_test false a steps log = tt

abbrev RunTakes : (Cells → ℕ → Outcome) → Type 0
RunTakes run = (cells : Cells) (n : ℕ) → n ≤ step_limit → Takes n 1 (run cells n)

abbrev RoutineTakes : Routine → Type 0
RoutineTakes r = (values : List ℤ) → RunTakes (r.run values)

abbrev AllTake : List Routine → Type 0
AllTake [] = Unit {0}
AllTake (r ∷ rs) = RoutineTakes r × AllTake rs

routine_at-takes : (routines : List Routine) → AllTake routines → (k : ℕ) → RoutineTakes (routine_at routines k)
routine_at-takes [] all k = λ values cells n most. record { calls = omega arith; more = omega arith; most = most }
routine_at-takes (r ∷ rs) all zero = all.0
routine_at-takes (r ∷ rs) all (suc k) = routine_at-takes rs all.1 k

one_more_takes : (routines : List Routine) (r : Routine) → AllTake routines → RoutineTakes r → AllTake (routines ++ r ∷ [])
one_more_takes [] r all takes = (takes, tt)
one_more_takes (q ∷ qs) r all takes = (all.0, one_more_takes qs r all.1 takes)

on_target-takes : (target : Target) (run : Cells → ℕ → Outcome) → RunTakes run → RunTakes (on_target target run)
on_target-takes Own run takes cells n most = takes cells n most
on_target-takes (Child f) run takes cells n most = in_child-takes n 1 f cells (run (fields_at cells f) n) (takes (fields_at cells f) n most)

branch-takes : (f g : Cells → ℕ → Outcome) → ((c : Cells) (m : ℕ) → m ≤ step_limit → Takes m 0 (f c m)) →
    ((c : Cells) (m : ℕ) → m ≤ step_limit → Takes m 0 (g c m)) → (holds : Bool) (cells : Cells) (n : ℕ) →
    n ≤ step_limit → Takes n 1 ((if holds then f else g) cells n)
branch-takes f g f_takes g_takes true cells n most = weaker n n 1 0 (f cells n) (omega arith) (omega arith) (f_takes cells n most)
branch-takes f g f_takes g_takes false cells n most = weaker n n 1 0 (g cells n) (omega arith) (omega arith) (g_takes cells n most)

module _ (s : Scope) (functions : AllGrow s.functions) (routines : AllTake s.routines) where
  mutual
    run_stmt-takes : (x : StmtTree) (cells : Cells) (n : ℕ) → n ≤ step_limit → Takes n 0 (run_stmt s x cells n)
    run_stmt-takes (assign line f e) cells n most =
        begin_step-takes line cells n (λ count. on_answer (eval s.functions (reads s.values cells) line e count) cells
        (λ v end. store line (type_at s.types f) f v cells end))
        (λ le. on_answer-takes (n + 1) (eval s.functions (reads s.values cells) line e (n + 1)) cells
        (λ v end. store line (type_at s.types f) f v cells end)
        (eval-grows s.functions (reads s.values cells) line functions e (n + 1) le)
        (λ v end. store-takes line (type_at s.types f) f v cells end))
    run_stmt-takes (assign_at line f index e) cells n most =
        begin_step-takes line cells n (λ count. on_answer (placed count) cells stored)
        (λ le. on_answer-takes (n + 1) (placed (n + 1)) cells stored
        (and_then-grows (n + 1) (eval s.functions (reads s.values cells) line index (n + 1))
        (index_in line (items_at cells f))
        (eval-grows s.functions (reads s.values cells) line functions index (n + 1) le)
        (index_in-grows line (items_at cells f)))
        (λ i m most_m. on_answer-takes m (eval s.functions (reads s.values cells) line e m) cells
        (λ v end. store_at line (type_at s.types f) f i v cells end)
        (eval-grows s.functions (reads s.values cells) line functions e m most_m)
        (λ v end. store_at-takes line (type_at s.types f) f i v cells end)))
      where
        placed : ℕ → Answer ℕ
        placed count = and_then (eval s.functions (reads s.values cells) line index count) (index_in line (items_at cells f))

        stored : ℕ → ℕ → Outcome
        stored i mid =
            on_answer (eval s.functions (reads s.values cells) line e mid) cells
            (λ v end. store_at line (type_at s.types f) f i v cells end)
    run_stmt-takes (branch line test on_true on_false) cells n most =
        begin_step-takes line cells n
        (λ count. on_answer (eval_cond s.functions (reads s.values cells) line test count) cells
        (λ holds. (if holds then run_stmts s on_true else run_stmts s on_false) cells))
        (λ le. on_answer-takes (n + 1) (eval_cond s.functions (reads s.values cells) line test (n + 1)) cells
        (λ holds. (if holds then run_stmts s on_true else run_stmts s on_false) cells)
        (eval_cond-grows s.functions (reads s.values cells) line functions test (n + 1) le)
        (λ holds m. branch-takes (run_stmts s on_true) (run_stmts s on_false) (run_stmts-takes on_true)
        (run_stmts-takes on_false) holds cells m))
    run_stmt-takes (call line k target es) cells n most =
        begin_step-takes line cells n
        (λ count.
        on_answer (arguments s.functions (reads s.values cells) line (routine_at s.routines k).params es count)
        cells (λ values. on_target target ((routine_at s.routines k).run values) cells))
        (λ le. on_answer-takes (n + 1)
        (arguments s.functions (reads s.values cells) line (routine_at s.routines k).params es (n + 1)) cells
        (λ values. on_target target ((routine_at s.routines k).run values) cells)
        (arguments-grows s.functions (reads s.values cells) line (routine_at s.routines k).params es
        (n + 1) functions le) (λ values. on_target-takes target ((routine_at s.routines k).run values)
        (routine_at-takes s.routines routines k values) cells))

    run_stmts-takes : (xs : StmtTrees) (cells : Cells) (n : ℕ) → n ≤ step_limit → Takes n 0 (run_stmts s xs cells n)
    run_stmts-takes no_stmts cells n most = record { calls = omega arith; more = omega arith; most = most }
    run_stmts-takes (more_stmts x xs) cells n most =
        then_run-takes n (run_stmt s x cells n) (run_stmts s xs) (run_stmt-takes x cells n most) (run_stmts-takes xs)

-- ---- Procedures

one_entry : (k : ℕ) (name : List ℕ) → length (call_entry k name) ≤ 1
one_entry k name = by_test (is_interface name)
  where
    entry : LoggedCall
    entry = record { path = []; procedure = k }

    by_test : (b : Bool) → length (if b then entry ∷ [] else []) ≤ 1
    by_test true = omega arith
    by_test false = omega arith

routine_of-takes : (structs : List StructTree) (functions : List Function) (earlier : List Routine) (k : ℕ)
    (p : ProcedureTree) → AllGrow functions → AllTake earlier → RoutineTakes (routine_of structs functions earlier k p)
routine_of-takes structs functions earlier k p grow take values cells n most =
    let scope : Scope =
    record {
      functions = functions;
      routines = earlier;
      types = field_types (struct_fields structs p.of);
      values = values;
    } in
    behind-takes n n 1 (call_entry k p.name) [] (run_stmts scope p.body cells n) (omega (arith, one_entry k p.name))
    (omega arith) (run_stmts-takes scope grow take p.body cells n most)

routines_of-take : (structs : List StructTree) (functions : List Function) (earlier : List Routine)
    (ps : List ProcedureTree) → AllGrow functions → AllTake earlier → AllTake (routines_of structs functions earlier ps)
routines_of-take structs functions earlier [] grow take = take
routines_of-take structs functions earlier (p ∷ ps) grow take =
    routines_of-take structs functions (earlier ++ routine_of structs functions earlier (length earlier) p ∷ []) ps grow
    (one_more_takes earlier (routine_of structs functions earlier (length earlier) p) take
    (routine_of-takes structs functions earlier (length earlier) p grow take))

program_routines-take : (p : ProgramTree) → AllTake (program_routines p)
program_routines-take p = routines_of-take p.structs (functions_of [] p.pures) [] p.procedures (functions_of-grow [] p.pures tt) tt

took : (n extra : ℕ) (o : Outcome) (a : After) → o ≡ done a → Takes n extra o → Took n extra a
took n extra o a is takes = subst (Takes n extra) is takes

at_path-takes : (n extra : ℕ) (path : List ℕ) (go : Cells → Outcome) → ((c : Cells) → Takes n extra (go c)) →
    (cells : Cells) → Takes n extra (at_path path go cells)
at_path-takes n extra [] go takes cells = takes cells
at_path-takes n extra (f ∷ path) go takes cells =
    in_child-takes n extra f cells (at_path path go (fields_at cells f)) (at_path-takes n extra path go takes (fields_at cells f))

-- a call from outside
pub outside-bounded : (p : ProgramTree) (k : ℕ) (path : List ℕ) (values : List ℤ) (cells : Cells) (a : After) →
    call_from_outside p k path values cells ≡ done a →
    (a.steps ≤ 2 ^ 32) × (length a.log ≤ 2 ^ 32 + 1)
outside-bounded p k path values cells a is =
    let inside = λ (inner : Cells). (routine_at (program_routines p) k).run values inner 0 in
    let t =
    took 0 1 (call_from_outside p k path values cells) a is
    (at_path-takes 0 1 path inside
    (λ inner. routine_at-takes (program_routines p) (program_routines-take p) k values inner 0 (omega arith))
    cells) in
    (t.most, omega (arith, t.calls, t.most))

pub step_run-bounded : (p : ProgramTree) (row : List ℤ) (cells : Cells) (a : After) → step_run p row cells ≡ done a →
    (a.steps ≤ 2 ^ 32) × (length a.log ≤ 2 ^ 32 + 1)
step_run-bounded p row cells a is = outside-bounded p (unwrap_or (procedure_named p (codes "root_step")) 0) [] row cells a is
