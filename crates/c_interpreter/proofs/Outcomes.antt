-- Steps of a run.
use Rattle.std.proofs.Common.{Bool, ◌≡◌, refl, sym, ◌∙◌, ap, slice_index_or, ℕ, zero, suc, ◌+◌, ◌<◌, ◌≤◌, ℤ, true, false, nat_lt, if◌then◌else◌, List, [], ◌∷◌, ◌++◌, length, arith, take, drop, map, slice_get, Some, get_or, add-zero, zero-add, length-append, subst, Result, Ok, Err}
use native.Mathlib.Numerals.{unary_clauses}
use Rattle.c_syntax.specs.declared.code.CType.{CType}
use Rattle.c_syntax.specs.declared.code.Stmt.{Stmt}
use Rattle.c_syntax.specs.declared.code.Target.{Target}
use Rattle.c_syntax.specs.declared.fault.Stuck.{Stuck}
use Rattle.c_syntax.specs.declared.fault.Why.TheVariants.{Range, Steps}
use Rattle.c_syntax.specs.Plain.{stmt_tree}
use Rattle.c_syntax.specs.Tree.{ExprTree, ExprTrees, CondTree, assign, assign_at, branch, call, StmtTrees, stmts_of_list, StructTree, type_at, ProcedureTree, ProgramTree}
use Rattle.c_semantics.specs.Cells.{number, items, object, no_cells, Cells, set_cell, set_item, fields_at, items_at}
use Rattle.c_semantics.specs.Values.{gives, sticks, and_then, index_in, stuck_at, step_limit, take_step, is_in_type, Function, functions_of, eval, eval_cond, reads}
use Rattle.c_semantics.specs.Machine.{LoggedCall, StoredField, Outcome, done, stuck, behind, then_run, on_answer, begin_step, in_child, call_under, on_target, Routine, routine_at, Scope, arguments, store, store_at, run_stmt, run_stmts, is_interface, call_entry, routine_of, routines_of}
use Rattle.c_semantics.proofs.lemmas.Runs.{routines_of-at}
use Rattle.c_syntax.specs.declared.fault.Cost.{Cost}
use Rattle.c_interpreter.specs.States.{filled}
use Rattle.c_interpreter.specs.Seen.{Seen, ran, halted, seen, ended}
use Rattle.c_interpreter.specs.Sound.{scope_at}

begin_goes : (line steps n : ℕ) (cells : Cells) (go : ℕ → Outcome) →
    gives (tt {0}) n ≡ take_step line steps (gives (tt {0})) → begin_step line cells steps go ≡ go n
begin_goes line steps n cells go step = by_test (nat_lt steps step_limit) step
  where
    by_test : (b : Bool) → gives (tt {0}) n ≡ (if b then gives (tt {0}) (steps + 1) else sticks (stuck_at line Steps)) →
        (if b then go (steps + 1) else stuck (stuck_at line Steps) cells) ≡ go n
    by_test true h = let e : n ≡ steps + 1 = cc in ap go (sym e)
    by_test false h = absurd (cc)

pub begin_stops : (line steps calls : ℕ) (cells : Cells) (go : ℕ → Outcome) (at : Stuck) →
    sticks at ≡ take_step line steps (gives (tt {0})) → halted at cells ≡ seen calls (begin_step line cells steps go)
begin_stops line steps calls cells go at step = by_test (nat_lt steps step_limit) step
  where
    by_test : (b : Bool) → sticks at ≡ (if b then gives (tt {0}) (steps + 1) else sticks (stuck_at line Steps)) →
        halted at cells ≡ seen calls (if b then go (steps + 1) else stuck (stuck_at line Steps) cells)
    by_test true h = absurd (cc)
    by_test false h = let e : at ≡ stuck_at line Steps = cc in ap (λ a. halted a cells) e

pub store_gives : (line f steps calls : ℕ) (type known : CType) (v : ℤ) (cells now : Cells) → type ≡ known →
    true ≡ is_in_type known v → set_cell cells f (number v) ≡ now →
    ran now steps calls ≡ seen calls (store line type f v cells steps)
store_gives line f steps calls type known v cells now same fits left =
    subst (λ (b : Bool). ran now steps calls
    ≡ seen calls
    (if b then done
    (record {
      cells = set_cell cells f (number v);
      steps = steps;
      log = [];
      stores = record { path = []; field = f }
          ∷ [];
    }) else stuck (stuck_at line Range) cells)) (fits ∙ ap (λ t. is_in_type t v) (sym same))
    (λ i. ran (sym left i) steps (sym (add-zero calls) i))

pub store_stops : (line f steps calls : ℕ) (type known : CType) (v : ℤ) (cells : Cells) → type ≡ known →
    false ≡ is_in_type known v → halted (stuck_at line Range) cells ≡ seen calls (store line type f v cells steps)
store_stops line f steps calls type known v cells same fits =
    subst (λ (b : Bool). halted (stuck_at line Range) cells
    ≡ seen calls
    (if b then done
    (record {
      cells = set_cell cells f (number v);
      steps = steps;
      log = [];
      stores = record { path = []; field = f }
          ∷ [];
    }) else stuck (stuck_at line Range) cells)) (fits ∙ ap (λ t. is_in_type t v) (sym same)) refl

pub assign_gives : (s : Scope) (line f steps calls n m : ℕ) (e : ExprTree) (v : ℤ) (cells : Cells) (r : Seen) →
    gives (tt {0}) n ≡ take_step line steps (gives (tt {0})) →
    gives v m ≡ eval s.functions (reads s.values cells) line e n →
    r ≡ seen calls (store line (type_at s.types f) f v cells m) →
    r ≡ seen calls (run_stmt s (assign line f e) cells steps)
assign_gives s line f steps calls n m e v cells r step given last =
    last ∙ sym
    (ap (seen calls)
    (begin_goes line steps n cells (λ count. on_answer (eval s.functions (reads s.values cells) line e count) cells
    (λ w end. store line (type_at s.types f) f w cells end)) step
    ∙ ap (λ a. on_answer a cells (λ w end. store line (type_at s.types f) f w cells end)) (sym given)))

pub assign_sticks : (s : Scope) (line f steps calls n : ℕ) (e : ExprTree) (cells : Cells) (at : Stuck) →
    gives (tt {0}) n ≡ take_step line steps (gives (tt {0})) →
    sticks at ≡ eval s.functions (reads s.values cells) line e n →
    halted at cells ≡ seen calls (run_stmt s (assign line f e) cells steps)
assign_sticks s line f steps calls n e cells at step given =
    sym (ap (seen calls)
    (begin_goes line steps n cells (λ count. on_answer (eval s.functions (reads s.values cells) line e count) cells
    (λ w end. store line (type_at s.types f) f w cells end)) step
    ∙ ap (λ a. on_answer a cells (λ w end. store line (type_at s.types f) f w cells end)) (sym given)))

pub store_at_gives : (line f i steps calls : ℕ) (type known : CType) (v : ℤ) (cells now : Cells) → type ≡ known →
    true ≡ is_in_type known v → set_cell cells f (items (set_item (items_at cells f) i v)) ≡ now →
    ran now steps calls ≡ seen calls (store_at line type f i v cells steps)
store_at_gives line f i steps calls type known v cells now same fits left =
    subst (λ (b : Bool). ran now steps calls
    ≡ seen calls
    (if b then done (record {
      cells = set_cell cells f (items (set_item (items_at cells f) i v));
      steps = steps;
      log = [];
      stores = record { path = []; field = f } ∷ [];
    }) else stuck (stuck_at line Range) cells))
    (fits ∙ ap (λ t. is_in_type t v) (sym same)) (λ j. ran (sym left j) steps (sym (add-zero calls) j))

pub store_at_stops : (line f i steps calls : ℕ) (type known : CType) (v : ℤ) (cells : Cells) → type ≡ known →
    false ≡ is_in_type known v → halted (stuck_at line Range) cells ≡ seen calls (store_at line type f i v cells steps)
store_at_stops line f i steps calls type known v cells same fits =
    subst (λ (b : Bool). halted (stuck_at line Range) cells
    ≡ seen calls
    (if b then done (record {
      cells = set_cell cells f (items (set_item (items_at cells f) i v));
      steps = steps;
      log = [];
      stores = record { path = []; field = f } ∷ [];
    }) else stuck (stuck_at line Range) cells))
    (fits ∙ ap (λ t. is_in_type t v) (sym same)) refl

-- a store in an item: its index is looked at, and then its value
module _ (s : Scope) (line f steps calls n : ℕ) (index e : ExprTree) (cells : Cells) (step : gives (tt {0}) n
    ≡ take_step line steps (gives (tt {0}))) where
  abbrev stored : ℕ → ℕ → Outcome
  stored i mid =
      on_answer (eval s.functions (reads s.values cells) line e mid) cells
      (λ v end. store_at line (type_at s.types f) f i v cells end)

  goes : run_stmt s (assign_at line f index e) cells steps
      ≡ on_answer (and_then (eval s.functions (reads s.values cells) line index n) (index_in line (items_at cells f)))
      cells stored
  goes = begin_goes line steps n cells
      (λ count.
      on_answer (and_then (eval s.functions (reads s.values cells) line index count) (index_in line (items_at cells f)))
      cells stored) step

  pub assign_at_gives : (m k i : ℕ) (v : ℤ) (r : Seen) →
      gives i m ≡ and_then (eval s.functions (reads s.values cells) line index n) (index_in line (items_at cells f)) →
      gives v k ≡ eval s.functions (reads s.values cells) line e m →
      r ≡ seen calls (store_at line (type_at s.types f) f i v cells k) →
      r ≡ seen calls (run_stmt s (assign_at line f index e) cells steps)
  assign_at_gives m k i v r placed given last =
      last ∙ sym
      (ap (seen calls) (goes ∙ ap (λ a. on_answer a cells stored) (sym placed)
      ∙ ap (λ a. on_answer a cells (λ w end. store_at line (type_at s.types f) f i w cells end)) (sym given)))

  pub assign_at_unplaced : (at : Stuck) →
      sticks at ≡ and_then (eval s.functions (reads s.values cells) line index n) (index_in line (items_at cells f)) →
      halted at cells ≡ seen calls (run_stmt s (assign_at line f index e) cells steps)
  assign_at_unplaced at placed = sym (ap (seen calls) (goes ∙ ap (λ a. on_answer a cells stored) (sym placed)))

  pub assign_at_sticks : (m i : ℕ) (at : Stuck) →
      gives i m ≡ and_then (eval s.functions (reads s.values cells) line index n) (index_in line (items_at cells f)) →
      sticks at ≡ eval s.functions (reads s.values cells) line e m →
      halted at cells ≡ seen calls (run_stmt s (assign_at line f index e) cells steps)
  assign_at_sticks m i at placed given =
      sym (ap (seen calls) (goes ∙ ap (λ a. on_answer a cells stored) (sym placed)
      ∙ ap (λ a. on_answer a cells (λ w end. store_at line (type_at s.types f) f i w cells end)) (sym given)))

pub branch_gives : (s : Scope) (line steps calls n m : ℕ) (test : CondTree) (on_true on_false : StmtTrees)
    (holds : Bool) (cells : Cells) (r : Seen) → gives (tt {0}) n ≡ take_step line steps (gives (tt {0})) →
    gives holds m ≡ eval_cond s.functions (reads s.values cells) line test n →
    r ≡ seen calls ((if holds then run_stmts s on_true else run_stmts s on_false) cells m) →
    r ≡ seen calls (run_stmt s (branch line test on_true on_false) cells steps)
branch_gives s line steps calls n m test on_true on_false holds cells r step given last =
    last ∙ sym
    (ap (seen calls)
    (begin_goes line steps n cells
    (λ count. on_answer (eval_cond s.functions (reads s.values cells) line test count) cells
    (λ h. (if h then run_stmts s on_true else run_stmts s on_false) cells)) step
    ∙ ap (λ a. on_answer a cells (λ h. (if h then run_stmts s on_true else run_stmts s on_false) cells))
    (sym given)))

pub branch_sticks : (s : Scope) (line steps calls n : ℕ) (test : CondTree) (on_true on_false : StmtTrees)
    (cells : Cells) (at : Stuck) → gives (tt {0}) n ≡ take_step line steps (gives (tt {0})) →
    sticks at ≡ eval_cond s.functions (reads s.values cells) line test n →
    halted at cells ≡ seen calls (run_stmt s (branch line test on_true on_false) cells steps)
branch_sticks s line steps calls n test on_true on_false cells at step given =
    sym (ap (seen calls)
    (begin_goes line steps n cells
    (λ count. on_answer (eval_cond s.functions (reads s.values cells) line test count) cells
    (λ h. (if h then run_stmts s on_true else run_stmts s on_false) cells)) step
    ∙ ap (λ a. on_answer a cells (λ h. (if h then run_stmts s on_true else run_stmts s on_false) cells))
    (sym given)))

pub call_gives : (s : Scope) (line k steps calls n m : ℕ) (target : Target) (types : List CType) (es : ExprTrees)
    (vs : List ℤ) (cells : Cells) (r : Seen) → gives (tt {0}) n ≡ take_step line steps (gives (tt {0})) →
    (routine_at s.routines k).params ≡ types →
    gives vs m ≡ arguments s.functions (reads s.values cells) line types es n →
    r ≡ seen calls (on_target target ((routine_at s.routines k).run vs) cells m) →
    r ≡ seen calls (run_stmt s (call line k target es) cells steps)
call_gives s line k steps calls n m target types es vs cells r step same given last =
    last ∙ sym
    (ap (seen calls)
    (begin_goes line steps n cells
    (λ count.
    on_answer (arguments s.functions (reads s.values cells) line (routine_at s.routines k).params es count) cells
    (λ values. on_target target ((routine_at s.routines k).run values) cells)) step
    ∙ ap (λ ts. on_answer (arguments s.functions (reads s.values cells) line ts es n) cells
    (λ values. on_target target ((routine_at s.routines k).run values) cells)) same
    ∙ ap (λ a. on_answer a cells (λ values. on_target target ((routine_at s.routines k).run values) cells))
    (sym given)))

pub call_sticks : (s : Scope) (line k steps calls n : ℕ) (target : Target) (types : List CType) (es : ExprTrees)
    (cells : Cells) (at : Stuck) → gives (tt {0}) n ≡ take_step line steps (gives (tt {0})) →
    (routine_at s.routines k).params ≡ types →
    sticks at ≡ arguments s.functions (reads s.values cells) line types es n →
    halted at cells ≡ seen calls (run_stmt s (call line k target es) cells steps)
call_sticks s line k steps calls n target types es cells at step same given =
    sym (ap (seen calls)
    (begin_goes line steps n cells
    (λ count.
    on_answer (arguments s.functions (reads s.values cells) line (routine_at s.routines k).params es count) cells
    (λ values. on_target target ((routine_at s.routines k).run values) cells)) step
    ∙ ap (λ ts. on_answer (arguments s.functions (reads s.values cells) line ts es n) cells
    (λ values. on_target target ((routine_at s.routines k).run values) cells)) same
    ∙ ap (λ a. on_answer a cells (λ values. on_target target ((routine_at s.routines k).run values) cells))
    (sym given)))

length_map : {A B : Type 0} (f : A → B) (xs : List A) → length (map f xs) ≡ length xs
length_map f [] = refl
length_map f (x ∷ xs) = omega (arith, length_map f xs)

pub child_ran : (f calls n m : ℕ) (cells inner now : Cells) (o : Outcome) → ran inner n m ≡ seen calls o →
    set_cell cells f (object inner) ≡ now → ran now n m ≡ seen calls (in_child f cells o)
child_ran f calls n m cells inner now (done a) given left =
    let c : inner ≡ a.cells = cc in
    let s : n ≡ a.steps = cc in
    let k : m ≡ calls + length a.log = cc in
    λ i. ran ((sym left ∙ ap (λ x. set_cell cells f (object x)) c) i) (s i)
    ((k ∙ ap (λ j. calls + j) (sym (length_map (call_under f) a.log))) i)
child_ran f calls n m cells inner now (stuck at stuck_cells) given left = absurd (cc)

pub child_halted : (f calls : ℕ) (cells inner now : Cells) (at : Stuck) (o : Outcome) → halted at inner ≡ seen calls o →
    set_cell cells f (object inner) ≡ now → halted at now ≡ seen calls (in_child f cells o)
child_halted f calls cells inner now at (done a) given left = absurd (cc)
child_halted f calls cells inner now at (stuck place stuck_cells) given left =
    let p : at ≡ place = cc in
    let c : inner ≡ stuck_cells = cc in
    λ i. halted (p i) ((sym left ∙ ap (λ x. set_cell cells f (object x)) c) i)

seen_behind : (calls : ℕ) (log : List LoggedCall) (o : Outcome) → seen calls (behind log [] o) ≡ seen (calls + length log) o
seen_behind calls log (done a) = λ i. ran a.cells a.steps (plus i)
  where
    plus : calls + length (log ++ a.log) ≡ calls + length log + length a.log
    plus = omega (arith, length-append log a.log)
seen_behind calls log (stuck at cells) = refl

pub then_ran : (calls n m : ℕ) (cells : Cells) (o : Outcome) (go : Cells → ℕ → Outcome) → ran cells n m ≡ seen calls o →
    seen calls (then_run o go) ≡ seen m (go cells n)
then_ran calls n m cells (done a) go given =
    let c : cells ≡ a.cells = cc in
    let s : n ≡ a.steps = cc in
    let k : m ≡ calls + length a.log = cc in
    seen_stores calls a.log a.stores (go a.cells a.steps) ∙ (λ i. seen (sym k i) (go (sym c i) (sym s i)))
  where
    seen_stores : (cs : ℕ) (log : List LoggedCall) (stores : List StoredField) (o : Outcome) →
        seen cs (behind log stores o) ≡ seen (cs + length log) o
    seen_stores cs log stores (done b) = let plus : cs + length (log ++ b.log) ≡ cs + length log + length b.log =
        omega (arith, length-append log b.log) in λ i. ran b.cells b.steps (plus i)
    seen_stores cs log stores (stuck at left) = refl
then_ran calls n m cells (stuck at left) go given = absurd (cc)

pub then_halted : (calls : ℕ) (cells : Cells) (at : Stuck) (o : Outcome) (go : Cells → ℕ → Outcome) →
    halted at cells ≡ seen calls o → halted at cells ≡ seen calls (then_run o go)
then_halted calls cells at (done a) go given = absurd (cc)
then_halted calls cells at (stuck place left) go given = given

drop_stmt : (xs : List Stmt) (j : ℕ) (x : Stmt) → j < length xs → x ≡ get_or xs j x → drop j xs ≡ x ∷ drop (j + 1) xs
drop_stmt [] j x h e = absurd (omega arith)
drop_stmt (y ∷ ys) zero x h e = ap (λ z. z ∷ ys) (sym e)
drop_stmt (y ∷ ys) (suc j) x h e = simp unary_clauses (simp unary_clauses at (drop_stmt ys j x (omega arith) e))

-- one more statement
pub stmts_more : (s : Scope) (stmts : List Stmt) (k : ℕ) (x : Stmt) (calls n m steps : ℕ) (cells now : Cells)
    (whole : Seen) → k < length stmts → x ≡ get_or stmts k x →
    ran now n m ≡ seen calls (run_stmt s (stmt_tree x) cells steps) →
    whole ≡ seen calls (run_stmts s (stmts_of_list (map stmt_tree (drop k stmts))) cells steps) →
    whole ≡ seen m (run_stmts s (stmts_of_list (map stmt_tree (drop (k + 1) stmts))) now n)
stmts_more s stmts k x calls n m steps cells now whole h there given before =
    before ∙ (λ i. seen calls (run_stmts s (stmts_of_list (map stmt_tree (drop_stmt stmts k x h there i))) cells steps))
    ∙ then_ran calls n m now (run_stmt s (stmt_tree x) cells steps)
    (run_stmts s (stmts_of_list (map stmt_tree (drop (k + 1) stmts)))) given

pub stmts_stop : (s : Scope) (stmts : List Stmt) (k : ℕ) (x : Stmt) (calls steps : ℕ) (cells now : Cells) (at : Stuck)
    (whole : Seen) → k < length stmts → x ≡ get_or stmts k x →
    halted at now ≡ seen calls (run_stmt s (stmt_tree x) cells steps) →
    whole ≡ seen calls (run_stmts s (stmts_of_list (map stmt_tree (drop k stmts))) cells steps) → halted at now ≡ whole
stmts_stop s stmts k x calls steps cells now at whole h there given before =
    then_halted calls now at (run_stmt s (stmt_tree x) cells steps)
    (run_stmts s (stmts_of_list (map stmt_tree (drop (k + 1) stmts)))) given
    ∙ sym (before
    ∙ (λ i. seen calls (run_stmts s (stmts_of_list (map stmt_tree (drop_stmt stmts k x h there i))) cells steps)))

-- no statement is left
pub stmts_end : (s : Scope) (stmts : List Stmt) (k : ℕ) (calls steps : ℕ) (cells : Cells) (whole : Seen) →
    length stmts ≤ k → whole ≡ seen calls (run_stmts s (stmts_of_list (map stmt_tree (drop k stmts))) cells steps) →
    ran cells steps calls ≡ whole
stmts_end s stmts k calls steps cells whole h before =
    sym (before ∙ (λ i. seen calls (run_stmts s (stmts_of_list (map stmt_tree (none stmts k h i))) cells steps))
    ∙ (λ i. ran cells steps (add-zero calls i)))
  where
    none : (xs : List Stmt) (j : ℕ) → length xs ≤ j → drop j xs ≡ []
    none [] zero le = refl
    none [] (suc j) le = refl
    none (x ∷ xs) zero le = absurd (omega arith)
    none (x ∷ xs) (suc j) le = none xs j (omega arith)

-- ---- procedures
take_take : (ps : List ProcedureTree) (k level : ℕ) → k < level → take k (take level ps) ≡ take k ps
take_take ps zero level h = refl
take_take [] (suc k) zero h = refl
take_take [] (suc k) (suc level) h = refl
take_take (p ∷ ps) (suc k) zero h = absurd (omega arith)
take_take (p ∷ ps) (suc k) (suc level) h = ap (λ r. p ∷ r) (take_take ps k level (omega arith))

get_take : (ps : List ProcedureTree) (k level : ℕ) (p : ProcedureTree) → k < level → slice_get ps k ≡ Some p →
    slice_get (take level ps) k ≡ Some p
get_take [] k level p h there = absurd (cc)
get_take (q ∷ ps) k zero p h there = absurd (omega arith)
get_take (q ∷ ps) zero (suc level) p h there = there
get_take (q ∷ ps) (suc k) (suc level) p h there = get_take ps k level p (omega arith) there

pub routine_is : (structs : List StructTree) (fs : List Function) (ps : List ProcedureTree) (k level : ℕ)
    (p : ProcedureTree) → k < level → slice_get ps k ≡ Some p →
    routine_at (routines_of structs fs [] (take level ps)) k
    ≡ routine_of structs fs (routines_of structs fs [] (take k ps)) k p
routine_is structs fs ps k level p h there =
    (rw zero-add at (routines_of-at structs fs [] (take level ps) k p (get_take ps k level p h there)))
    ∙ ap (λ qs. routine_of structs fs (routines_of structs fs [] qs) k p) (take_take ps k level h)

pub entry_count : (k : ℕ) (name : List ℕ) (b : Bool) → b ≡ is_interface name → length (call_entry k name) ≡ (if b then 1 else 0)
entry_count k name b same =
    subst (λ (c : Bool). length {A = LoggedCall} (if c then record { path = []; procedure = k } ∷ [] else [])
    ≡ (if b then 1 else 0)) same (by_test b)
  where
    by_test : (c : Bool) → length {A = LoggedCall} (if c then record { path = []; procedure = k } ∷ [] else []) ≡ (if c then 1 else 0)
    by_test true = refl
    by_test false = refl

-- a call of a procedure: the body, after the call's entry
pub procedure_gives : (p : ProgramTree) (k level calls now steps : ℕ) (q : ProcedureTree) (b : Bool) (vs : List ℤ)
    (cells : Cells) (r : Seen) → k < level → slice_get p.procedures k ≡ Some q → b ≡ is_interface q.name →
    now ≡ calls + (if b then 1 else 0) → r ≡ seen now (run_stmts (scope_at p k q.of vs) q.body cells steps) →
    r ≡ seen calls
    ((routine_at (routines_of p.structs (functions_of [] p.pures) [] (take level p.procedures)) k).run vs cells steps)
procedure_gives p k level calls now steps q b vs cells r h there logged count last =
    last ∙ ap (λ c. seen c (run_stmts (scope_at p k q.of vs) q.body cells steps)) (count
    ∙ ap (λ n. calls + n) (sym (entry_count k q.name b logged)))
    ∙ sym (seen_behind calls (call_entry k q.name) (run_stmts (scope_at p k q.of vs) q.body cells steps))
    ∙ ap (λ (o : Routine). seen calls (o.run vs cells steps))
    (sym (routine_is p.structs (functions_of [] p.pures) p.procedures k level q h there))

-- a run in the instance at a field, by the numbers that it left there
pub child_left : (f calls : ℕ) (cells inner zeros : Cells) (r : Result (Unit {0}) Stuck) (t s : List ℤ) (cost : Cost)
    (o : Outcome) → ended inner r t cost ≡ seen calls o → set_cell cells f (object (filled inner t)) ≡ filled zeros s →
    ended zeros r s cost ≡ seen calls (in_child f cells o)
child_left f calls cells inner zeros (Ok u) t s cost o given left =
    child_ran f calls cost.steps cost.calls cells (filled inner t) (filled zeros s) o given left
child_left f calls cells inner zeros (Err at) t s cost o given left =
    child_halted f calls cells (filled inner t) (filled zeros s) at o given left

-- the same for the target of a call
pub target_left : (f calls steps : ℕ) (target : Target) (cells now zeros : Cells) (of k : ℕ) (all : List Cells)
    (r : Result (Unit {0}) Stuck) (t s : List ℤ) (cost : Cost) (go : Cells → ℕ → Outcome) (part : List ℤ) →
    target ≡ Target.Child f → of ≡ k → fields_at cells f ≡ filled (slice_index_or all k no_cells) part →
    ended (slice_index_or all of no_cells) r t cost ≡ seen calls
    (go (filled (slice_index_or all of no_cells) part) steps) →
    set_cell cells f (object (filled (slice_index_or all k no_cells) t)) ≡ filled zeros s →
    ended zeros r s cost ≡ seen calls (on_target target go cells steps)
target_left f calls steps target cells now zeros of k all r t s cost go part is same inner given left =
    child_left f calls cells (slice_index_or all k no_cells) zeros r t s cost (go (fields_at cells f) steps)
    ((λ i. ended (slice_index_or all (sym same i) no_cells) r t cost) ∙ given
    ∙ (λ i. seen calls (go (filled (slice_index_or all (same i) no_cells) part) steps))
    ∙ (λ i. seen calls (go (sym inner i) steps))) left ∙ (λ i. seen calls (on_target (sym is i) go cells steps))
