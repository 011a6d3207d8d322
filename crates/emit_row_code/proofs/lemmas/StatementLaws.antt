-- The statements for one row, one trigger or one child do what is said of them.
use Rattle.std.proofs.Common.{◌≡◌, refl, sym, subst, ap, ◌∙◌, ℕ, ◌+◌, ◌<◌, ◌≤◌, Bool, true, false, if◌then◌else◌, List, [], ◌∷◌, map, ℤ, pos, arith}
use Rattle.std.specs.Prelude.{Option, unsigned_abs, ◌^◌}
use Rattle.std.specs.List.{AllZip}
use Rattle.diagram_activity.specs.declared.TrigMem.TheVariants.{Low, High}
use Rattle.diagram_activity.specs.Activity.{is_high, next_memory, memory_number}
use Rattle.c_syntax.specs.declared.CType.{CType}
use Rattle.c_syntax.specs.declared.Leaf.{Leaf}
use Rattle.c_syntax.specs.declared.Target.TheVariants.{Child}
use Rattle.c_syntax.specs.Tree.{ExprTree, read, CondTree, call, no_stmts, exprs_of_list}
use Rattle.c_semantics.specs.Cells.{Cells, number, set_cell, fields_at}
use Rattle.c_semantics.specs.Values.{gives, eval, Function, functions_of, is_in_type, leaf_reads, reads, step_limit}
use Rattle.c_semantics.specs.Machine.{arguments, in_child, Routine, routine_at, Scope, run_stmts}
use Rattle.c_semantics.proofs.lemmas.CallLaws.{arguments_are_passed, child_calls_stay_inside}
use Rattle.c_semantics.proofs.lemmas.WithoutSteps.{gives_read}
use Rattle.diagram_blocks.specs.Value.{rhs}
use Rattle.emit_row_code.specs.Computed.{returns}
use Rattle.emit_row_code.specs.Laws.{RowsAreComputed}
use Rattle.emit_row_code.specs.RowCode.{written, rhs_code}
use Rattle.emit_row_code.specs.TestCode.{level_code}
use Rattle.emit_row_code.specs.StatementCode.{only_if, store_code, child_call}
use Rattle.emit_row_code.specs.StatementLaws.{leaves, test_steps, TestsTo, Takes, ValuesAreStored, ValuesAreReset, MemoriesAreStored, RowsAreStored, TriggersAreStored, CallsAreMade, ResetsAreCalled}
use Rattle.emit_row_code.proofs.lemmas.TestLaws.{level_gives}
use Rattle.emit_row_code.proofs.lemmas.WrittenNumbers.{gives_written}
use Rattle.emit_row_code.proofs.StatementRuns.{few_test_steps, nothing_runs, alone_runs, guarded_runs, only_if_runs, store_runs}

-- ---- Values and memories

pub values_are_stored : ValuesAreStored
values_are_stored scope cells field runs r value v calls steps runs_to comes takes room =
    guarded_runs scope cells runs r (store_code field value) no_stmts steps runs_to (omega (arith, room)) ∙ by r refl
  where
    few : test_steps runs ≤ 1
    few = few_test_steps runs

    by : (b : Bool) → r ≡ b →
        (if b then run_stmts scope (store_code field value) else run_stmts scope no_stmts) cells (steps + test_steps runs)
        ≡ (if b then leaves (set_cell cells field (number v)) (steps + test_steps runs + 1 + calls) (field ∷ [])
        else leaves cells (steps + test_steps runs) [])
    by true is = store_runs scope cells field value v (steps + test_steps runs) (steps + test_steps runs + 1 + calls)
        (comes is (steps + test_steps runs + 1) (omega (arith, few, room))) (takes is) (omega (arith, few, room))
    by false is = nothing_runs scope cells (steps + test_steps runs)

pub rows_are_stored : RowsAreComputed → RowsAreStored
rows_are_stored computed ps scope cells field runs r op given types memory m steps prelude functions tests can room =
    values_are_stored scope cells field runs r e v calls steps tests comes (λ is. (can is).takes) room
  where
    e : ExprTree
    e = rhs_code op given types memory

    vs : List ℤ
    vs = map (leaf_reads scope.values cells) given

    v : ℤ
    v = rhs op vs m

    calls : ℕ
    calls = returns op types vs

    comes : r ≡ true → (count : ℕ) → count + 2 ≤ step_limit →
        eval scope.functions (reads scope.values cells) 0 e count ≡ gives v (count + calls)
    comes is count more =
        let here = can is in
        let known : (n : ℕ) → eval (functions_of [] ps) (reads scope.values cells) 0 memory n ≡ gives m n =
        λ n. subst (λ fs. eval fs (reads scope.values cells) 0 memory n ≡ gives m n) functions (here.remembers n) in
        subst (λ fs. eval fs (reads scope.values cells) 0 e count ≡ gives v (count + calls)) (sym functions)
        (computed op given types memory m ps (reads scope.values cells) 0 count prelude here.evaluable here.of_types more known)

-- a start is stored where a test holds
started : (scope : Scope) (cells : Cells) (field : ℕ) (test : Option CondTree) (b : Bool) (start : ℤ) (steps : ℕ) →
    TestsTo scope cells false test b → (b ≡ true → Takes scope field start) → unsigned_abs start < 2 ^ 63 → steps + 2 ≤ step_limit →
    run_stmts scope (only_if test (store_code field (written start))) cells steps
    ≡ (if b then leaves (set_cell cells field (number start)) (steps + test_steps test + 1) (field ∷ [])
    else leaves cells (steps + test_steps test) [])
started scope cells field test b start steps tests takes small room =
    only_if_runs scope cells test b (store_code field (written start)) steps tests (omega (arith, room)) ∙ by b refl
  where
    few : test_steps test ≤ 1
    few = few_test_steps test

    by : (t : Bool) → b ≡ t →
        (if t then run_stmts scope (store_code field (written start)) else run_stmts scope no_stmts) cells (steps + test_steps test)
        ≡ (if t then leaves (set_cell cells field (number start)) (steps + test_steps test + 1) (field ∷ [])
        else leaves cells (steps + test_steps test) [])
    by true is = store_runs scope cells field (written start) start (steps + test_steps test) (steps + test_steps test + 1)
        (gives_written scope.functions (reads scope.values cells) 0 start small (steps + test_steps test + 1)) (takes is)
        (omega (arith, few, room))
    by false is = nothing_runs scope cells (steps + test_steps test)

pub values_are_reset : ValuesAreReset
values_are_reset = started

pub memories_are_stored : MemoriesAreStored
memories_are_stored scope cells field runs off r o input start steps runs_to off_to takes starts small room =
    guarded_runs scope cells runs r (store_code field (read input)) (only_if off (store_code field (written start))) steps runs_to
    (omega (arith, room)) ∙ by r refl
  where
    v : ℤ
    v = leaf_reads scope.values cells input

    few : test_steps runs ≤ 1
    few = few_test_steps runs

    by : (b : Bool) → r ≡ b →
        (if b then run_stmts scope (store_code field (read input))
        else run_stmts scope (only_if off (store_code field (written start)))) cells (steps + test_steps runs)
        ≡ (if b then leaves (set_cell cells field (number v)) (steps + test_steps runs + 1) (field ∷ [])
        else if o then leaves (set_cell cells field (number start)) (steps + test_steps runs + test_steps off + 1) (field ∷ [])
        else leaves cells (steps + test_steps runs + test_steps off) [])
    by true is = store_runs scope cells field (read input) v (steps + test_steps runs) (steps + test_steps runs + 1)
        (gives_read scope.functions (reads scope.values cells) 0 input (steps + test_steps runs + 1)) (takes is)
        (omega (arith, few, room))
    by false is = started scope cells field off o start (steps + test_steps runs) off_to starts small (omega (arith, few, room))

-- ---- The trigger

pub triggers_are_stored : TriggersAreStored
triggers_are_stored scope cells field trigger memory steps type room =
    store_runs scope cells field (level_code trigger) (memory_number (next_memory true memory v)) steps (steps + 1)
    (level_gives scope.functions (reads scope.values cells) 0 trigger memory (steps + 1)) (in_byte (is_high v)) (omega (arith, room))
  where
    v : ℤ
    v = leaf_reads scope.values cells trigger

    in_byte : (b : Bool) → Takes scope field (memory_number (if b then High else Low))
    in_byte true = ap (λ t. is_in_type t (pos 2)) type
    in_byte false = ap (λ t. is_in_type t (pos 1)) type

-- ---- Children

module _ (functions : List Function) (values : List ℤ) (cells : Cells) where
  arguments_pass : (types : List CType) (given : List Leaf) (steps : ℕ) →
      AllZip (λ type leaf. is_in_type type (leaf_reads values cells leaf) ≡ true) types given →
      arguments functions (reads values cells) 0 types (exprs_of_list (map read given)) steps
      ≡ gives (map (leaf_reads values cells) given) steps
  arguments_pass [] [] steps fit = (arguments_are_passed functions (reads values cells) 0 steps).none []
  arguments_pass [] (l ∷ given) steps fit = absurd fit
  arguments_pass (t ∷ types) [] steps fit = absurd fit
  arguments_pass (t ∷ types) (l ∷ given) steps fit =
      (arguments_are_passed functions (reads values cells) 0 steps).passed t types (read l) (exprs_of_list (map read given))
      (leaf_reads values cells l) (map (leaf_reads values cells) given) steps steps
      (gives_read functions (reads values cells) 0 l steps) fit.0 (arguments_pass types given steps fit.1)

module _ (scope : Scope) (cells : Cells) (procedure field : ℕ) where
  abbrev routine : Routine
  routine = routine_at scope.routines procedure

  call_runs : (given : List Leaf) (values : List ℤ) (steps : ℕ) →
      arguments scope.functions (reads scope.values cells) 0 routine.params (exprs_of_list (map read given)) (steps + 1)
      ≡ gives values (steps + 1) → steps < step_limit →
      run_stmts scope (child_call procedure field given) cells steps
      ≡ in_child field cells (routine.run values (fields_at cells field) (steps + 1))
  call_runs given values steps pass room =
      let es = exprs_of_list (map read given) in
      alone_runs scope cells (call 0 procedure (Child field) es) steps
      ∙ (child_calls_stay_inside scope 0 procedure field es cells steps).does values (steps + 1) room pass

pub calls_are_made : CallsAreMade
calls_are_made scope cells active a procedure field given steps tests fit room =
    guarded_runs scope cells active a (child_call procedure field given) no_stmts steps tests (omega (arith, room)) ∙ by a refl
  where
    few : test_steps active ≤ 1
    few = few_test_steps active

    by : (b : Bool) → a ≡ b →
        (if b then run_stmts scope (child_call procedure field given) else run_stmts scope no_stmts) cells (steps + test_steps active)
        ≡ (if b then in_child field cells ((routine_at scope.routines procedure).run (map (leaf_reads scope.values cells) given)
        (fields_at cells field) (steps + test_steps active + 1))
        else leaves cells (steps + test_steps active) [])
    by true is = call_runs scope cells procedure field given (map (leaf_reads scope.values cells) given) (steps + test_steps active)
        (arguments_pass scope.functions scope.values cells (routine_at scope.routines procedure).params given
        (steps + test_steps active + 1) (fit is)) (omega (arith, few, room))
    by false is = nothing_runs scope cells (steps + test_steps active)

pub resets_are_called : ResetsAreCalled
resets_are_called scope cells off o procedure field steps tests room =
    only_if_runs scope cells off o (child_call procedure field []) steps tests (omega (arith, room)) ∙ by o
  where
    few : test_steps off ≤ 1
    few = few_test_steps off

    by : (b : Bool) →
        (if b then run_stmts scope (child_call procedure field []) else run_stmts scope no_stmts) cells (steps + test_steps off)
        ≡ (if b then in_child field cells ((routine_at scope.routines procedure).run [] (fields_at cells field)
        (steps + test_steps off + 1)) else leaves cells (steps + test_steps off) [])
    by true = call_runs scope cells procedure field [] [] (steps + test_steps off)
        ((arguments_are_passed scope.functions (reads scope.values cells) 0 (steps + test_steps off + 1)).none
        (routine_at scope.routines procedure).params) (omega (arith, few, room))
    by false = nothing_runs scope cells (steps + test_steps off)
