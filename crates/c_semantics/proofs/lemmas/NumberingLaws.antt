-- What code sees of procedures: those that it calls, by whatever numbers, and of a program those before it.
use Rattle.std.proofs.Common.{◌≡◌, refl, sym, ap, ◌∙◌, ℕ, zero, suc, ◌+◌, ◌<◌, List, [], ◌∷◌, ◌++◌, length, take, if◌then◌else◌, subst, arith}
use Rattle.std.proofs.lemmas.List.{length-append}
use Rattle.c_syntax.specs.declared.code.Target.{Target}
use Rattle.c_syntax.specs.Tree.{StmtTree, assign, assign_at, branch, call, StmtTrees, no_stmts, more_stmts, StructTree, struct_fields, field_types, ProcedureTree}
use Rattle.c_semantics.specs.Values.{Function, eval_cond, reads}
use Rattle.c_semantics.specs.Machine.{then_run, begin_step, on_answer, arguments, on_target, Routine, routine_at, routine_of, routines_of, Scope, run_stmt, run_stmts}
use Rattle.c_semantics.specs.CallLaws.{IsRoutineOf}
use Rattle.c_semantics.specs.NumberingLaws.{with_routines, Calls, AllCalls, CodeSeesWhatItCalls, IsRenumbered, AreRenumbered, ProcedureNumbersAreFree, StandInOrder, ProceduresStandInOrder}
use Rattle.c_semantics.proofs.lemmas.Runs.{routines_of-before, routines_of-at}

-- ---- Another numbering

module _ (s : Scope) (routines : List Routine) where
  -- the procedures under two numbers are the same
  abbrev Same : ℕ → ℕ → Type 0
  Same k j = routine_at s.routines k ≡ routine_at routines j

  mutual
    renumbered_stmt : (x y : StmtTree) → IsRenumbered Same x y → run_stmt s x ≡ run_stmt (with_routines s routines) y
    renumbered_stmt (assign line f e) y is = ap (run_stmt (with_routines s routines)) is
    renumbered_stmt (assign_at line f index e) y is = ap (run_stmt (with_routines s routines)) is
    renumbered_stmt (branch line test on_true on_false) y (first, second, is, firsts, seconds) =
        (λ i cells steps. begin_step line cells steps
        (λ count. on_answer (eval_cond s.functions (reads s.values cells) line test count) cells
        (λ holds. (if holds then renumbered_stmts on_true first firsts i else renumbered_stmts on_false second seconds i) cells)))
        ∙ ap (run_stmt (with_routines s routines)) is
    renumbered_stmt (call line k target es) y (j, is, same) =
        (λ i cells steps. begin_step line cells steps
        (λ count. on_answer (arguments s.functions (reads s.values cells) line (same i).params es count) cells
        (λ values. on_target target ((same i).run values) cells)))
        ∙ ap (run_stmt (with_routines s routines)) is

    renumbered_stmts : (xs ys : StmtTrees) → AreRenumbered Same xs ys → run_stmts s xs ≡ run_stmts (with_routines s routines) ys
    renumbered_stmts no_stmts ys is = ap (run_stmts (with_routines s routines)) is
    renumbered_stmts (more_stmts x xs) ys (t, ts, is, one, others) =
        (λ i cells steps. then_run (renumbered_stmt x t one i cells steps) (renumbered_stmts xs ts others i))
        ∙ ap (run_stmts (with_routines s routines)) is

pub procedure_numbers_are_free : ProcedureNumbersAreFree
procedure_numbers_are_free scope routines stmts others cells steps are =
    ap (λ go. go cells steps) (renumbered_stmts scope routines stmts others are)

-- ---- The same numbers

module _ (R : ℕ → ℕ → Type 0) (P : ℕ → Target → Type 0) (each : (k : ℕ) (target : Target) → P k target → R k k) where
  mutual
    itself_stmt : (x : StmtTree) → Calls P x → IsRenumbered R x x
    itself_stmt (assign line f e) calls = refl
    itself_stmt (assign_at line f index e) calls = refl
    itself_stmt (branch line test on_true on_false) calls = (on_true, on_false, refl, itself on_true calls.0, itself on_false calls.1)
    itself_stmt (call line k target es) calls = (k, refl, each k target calls)

    itself : (xs : StmtTrees) → AllCalls P xs → AreRenumbered R xs xs
    itself no_stmts calls = refl
    itself (more_stmts x xs) calls = (x, xs, refl, itself_stmt x calls.0, itself xs calls.1)

pub code_sees_what_it_calls : CodeSeesWhatItCalls
code_sees_what_it_calls scope routines stmts cells steps same =
    procedure_numbers_are_free scope routines stmts stmts cells steps
    (itself (Same scope routines) (λ k target. Same scope routines k k) (λ k target h. h) stmts same)

-- ---- The procedures of a program

module _ (structs : List StructTree) (functions : List Function) where
  count_routines : (earlier : List Routine) (ps : List ProcedureTree) → length (routines_of structs functions earlier ps)
      ≡ length earlier + length ps
  count_routines earlier [] = omega arith
  count_routines earlier (p ∷ ps) =
      let r : Routine = routine_of structs functions earlier (length earlier) p in
      let rest = count_routines (earlier ++ r ∷ []) ps in
      omega (arith, rest, length-append earlier (r ∷ []))

  found_among_first : (earlier : List Routine) (ps : List ProcedureTree) (j k : ℕ) → k < length earlier + j →
      routine_at (routines_of structs functions earlier ps) k ≡ routine_at (routines_of structs functions earlier (take j ps)) k
  found_among_first earlier [] zero k within = refl
  found_among_first earlier [] (suc j) k within = refl
  found_among_first earlier (p ∷ ps) zero k within = routines_of-before structs functions earlier (p ∷ ps) k (omega (arith, within))
  found_among_first earlier (p ∷ ps) (suc j) k within =
      let r : Routine = routine_of structs functions earlier (length earlier) p in
      found_among_first (earlier ++ r ∷ []) ps j k (omega (arith, within, length-append earlier (r ∷ [])))

  -- the routine that is made of a procedure is its routine
  is_its_routine : (earlier : List Routine) (number : ℕ) (p : ProcedureTree) →
      IsRoutineOf functions earlier (field_types (struct_fields structs p.of)) number p (routine_of structs functions earlier number p)
  is_its_routine earlier number p = record { params = refl; run = λ values cells steps. refl }

  stand_in_order : (earlier : List Routine) (ps : List ProcedureTree) → StandInOrder structs functions earlier ps
  stand_in_order earlier ps = record {
    count = count_routines earlier ps;
    routine = λ j p there. subst (IsRoutineOf functions (routines_of structs functions earlier (take j ps))
        (field_types (struct_fields structs p.of)) (length earlier + j) p)
        (sym (routines_of-at structs functions earlier ps j p there))
        (is_its_routine (routines_of structs functions earlier (take j ps)) (length earlier + j) p);
    found = found_among_first earlier ps;
    same = λ scope j stmts cells steps below. procedure_numbers_are_free (with_routines scope (routines_of structs functions earlier ps))
        (routines_of structs functions earlier (take j ps)) stmts stmts cells steps
        (itself (Same (with_routines scope (routines_of structs functions earlier ps)) (routines_of structs functions earlier (take j ps)))
        (λ k target. k < length earlier + j) (λ k target. found_among_first earlier ps j k) stmts below);
  }

pub procedures_stand_in_order : ProceduresStandInOrder
procedures_stand_in_order structs functions earlier ps = stand_in_order structs functions earlier ps
