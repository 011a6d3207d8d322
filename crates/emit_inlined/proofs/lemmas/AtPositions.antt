-- What holds of the procedures of a lawful program, each by its position.
use Rattle.std.specs.Prelude.{◌≡◌, ℕ, zero, suc, ◌+◌, ◌<◌, ◌≤◌, List, [], ◌∷◌, ◌++◌, length, take, Some, unwrap_or, slice_get}
use Rattle.std.specs.List.{AllByRecursion}
use Rattle.std.proofs.Common.{refl, sym, ap, subst, ◌∙◌, zero-add, arith}
use Rattle.std.proofs.lemmas.List.{append-nil, append_assoc}
use Rattle.c_syntax.specs.Tree.{StmtTree, assign, assign_at, branch, call, StmtTrees, no_stmts, more_stmts, PureTree, StructTree, struct_fields, field_types, ProcedureTree, ProgramTree}
use Rattle.c_syntax.specs.Lawful.{Reach, IsLawfulStmt, AreLawfulStmts, IsLawfulProcedure, AreProcedures}
use Rattle.c_syntax.specs.declared.code.CType.{CType}
use Rattle.c_semantics.specs.Values.{Function, functions_of}
use Rattle.c_semantics.specs.Machine.{behind, call_entry, routine_at, routines_of, program_routines}
use Rattle.c_semantics.specs.CallLaws.{body_scope, IsRoutineOf}
use Rattle.c_semantics.specs.NumberingLaws.{Calls, AllCalls, StandInOrder}
use Rattle.c_semantics.proofs.lemmas.NumberingLaws.{procedures_stand_in_order}
use Rattle.emit_pruned.proofs.lemmas.Numbers.{all-left, all-right, all-both}
use Rattle.emit_inlined.specs.Inlined.{stmt_calls, stmts_calls}
use Rattle.emit_inlined.proofs.lemmas.KeptPlaces.{take-found}

-- ---- Lawful procedures

module _ (pures : List PureTree) (structs : List StructTree) where
  -- each of lawful procedures is lawful among those before it
  pub procedure-lawful : (ps earlier : List ProcedureTree) (k : ℕ) (q : ProcedureTree) → AreProcedures pures structs earlier ps →
      slice_get ps k ≡ Some q → IsLawfulProcedure pures structs (earlier ++ take k ps) q
  procedure-lawful [] earlier k q lawful there = absurd (let wrong : ⊥ = cc there in wrong)
  procedure-lawful (p ∷ ps) earlier zero q lawful there =
      subst (λ before. IsLawfulProcedure pures structs before q) (sym (append-nil earlier))
      (subst (IsLawfulProcedure pures structs earlier) (ap (λ o. unwrap_or o p) there) lawful.0)
  procedure-lawful (p ∷ ps) earlier (suc k) q lawful there =
      subst (λ before. IsLawfulProcedure pures structs before q) (append_assoc earlier (p ∷ []) (take k ps))
      (procedure-lawful ps (earlier ++ p ∷ []) k q lawful.1 there)

  -- and procedures each of which is so are lawful
  pub procedures-lawful : (ps earlier : List ProcedureTree) →
      ((k : ℕ) (q : ProcedureTree) → slice_get ps k ≡ Some q → IsLawfulProcedure pures structs (earlier ++ take k ps) q) →
      AreProcedures pures structs earlier ps
  procedures-lawful [] earlier each = tt
  procedures-lawful (p ∷ ps) earlier each = (
    subst (λ before. IsLawfulProcedure pures structs before p) (append-nil earlier) (each zero p refl),
    procedures-lawful ps (earlier ++ p ∷ [])
        (λ k q there. subst (λ before. IsLawfulProcedure pures structs before q) (sym (append_assoc earlier (p ∷ []) (take k ps)))
        (each (suc k) q there)),
  )

-- ---- Calls

module _ (reach : Reach) (n : ℕ) (within : (j : ℕ) (q : ProcedureTree) → slice_get reach.procedures j ≡ Some q → j < n) where
  mutual
    stmt-calls-within : (x : StmtTree) → IsLawfulStmt reach x → AllByRecursion (λ j. j < n) (stmt_calls x)
    stmt-calls-within (assign line f e) h = tt
    stmt-calls-within (assign_at line f index e) h = tt
    stmt-calls-within (branch line test on_true on_false) h =
        all-both (λ j. j < n) (stmts_calls on_true) (stmts_calls on_false) (calls-within on_true h.1) (calls-within on_false h.2)
    stmt-calls-within (call line k target es) (q, there, of, count, all) = (within k q there, tt)

    -- lawful statements call procedures that there are
    pub calls-within : (xs : StmtTrees) → AreLawfulStmts reach xs → AllByRecursion (λ j. j < n) (stmts_calls xs)
    calls-within no_stmts h = tt
    calls-within (more_stmts x xs) h =
        all-both (λ j. j < n) (stmt_calls x) (stmts_calls xs) (stmt-calls-within x h.0) (calls-within xs h.1)

module _ (P : ℕ → Type 0) where
  mutual
    stmt-calls-each : (x : StmtTree) → AllByRecursion P (stmt_calls x) → Calls (λ j target. P j) x
    stmt-calls-each (assign line f e) h = tt
    stmt-calls-each (assign_at line f index e) h = tt
    stmt-calls-each (branch line test on_true on_false) h = (
      calls-each on_true (all-left P (stmts_calls on_true) (stmts_calls on_false) h),
      calls-each on_false (all-right P (stmts_calls on_true) (stmts_calls on_false) h),
    )
    stmt-calls-each (call line k target es) h = h.0

    -- what holds of each procedure that statements call holds at each call
    calls-each : (xs : StmtTrees) → AllByRecursion P (stmts_calls xs) → AllCalls (λ j target. P j) xs
    calls-each no_stmts h = tt
    calls-each (more_stmts x xs) h =
        (stmt-calls-each x (all-left P (stmt_calls x) (stmts_calls xs) h), calls-each xs (all-right P (stmt_calls x) (stmts_calls xs) h))

-- what the body of a procedure may read and call
abbrev pub reach_of : ProgramTree → ℕ → ProcedureTree → Reach
reach_of p k q = record {
  pures = p.pures;
  structs = p.structs;
  procedures = take k p.procedures;
  fields = struct_fields p.structs q.of;
  params = length q.params;
  of = q.of;
}

-- the body of a procedure is lawful
pub body-lawful : (p : ProgramTree) (k : ℕ) (q : ProcedureTree) → AreProcedures p.pures p.structs [] p.procedures →
    slice_get p.procedures k ≡ Some q → AreLawfulStmts (reach_of p k q) q.body
body-lawful p k q lawful there = (procedure-lawful p.pures p.structs p.procedures [] k q lawful there).body

-- the body of a procedure calls only earlier ones
pub body-calls : (p : ProgramTree) (k n : ℕ) (q : ProcedureTree) → k ≤ n → AreProcedures p.pures p.structs [] p.procedures →
    slice_get p.procedures k ≡ Some q → AllByRecursion (λ j. j < n) (stmts_calls q.body)
body-calls p k n q most lawful there =
    calls-within (reach_of p k q) n
    (λ j x found. let before = (take-found p.procedures j k x found).0 in omega (arith, before, most)) q.body
    (body-lawful p k q lawful there)

-- ---- Routines

-- the functions of a program
abbrev pub functions_in : ProgramTree → List Function
functions_in p = functions_of [] p.pures

-- a procedure of a program does what its body does among all procedures
pub routine-in : (p : ProgramTree) (k : ℕ) (q : ProcedureTree) → AreProcedures p.pures p.structs [] p.procedures →
    slice_get p.procedures k ≡ Some q →
    IsRoutineOf (functions_in p) (program_routines p) (field_types (struct_fields p.structs q.of)) k q (routine_at (program_routines p) k)
routine-in p k q lawful there = subst
    (λ n. IsRoutineOf (functions_in p) (program_routines p) types n q (routine_at (program_routines p) n)) (zero-add k)
    (record {
      params = own.params;
      run = λ values cells steps. own.run values cells steps
          ∙ ap (behind (call_entry (0 + k) q.name) [])
          (sym (stand.same (body_scope (functions_in p) (program_routines p) types values) k q.body cells steps below));
    })
  where
    types : List CType
    types = field_types (struct_fields p.structs q.of)

    stand : StandInOrder p.structs (functions_in p) [] p.procedures
    stand = procedures_stand_in_order p.structs (functions_in p) [] p.procedures

    own : IsRoutineOf (functions_in p) (routines_of p.structs (functions_in p) [] (take k p.procedures)) types (0 + k) q
        (routine_at (program_routines p) (0 + k))
    own = stand.routine k q there

    below : AllCalls (λ j target. j < 0 + k) q.body
    below = calls-each (λ j. j < 0 + k) q.body (body-calls p k (0 + k) q (omega arith) lawful there)
