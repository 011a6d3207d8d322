-- A fused program refines the one that it is made of.
use Rattle.std.specs.Prelude.{◌≡◌, ℕ, ◌+◌, List, [], ◌∷◌, ◌++◌, map, length, Some, unwrap_or, if◌then◌else◌, bytes_eq, codes, ℤ}
use Rattle.std.specs.List.{position_from}
use Rattle.std.proofs.Common.{refl, sym, ap, ◌∙◌, arith}
use Rattle.std.proofs.lemmas.List.{length-append}
use Rattle.c_syntax.specs.Tree.{StmtTree, assign, assign_at, branch, call, StmtTrees, no_stmts, more_stmts, StructTree, struct_fields, field_types, ProcedureTree}
use Rattle.c_semantics.specs.Values.{Function, functions_of, reads}
use Rattle.c_semantics.specs.Machine.{Routine, no_routine, routine_at, routine_of, routines_of, call_entry, Scope, run_stmt, run_stmts}
use Rattle.c_refinement.specs.Evaluations.{AreSteady}
use Rattle.c_refinement.specs.Refinement.{kept_all, in_place}
use Rattle.c_refinement.specs.Routines.{RefinesRoutine, RefinesStmt, RefinesStmts}
use Rattle.c_refinement.specs.Laws.{KeepsNamed}
use Rattle.c_refinement.proofs.lemmas.Answers.{cond-refines}
use Rattle.c_refinement.proofs.lemmas.Outcomes.{behind-refines, outcomes-compose, same-calls}
use Rattle.c_refinement.proofs.lemmas.Code.{assign-refines, assign_at-refines, branch-refines, call-refines, more-refine, same-refine}
use Rattle.c_refinement.proofs.lemmas.Programs.{both-appended, functions-steady, procedures_refine}
use Rattle.emit_fused.specs.Simplified.{simplified_expr, simplified_exprs}
use Rattle.emit_fused.specs.Fused.{put_before, where_fails, fused_stmt, fused_stmts, fused_procedure, fused}
use Rattle.emit_fused.specs.Laws.{FusedRefines}
use Rattle.emit_fused.proofs.lemmas.SimplifiedRefines.{expr-simplified, arguments-simplified}
use Rattle.emit_fused.proofs.FusedParts.{further, else-fails, placed-before}

-- ---- Statements

-- among procedures that do the same from fewer steps
module _ (s : Scope) (steady : AreSteady s.functions)
    (itself : (k : ℕ) → RefinesRoutine in_place (routine_at s.routines k) (routine_at s.routines k)) where
  mutual
    pub stmt-fused : (x : StmtTree) → RefinesStmt in_place s s x (fused_stmt x)
    stmt-fused (assign line f e) cells n m fewer =
        assign-refines in_place s s line line cells n m fewer f e (simplified_expr e) refl
        (expr-simplified s.functions steady (reads s.values cells) line e)
    stmt-fused (assign_at line f index e) cells n m fewer =
        assign_at-refines in_place s s line line cells n m fewer f index e (simplified_expr index) (simplified_expr e) refl
        (expr-simplified s.functions steady (reads s.values cells) line index)
        (expr-simplified s.functions steady (reads s.values cells) line e)
    stmt-fused (branch line test a b) cells n m fewer =
        outcomes-compose in_place in_place (run_stmt s (branch line test a b) cells n)
        (run_stmt s (branch line test (fused_stmts a) (fused_stmts b)) cells n)
        (run_stmt s (branch line test (fused_stmts a) (where_fails test (fused_stmts b))) cells m)
        (branch-refines in_place s s line line cells n n (omega arith) test test a b (fused_stmts a) (fused_stmts b)
        (cond-refines s.functions steady (reads s.values cells) line line test) (stmts-fused a) (stmts-fused b))
        (else-fails s steady itself line test (fused_stmts a) (fused_stmts b) cells n m fewer)
    stmt-fused (call line k target es) cells n m fewer =
        call-refines in_place s s line line cells n m fewer k k target es (simplified_exprs es) (itself k)
        (arguments-simplified s.functions steady (reads s.values cells) line es)

    pub stmts-fused : (xs : StmtTrees) → RefinesStmts in_place s s xs (fused_stmts xs)
    stmts-fused no_stmts = same-refine in_place s s.routines steady itself no_stmts
    stmts-fused (more_stmts x xs) =
        further s steady itself (more_stmts x xs) (more_stmts (fused_stmt x) (fused_stmts xs)) (put_before (fused_stmt x) (fused_stmts xs))
        (more-refine in_place s s x (fused_stmt x) xs (fused_stmts xs) (stmt-fused x) (stmts-fused xs))
        (placed-before s steady itself (fused_stmt x) (fused_stmts xs))

-- ---- Procedures

module _ (structs : List StructTree) (functions : List Function) (steady : AreSteady functions) where
  abbrev Each : List Routine → List Routine → Type 0
  Each earlier others = (k : ℕ) → RefinesRoutine in_place (routine_at earlier k) (routine_at others k)

  -- what the body of a procedure sees
  abbrev sees : List Routine → ProcedureTree → List ℤ → Scope
  sees earlier q values = record {
    functions = functions;
    routines = earlier;
    types = field_types (struct_fields structs q.of);
    values = values;
  }

  -- a procedure with another body
  abbrev with_body : ProcedureTree → StmtTrees → ProcedureTree
  with_body q body = record { name = q.name; private = q.private; of = q.of; params = q.params; body = body }

  routine-refines : (earlier others : List Routine) (k j : ℕ) (q : ProcedureTree) (body : StmtTrees) → j ≡ k →
      ((values : List ℤ) → RefinesStmts in_place (sees earlier q values) (sees others q values) q.body body) →
      RefinesRoutine in_place (routine_of structs functions earlier k q) (routine_of structs functions others j (with_body q body))
  routine-refines earlier others k j q body at refines = record {
    params = refl;
    run = λ values cells n m fewer. behind-refines in_place (call_entry k q.name) (call_entry j q.name) [] []
        (run_stmts (sees earlier q values) q.body cells n) (run_stmts (sees others q values) body cells m)
        (ap (λ i. call_entry i q.name) at ∙ sym (same-calls (call_entry k q.name))) refl (refines values cells n m fewer);
  }

  -- a body in the other scope, whose procedures refine those of this one
  body-fused : (earlier others : List Routine) (q : ProcedureTree) → Each earlier earlier → Each earlier others → (values : List ℤ) →
      RefinesStmts in_place (sees earlier q values) (sees others q values) q.body (fused_stmts q.body)
  body-fused earlier others q itself each values cells n m fewer =
      outcomes-compose in_place in_place (run_stmts (sees earlier q values) q.body cells n)
      (run_stmts (sees earlier q values) (fused_stmts q.body) cells n) (run_stmts (sees others q values) (fused_stmts q.body) cells m)
      (stmts-fused (sees earlier q values) steady itself q.body cells n n (omega arith))
      (same-refine in_place (sees earlier q values) others steady each (fused_stmts q.body) cells n m fewer)

  routines-fused : (earlier others : List Routine) (qs : List ProcedureTree) → length others ≡ length earlier → Each earlier earlier →
      Each earlier others → Each (routines_of structs functions earlier qs) (routines_of structs functions others (map fused_procedure qs))
  routines-fused earlier others [] same itself each = each
  routines-fused earlier others (q ∷ qs) same itself each =
      let r : Routine = routine_of structs functions earlier (length earlier) q in
      let t : Routine = routine_of structs functions others (length others) (fused_procedure q) in
      routines-fused (earlier ++ r ∷ []) (others ++ t ∷ []) qs
      (omega (arith, same, length-append earlier (r ∷ []), length-append others (t ∷ [])))
      (both-appended (RefinesRoutine in_place) no_routine r r earlier earlier refl itself
      (routine-refines earlier earlier (length earlier) (length earlier) q q.body refl
      (λ values. same-refine in_place (sees earlier q values) earlier steady itself q.body)))
      (both-appended (RefinesRoutine in_place) no_routine r t earlier others same each
      (routine-refines earlier others (length earlier) (length others) q (fused_stmts q.body) same
      (body-fused earlier others q itself each)))

  none-each : Each [] []
  none-each k = record { params = refl; run = λ values cells n m fewer. record { cells = refl; steps = fewer; log = refl; stores = refl } }

-- ---- Programs

same-position : (name : List ℕ) (n : ℕ) (qs : List ProcedureTree) →
    position_from (λ q. bytes_eq q.name name) n (map fused_procedure qs) ≡ position_from (λ q. bytes_eq q.name name) n qs
same-position name n [] = refl
same-position name n (q ∷ qs) = ap (λ rest. if bytes_eq q.name name then Some n else rest) (same-position name (n + 1) qs)

pub fused_refines : FusedRefines
fused_refines p = procedures_refine in_place kept_all p (fused p) (record {
  structs = refl;
  routines = λ k kept. routines-fused p.structs (functions_of [] p.pures) (functions-steady p.pures) [] [] p.procedures refl
      (none-each p.structs (functions_of [] p.pures) (functions-steady p.pures))
      (none-each p.structs (functions_of [] p.pures) (functions-steady p.pures)) k;
  start = named (codes "root_start");
  step = named (codes "root_step");
})
  where
    named : (name : List ℕ) → KeepsNamed in_place kept_all p (fused p) name
    named name = record { kept = refl; moved = ap (λ k. unwrap_or k 0) (same-position name 0 p.procedures) }
