-- Code that calls pure functions by other positions does the same where the functions that it calls are there.
use Rattle.std.specs.Prelude.{◌≡◌, ℕ, List, [], ◌∷◌, ◌++◌, map, length, if◌then◌else◌, ℤ, neg_ℤ, not}
use Rattle.std.specs.List.{AllByRecursion}
use Rattle.std.proofs.Common.{true, false, refl, ◌∙◌}
use Rattle.c_syntax.specs.declared.code.CType.{CType}
use Rattle.c_syntax.specs.declared.code.CType.TheVariants.{I64}
use Rattle.c_syntax.specs.declared.fault.Why.TheVariants.{Overflow, Range}
use Rattle.c_syntax.specs.Tree.{ExprTree, literal, neg, read, binary, pick, pure, item, ExprTrees, no_exprs, more_exprs, CondTree, compare, both, either, negated, StmtTree, assign, assign_at, branch, call, StmtTrees, no_stmts, more_stmts, StructTree, struct_fields, field_types, type_at, PureTree, ProcedureTree}
use Rattle.c_semantics.specs.Cells.{no_cells, items_at}
use Rattle.c_semantics.specs.Values.{gives, and_then, within, take_step, operate, Function, function_at, function_of, Reads, reads, index_in, eval, eval_all, eval_cond, compares}
use Rattle.base_core.specs.Numbers.{int_at}
use Rattle.c_semantics.specs.Machine.{behind, then_run, on_answer, begin_step, on_target, Routine, routine_at, routine_of, routines_of, call_entry, Scope, arguments, store, store_at, run_stmt, run_stmts}
use Rattle.emit_pruned.specs.Calls.{expr_functions, exprs_functions, cond_functions, stmt_functions, stmts_functions}
use Rattle.emit_pruned.specs.Pruned.{renumbered_expr, renumbered_exprs, renumbered_cond, renumbered_stmt, renumbered_stmts, renumbered_pure, renumbered_procedure}
use Rattle.emit_pruned.proofs.lemmas.Numbers.{all-left, all-right}

module _ (place : ℕ → ℕ) (functions others : List Function) where
  -- the function at a position is among the others at its place
  abbrev pub Agree : ℕ → Type 0
  Agree k = function_at others (place k) ≡ function_at functions k

  module _ (leaf : Reads) (line : ℕ) where
    mutual
      pub expr-same : (e : ExprTree) → AllByRecursion Agree (expr_functions e) →
          eval others leaf line (renumbered_expr place e) ≡ eval functions leaf line e
      expr-same (literal value) h = refl
      expr-same (neg e) h = λ i steps. and_then (expr-same e h i steps) (λ v count. within I64 Overflow line (neg_ℤ v) count)
      expr-same (read l) h = refl
      expr-same (binary op a b) h =
          let one = expr-same a (all-left Agree (expr_functions a) (expr_functions b) h) in
          let other = expr-same b (all-right Agree (expr_functions a) (expr_functions b) h) in
          (λ i steps. and_then (one i steps) (λ x count. and_then (other i count) (λ y end. operate op line x y end)))
      expr-same (pick test a b) h =
          let before = all-left Agree (cond_functions test ++ expr_functions a) (expr_functions b) h in
          let first = cond-same test (all-left Agree (cond_functions test) (expr_functions a) before) in
          let one = expr-same a (all-right Agree (cond_functions test) (expr_functions a) before) in
          let other = expr-same b (all-right Agree (cond_functions test ++ expr_functions a) (expr_functions b) h) in
          (λ i steps. and_then (first i steps) (λ holds. if holds then one i else other i))
      expr-same (pure k es) h =
          let values = exprs-same es h.1 in
          let called = h.0 in
          (λ i steps. and_then (values i steps) (called i))
      expr-same (item f index) h =
          let at = expr-same index h in
          (λ i steps. and_then (and_then (at i steps) (index_in line (leaf.array f))) (λ j count. gives (int_at (leaf.array f) j) count))

      pub exprs-same : (es : ExprTrees) → AllByRecursion Agree (exprs_functions es) →
          eval_all others leaf line (renumbered_exprs place es) ≡ eval_all functions leaf line es
      exprs-same no_exprs h = refl
      exprs-same (more_exprs e es) h =
          let one = expr-same e (all-left Agree (expr_functions e) (exprs_functions es) h) in
          let rest = exprs-same es (all-right Agree (expr_functions e) (exprs_functions es) h) in
          (λ i steps. and_then (one i steps) (λ v count. and_then (rest i count) (λ vs end. gives (v ∷ vs) end)))

      pub cond-same : (c : CondTree) → AllByRecursion Agree (cond_functions c) →
          eval_cond others leaf line (renumbered_cond place c) ≡ eval_cond functions leaf line c
      cond-same (compare how a b) h =
          let one = expr-same a (all-left Agree (expr_functions a) (expr_functions b) h) in
          let other = expr-same b (all-right Agree (expr_functions a) (expr_functions b) h) in
          (λ i steps. and_then (one i steps) (λ x count. and_then (other i count) (λ y end. gives (compares how x y) end)))
      cond-same (both a b) h =
          let one = cond-same a (all-left Agree (cond_functions a) (cond_functions b) h) in
          let other = cond-same b (all-right Agree (cond_functions a) (cond_functions b) h) in
          (λ i steps. and_then (one i steps) (λ holds. if holds then other i else gives false))
      cond-same (either a b) h =
          let one = cond-same a (all-left Agree (cond_functions a) (cond_functions b) h) in
          let other = cond-same b (all-right Agree (cond_functions a) (cond_functions b) h) in
          (λ i steps. and_then (one i steps) (λ holds. if holds then gives true else other i))
      cond-same (negated a) h = λ i steps. and_then (cond-same a h i steps) (λ holds count. gives (not holds) count)

    pub arguments-same : (types : List CType) (es : ExprTrees) → AllByRecursion Agree (exprs_functions es) →
        arguments others leaf line types (renumbered_exprs place es) ≡ arguments functions leaf line types es
    arguments-same types no_exprs h = refl
    arguments-same [] (more_exprs e es) h = refl
    arguments-same (t ∷ types) (more_exprs e es) h =
        let one = expr-same e (all-left Agree (expr_functions e) (exprs_functions es) h) in
        let rest = arguments-same types es (all-right Agree (expr_functions e) (exprs_functions es) h) in
        (λ i steps. and_then (and_then (one i steps) (within t Range line))
        (λ v count. and_then (rest i count) (λ vs end. gives (v ∷ vs) end)))

  -- ---- Pure functions

  pub function-same : (f : PureTree) → AllByRecursion Agree (expr_functions f.body) →
      function_of others (renumbered_pure place f) ≡ function_of functions f
  function-same f h = λ i values steps. take_step f.line steps (expr-same (reads values no_cells) f.line f.body h i)

  -- ---- Statements

  module _ (routines : List Routine) (types : List CType) (values : List ℤ) where
    abbrev scope : List Function → Scope
    scope fs = record { functions = fs; routines = routines; types = types; values = values }

    mutual
      pub stmt-same : (x : StmtTree) → AllByRecursion Agree (stmt_functions x) →
          run_stmt (scope others) (renumbered_stmt place x) ≡ run_stmt (scope functions) x
      stmt-same (assign line f e) h =
          (λ i cells steps. begin_step line cells steps
          (λ count. on_answer (expr-same (reads values cells) line e h i count) cells
          (λ v end. store line (type_at types f) f v cells end)))
      stmt-same (assign_at line f index e) h =
          let first = all-left Agree (expr_functions index) (expr_functions e) h in
          let second = all-right Agree (expr_functions index) (expr_functions e) h in
          (λ i cells steps. begin_step line cells steps
          (λ count. on_answer (and_then (expr-same (reads values cells) line index first i count) (index_in line (items_at cells f))) cells
          (λ j mid. on_answer (expr-same (reads values cells) line e second i mid) cells
          (λ v end. store_at line (type_at types f) f j v cells end))))
      stmt-same (branch line test on_true on_false) h =
          let before = all-left Agree (cond_functions test ++ stmts_functions on_true) (stmts_functions on_false) h in
          let first = all-left Agree (cond_functions test) (stmts_functions on_true) before in
          let one = stmts-same on_true (all-right Agree (cond_functions test) (stmts_functions on_true) before) in
          let other = stmts-same on_false (all-right Agree (cond_functions test ++ stmts_functions on_true) (stmts_functions on_false) h) in
          (λ i cells steps. begin_step line cells steps
          (λ count. on_answer (cond-same (reads values cells) line test first i count) cells
          (λ holds. (if holds then one i else other i) cells)))
      stmt-same (call line k target es) h =
          (λ i cells steps. begin_step line cells steps
          (λ count. on_answer (arguments-same (reads values cells) line (routine_at routines k).params es h i count) cells
          (λ given. on_target target ((routine_at routines k).run given) cells)))

      pub stmts-same : (xs : StmtTrees) → AllByRecursion Agree (stmts_functions xs) →
          run_stmts (scope others) (renumbered_stmts place xs) ≡ run_stmts (scope functions) xs
      stmts-same no_stmts h = refl
      stmts-same (more_stmts x xs) h =
          let one = stmt-same x (all-left Agree (stmt_functions x) (stmts_functions xs) h) in
          let rest = stmts-same xs (all-right Agree (stmt_functions x) (stmts_functions xs) h) in
          (λ i cells steps. then_run (one i cells steps) (rest i))

  -- ---- Procedures

  routine-same : (structs : List StructTree) (earlier : List Routine) (k : ℕ) (q : ProcedureTree) →
      AllByRecursion Agree (stmts_functions q.body) →
      routine_of structs others earlier k (renumbered_procedure place q) ≡ routine_of structs functions earlier k q
  routine-same structs earlier k q h = λ i. record {
    params = map (λ x. x.type) q.params;
    run = λ values cells steps.
        behind (call_entry k q.name) [] (stmts-same earlier (field_types (struct_fields structs q.of)) values q.body h i cells steps);
  }

  pub routines-same : (structs : List StructTree) (earlier : List Routine) (qs : List ProcedureTree) →
      AllByRecursion (λ q. AllByRecursion Agree (stmts_functions q.body)) qs →
      routines_of structs others earlier (map (renumbered_procedure place) qs) ≡ routines_of structs functions earlier qs
  routines-same structs earlier [] h = refl
  routines-same structs earlier (q ∷ qs) h =
      (λ i. routines_of structs others (earlier ++ routine-same structs earlier (length earlier) q h.0 i ∷ [])
      (map (renumbered_procedure place) qs))
      ∙ routines-same structs (earlier ++ routine_of structs functions earlier (length earlier) q ∷ []) qs h.1
