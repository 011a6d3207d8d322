-- Runs of one statement, of a test over statements, and of several stores.
use Rattle.std.proofs.Common.{◌≡◌, sym, ap, ◌∙◌, ℕ, ◌+◌, ◌<◌, ◌≤◌, Bool, true, false, if◌then◌else◌, List, [], ◌∷◌, map, length, Some, None, ℤ, pos, arith}
use Rattle.std.specs.Prelude.{Option}
use Rattle.c_syntax.specs.Tree.{ExprTree, CondTree, StmtTree, assign, assign_at, branch, StmtTrees, no_stmts, more_stmts}
use Rattle.c_semantics.specs.Cells.{Cells, number, items, set_cell, set_item, items_at}
use Rattle.c_semantics.specs.Values.{gives, eval, reads, step_limit}
use Rattle.c_semantics.specs.Machine.{Scope, run_stmt, run_stmts}
use Rattle.c_semantics.specs.EvaluationLaws.{Gives, Holds}
use Rattle.c_semantics.proofs.lemmas.RunLaws.{sequences_run_in_order, numbers_are_stored, items_are_stored, tests_choose_branches}
use Rattle.emit_row_code.specs.StatementCode.{one, guarded, only_if, store_code}
use Rattle.emit_row_code.specs.StatementLaws.{own_store, leaves, test_steps, TestsTo, Takes}

pub few_test_steps : (test : Option CondTree) → test_steps test ≤ 1
few_test_steps None = omega arith
few_test_steps (Some test) = omega arith

module _ (scope : Scope) (cells : Cells) where
  -- no statement does nothing
  pub nothing_runs : (steps : ℕ) → run_stmts scope no_stmts cells steps ≡ leaves cells steps []
  nothing_runs steps = (sequences_run_in_order scope cells steps).nothing

  pub alone_runs : (s : StmtTree) (steps : ℕ) → run_stmts scope (one s) cells steps ≡ run_stmt scope s cells steps
  alone_runs s steps = (sequences_run_in_order scope cells steps).alone s

  -- ---- Tests

  branch_runs : (test : CondTree) (b : Bool) (on_true on_false : StmtTrees) (steps : ℕ) →
      Holds scope.functions (reads scope.values cells) 0 test b → steps < step_limit →
      run_stmts scope (one (branch 0 test on_true on_false)) cells steps
      ≡ (if b then run_stmts scope on_true else run_stmts scope on_false) cells (steps + 1)
  branch_runs test true on_true on_false steps holds room = alone_runs (branch 0 test on_true on_false) steps
      ∙ (tests_choose_branches scope 0 test on_true on_false cells steps).holds (steps + 1) room (holds (steps + 1))
  branch_runs test false on_true on_false steps holds room = alone_runs (branch 0 test on_true on_false) steps
      ∙ (tests_choose_branches scope 0 test on_true on_false cells steps).fails (steps + 1) room (holds (steps + 1))

  pub guarded_runs : (test : Option CondTree) (b : Bool) (on_true on_false : StmtTrees) (steps : ℕ) → TestsTo scope cells true test b →
      steps < step_limit →
      run_stmts scope (guarded test on_true on_false) cells steps
      ≡ (if b then run_stmts scope on_true else run_stmts scope on_false) cells (steps + test_steps test)
  guarded_runs None b on_true on_false steps is room =
      let same : steps ≡ steps + 0 = omega arith in
      ap (run_stmts scope on_true cells) same ∙ ap (λ t. (if t then run_stmts scope on_true else run_stmts scope on_false) cells
      (steps + 0)) (sym is)
  guarded_runs (Some test) b on_true on_false steps is room = branch_runs test b on_true on_false steps is room

  pub only_if_runs : (test : Option CondTree) (b : Bool) (code : StmtTrees) (steps : ℕ) → TestsTo scope cells false test b →
      steps < step_limit →
      run_stmts scope (only_if test code) cells steps ≡ (if b then run_stmts scope code else run_stmts scope no_stmts) cells
      (steps + test_steps test)
  only_if_runs None b code steps is room =
      let same : steps ≡ steps + 0 = omega arith in
      ap (run_stmts scope no_stmts cells) same ∙ ap (λ t. (if t then run_stmts scope code else run_stmts scope no_stmts) cells
      (steps + 0)) (sym is)
  only_if_runs (Some test) b code steps is room = branch_runs test b code no_stmts steps is room

  -- ---- Stores

  -- a store of a number that its field takes
  pub assign_runs : (field : ℕ) (e : ExprTree) (v : ℤ) (steps end : ℕ) →
      eval scope.functions (reads scope.values cells) 0 e (steps + 1) ≡ gives v end → Takes scope field v → steps < step_limit →
      run_stmt scope (assign 0 field e) cells steps ≡ leaves (set_cell cells field (number v)) end (field ∷ [])
  assign_runs field e v steps end is takes room = (numbers_are_stored scope 0 field e cells steps).stored v end room is takes

  pub store_runs : (field : ℕ) (e : ExprTree) (v : ℤ) (steps end : ℕ) →
      eval scope.functions (reads scope.values cells) 0 e (steps + 1) ≡ gives v end → Takes scope field v → steps < step_limit →
      run_stmts scope (store_code field e) cells steps ≡ leaves (set_cell cells field (number v)) end (field ∷ [])
  store_runs field e v steps end is takes room = alone_runs (assign 0 field e) steps ∙ assign_runs field e v steps end is takes room

  -- a store in an item of an array
  pub assign_at_runs : (field : ℕ) (index e : ExprTree) (k : ℕ) (v : ℤ) (steps : ℕ) →
      Gives scope.functions (reads scope.values cells) 0 index (pos k) → Gives scope.functions (reads scope.values cells) 0 e v →
      k < length (items_at cells field) → Takes scope field v → steps < step_limit →
      run_stmt scope (assign_at 0 field index e) cells steps
      ≡ leaves (set_cell cells field (items (set_item (items_at cells field) k v))) (steps + 1) (field ∷ [])
  assign_at_runs field index e k v steps at is inside takes room =
      (items_are_stored scope 0 field index e cells steps).stored k v (steps + 1) (steps + 1) room (at (steps + 1)) inside
      (is (steps + 1)) takes

-- stores after a store
pub then_stored : (scope : Scope) (first : StmtTree) (rest : StmtTrees) (cells between after : Cells) (steps middle end field : ℕ)
    (fields : List ℕ) →
    run_stmt scope first cells steps ≡ leaves between middle (field ∷ []) → run_stmts scope rest between middle ≡ leaves after end fields →
    run_stmts scope (more_stmts first rest) cells steps ≡ leaves after end (field ∷ fields)
then_stored scope first rest cells between after steps middle end field fields one_store others =
    (sequences_run_in_order scope cells steps).both (one first) rest
    (record { cells = between; steps = middle; log = []; stores = own_store field ∷ [] })
    (record { cells = after; steps = end; log = []; stores = map own_store fields })
    (alone_runs scope cells first steps ∙ one_store) others
