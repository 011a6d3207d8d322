-- What statements do: one list after another, a store, a store in an item of an array, and a test.
use Rattle.std.specs.Prelude.{◌≡◌, ◌≢◌, ℕ, ◌+◌, ◌<◌, ◌≤◌, Bool, true, false, [], ◌∷◌, ◌++◌, length, ℤ, pos}
use Rattle.c_syntax.specs.declared.fault.Stuck.{Stuck}
use Rattle.c_syntax.specs.declared.fault.Why.TheVariants.{Range, Steps, Index}
use Rattle.c_syntax.specs.Tree.{ExprTree, CondTree, StmtTree, assign, assign_at, branch, StmtTrees, no_stmts, more_stmts, stmts_append, type_at}
use Rattle.c_semantics.specs.Cells.{Cells, number, items, set_cell, set_item, items_at}
use Rattle.c_semantics.specs.Values.{Answer, gives, sticks, eval, eval_cond, reads, is_in_type, stuck_at, step_limit}
use Rattle.c_semantics.specs.Machine.{After, Outcome, done, stuck, then_run, Scope, run_stmt, run_stmts}

-- ---- Sequences

-- No statement leaves all as it is, and a statement alone does what it does. Of two lists, one
-- after the other, the second goes on from the fields and the count of steps that the first
-- leaves, and its calls and stores come after those of the first; where the first is stuck,
-- nothing of the second is done.
pub record RunsInOrder (scope : Scope) (cells : Cells) (steps : ℕ) : Type 0 where
  pub nothing : run_stmts scope no_stmts cells steps
      ≡ done (record { cells = cells; steps = steps; log = []; stores = [] })
  pub alone : (s : StmtTree) →
      run_stmts scope (more_stmts s no_stmts) cells steps ≡ run_stmt scope s cells steps
  pub in_order : (first second : StmtTrees) →
      run_stmts scope (stmts_append first second) cells steps
      ≡ then_run (run_stmts scope first cells steps) (run_stmts scope second)
  pub both : (first second : StmtTrees) (a b : After) → run_stmts scope first cells steps ≡ done a →
      run_stmts scope second a.cells a.steps ≡ done b →
      run_stmts scope (stmts_append first second) cells steps
      ≡ done (record {
        cells = b.cells;
        steps = b.steps;
        log = a.log ++ b.log;
        stores = a.stores ++ b.stores;
      })
  pub first_sticks : (first second : StmtTrees) (at : Stuck) (left : Cells) →
      run_stmts scope first cells steps ≡ stuck at left →
      run_stmts scope (stmts_append first second) cells steps ≡ stuck at left
  pub second_sticks : (first second : StmtTrees) (a : After) (at : Stuck) (left : Cells) →
      run_stmts scope first cells steps ≡ done a →
      run_stmts scope second a.cells a.steps ≡ stuck at left →
      run_stmts scope (stmts_append first second) cells steps ≡ stuck at left

abbrev pub SequencesRunInOrder : Type 0
SequencesRunInOrder = (scope : Scope) (cells : Cells) (steps : ℕ) → RunsInOrder scope cells steps

-- ---- Stores

-- an execution that stored this own field and called nothing
abbrev pub after_store : Cells → (steps field : ℕ) → Outcome
after_store cells steps field =
    done (record {
      cells = cells;
      steps = steps;
      log = [];
      stores = record { path = []; field = field } ∷ [];
    })

-- what an expression comes to after the step of its statement, on these fields
abbrev pub value_in : Scope → Cells → (line steps : ℕ) → ExprTree → Answer ℤ
value_in scope cells line steps e = eval scope.functions (reads scope.values cells) line e steps

-- A store takes a step and evaluates its value. If that is a number of the field's type, the field
-- then holds it, and nothing else is changed. It is stuck, and changes nothing, where no step is
-- left, where the value is, and at another number.
pub record StoresNumber (scope : Scope) (line field : ℕ) (value : ExprTree) (cells : Cells)
    (steps : ℕ) : Type 0 where
  pub stored : (v : ℤ) (end : ℕ) → steps < step_limit →
      value_in scope cells line (steps + 1) value ≡ gives v end →
      is_in_type (type_at scope.types field) v ≡ true →
      run_stmt scope (assign line field value) cells steps
      ≡ after_store (set_cell cells field (number v)) end field
  pub out_of_type : (v : ℤ) (end : ℕ) → steps < step_limit →
      value_in scope cells line (steps + 1) value ≡ gives v end →
      is_in_type (type_at scope.types field) v ≡ false →
      run_stmt scope (assign line field value) cells steps ≡ stuck (stuck_at line Range) cells
  pub value_sticks : (at : Stuck) → steps < step_limit →
      value_in scope cells line (steps + 1) value ≡ sticks at →
      run_stmt scope (assign line field value) cells steps ≡ stuck at cells
  pub no_step_left : step_limit ≤ steps →
      run_stmt scope (assign line field value) cells steps ≡ stuck (stuck_at line Steps) cells

abbrev pub NumbersAreStored : Type 0
NumbersAreStored =
    (scope : Scope) (line field : ℕ) (value : ExprTree) (cells : Cells) (steps : ℕ) →
    StoresNumber scope line field value cells steps

-- A store in an item of an array evaluates the index, and then the value. If the index is the place
-- of an item, and the value a number of the items' type, that item is then this number, and nothing
-- else is changed. It is stuck, and changes nothing, where no step is left, where the index is or
-- is no item's place, where the value is, and at another number.
pub record StoresItem (scope : Scope) (line field : ℕ) (index value : ExprTree) (cells : Cells)
    (steps : ℕ) : Type 0 where
  pub stored : (i : ℕ) (v : ℤ) (mid end : ℕ) → steps < step_limit →
      value_in scope cells line (steps + 1) index ≡ gives (pos i) mid →
      i < length (items_at cells field) → value_in scope cells line mid value ≡ gives v end →
      is_in_type (type_at scope.types field) v ≡ true →
      run_stmt scope (assign_at line field index value) cells steps
      ≡ after_store (set_cell cells field (items (set_item (items_at cells field) i v))) end field
  pub out_of_type : (i : ℕ) (v : ℤ) (mid end : ℕ) → steps < step_limit →
      value_in scope cells line (steps + 1) index ≡ gives (pos i) mid →
      i < length (items_at cells field) →
      value_in scope cells line mid value ≡ gives v end →
      is_in_type (type_at scope.types field) v ≡ false →
      run_stmt scope (assign_at line field index value) cells steps
      ≡ stuck (stuck_at line Range) cells
  pub value_sticks : (i mid : ℕ) (at : Stuck) → steps < step_limit →
      value_in scope cells line (steps + 1) index ≡ gives (pos i) mid →
      i < length (items_at cells field) → value_in scope cells line mid value ≡ sticks at →
      run_stmt scope (assign_at line field index value) cells steps ≡ stuck at cells
  pub no_item : (k : ℤ) (mid : ℕ) → steps < step_limit →
      value_in scope cells line (steps + 1) index ≡ gives k mid →
      ((i : ℕ) → i < length (items_at cells field) → k ≢ pos i) →
      run_stmt scope (assign_at line field index value) cells steps
      ≡ stuck (stuck_at line Index) cells
  pub index_sticks : (at : Stuck) → steps < step_limit →
      value_in scope cells line (steps + 1) index ≡ sticks at →
      run_stmt scope (assign_at line field index value) cells steps ≡ stuck at cells
  pub no_step_left : step_limit ≤ steps →
      run_stmt scope (assign_at line field index value) cells steps
      ≡ stuck (stuck_at line Steps) cells

abbrev pub ItemsAreStored : Type 0
ItemsAreStored =
    (scope : Scope) (line field : ℕ) (index value : ExprTree) (cells : Cells) (steps : ℕ) →
    StoresItem scope line field index value cells steps

-- ---- Tests

-- what a condition comes to after the step of its statement, on these fields
abbrev pub test_in : Scope → Cells → (line steps : ℕ) → CondTree → Answer Bool
test_in scope cells line steps c = eval_cond scope.functions (reads scope.values cells) line c steps

-- A test takes a step and evaluates its condition, and then does what the branch does that the
-- condition chooses. It is stuck, and changes nothing, where no step is left, and where the
-- condition is.
pub record ChoosesBranch (scope : Scope) (line : ℕ) (test : CondTree) (on_true on_false : StmtTrees)
    (cells : Cells)
    (steps : ℕ) : Type 0 where
  pub holds : (end : ℕ) → steps < step_limit →
      test_in scope cells line (steps + 1) test ≡ gives true end →
      run_stmt scope (branch line test on_true on_false) cells steps
      ≡ run_stmts scope on_true cells end
  pub fails : (end : ℕ) → steps < step_limit →
      test_in scope cells line (steps + 1) test ≡ gives false end →
      run_stmt scope (branch line test on_true on_false) cells steps
      ≡ run_stmts scope on_false cells end
  pub test_sticks : (at : Stuck) → steps < step_limit →
      test_in scope cells line (steps + 1) test ≡ sticks at →
      run_stmt scope (branch line test on_true on_false) cells steps ≡ stuck at cells
  pub no_step_left : step_limit ≤ steps →
      run_stmt scope (branch line test on_true on_false) cells steps
      ≡ stuck (stuck_at line Steps) cells

abbrev pub TestsChooseBranches : Type 0
TestsChooseBranches =
    (scope : Scope) (line : ℕ) (test : CondTree) (on_true on_false : StmtTrees) (cells : Cells)
    (steps : ℕ) →
    ChoosesBranch scope line test on_true on_false cells steps
