-- What statements do: one list after another, a store, a store in an item of an array, and a test.
use Rattle.std.proofs.Common.{◌≡◌, ◌≢◌, refl, ap, ◌∙◌, ℕ, ◌+◌, ◌<◌, ◌≤◌, Bool, true, false, ◌&&◌, if◌then◌else◌, List, length, ℤ, pos, int_le, int_lt, arith, lt-ltb, le-ltb}
use Rattle.std.specs.Prelude.{unsigned_abs}
use Rattle.std.proofs.lemmas.Bool.Decides.{nat_tests}
use Rattle.std.proofs.lemmas.Int.{ints}
use Rattle.std.proofs.lemmas.List.{append-nil}
use Rattle.c_syntax.specs.declared.fault.Why.TheVariants.{Range, Steps, Index}
use Rattle.c_syntax.specs.Tree.{StmtTrees, no_stmts, stmts_append, type_at}
use Rattle.c_semantics.specs.Cells.{Cells, number, items, set_cell, set_item, items_at}
use Rattle.c_semantics.specs.Values.{gives, sticks, and_then, stuck_at, step_limit, index_in}
use Rattle.c_semantics.specs.Machine.{Outcome, done, stuck, behind, then_run, on_answer, begin_step, store, store_at, Scope, run_stmt, run_stmts}
use Rattle.c_semantics.specs.RunLaws.{after_store, value_in, test_in, SequencesRunInOrder, NumbersAreStored, ItemsAreStored, TestsChooseBranches}
use Rattle.c_semantics.proofs.lemmas.Runs.{run_stmts-append}

-- ---- Sequences

-- nothing after an execution leaves it as it is
then_nothing : (scope : Scope) (o : Outcome) → then_run o (run_stmts scope no_stmts) ≡ o
then_nothing scope (done a) = λ i. done
    (record { cells = a.cells; steps = a.steps; log = append-nil a.log i; stores = append-nil a.stores i })
then_nothing scope (stuck at cells) = refl

pub sequences_run_in_order : SequencesRunInOrder
sequences_run_in_order scope cells steps = record {
  nothing = refl;
  alone = λ s. then_nothing scope (run_stmt scope s cells steps);
  in_order = in_order;
  both = λ first second a b one two. in_order first second ∙ ap (λ o. then_run o (run_stmts scope second)) one
      ∙ ap (behind a.log a.stores) two;
  first_sticks = λ first second at left one. in_order first second ∙ ap (λ o. then_run o (run_stmts scope second)) one;
  second_sticks = λ first second a at left one two. in_order first second ∙ ap (λ o. then_run o (run_stmts scope second)) one
      ∙ ap (behind a.log a.stores) two;
}
  where
    in_order : (first second : StmtTrees) →
        run_stmts scope (stmts_append first second) cells steps ≡ then_run (run_stmts scope first cells steps) (run_stmts scope second)
    in_order first second = run_stmts-append scope first second cells steps

-- ---- The step of a statement

module _ (line : ℕ) (cells : Cells) (steps : ℕ) (go : ℕ → Outcome) where
  pub begins : steps < step_limit → begin_step line cells steps go ≡ go (steps + 1)
  begins room = ap (λ b. if b then go (steps + 1) else stuck (stuck_at line Steps) cells) (lt-ltb steps step_limit room)

  pub no_step : step_limit ≤ steps → begin_step line cells steps go ≡ stuck (stuck_at line Steps) cells
  no_step full = ap (λ b. if b then go (steps + 1) else stuck (stuck_at line Steps) cells) (le-ltb steps step_limit full)

-- ---- Stores

pub numbers_are_stored : NumbersAreStored
numbers_are_stored scope line field value cells steps = record {
  stored = λ v end room is fits. begins line cells steps go room ∙ ap (λ a. on_answer a cells put) is
      ∙ ap (λ b. if b then after_store (set_cell cells field (number v)) end field else stuck (stuck_at line Range) cells) fits;
  out_of_type = λ v end room is not_in. begins line cells steps go room ∙ ap (λ a. on_answer a cells put) is
      ∙ ap (λ b. if b then after_store (set_cell cells field (number v)) end field else stuck (stuck_at line Range) cells) not_in;
  value_sticks = λ at room is. begins line cells steps go room ∙ ap (λ a. on_answer a cells put) is;
  no_step_left = no_step line cells steps go;
}
  where
    put : ℤ → ℕ → Outcome
    put v end = store line (type_at scope.types field) field v cells end

    go : ℕ → Outcome
    go count = on_answer (value_in scope cells line count value) cells put

-- the test of an index: at the place of an item it passes, else it doesn't
pub place_passes : (i n : ℕ) → i < n → (int_le (pos 0) (pos i) && int_lt (pos i) (pos n)) ≡ true
place_passes i n within = grind (arith, ints, nat_tests)

pub no_place_passes : (k : ℤ) (n : ℕ) → ((i : ℕ) → i < n → k ≢ pos i) → (int_le (pos 0) k && int_lt k (pos n)) ≡ false
no_place_passes k n none = by (int_le (pos 0) k && int_lt k (pos n)) refl
  where
    by : (b : Bool) → (int_le (pos 0) k && int_lt k (pos n)) ≡ b → (int_le (pos 0) k && int_lt k (pos n)) ≡ false
    by true e = absurd (none (unsigned_abs k) (grind (arith, ints, nat_tests)) (grind (arith, ints, nat_tests)))
    by false e = e

pub items_are_stored : ItemsAreStored
items_are_stored scope line field index value cells steps = record {
  stored = λ i v mid end room at within is fits. placed i mid room at within ∙ ap (λ a. on_answer a cells (put i)) is
      ∙ ap (choice i v end) fits;
  out_of_type = λ i v mid end room at within is not_in. placed i mid room at within ∙ ap (λ a. on_answer a cells (put i)) is
      ∙ ap (choice i v end) not_in;
  value_sticks = λ i mid at_place room at within is. placed i mid room at within ∙ ap (λ a. on_answer a cells (put i)) is;
  no_item = λ k mid room at none. looked room ∙ ap (λ a. on_answer (and_then a (index_in line array)) cells next) at
      ∙ ap (λ b. on_answer (if b then gives (unsigned_abs k) mid else sticks (stuck_at line Index)) cells next)
      (no_place_passes k (length array) none);
  index_sticks = λ at room is. looked room ∙ ap (λ a. on_answer (and_then a (index_in line array)) cells next) is;
  no_step_left = no_step line cells steps go;
}
  where
    array : List ℤ
    array = items_at cells field

    put : ℕ → ℤ → ℕ → Outcome
    put i v end = store_at line (type_at scope.types field) field i v cells end

    next : ℕ → ℕ → Outcome
    next i mid = on_answer (value_in scope cells line mid value) cells (put i)

    go : ℕ → Outcome
    go count = on_answer (and_then (value_in scope cells line count index) (index_in line array)) cells next

    choice : ℕ → ℤ → ℕ → Bool → Outcome
    choice i v end b = if b then after_store (set_cell cells field (items (set_item array i v))) end field
        else stuck (stuck_at line Range) cells

    looked : steps < step_limit → begin_step line cells steps go ≡ go (steps + 1)
    looked = begins line cells steps go

    placed : (i mid : ℕ) → steps < step_limit → value_in scope cells line (steps + 1) index ≡ gives (pos i) mid → i < length array →
        begin_step line cells steps go ≡ next i mid
    placed i mid room at within = looked room ∙ ap (λ a. on_answer (and_then a (index_in line array)) cells next) at
        ∙ ap (λ b. on_answer (if b then gives i mid else sticks (stuck_at line Index)) cells next) (place_passes i (length array) within)

-- ---- Tests

pub tests_choose_branches : TestsChooseBranches
tests_choose_branches scope line test on_true on_false cells steps = record {
  holds = λ end room is. begins line cells steps go room ∙ ap (λ a. on_answer a cells choose) is;
  fails = λ end room is. begins line cells steps go room ∙ ap (λ a. on_answer a cells choose) is;
  test_sticks = λ at room is. begins line cells steps go room ∙ ap (λ a. on_answer a cells choose) is;
  no_step_left = no_step line cells steps go;
}
  where
    choose : Bool → ℕ → Outcome
    choose holds = (if holds then run_stmts scope on_true else run_stmts scope on_false) cells

    go : ℕ → Outcome
    go count = on_answer (test_in scope cells line count test) cells choose
