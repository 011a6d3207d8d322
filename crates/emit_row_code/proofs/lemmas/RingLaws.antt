-- The expressions and stores of a ring.
use Rattle.std.proofs.Common.{◌≡◌, refl, sym, ap, ◌∙◌, subst, ℕ, ◌+◌, ◌%◌, ◌^◌, ◌<◌, ◌≤◌, ◌≢◌, nat_lt, Bool, true, false, cond, if◌then◌else◌, List, [], ◌∷◌, ℤ, pos, int_lt, int_le, neg_ℤ, ◌-◌, unsigned_abs, arith}
use Rattle.std.proofs.lemmas.Bool.{and_from}
use Rattle.std.proofs.lemmas.Bool.Decides.{nat_tests}
use Rattle.std.proofs.lemmas.Int.{ints}
use Rattle.std.proofs.Math.Nat.{div-le_self}
use Rattle.c_syntax.specs.declared.CType.TheVariants.{I32}
use Rattle.base_core.specs.declared.Compare.TheVariants.{Lt}
use Rattle.c_syntax.specs.declared.Leaf.{Leaf}
use Rattle.c_syntax.specs.declared.Leaf.TheVariants.{Own}
use Rattle.c_syntax.specs.declared.BinOp.TheVariants.{Add}
use Rattle.c_syntax.specs.Tree.{ExprTree, literal, read, binary, item, assign, assign_at, no_stmts, more_stmts}
use Rattle.c_semantics.specs.Cells.{Cell, Cells, cell_value, number, items, set_cell, set_item, number_at, items_at}
use Rattle.c_semantics.specs.Values.{gives, Function, is_in_type, leaf_reads, reads, step_limit}
use Rattle.base_core.specs.Numbers.{int_at}
use Rattle.c_semantics.specs.Machine.{Scope, run_stmts}
use Rattle.c_semantics.specs.EvaluationLaws.{Gives, Holds}
use Rattle.c_semantics.proofs.lemmas.CellLaws.{fields_are_set}
use Rattle.c_semantics.proofs.lemmas.WithoutSteps.{gives_literal, gives_read, gives_add, gives_rem, gives_pick, gives_item, holds_compare}
use Rattle.emit_row_code.specs.declared.leaves.RingFields.{RingFields}
use Rattle.emit_row_code.specs.RowCode.{written, nought}
use Rattle.emit_row_code.specs.RingCode.{place_read, taken_read, is_filling_code, next_taken_code, next_place_code, taken_in, emptied}
use Rattle.emit_row_code.specs.StatementCode.{only_if}
use Rattle.emit_row_code.specs.StatementLaws.{leaves, test_steps, Takes, HoldsRing, AreRingFields, OldestIsRead, taken_in_cells, emptied_cells, RingsAreStored}
use Rattle.emit_row_code.proofs.lemmas.WrittenNumbers.{gives_written}
use Rattle.emit_row_code.proofs.StatementRuns.{few_test_steps, nothing_runs, guarded_runs, only_if_runs, assign_runs, assign_at_runs, then_stored}

same_less : (a b : ℕ) → int_lt (pos a) (pos b) ≡ nat_lt a b
same_less a b = grind (arith, ints, nat_tests)

in_int32 : (k : ℕ) → k ≤ 2 ^ 16 → is_in_type I32 (pos k) ≡ true
in_int32 k few =
    and_from (int_le (neg_ℤ (pos (2 ^ 31))) (pos k)) (int_le (pos k) (pos (2 ^ 31 - 1))) (grind (arith, ints)) (grind (arith, ints))

-- ---- Expressions

module _ (functions : List Function) (values : List ℤ) (cells : Cells) (ring : RingFields) (n place taken line : ℕ) where
  abbrev Is : ExprTree → ℤ → Type 0
  Is e x = Gives functions (reads values cells) line e x

  place_gives : number_at cells ring.place ≡ pos place → Is (place_read ring) (pos place)
  place_gives at = subst (Is (place_read ring)) at (gives_read functions (reads values cells) line (Own ring.place))

  taken_gives : number_at cells ring.taken ≡ pos taken → Is (taken_read ring) (pos taken)
  taken_gives count = subst (Is (taken_read ring)) count (gives_read functions (reads values cells) line (Own ring.taken))

  number_gives : (k : ℕ) → Is (literal (pos k)) (pos k)
  number_gives k = gives_literal functions (reads values cells) line (pos k)

  filling_holds : number_at cells ring.taken ≡ pos taken → Holds functions (reads values cells) line (is_filling_code ring n)
      (nat_lt taken n)
  filling_holds count = subst (Holds functions (reads values cells) line (is_filling_code ring n)) (same_less taken n)
      (holds_compare functions (reads values cells) line Lt (taken_read ring) (literal (pos n)) (pos taken) (pos n) (taken_gives count)
      (number_gives n))

  next_taken_gives : number_at cells ring.taken ≡ pos taken → taken < 2 ^ 16 →
      Is (next_taken_code ring n) (pos (if nat_lt taken n then taken + 1 else taken))
  next_taken_gives count few =
      let small : unsigned_abs (pos (taken + 1)) < 2 ^ 63 = omega (arith, few) in
      subst (Is (next_taken_code ring n)) (by (nat_lt taken n))
      (gives_pick functions (reads values cells) line (is_filling_code ring n) (binary Add (taken_read ring) (literal (pos 1)))
      (taken_read ring) (nat_lt taken n) (pos (taken + 1)) (pos taken)
      (filling_holds count) (gives_add functions (reads values cells) line (taken_read ring) (literal (pos 1)) (pos taken) (pos 1)
      (taken_gives count) (number_gives 1) small) (taken_gives count))
    where
      by : (b : Bool) → cond b (pos (taken + 1)) (pos taken) ≡ pos (if b then taken + 1 else taken)
      by true = refl
      by false = refl

  next_place_gives : number_at cells ring.place ≡ pos place → place < 2 ^ 16 → 1 ≤ n → Is (next_place_code ring n) (pos ((place + 1) % n))
  next_place_gives at few some =
      let next : Is (binary Add (place_read ring) (literal (pos 1))) (pos (place + 1)) =
      gives_add functions (reads values cells) line (place_read ring) (literal (pos 1)) (pos place) (pos 1) (place_gives at)
      (number_gives 1) (omega (arith, few)) in
      gives_rem functions (reads values cells) line (binary Add (place_read ring) (literal (pos 1))) (literal (pos n))
      (pos (place + 1)) n next (number_gives n) some (omega (arith, div-le_self (place + 1) n, few))

pub oldest_is_read : OldestIsRead
oldest_is_read functions values cells ring n place taken start line steps holds small =
    (gives_pick functions (reads values cells) line (is_filling_code ring n) (written start) (item ring.items (place_read ring))
    (nat_lt taken n) start (int_at (items_at cells ring.items) place)
    (filling_holds functions values cells ring n place taken line holds.count)
    (gives_written functions (reads values cells) line start small) item_gives) steps ∙ by (nat_lt taken n)
  where
    item_gives : Gives functions (reads values cells) line (item ring.items (place_read ring)) (int_at (items_at cells ring.items) place)
    item_gives = gives_item functions (reads values cells) line ring.items (place_read ring) place
        (place_gives functions values cells ring n place taken line holds.at_place)
        (subst (λ m. place < m) (sym holds.long) holds.in_ring)

    by : (b : Bool) → gives (cond b start (int_at (items_at cells ring.items) place)) steps
        ≡ gives (if b then start else int_at (items_at cells ring.items) place) steps
    by true = refl
    by false = refl

-- ---- Stores

module _ (scope : Scope) (cells : Cells) (ring : RingFields) (fields : AreRingFields scope ring) where
  takes_place : (k : ℕ) → k ≤ 2 ^ 16 → Takes scope ring.place (pos k)
  takes_place k few = ap (λ t. is_in_type t (pos k)) fields.place_type ∙ in_int32 k few

  takes_taken : (k : ℕ) → k ≤ 2 ^ 16 → Takes scope ring.taken (pos k)
  takes_taken k few = ap (λ t. is_in_type t (pos k)) fields.taken_type ∙ in_int32 k few

  kept : (i j : ℕ) (c : Cell) (in_cells : Cells) → i ≢ j → number_at (set_cell in_cells i c) j ≡ number_at in_cells j
  kept i j c in_cells apart = ap cell_value ((fields_are_set in_cells i c).others j apart)

  emptied_runs : (steps : ℕ) → steps + 2 ≤ step_limit → run_stmts scope (emptied ring) cells steps
      ≡ leaves (emptied_cells ring cells) (steps + 2) (ring.place ∷ ring.taken ∷ [])
  emptied_runs steps room =
      let first = set_cell cells ring.place (number (pos 0)) in
      let count : steps + 1 + 1 ≡ steps + 2 = omega arith in
      then_stored scope (assign 0 ring.place nought) (more_stmts (assign 0 ring.taken nought) no_stmts) cells first
      (emptied_cells ring cells) steps (steps + 1) (steps + 2) ring.place (ring.taken ∷ [])
      (assign_runs scope cells ring.place nought (pos 0) steps (steps + 1)
      (gives_literal scope.functions (reads scope.values cells) 0 (pos 0) (steps + 1)) (takes_place 0 (omega arith)) (omega (arith, room)))
      (then_stored scope (assign 0 ring.taken nought) no_stmts first (emptied_cells ring cells) (emptied_cells ring cells) (steps + 1)
      (steps + 2) (steps + 2) ring.taken []
      (assign_runs scope first ring.taken nought (pos 0) (steps + 1) (steps + 2)
      (gives_literal scope.functions (reads scope.values first) 0 (pos 0) (steps + 1 + 1) ∙ ap (gives (pos 0)) count)
      (takes_taken 0 (omega arith)) (omega (arith, room))) (nothing_runs scope (emptied_cells ring cells) (steps + 2)))

  module _ (n place taken : ℕ) (holds : HoldsRing cells ring n place taken) (input : Leaf) where
    abbrev v : ℤ
    v = leaf_reads scope.values cells input

    abbrev with_item : Cells
    with_item = set_cell cells ring.items (items (set_item (items_at cells ring.items) place v))

    abbrev more : ℕ
    more = if nat_lt taken n then taken + 1 else taken

    abbrev with_count : Cells
    with_count = set_cell with_item ring.taken (number (pos more))

    more_few : more ≤ 2 ^ 16
    more_few = by (nat_lt taken n)
      where
        by : (b : Bool) → (if b then taken + 1 else taken) ≤ 2 ^ 16
        by true = let most = holds.at_most in let short = holds.short in omega (arith, most, short)
        by false = let most = holds.at_most in let short = holds.short in omega (arith, most, short)

    rest_few : (place + 1) % n ≤ 2 ^ 16
    rest_few = let below = holds.in_ring in let short = holds.short in
        let rest : (place + 1) % n ≤ place + 1 = omega arith in omega (arith, rest, below, short)

    taken_in_runs : (steps : ℕ) → Takes scope ring.items v → steps + 3 ≤ step_limit →
        run_stmts scope (taken_in ring n input) cells steps
        ≡ leaves (taken_in_cells ring n place taken v cells) (steps + 3) (ring.items ∷ ring.taken ∷ ring.place ∷ [])
    taken_in_runs steps takes room =
        let short = holds.short in let most = holds.at_most in let below = holds.in_ring in
        let last = taken_in_cells ring n place taken v cells in
        let count : number_at with_item ring.taken ≡ pos taken = kept ring.items ring.taken _ cells fields.items_and_taken ∙ holds.count in
        let at : number_at with_count ring.place ≡ pos place = kept ring.taken ring.place _ with_item fields.taken_and_place
        ∙ kept ring.items ring.place _ cells fields.items_and_place ∙ holds.at_place in
        let two : steps + 1 + 1 ≡ steps + 2 = omega arith in
        let three : steps + 2 + 1 ≡ steps + 3 = omega arith in
        let third = assign 0 ring.place (next_place_code ring n) in
        let second = assign 0 ring.taken (next_taken_code ring n) in
        then_stored scope (assign_at 0 ring.items (place_read ring) (read input))
        (more_stmts second (more_stmts third no_stmts)) cells with_item last steps (steps + 1) (steps + 3) ring.items
        (ring.taken ∷ ring.place ∷ [])
        (assign_at_runs scope cells ring.items (place_read ring) (read input) place v steps
        (place_gives scope.functions scope.values cells ring n place taken 0 holds.at_place)
        (gives_read scope.functions (reads scope.values cells) 0 input)
        (subst (λ m. place < m) (sym holds.long) holds.in_ring) takes (omega (arith, room)))
        (then_stored scope second (more_stmts third no_stmts) with_item with_count last (steps + 1) (steps + 2) (steps + 3) ring.taken
        (ring.place ∷ [])
        (assign_runs scope with_item ring.taken (next_taken_code ring n) (pos more) (steps + 1) (steps + 2)
        (next_taken_gives scope.functions scope.values with_item ring n place taken 0 count (omega (arith, most, short))
        (steps + 1 + 1) ∙ ap (gives (pos more)) two) (takes_taken more more_few) (omega (arith, room)))
        (then_stored scope third no_stmts with_count last last (steps + 2) (steps + 3) (steps + 3) ring.place []
        (assign_runs scope with_count ring.place (next_place_code ring n) (pos ((place + 1) % n)) (steps + 2) (steps + 3)
        (next_place_gives scope.functions scope.values with_count ring n place taken 0 at (omega (arith, below, short))
        (omega (arith, below)) (steps + 2 + 1) ∙ ap (gives (pos ((place + 1) % n))) three) (takes_place ((place + 1) % n) rest_few)
        (omega (arith, room))) (nothing_runs scope last (steps + 3))))

pub rings_are_stored : RingsAreStored
rings_are_stored scope cells ring n place taken runs off r o input steps holds fields runs_to off_to takes room =
    guarded_runs scope cells runs r (taken_in ring n input) (only_if off (emptied ring)) steps runs_to (omega (arith, room)) ∙ by r refl
  where
    few : test_steps runs ≤ 1
    few = few_test_steps runs

    few_off : test_steps off ≤ 1
    few_off = few_test_steps off

    v : ℤ
    v = leaf_reads scope.values cells input

    if_off : (b : Bool) → (if b then run_stmts scope (emptied ring) else run_stmts scope no_stmts) cells
        (steps + test_steps runs + test_steps off)
        ≡ (if b then leaves (emptied_cells ring cells) (steps + test_steps runs + test_steps off + 2) (ring.place ∷ ring.taken ∷ [])
        else leaves cells (steps + test_steps runs + test_steps off) [])
    if_off true = emptied_runs scope cells ring fields (steps + test_steps runs + test_steps off) (omega (arith, few, few_off, room))
    if_off false = nothing_runs scope cells (steps + test_steps runs + test_steps off)

    by : (b : Bool) → r ≡ b →
        (if b then run_stmts scope (taken_in ring n input) else run_stmts scope (only_if off (emptied ring))) cells
        (steps + test_steps runs)
        ≡ (if b then leaves (taken_in_cells ring n place taken v cells) (steps + test_steps runs + 3)
        (ring.items ∷ ring.taken ∷ ring.place ∷ [])
        else if o then leaves (emptied_cells ring cells) (steps + test_steps runs + test_steps off + 2) (ring.place ∷ ring.taken ∷ [])
        else leaves cells (steps + test_steps runs + test_steps off) [])
    by true is = taken_in_runs scope cells ring fields n place taken holds input (steps + test_steps runs) (takes is)
        (omega (arith, few, room))
    by false is = only_if_runs scope cells off o (emptied ring) (steps + test_steps runs) off_to (omega (arith, few, room)) ∙ if_off o
