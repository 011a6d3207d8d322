-- Codes of the enabled subsystem with one wrong body each.
use Rattle.std.specs.Prelude.{◌≡◌, refl, ℕ, Bool, [], ◌∷◌, pos, ℤ}
use Rattle.std.specs.Fmt.{digits}
use Rattle.std.proofs.Common.{inl}
use Rattle.modules_profile.specs.Headers.{given_rows}
use Rattle.modules_profile.specs.Locals.{own_header}
use Rattle.c_syntax.specs.declared.Leaf.TheVariants.{Param, Own}
use Rattle.c_syntax.specs.Tree.{read, assign}
use Rattle.c_semantics.specs.Cells.{number, Cells, no_cells, more_cells, number_at}
use Rattle.emit_shape.specs.SystemTree.{SystemTree}
use Rattle.emit_shape.specs.LocalShape.{outputs_stored}
use Rattle.emit_shape.specs.TinySamples.{zeros}
use Rattle.right_relation.specs.Instances.{Act, out, update, none_called, with_called, offered_for, OnDone}
use Rattle.right_relation.specs.Serving.{act_values}
use Rattle.right_relation.specs.Standing.{outer_tick_of, after_cells}
use Rattle.right_relation.specs.Relation.{own_offer}
use Rattle.right_relation.specs.Renewals.{IsStarted, IsReset, AllSlots}
use Rattle.right_relation.specs.ResetExamples.{local, profile, slots, code, code_of, group_body, function_body, update_body, start_body, reset_body, if_high, standing, high_tick}

-- a start that leaves the values of an earlier run, and one that leaves the counter
abbrev pub start_leaves_values : SystemTree
start_leaves_values = code_of group_body function_body update_body (zeros (3 ∷ 4 ∷ [])) reset_body

abbrev pub start_leaves_counter : SystemTree
start_leaves_counter =
    code_of group_body function_body update_body (zeros (0 ∷ 1 ∷ 2 ∷ 3 ∷ [])) reset_body

-- a start that stores each field twice
abbrev pub start_stores_twice : SystemTree
start_stores_twice =
    code_of group_body function_body update_body
    (zeros (0 ∷ 0 ∷ 1 ∷ 1 ∷ 2 ∷ 2 ∷ 3 ∷ 3 ∷ 4 ∷ 4 ∷ [])) reset_body

-- a reset that stores values besides, and one that does nothing
abbrev pub reset_stores_values : SystemTree
reset_stores_values =
    code_of group_body function_body update_body start_body (zeros (0 ∷ 1 ∷ 2 ∷ 3 ∷ []))

abbrev pub empty_reset : SystemTree
empty_reset = code_of group_body function_body update_body start_body []

-- a memory that is stored before the value that it takes
abbrev pub early_memory : SystemTree
early_memory =
    code_of group_body function_body (if_high 2 (assign 0 3 (read (Own 0)) ∷ []) (zeros (3 ∷ []))
    ∷ if_high 2 (assign 0 0 (read (Param 1)) ∷ []) [] ∷ zeros (4 ∷ [])) start_body reset_body

-- a function that stores nothing, where the update makes the output
abbrev pub idle_function : SystemTree
idle_function =
    code_of [] [] (if_high 2 (assign 0 1 (read (Own 3)) ∷ assign 0 2 (read (Own 1)) ∷ []) []
    ∷ update_body) start_body reset_body

-- ---- What they leave

-- fields in the midst of a tick
abbrev pub midst : Cells
midst = more_cells (number (pos 9))
    (more_cells (number (pos 8))
    (more_cells (number (pos 8))
    (more_cells (number (pos 5)) (more_cells (number (pos 1)) no_cells))))

-- the right start makes all of them 0, and the right reset the memory alone
started : OnDone ((own_offer local profile [] slots [] code (λ k. k)).start.routine.run [] midst 0)
    (λ a. AllSlots (IsStarted local []) slots midst a.cells)
unfolding digits
started = (refl, (refl, (refl, (refl, (refl, tt)))))

cleared : OnDone ((own_offer local profile [] slots [] code (λ k. k)).reset.routine.run [] midst 0)
    (λ a. AllSlots (IsReset local []) slots midst a.cells)
unfolding digits
cleared = (refl, (refl, (refl, (refl, (inl refl, tt)))))

-- what an act leaves in a field, in the tick in which the enable is high
abbrev LeavesNumber : SystemTree → (ℕ → Bool) → Act → ℕ → ℤ → Type 0
LeavesNumber code called act f v =
    OnDone ((offered_for (own_offer local profile [] slots [] code (λ k. k)) act).routine.run
    (act_values (own_header local profile) 1 (outer_tick_of local high_tick) act)
    (standing high_tick called) 0) (λ a. number_at a.cells f ≡ v)

-- the memory takes the 9 of the tick before, where it should take the 7 of this one
early_takes_old : LeavesNumber early_memory (with_called none_called 1) update 3 (pos 9)
unfolding digits
early_takes_old = refl

memory_after : number_at (after_cells local high_tick [] slots) 3 ≡ pos 7
memory_after = refl

-- after the function the output is the 8 of the tick before, where it should be 5; and the
-- function stores no output
idle_gives_old : LeavesNumber idle_function none_called (out 1) 2 (pos 8)
unfolding digits
idle_gives_old = refl

output_given : number_at (standing high_tick (with_called none_called 1)) 2 ≡ pos 5
output_given = refl

idle_stores_none : outputs_stored local slots idle_function 1 ≡ []
unfolding digits
idle_stores_none = refl

output_of_function : given_rows (own_header local profile) 1 ≡ 6 ∷ []
output_of_function = refl
