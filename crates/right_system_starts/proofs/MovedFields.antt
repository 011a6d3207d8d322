-- The code of fields after the procedures of children: only the numbers of these change.
use Rattle.std.specs.Prelude.{◌≡◌, ℕ, ◌+◌, Bool, true, false, if◌then◌else◌, List, [], ◌∷◌, ◌++◌, ℤ, pos, neg_ℤ, int_lt, refl}
use Rattle.std.proofs.Common.{ap}
use Rattle.modules_profile.specs.declared.ChildUse.{ChildUse}
use Rattle.modules_profile.specs.LocalSystem.{LocalSystem}
use Rattle.c_syntax.specs.declared.Target.TheVariants.{Child}
use Rattle.c_syntax.specs.Tree.{literal, neg, no_exprs, StmtTree, assign, call, more_stmts, stmts_of_list}
use Rattle.emit_row_code.specs.RowCode.{written, nought}
use Rattle.emit_shape.specs.Relocation.{Relocation, moved_number, moved_expr, moved_stmts}
use Rattle.emit_shape.specs.RowStarts.{row_start}
use Rattle.emit_shape.specs.Slots.{Slot, value, memory, ring_items, ring_place, ring_taken, trigger, counter, instance, filler}
use Rattle.right_system_starts.proofs.FieldCode.{field_code, fields_code}

module _ (m : Relocation) where
  written-stays : (v : ℤ) → moved_expr m (written v) ≡ written v
  written-stays v = by (int_lt v (pos 0))
    where
      by : (t : Bool) → moved_expr m (if t then neg (literal (neg_ℤ v)) else literal v) ≡ (if t then neg (literal (neg_ℤ v)) else literal v)
      by true = refl
      by false = refl

  module _ (all : Bool) (local : LocalSystem) (callee : ℕ → ChildUse → ℕ) where
    abbrev pub moved_callee : ℕ → ChildUse → ℕ
    moved_callee k u = moved_number m (callee k u)

    moved-field : (f : ℕ) (s : Slot) (later there : List StmtTree) → moved_stmts m (stmts_of_list later) ≡ stmts_of_list there →
        moved_stmts m (stmts_of_list (field_code all local callee f s ++ later))
        ≡ stmts_of_list (field_code all local moved_callee f s ++ there)
    moved-field f (value r) later there rest = by all
      where
        by : (t : Bool) → moved_stmts m (stmts_of_list ((if t then assign 0 f (written (row_start local r)) ∷ [] else []) ++ later))
            ≡ stmts_of_list ((if t then assign 0 f (written (row_start local r)) ∷ [] else []) ++ there)
        by true = λ i. more_stmts (assign 0 f (written-stays (row_start local r) i)) (rest i)
        by false = rest
    moved-field f (memory r) later there rest = λ i. more_stmts (assign 0 f (written-stays (row_start local r) i)) (rest i)
    moved-field f (ring_items r) later there rest = rest
    moved-field f (ring_place r) later there rest = ap (more_stmts (assign 0 f nought)) rest
    moved-field f (ring_taken r) later there rest = ap (more_stmts (assign 0 f nought)) rest
    moved-field f trigger later there rest = ap (more_stmts (assign 0 f nought)) rest
    moved-field f (counter name type) later there rest = by all
      where
        by : (t : Bool) →
            moved_stmts m (stmts_of_list ((if t then assign 0 f nought ∷ [] else []) ++ later))
            ≡ stmts_of_list ((if t then assign 0 f nought ∷ [] else []) ++ there)
        by true = ap (more_stmts (assign 0 f nought)) rest
        by false = rest
    moved-field f (instance k u) later there rest = ap (more_stmts (call 0 (moved_callee k u) (Child f) no_exprs)) rest
    moved-field f filler later there rest = rest

    pub moved-fields : (f : ℕ) (slots : List Slot) →
        moved_stmts m (stmts_of_list (fields_code all local callee f slots)) ≡ stmts_of_list (fields_code all local moved_callee f slots)
    moved-fields f [] = refl
    moved-fields f (s ∷ slots) =
        moved-field f s (fields_code all local callee (f + 1) slots) (fields_code all local moved_callee (f + 1) slots)
        (moved-fields (f + 1) slots)
