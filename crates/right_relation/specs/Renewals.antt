-- The start and the reset of an instance, from any fields of its struct's form: what each makes of
-- them.
use Rattle.std.specs.Prelude.{◌≡◌, ◌⊎◌, ℕ, ◌+◌, ◌≤◌, List, [], ◌∷◌, map, length, sum_by, slice_index_or, pos, ⊤}
use Rattle.modules_profile.specs.LocalSystem.{LocalSystem}
use Rattle.c_semantics.specs.Cells.{Cell, number, object, Cells, no_cells, more_cells, cell_fields}
use Rattle.c_semantics.specs.Values.{step_limit}
use Rattle.emit_shape.specs.RowStarts.{row_start}
use Rattle.emit_shape.specs.Slots.{Slot, value, memory, ring_items, ring_place, ring_taken, trigger, counter, instance, filler}
use Rattle.right_relation.specs.Forms.{Forms, no_forms, HasForms, slot_forms}
use Rattle.right_relation.specs.Instances.{Offered, OnDone}
use Rattle.right_relation.specs.Budgets.{own_budget}

-- What fields an instance has, what such a procedure makes of them, and the most steps that it
-- takes.
pub record Renewal : Type 0 where
  pub forms : Forms
  pub renewed : Cells → Cells
  pub most : ℕ

abbrev pub no_renewal : Renewal
no_renewal = record { forms = no_forms; renewed = λ cells. cells; most = 0 }

abbrev pub renewal_at : List Renewal → ℕ → Renewal
renewal_at renewals k = slice_index_or renewals k no_renewal

-- Whatever numbers its fields hold, wherever there is room for the steps, the procedure isn't
-- stuck, makes this of them, and logs no call.
pub record Renews (q : Offered) (n : Renewal) : Type 0 where
  pub does : (before : Cells) (steps : ℕ) → HasForms n.forms before → steps + n.most ≤ step_limit →
      OnDone (q.routine.run [] before steps) (λ a. (a.cells ≡ n.renewed before)
      × (a.steps ≤ steps + n.most) × (a.log ≡ []))
  pub keeps : (before : Cells) → HasForms n.forms before → HasForms n.forms (n.renewed before)

-- ---- What becomes of each field, where these are the starts, or the resets, of the children

module _ (local : LocalSystem) (children : List Renewal) where
  -- The start: values and memories become those before the first tick, a ring counts as empty,
  -- whatever stays in its array, the trigger is not yet, no function counts as called, and each
  -- child is started.
  abbrev pub IsStarted : Slot → (before after : Cell) → Type 0
  IsStarted (value r) before after = after ≡ number (row_start local r)
  IsStarted (memory r) before after = after ≡ number (row_start local r)
  IsStarted (ring_items r) before after = after ≡ before
  IsStarted (instance k u) before after =
      after ≡ object ((renewal_at children k).renewed (cell_fields before))
  IsStarted filler before after = after ≡ before
  IsStarted _ before after = after ≡ number (pos 0)

  -- The reset: memories become those before the first tick, a ring counts as empty, the trigger is
  -- not yet, each child is reset, and no value changes. A counter may become 0.
  abbrev pub IsReset : Slot → (before after : Cell) → Type 0
  IsReset (value r) before after = after ≡ before
  IsReset (memory r) before after = after ≡ number (row_start local r)
  IsReset (ring_items r) before after = after ≡ before
  IsReset (ring_place r) before after = after ≡ number (pos 0)
  IsReset (ring_taken r) before after = after ≡ number (pos 0)
  IsReset trigger before after = after ≡ number (pos 0)
  IsReset (counter name type) before after = (after ≡ before) ⊎ (after ≡ number (pos 0))
  IsReset (instance k u) before after =
      after ≡ object ((renewal_at children k).renewed (cell_fields before))
  IsReset filler before after = after ≡ before

-- it becomes of all of them
abbrev pub AllSlots : (Slot → Cell → Cell → Type 0) → List Slot → (before after : Cells) → Type 0
AllSlots P [] no_cells no_cells = ⊤
AllSlots P [] no_cells (more_cells c after) = ⊥
AllSlots P [] (more_cells b before) after = ⊥
AllSlots P (s ∷ slots) no_cells after = ⊥
AllSlots P (s ∷ slots) (more_cells b before) no_cells = ⊥
AllSlots P (s ∷ slots) (more_cells b before) (more_cells c after) =
    P s b c × AllSlots P slots before after

-- A system's procedure makes this of its own fields, wherever those of its children renew theirs;
-- its own steps are within the budget, and no more than one for each field.
pub record RenewsOwn (local : LocalSystem) (slots : List Slot) (children : List Renewal)
    (IsSo : Slot → Cell → Cell → Type 0) (q : Offered) : Type 0 where
  pub own : Renewal
  pub forms : own.forms ≡ slot_forms (map (λ n. n.forms) children) slots
  pub becomes : (before : Cells) → HasForms own.forms before →
      AllSlots IsSo slots before (own.renewed before)
  pub most : own.most ≤ own_budget local + sum_by (λ (n : Renewal). n.most) children
  pub short : own.most ≤ length slots + sum_by (λ (n : Renewal). n.most) children
  pub renews : Renews q own
