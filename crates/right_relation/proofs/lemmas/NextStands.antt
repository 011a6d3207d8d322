-- The fields of a tick, before any call, are those that the tick before it, or the start, leaves.
use Rattle.std.specs.Prelude.{◌≡◌, ℕ, Bool, true, false, ◌&&◌, Option, None, Some, List, [], ◌∷◌, ℤ, pos, refl}
use Rattle.std.proofs.Common.{sym, ap, ap₂, ◌∙◌}
use Rattle.modules_profile.specs.LocalSystem.{LocalSystem}
use Rattle.c_semantics.specs.Cells.{Cell, number, items, object, Cells, no_cells, more_cells}
use Rattle.emit_shape.specs.Slots.{Slot, value, memory, ring_items, ring_place, ring_taken, trigger, counter, instance, filler}
use Rattle.diagram_meaning.specs.Run.{first_of}
use Rattle.right_relation.specs.Rings.{Ring}
use Rattle.right_relation.specs.LocalTicks.{LocalTick, is_active}
use Rattle.right_relation.specs.Instances.{InstanceTick, instance_at, none_called}
use Rattle.right_relation.specs.Standing.{is_call_executed, standing_cell, standing_cells, after_cell, after_cells}
use Rattle.diagram_activity.specs.Activity.{memory_number}
use Rattle.right_relation.specs.Renewals.{Renewal, IsStarted, AllSlots}
use Rattle.right_relation.specs.StandingLaws.{Follows, NextStands, BeginsFrom, BeginsFromAll, FirstStands}
use Rattle.right_relation.specs.RunTickLaws.{TicksFollow}

-- no call was executed where no node was
nothing : (active : Bool) (row : Option ℕ) (j : ℕ) → false ≡ (active && is_call_executed row (λ x. false) j)
nothing true None j = refl
nothing true (Some e) j = refl
nothing false row j = refl

module _ (local : LocalSystem) (m next : LocalTick) (children nexts : List InstanceTick) (counted : List ℕ → ℤ) (follows : Follows m next)
    (zero : (name : List ℕ) → counted name ≡ pos 0) (linked : (k : ℕ) →
    (instance_at children k).after ≡ (instance_at nexts k).standing none_called) where
  slot : (s : Slot) → after_cell local m children s ≡ standing_cell local next nexts (λ x. false) counted s
  slot (value r) = ap number (sym (follows.before r.row))
  slot (memory r) = ap (λ v. number (first_of v)) (sym (follows.memory r.row))
  slot (ring_items r) = ap (λ (v : Ring). items v.items) (sym (follows.ring r.row))
  slot (ring_place r) = ap (λ (v : Ring). number (pos v.place)) (sym (follows.ring r.row))
  slot (ring_taken r) = ap (λ (v : Ring). number (pos v.taken)) (sym (follows.ring r.row))
  slot trigger = ap (λ g. number (memory_number g)) (sym follows.trigger)
  slot (counter name type) = ap number (sym (zero name))
  slot (instance k u) = ap object (linked k ∙ ap (instance_at nexts k).standing (λ i j. nothing (is_active local next) u.header.row j i))
  slot filler = ap number (sym follows.filler)

  all : (slots : List Slot) → after_cells local m children slots ≡ standing_cells local next nexts slots (λ x. false) counted
  all [] = refl
  all (s ∷ slots) = ap₂ more_cells (slot s) (all slots)

pub next_stands : NextStands
next_stands local slots m next children nexts counted follows zero linked =
    all local m next children nexts counted follows zero linked slots

module _ (local : LocalSystem) (m : LocalTick) (renewals : List Renewal) (children : List InstanceTick)
    (counted : List ℕ → ℤ) (zero : (name : List ℕ) → counted name ≡ pos 0) where
  first_slot : (s : Slot) (b c : Cell) → IsStarted local renewals s b c → BeginsFrom local m renewals children s b →
      c ≡ standing_cell local m children (λ x. false) counted s
  first_slot (value r) b c is begins = is ∙ ap number (sym begins)
  first_slot (memory r) b c is begins = is ∙ ap number (sym begins)
  first_slot (ring_items r) b c is begins = is ∙ begins
  first_slot (ring_place r) b c is begins = is ∙ ap (λ k. number (pos k)) (sym begins)
  first_slot (ring_taken r) b c is begins = is ∙ ap (λ k. number (pos k)) (sym begins)
  first_slot trigger b c is begins = is ∙ ap (λ g. number (memory_number g)) (sym begins)
  first_slot (counter name type) b c is begins = is ∙ ap number (sym (zero name))
  first_slot (instance k u) b c is begins =
      is ∙ ap object (begins
      ∙ ap (instance_at children k).standing (λ i j. nothing (is_active local m) u.header.row j i))
  first_slot filler b c is begins = is ∙ begins

  first_all : (slots : List Slot) (before after : Cells) → AllSlots (IsStarted local renewals) slots before after →
      BeginsFromAll local m renewals children slots before →
      after ≡ standing_cells local m children slots (λ x. false) counted
  first_all [] no_cells no_cells is begins = refl
  first_all [] no_cells (more_cells c after) is begins = absurd is
  first_all [] (more_cells b before) after is begins = absurd is
  first_all (s ∷ slots) no_cells after is begins = absurd is
  first_all (s ∷ slots) (more_cells b before) no_cells is begins = absurd is
  first_all (s ∷ slots) (more_cells b before) (more_cells c after) is begins =
      ap₂ more_cells (first_slot s b c is.0 begins.0) (first_all slots before after is.1 begins.1)

pub first_stands : FirstStands
first_stands local slots m renewals children counted before after is begins zero =
    first_all local m renewals children counted zero slots before after is begins

-- ticks of a run follow each other by definition
pub ticks_follow : TicksFollow
ticks_follow d s n xs run untouched t = record { before = λ b. refl; memory = λ b. refl; ring = λ b. refl; trigger = refl; filler = refl }
