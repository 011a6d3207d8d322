-- What a system's code does to its children in an act, and what that adds to its steps, its log and
-- its stores.
use Rattle.std.specs.Prelude.{◌≡◌, ℕ, ◌+◌, ◌≤◌, Bool, true, false, not, ◌&&◌, if◌then◌else◌, MatchBool, List, [], ◌∷◌, ◌++◌, map, filter, length, sum_by, slice_get, IsPermutation, Some}
use Rattle.std.specs.List.{range_with_len, enumerate_from}
use Rattle.modules_profile.specs.declared.ChildUse.{ChildUse}
use Rattle.modules_profile.specs.declared.LocalRow.{LocalRow}
use Rattle.modules_profile.specs.declared.Node.{Node}
use Rattle.modules_profile.specs.declared.Node.TheVariants.{Row}
use Rattle.modules_profile.specs.LocalSystem.{LocalSystem}
use Rattle.modules_profile.specs.SystemHeader.{SystemHeader}
use Rattle.modules_profile.specs.Headers.{header_functions}
use Rattle.c_semantics.specs.Machine.{LoggedCall}
use Rattle.emit_shape.specs.Slots.{Slot, value, instance}
use Rattle.right_relation.specs.LocalTicks.{LocalTick, is_active, is_off}
use Rattle.right_relation.specs.Instances.{Act, out, update, reset, called_after, InstanceTick, instance_at, calls_inside}
use Rattle.right_relation.specs.Standing.{executed_by, called_in}

-- the log of acts on an instance, one after another, from these called on
abbrev pub log_along : InstanceTick → (ℕ → Bool) → List Act → List LoggedCall
log_along i called [] = []
log_along i called (a ∷ acts) = i.log called a ++ log_along i (called_after called a) acts

-- the most steps that they take, and the most stores in a field
abbrev pub most_along : InstanceTick → (ℕ → Bool) → List Act → ℕ
most_along i called [] = 0
most_along i called (a ∷ acts) = i.most called a + most_along i (called_after called a) acts

abbrev pub stored_along : InstanceTick → (ℕ → Bool) → List Act → List ℕ → ℕ → ℕ
stored_along i called [] path field = 0
stored_along i called (a ∷ acts) path field =
    i.stored called a path field + stored_along i (called_after called a) acts path field

-- each of these functions is called once, in some order
abbrev pub AreCalls : List ℕ → List Act → Type 0
AreCalls functions acts = (js : List ℕ) × IsPermutation functions js × (acts ≡ map out js)

-- the same, and then the update
abbrev pub AreCallsAndUpdate : List ℕ → List Act → Type 0
AreCallsAndUpdate functions acts =
    (js : List ℕ) × IsPermutation functions js × (acts ≡ map out js ++ update ∷ [])

module _ (local : LocalSystem) (h : SystemHeader) (held : ℕ → Node → Bool) (m : LocalTick) where
  -- the nodes that are executed in an act, and in it alone
  abbrev pub newly_executed : (ℕ → Bool) → Act → Node → Bool
  newly_executed called (out j) x =
      executed_by h held (called_after called (out j)) x && not (executed_by h held called x)
  newly_executed called update x = not (executed_by h held called x)
  newly_executed called reset x = false

  -- the functions of a child that are called in an act
  abbrev pub newly_called : (ℕ → Bool) → Act → ChildUse → List ℕ
  newly_called called act u =
      filter (called_in true (newly_executed called act) u)
      (range_with_len 1 (length (header_functions u.header)))

  -- What is done to a child in an act: where the system is active, the calls of the nodes that are
  -- executed, and in the update the child's update at the end; where it is not, nothing, but a
  -- reset in the update of a system that is off, and in each reset.
  abbrev pub AreActs : (ℕ → Bool) → Act → ChildUse → List Act → Type 0
  AreActs called (out j) u acts =
      MatchBool (is_active local m) (AreCalls (newly_called called (out j) u) acts) (acts ≡ [])
  AreActs called update u acts =
      MatchBool (is_active local m) (AreCallsAndUpdate (newly_called called update u) acts) (acts
      ≡ (if is_off local m then reset ∷ [] else []))
  AreActs called reset u acts = acts ≡ reset ∷ []

-- The accounts of an act of `own`, where `acts k` is what is done to child k: its steps are those
-- of its own procedures and those of the children's; its log inside a child is the child's, and
-- there is none elsewhere; and each own value is stored once at most, in the act in which its row
-- is executed.
pub record Adds (local : LocalSystem) (h : SystemHeader) (held : ℕ → Node → Bool) (m : LocalTick)
    (slots : List Slot) (children : List InstanceTick) (own : InstanceTick) (steps : (ℕ → Bool) →
    Act → ℕ) (called : ℕ → Bool) (act : Act) : Type 0 where
  pub acts : ℕ → List Act
  pub are_acts : (k : ℕ) (u : ChildUse) → slice_get local.children k ≡ Some u →
      AreActs local h held m called act u (acts k)
  pub most : own.most called act
      ≡ steps called act
      + sum_by (λ (e : ℕ × ChildUse). most_along (instance_at children e.0)
      (called_in (is_active local m) (executed_by h held called) e.1) (acts e.0))
      (enumerate_from 0 local.children)
  pub log : (f k : ℕ) (u : ChildUse) → slice_get slots f ≡ Some (instance k u) →
      calls_inside f (own.log called act)
      ≡ log_along (instance_at children k)
      (called_in (is_active local m) (executed_by h held called) u) (acts k)
  pub no_other_log : (f : ℕ) → ((k : ℕ) (u : ChildUse) → slice_get slots f ≡ Some (instance k u) →
      ⊥) → calls_inside f (own.log called act) ≡ []
  pub stored : (f k : ℕ) (u : ChildUse) (path : List ℕ) (field : ℕ) →
      slice_get slots f ≡ Some (instance k u) →
      own.stored called act (f ∷ path) field ≤ stored_along (instance_at children k)
      (called_in (is_active local m) (executed_by h held called) u) (acts k) path field
  pub stored_here : (f : ℕ) (r : LocalRow) → slice_get slots f ≡ Some (value r) →
      own.stored called act [] f ≤ (if newly_executed local h held m called act (Row r.row) then 1
      else 0)
