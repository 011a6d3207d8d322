-- The relation in the first tick of a root and its shared child, in an order of calls that no root
-- makes.
use Rattle.std.specs.Prelude.{◌≡◌, refl, ℕ, Bool, true, false, ◌||◌, ◌==◌, cond, List, [], ◌∷◌, map, pos, ℤ, bytes_eq, if◌then◌else◌}
use Rattle.std.specs.List.{list_any}
use Rattle.std.specs.Fmt.{digits}
use Rattle.diagram_activity.specs.declared.TrigMem.TheVariants.{NotYet}
use Rattle.modules_profile.specs.declared.Node.{Node}
use Rattle.modules_profile.specs.declared.Node.TheVariants.{Row, Call}
use Rattle.modules_profile.specs.LocalSamples.{inner_local, inner_profile, outer_local, outer_profile}
use Rattle.modules_profile.specs.Locals.{own_header}
use Rattle.modules_profile.specs.LocalNodes.{same_node}
use Rattle.base_core.specs.Numbers.{int_at}
use Rattle.c_semantics.specs.Cells.{Cells}
use Rattle.emit_shape.specs.Names.{counter_name}
use Rattle.emit_shape.specs.TinySamples.{x1, y1, inner_slots, child_code, outer_slots, outer_code}
use Rattle.right_relation.specs.Budgets.{own_budget}
use Rattle.right_relation.specs.Rings.{begun_ring}
use Rattle.right_relation.specs.LocalTicks.{LocalTick, value_of}
use Rattle.right_relation.specs.Instances.{Act, out, update, none_called, with_called, InstanceTick, Offer, offered_for, calls_at, calls_inside, OnDone}
use Rattle.right_relation.specs.Serving.{act_values}
use Rattle.right_relation.specs.Standing.{standing_cells, after_cells, executed_by, outer_tick_of, child_tick_of}
use Rattle.right_relation.specs.Relation.{own_offer}
use Rattle.right_relation.specs.Accounts.{newly_called}

-- the first tick, with the inputs 1 and 10: the values by row, and what the child meets
abbrev values : ℕ → ℤ
values b = int_at (pos 1 ∷ pos 10 ∷ pos 0 ∷ pos 1 ∷ pos 1 ∷ pos 11 ∷ pos 1 ∷ pos 11 ∷ []) b

abbrev first_tick : List ℤ → LocalTick
first_tick inputs = record {
  tick = record {
    t = 0;
    parent = true;
    is_off_around = false;
    inputs = inputs;
    controls = [];
    before = λ b. pos 0;
    value = values;
    memory = λ b. [];
    memory_after = λ b. [];
    trigger = NotYet;
    trigger_after = NotYet;
  };
  ring = λ b. begun_ring [];
  ring_after = λ b. begun_ring [];
  filler = pos 0;
}

abbrev outer_tick : LocalTick
outer_tick = first_tick (pos 1 ∷ pos 10 ∷ [])

abbrev inner_tick : LocalTick
inner_tick = first_tick (pos 1 ∷ [])

-- the values are those of the equations, and the child meets the tick that its own rows have
equations : map (value_of outer_local outer_tick) outer_local.rows
    ≡ map (λ r. values r.row) outer_local.rows
equations = refl

visits : map (child_tick_of outer_local outer_tick) outer_local.children
    ≡ outer_tick_of inner_local inner_tick ∷ []
visits = refl

-- ---- The child

abbrev inner_held : ℕ → Node → Bool
inner_held j x = list_any (same_node x) (Row 3 ∷ Row 4 ∷ [])

abbrev inner_counted : (ℕ → Bool) → List ℕ → ℤ
inner_counted called name = cond (called 1) (pos 1) (pos 0)

abbrev inner_standing : (ℕ → Bool) → Cells
inner_standing called =
    standing_cells inner_local inner_tick [] (inner_slots x1 y1)
    (executed_by (own_header inner_local inner_profile) inner_held called) (inner_counted called)

abbrev inner_after : Cells
inner_after = after_cells inner_local inner_tick [] (inner_slots x1 y1)

abbrev inner_offer : Offer
inner_offer = own_offer inner_local inner_profile [] (inner_slots x1 y1) [] child_code (λ k. k)

abbrev inner_instance : InstanceTick
inner_instance =
    record {
      standing = inner_standing;
      after = inner_after;
      most = λ called act. 0;
      log = λ called act. [];
      stored = λ called act path field. 0;
    }

-- its function brings the fields to where its one function counts as called
inner_out : OnDone
    ((offered_for inner_offer (out 1)).routine.run
    (act_values (own_header inner_local inner_profile) 1 (outer_tick_of inner_local inner_tick)
    (out 1)) (inner_standing none_called) 0) (λ a. a.cells
    ≡ inner_standing (with_called none_called 1))
unfolding digits
inner_out = refl

-- ---- The root

-- both functions hold In1 and the call; the second holds In2, the Sum and Out2, and the first Out1
abbrev outer_held : ℕ → Node → Bool
outer_held j x =
    list_any (same_node x) (if j == 1 then Row 0 ∷ Call 2 1 ∷ Row 6 ∷ [] else Row 0 ∷ Call 2 1
    ∷ Row 1 ∷ Row 5 ∷ Row 7 ∷ [])

abbrev outer_counted : (ℕ → Bool) → List ℕ → ℤ
outer_counted called name =
    if bytes_eq name (counter_name 0) then cond (called 1 || called 2) (pos 1) (pos 0)
    else (if bytes_eq name (counter_name 1) then cond (called 2) (pos 1) (pos 0)
    else cond (called 1) (pos 1) (pos 0))

abbrev outer_standing : (ℕ → Bool) → Cells
outer_standing called =
    standing_cells outer_local outer_tick (inner_instance ∷ []) outer_slots
    (executed_by (own_header outer_local outer_profile) outer_held called) (outer_counted called)

abbrev outer_offer : Offer
outer_offer =
    own_offer outer_local outer_profile [] outer_slots (inner_offer ∷ []) outer_code (λ k. k)

-- what an act leaves
abbrev Leads : (ℕ → Bool) → Act → Cells → Type 0
Leads called act cells =
    OnDone ((offered_for outer_offer act).routine.run
    (act_values (own_header outer_local outer_profile) 1 (outer_tick_of outer_local outer_tick)
    act) (outer_standing called) 0) (λ a. a.cells ≡ cells)

-- the second function first, then the first, then the update
second_first : Leads none_called (out 2) (outer_standing (with_called none_called 2))
unfolding digits
second_first = refl

first_then : Leads (with_called none_called 2) (out 1)
    (outer_standing (with_called (with_called none_called 2) 1))
unfolding digits
first_then = refl

update_last : Leads (with_called (with_called none_called 2) 1) update
    (after_cells outer_local outer_tick (inner_instance ∷ []) outer_slots)
unfolding digits
update_last = refl

-- the child's function is called in the first of these calls and in no other
newly_first : map
    (newly_called outer_local (own_header outer_local outer_profile) outer_held outer_tick
    none_called (out 2)) outer_local.children ≡ (1 ∷ []) ∷ []
newly_first = refl

newly_then : map
    (newly_called outer_local (own_header outer_local outer_profile) outer_held outer_tick
    (with_called none_called 2) (out 1)) outer_local.children ≡ [] ∷ []
newly_then = refl

-- the second function's call logs itself, and the child's function, whose number is 1 in its own
-- code, inside field 5
abbrev Logs : (ℕ → Bool) → Act → (own inside : List ℕ) → Type 0
Logs called act own inside =
    OnDone ((offered_for outer_offer act).routine.run
    (act_values (own_header outer_local outer_profile) 1 (outer_tick_of outer_local outer_tick)
    act) (outer_standing called) 0) (λ a. (calls_at [] a.log ≡ own)
    × (calls_at [] (calls_inside 5 a.log) ≡ inside))

first_log : Logs none_called (out 2) (4 ∷ []) (1 ∷ [])
unfolding digits
first_log = (refl, refl)

then_log : Logs (with_called none_called 2) (out 1) (3 ∷ []) []
unfolding digits
then_log = (refl, refl)

last_log : Logs (with_called (with_called none_called 2) 1) update (5 ∷ []) (2 ∷ [])
unfolding digits
last_log = (refl, refl)

-- a child with two rows and one output, and a root with six rows and two outputs whose child has
-- one
inner_budget : own_budget inner_local ≡ 32
inner_budget = refl

outer_budget : own_budget outer_local ≡ 156
outer_budget = refl
