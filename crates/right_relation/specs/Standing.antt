-- The fields of a system's instance in a tick, by the nodes that were executed and the counters.
use Rattle.std.specs.Prelude.{◌≡◌, ◌↔◌, ℕ, ◌<◌, ◌≤◌, Bool, false, ◌||◌, ◌&&◌, if◌then◌else◌, List, [], ◌∷◌, map, length, Contains, IsTrue, ℤ, pos, Option, None, Some}
use Rattle.std.specs.List.{list_any, range_with_len}
use Rattle.diagram_activity.specs.declared.TrigMem.{TrigMem}
use Rattle.diagram_activity.specs.declared.TrigMem.TheVariants.{NotYet, Low, High}
use Rattle.diagram_meaning.specs.Run.{first_of}
use Rattle.modules_profile.specs.declared.ChildUse.{ChildUse}
use Rattle.modules_profile.specs.declared.Node.{Node}
use Rattle.modules_profile.specs.declared.Node.TheVariants.{Row, Call}
use Rattle.modules_profile.specs.LocalSystem.{LocalSystem}
use Rattle.modules_profile.specs.SystemHeader.{SystemHeader}
use Rattle.modules_profile.specs.Headers.{header_functions}
use Rattle.modules_profile.specs.Locals.{outports}
use Rattle.modules_profile.specs.LocalNodes.{same_node, node_list, Holds}
use Rattle.c_semantics.specs.Cells.{Cell, number, items, object, Cells, no_cells, more_cells}
use Rattle.emit_shape.specs.Slots.{Slot, value, memory, ring_items, ring_place, ring_taken, trigger, counter, instance, filler}
use Rattle.right_relation.specs.LocalTicks.{LocalTick, is_active, is_off}
use Rattle.right_relation.specs.Instances.{OuterTick, InstanceTick, instance_at}
use Rattle.diagram_activity.specs.Activity.{memory_number}

-- fields from a list of them
abbrev pub cells_of : List Cell → Cells
cells_of [] = no_cells
cells_of (c ∷ cs) = more_cells c (cells_of cs)

-- ---- Which nodes were executed

-- `held j x` says that function j holds node x: it gives an output that x reaches. What is no node
-- is held by none.
pub record AreHeld (local : LocalSystem) (h : SystemHeader) (held : ℕ → Node → Bool) : Type 0 where
  pub nodes : (j : ℕ) (x : Node) → 0 < j → j ≤ length (header_functions h) →
      Contains (node_list local) x → IsTrue (held j x) ↔ Holds local h j x
  pub others : (j : ℕ) (x : Node) → (Contains (node_list local) x → ⊥) → held j x ≡ false

-- the nodes that called functions hold
abbrev pub executed_by : SystemHeader → (ℕ → Node → Bool) → (ℕ → Bool) → Node → Bool
executed_by h held called x =
    list_any (λ j. called j && held j x) (range_with_len 1 (length (header_functions h)))

-- one node more
abbrev pub with_node : (Node → Bool) → Node → Node → Bool
with_node executed x y = same_node y x || executed y

-- whether the call of a function of the child of this row was executed; the root is no child
abbrev pub is_call_executed : (row : Option ℕ) → (Node → Bool) → ℕ → Bool
is_call_executed None executed j = false
is_call_executed (Some e) executed j = executed (Call e j)

-- the functions of a child that were called: those whose nodes were executed, where the system is
-- active
abbrev pub called_in : (is_active : Bool) → (Node → Bool) → ChildUse → ℕ → Bool
called_in is_active executed u j = is_active && is_call_executed u.header.row executed j

-- ---- The fields

module _ (local : LocalSystem) (m : LocalTick) (children : List InstanceTick) where
  -- A field in the tick: an executed row has the tick's value, another that before; a memory, and
  -- what the trigger remembers, are those before the tick; a child is where its calls brought
  -- it, and where the system isn't active it has none.
  abbrev pub standing_cell : (executed : Node → Bool) (counted : List ℕ → ℤ) → Slot → Cell
  standing_cell executed counted (value r) =
      number (if executed (Row r.row) then m.tick.value r.row else m.tick.before r.row)
  standing_cell executed counted (memory r) = number (first_of (m.tick.memory r.row))
  standing_cell executed counted (ring_items r) = items (m.ring r.row).items
  standing_cell executed counted (ring_place r) = number (pos (m.ring r.row).place)
  standing_cell executed counted (ring_taken r) = number (pos (m.ring r.row).taken)
  standing_cell executed counted trigger = number (memory_number m.tick.trigger)
  standing_cell executed counted (counter name type) = number (counted name)
  standing_cell executed counted (instance k u) =
      object ((instance_at children k).standing (called_in (is_active local m) executed u))
  standing_cell executed counted filler = number m.filler

  abbrev pub standing_cells : List Slot → (executed : Node → Bool) (counted : List ℕ → ℤ) → Cells
  standing_cells slots executed counted = cells_of (map (standing_cell executed counted) slots)

  -- a field at the next tick, before any call
  abbrev pub after_cell : Slot → Cell
  after_cell (value r) = number (m.tick.value r.row)
  after_cell (memory r) = number (first_of (m.tick.memory_after r.row))
  after_cell (ring_items r) = items (m.ring_after r.row).items
  after_cell (ring_place r) = number (pos (m.ring_after r.row).place)
  after_cell (ring_taken r) = number (pos (m.ring_after r.row).taken)
  after_cell trigger = number (memory_number m.tick.trigger_after)
  after_cell (counter name type) = number (pos 0)
  after_cell (instance k u) = object (instance_at children k).after
  after_cell filler = number m.filler

  abbrev pub after_cells : List Slot → Cells
  after_cells slots = cells_of (map after_cell slots)

-- ---- The tick from outside

module _ (local : LocalSystem) (m : LocalTick) where
  -- the tick as the code around the system meets it
  abbrev pub outer_tick_of : OuterTick
  outer_tick_of = record {
    t = m.tick.t;
    parent = m.tick.parent;
    is_off_around = m.tick.is_off_around;
    inputs = m.tick.inputs;
    controls = m.tick.controls;
    before = map (λ o. m.tick.before o.row) (outports local);
    outputs = map (λ o. m.tick.value o.row) (outports local);
  }

  -- the tick as a child meets it
  abbrev pub child_tick_of : ChildUse → OuterTick
  child_tick_of u = record {
    t = m.tick.t;
    parent = is_active local m;
    is_off_around = m.tick.is_off_around || is_off local m;
    inputs = map m.tick.value u.wires;
    controls = map m.tick.value u.controls;
    before = map (λ o. m.tick.before o.0) u.header.outputs;
    outputs = map (λ o. m.tick.value o.0) u.header.outputs;
  }
