-- Laws of the fields in a tick: those of the next tick are what this one leaves, those of the first
-- what a start leaves; what a node needs is held where it is, in an earlier group or in its own;
-- and an own output is held by one function.
use Rattle.std.specs.Prelude.{◌≡◌, ◌↔◌, ℕ, ◌<◌, ◌≤◌, Bool, false, List, [], ◌∷◌, length, slice_get, slice_index, Contains, IsTrue, Some, ℤ, pos, ⊤}
use Rattle.base_graph.specs.NeedsGraph.{NeedsGraph, Needs}
use Rattle.modules_clusters.specs.Clusters.{AreClusters}
use Rattle.modules_clusters.specs.Grouping.{AreGroups}
use Rattle.modules_clusters.specs.NodeGroups.{NodeGroups}
use Rattle.diagram_activity.specs.declared.TrigMem.TheVariants.{NotYet}
use Rattle.diagram_meaning.specs.Run.{first_of}
use Rattle.modules_profile.specs.declared.LocalRow.{LocalRow}
use Rattle.modules_profile.specs.declared.Node.{Node}
use Rattle.modules_profile.specs.declared.Node.TheVariants.{Row}
use Rattle.modules_profile.specs.LocalSystem.{LocalSystem}
use Rattle.modules_profile.specs.SystemHeader.{SystemHeader}
use Rattle.modules_profile.specs.SystemProfile.{SystemProfile}
use Rattle.base_core.specs.Ports.{has_bit}
use Rattle.modules_profile.specs.Headers.{header_functions, header_function}
use Rattle.modules_profile.specs.Locals.{outports, own_header}
use Rattle.modules_profile.specs.LocalNodes.{node_list, NodeNeeds}
use Rattle.c_semantics.specs.Cells.{Cell, number, items, Cells, no_cells, more_cells, cell_fields}
use Rattle.emit_shape.specs.RowStarts.{row_start}
use Rattle.emit_shape.specs.Slots.{Slot, value, memory, ring_items, ring_place, ring_taken, trigger, counter, instance, filler}
use Rattle.right_relation.specs.LocalTicks.{LocalTick}
use Rattle.right_relation.specs.Instances.{InstanceTick, instance_at, none_called}
use Rattle.right_relation.specs.Standing.{AreHeld, standing_cells, after_cells}
use Rattle.right_relation.specs.Renewals.{Renewal, renewal_at, IsStarted, AllSlots}
use Rattle.right_relation.specs.SoundLocals.{IsSoundLocal}

-- The next tick's fields are what this tick leaves, and the first tick's are what the start leaves,
-- where counters and children agree.
pub record Follows (m next : LocalTick) : Type 0 where
  pub before : (b : ℕ) → next.tick.before b ≡ m.tick.value b
  pub memory : (b : ℕ) → next.tick.memory b ≡ m.tick.memory_after b
  pub ring : (b : ℕ) → next.ring b ≡ m.ring_after b
  pub trigger : next.tick.trigger ≡ m.tick.trigger_after
  pub filler : next.filler ≡ m.filler

abbrev pub NextStands : Type 0
NextStands =
    (local : LocalSystem) (slots : List Slot) (m next : LocalTick)
    (children nexts : List InstanceTick) (counted : List ℕ → ℤ) → Follows m next →
    ((name : List ℕ) → counted name ≡ pos 0) →
    ((k : ℕ) → (instance_at children k).after ≡ (instance_at nexts k).standing none_called) →
    after_cells local m children slots ≡ standing_cells local next nexts slots (λ x. false) counted

-- the tick begins with what a start makes of these fields
abbrev pub BeginsFrom : LocalSystem → LocalTick → List Renewal → List InstanceTick → Slot → Cell →
    Type 0
BeginsFrom local m renewals children (value r) before = m.tick.before r.row ≡ row_start local r
BeginsFrom local m renewals children (memory r) before =
    first_of (m.tick.memory r.row) ≡ row_start local r
BeginsFrom local m renewals children (ring_items r) before = before ≡ items (m.ring r.row).items
BeginsFrom local m renewals children (ring_place r) before = (m.ring r.row).place ≡ 0
BeginsFrom local m renewals children (ring_taken r) before = (m.ring r.row).taken ≡ 0
BeginsFrom local m renewals children trigger before = m.tick.trigger ≡ NotYet
BeginsFrom local m renewals children (counter name type) before = ⊤
BeginsFrom local m renewals children (instance k u) before =
    (renewal_at renewals k).renewed (cell_fields before)
    ≡ (instance_at children k).standing none_called
BeginsFrom local m renewals children filler before = before ≡ number m.filler

abbrev pub BeginsFromAll : LocalSystem → LocalTick → List Renewal → List InstanceTick → List Slot →
    Cells → Type 0
BeginsFromAll local m renewals children [] cells = ⊤
BeginsFromAll local m renewals children (s ∷ slots) no_cells = ⊥
BeginsFromAll local m renewals children (s ∷ slots) (more_cells c cells) =
    BeginsFrom local m renewals children s c × BeginsFromAll local m renewals children slots cells

abbrev pub FirstStands : Type 0
FirstStands = (local : LocalSystem) (slots : List Slot) (m : LocalTick) (renewals : List Renewal)
    (children : List InstanceTick) (counted : List ℕ → ℤ) (before after : Cells) →
    AllSlots (IsStarted local renewals) slots before after →
    BeginsFromAll local m renewals children slots before →
    ((name : List ℕ) → counted name ≡ pos 0) →
    after ≡ standing_cells local m children slots (λ x. false) counted

-- where a node needs another, each function that holds the one holds the other
abbrev pub NeededIsHeld : Type 0
NeededIsHeld =
    (local : LocalSystem) (h : SystemHeader) (held : ℕ → Node → Bool) (j : ℕ) (x y : Node) →
    AreHeld local h held →
    0 < j → j ≤ length (header_functions h) → Contains (node_list local) x →
    Contains (node_list local) y →
    NodeNeeds local y x → IsTrue (held j y) → IsTrue (held j x)

-- an own output is held by the function that gives it, and by no other
abbrev pub OutportIsHeldAlone : Type 0
OutportIsHeldAlone =
    (local : LocalSystem) (profile : SystemProfile) (held : ℕ → Node → Bool) (j k : ℕ)
    (o : LocalRow) → IsSoundLocal local →
    AreHeld local (own_header local profile) held → 0 < j → j ≤ length profile.functions →
    slice_get (outports local) k ≡ Some o →
    IsTrue (held j (Row o.row))
    ↔ IsTrue (has_bit (header_function (own_header local profile) j).outputs k)

-- the group of a needed node comes before, or is the same
abbrev pub NeededGroupIsEarlier : Type 0
NeededGroupIsEarlier =
    (g : NeedsGraph) (outputs class clusters : List ℕ) (groups : NodeGroups) (a b : ℕ) →
    AreClusters g outputs class clusters → AreGroups clusters groups → a < g.n → b < g.n →
    Needs g b a →
    slice_index groups.of a ≤ slice_index groups.of b
