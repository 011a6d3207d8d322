-- Laws of the fields while nodes are executed: they have the struct's shape, one node more is one
-- field more, and the code of a node leads from the one to the other.
use Rattle.std.specs.Prelude.{◌≡◌, ◌⊎◌, ℕ, ◌+◌, ◌<◌, ◌≤◌, Bool, true, false, if◌then◌else◌, MatchBool, List, [], map, length, slice_get, Contains, IsTrue, IsFalse, Some, ℤ, pos}
use Rattle.std.specs.List.{AllZip}
use Rattle.diagram_blocks.specs.Meaning.{has_value}
use Rattle.modules_profile.specs.declared.ChildUse.{ChildUse}
use Rattle.modules_profile.specs.declared.LocalRow.{LocalRow}
use Rattle.modules_profile.specs.declared.Node.{Node}
use Rattle.modules_profile.specs.declared.Node.TheVariants.{Row, Call}
use Rattle.modules_profile.specs.LocalSystem.{LocalSystem}
use Rattle.modules_profile.specs.Headers.{header_functions}
use Rattle.modules_profile.specs.LocalNodes.{node_list, NodeNeeds}
use Rattle.c_syntax.specs.Tree.{StmtTrees, ParamTree}
use Rattle.c_semantics.specs.Cells.{number, object, set_cell}
use Rattle.c_semantics.specs.Machine.{Scope, call_under}
use Rattle.emit_shape.specs.Slots.{Slot, value, instance, AreSlots}
use Rattle.right_relation.specs.LocalTicks.{LocalTick, IsLocalTick, IsTypedTick, is_active}
use Rattle.right_relation.specs.Instances.{InstanceTick, instance_at, Offer, out, with_called}
use Rattle.right_relation.specs.Standing.{with_node, called_in, standing_cells}
use Rattle.right_relation.specs.NodeStatements.{HasSlots, IsArgument, Gives, GivesValue, GivesCall, nothing_stored, stored_once, stored_inside}
use Rattle.right_relation.specs.Relation.{ChildrenServe}
use Rattle.right_relation.specs.SoundLocals.{IsSoundLocal}

-- each counter is 0 or 1
abbrev pub IsCounting : (List ℕ → ℤ) → Type 0
IsCounting counted = (name : List ℕ) → (counted name ≡ pos 0) ⊎ (counted name ≡ pos 1)

-- ---- Fields

-- the fields of a typed tick have the struct's shape
abbrev pub StandingHasSlots : Type 0
StandingHasSlots =
    (local : LocalSystem) (slots : List Slot) (m : LocalTick) (children : List InstanceTick) →
    IsSoundLocal local → AreSlots local slots → IsLocalTick local m → IsTypedTick local m →
    (executed : Node → Bool) (counted : List ℕ → ℤ) → IsCounting counted →
    HasSlots slots (standing_cells local m children slots executed counted)

-- one row more is one field more
abbrev pub RowIsOneField : Type 0
RowIsOneField =
    (local : LocalSystem) (slots : List Slot) (m : LocalTick) (children : List InstanceTick) →
    IsSoundLocal local → AreSlots local slots →
    (executed : Node → Bool) (counted : List ℕ → ℤ) (f : ℕ) (r : LocalRow) →
    slice_get slots f ≡ Some (value r) →
    standing_cells local m children slots (with_node executed (Row r.row)) counted
    ≡ set_cell (standing_cells local m children slots executed counted) f
    (number (m.tick.value r.row))

-- a row without a value changes no field
abbrev pub RowIsNoField : Type 0
RowIsNoField =
    (local : LocalSystem) (slots : List Slot) (m : LocalTick) (children : List InstanceTick) →
    IsSoundLocal local → AreSlots local slots →
    (executed : Node → Bool) (counted : List ℕ → ℤ) (r : LocalRow) → Contains local.rows r →
    has_value r.kind ≡ false →
    standing_cells local m children slots (with_node executed (Row r.row)) counted
    ≡ standing_cells local m children slots executed counted

-- one call more is one child further, where the system is active
abbrev pub CallIsOneChild : Type 0
CallIsOneChild =
    (local : LocalSystem) (slots : List Slot) (m : LocalTick) (children : List InstanceTick) →
    IsSoundLocal local → AreSlots local slots →
    (executed : Node → Bool) (counted : List ℕ → ℤ) (f k j e : ℕ) (u : ChildUse) →
    slice_get slots f ≡ Some (instance k u) → u.header.row ≡ Some e →
    let cells = standing_cells local m children slots executed counted in
    let further = (instance_at children k).standing (with_called (called_in true executed u) j) in
    standing_cells local m children slots (with_node executed (Call e j)) counted
    ≡ (if is_active local m then set_cell cells f (object further) else cells)

-- ---- Code

-- A sound system with these slots in a typed tick in which the system around it is active, and its
-- children serve.
pub record IsInTick (local : LocalSystem) (slots : List Slot) (offers : List Offer)
    (children : List InstanceTick) (cycle : ℕ)
    (m : LocalTick) : Type 0 where
  pub sound : IsSoundLocal local
  pub are_slots : AreSlots local slots
  pub is_tick : IsLocalTick local m
  pub is_typed : IsTypedTick local m
  pub callable : IsTrue m.tick.parent
  pub serve : ChildrenServe local m cycle local.children offers children

-- all that a node needs was executed, and the node itself was not
pub record IsNextNode (local : LocalSystem) (executed : Node → Bool) (y : Node) : Type 0 where
  pub is_new : IsFalse (executed y)
  pub needs : (x : Node) → Contains (node_list local) x → NodeNeeds local y x → IsTrue (executed x)

-- The code of a row takes the fields from one set of executed nodes to the next.
abbrev pub RowIsExecuted : Type 0
RowIsExecuted =
    (local : LocalSystem) (slots : List Slot) (offers : List Offer) (children : List InstanceTick)
    (cycle : ℕ)
    (m : LocalTick) → IsInTick local slots offers children cycle m →
    (params : List ParamTree) (scope : List ℤ → Scope) (code : StmtTrees) (most f : ℕ)
    (r : LocalRow) →
    GivesValue local slots offers children cycle m params scope code most r →
    slice_get slots f ≡ Some (value r) →
    (executed : Node → Bool) (counted : List ℕ → ℤ) → IsCounting counted →
    IsNextNode local executed (Row r.row) →
    (values : List ℤ) →
    AllZip (IsArgument local slots offers children cycle m params scope) params values →
    Gives local slots offers children cycle m params scope code values
    (standing_cells local m children slots executed counted)
    (standing_cells local m children slots (with_node executed (Row r.row)) counted) most []
    (stored_once f)

-- So does the code of a call, which is made where the system is active.
abbrev pub CallIsExecuted : Type 0
CallIsExecuted =
    (local : LocalSystem) (slots : List Slot) (offers : List Offer) (children : List InstanceTick)
    (cycle : ℕ)
    (m : LocalTick) → IsInTick local slots offers children cycle m →
    (params : List ParamTree) (scope : List ℤ → Scope) (code : StmtTrees) (most f k j e : ℕ)
    (u : ChildUse) →
    GivesCall local slots offers children cycle m params scope code most f k u j →
    slice_get slots f ≡ Some (instance k u) →
    u.header.row ≡ Some e → 0 < j → j ≤ length (header_functions u.header) →
    (executed : Node → Bool) (counted : List ℕ → ℤ) → IsCounting counted →
    IsNextNode local executed (Call e j) →
    (values : List ℤ) →
    AllZip (IsArgument local slots offers children cycle m params scope) params values →
    let gives =
    Gives local slots offers children cycle m params scope code values
    (standing_cells local m children slots executed counted)
    (standing_cells local m children slots (with_node executed (Call e j)) counted) in
    let inner = instance_at children k in
    let called = called_in true executed u in
    MatchBool (is_active local m)
    (gives (most + inner.most called (out j)) (map (call_under f) (inner.log called (out j)))
    (stored_inside f (inner.stored called (out j))))
    (gives most [] nothing_stored)
