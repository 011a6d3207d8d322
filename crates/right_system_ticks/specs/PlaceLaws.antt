-- Where the fields and the procedures of a system's code are, and what its functions pass on.
use Rattle.std.specs.Prelude.{◌≡◌, ℕ, suc, ◌+◌, ◌-◌, ◌<◌, ◌≤◌, true, false, List, ◌++◌, take, sum_by, length, slice_get, Contains, IsTrue, Some, ℤ, bytes_eq, ⊤}
use Rattle.std.specs.List.{AllZip}
use Rattle.diagram_blocks.specs.Meaning.{has_value}
use Rattle.diagram_meaning.specs.Rows.{is_triggered}
use Rattle.modules_profile.specs.declared.local.ChildUse.{ChildUse}
use Rattle.modules_profile.specs.declared.local.LocalRow.{LocalRow}
use Rattle.modules_profile.specs.LocalSystem.{LocalSystem}
use Rattle.modules_profile.specs.SystemProfile.{SystemProfile}
use Rattle.modules_profile.specs.Headers.{header_functions}
use Rattle.modules_profile.specs.Locals.{own_header}
use Rattle.modules_schedule.specs.SystemSchedule.{SystemSchedule}
use Rattle.c_syntax.specs.declared.code.Leaf.TheVariants.{Param}
use Rattle.c_syntax.specs.Tree.{ParamTree}
use Rattle.c_semantics.specs.Machine.{Scope, Routine, routine_at, is_interface}
use Rattle.c_semantics.specs.Values.{is_in_type}
use Rattle.emit_shape.specs.Delays.{is_single, is_line}
use Rattle.emit_shape.specs.Heads.{out_head, update_head}
use Rattle.emit_shape.specs.LocalShape.{own_position}
use Rattle.emit_shape.specs.Names.{counter_name, group_name, out_name, update_name, start_name, reset_name}
use Rattle.emit_shape.specs.Slots.{Slot, value, memory, ring_items, ring_place, ring_taken, trigger, counter, instance, filler, AreSlots}
use Rattle.right_relation.specs.Instances.{out, update, InstanceTick, Offer, offer_at}
use Rattle.right_relation.specs.LocalTicks.{LocalTick, IsLocalTick, IsTypedTick}
use Rattle.right_relation.specs.NodeStatements.{IsArgument}
use Rattle.right_relation.specs.Relation.{IsCycleOf, children_routines}
use Rattle.right_relation.specs.Serving.{act_values, IsOfferOf}
use Rattle.right_relation.specs.Standing.{outer_tick_of}
use Rattle.emit_system_spec.specs.Emitted.{IsEmitted}
use Rattle.emit_system_spec.specs.EmittedCode.{group_params, system_code}
use Rattle.emit_system_spec.specs.Fields.{value_field, memory_field, ring_field, trigger_field, child_field, counter_slot, shared_groups, code_slots}
use Rattle.emit_system_spec.specs.Groups.{code_groups}
use Rattle.emit_system_spec.specs.Places.{param_leaf}
use Rattle.right_system_ticks.specs.Holding.{calls_group}

-- ---- Fields

-- what is known of the slot at a field
abbrev pub IsSlotAt : LocalSystem → SystemSchedule → ℕ → Slot → Type 0
IsSlotAt local schedule f (value r) = Contains local.rows r × (has_value r.kind ≡ true)
IsSlotAt local schedule f (memory r) = Contains local.rows r × (is_single r.op ≡ true)
IsSlotAt local schedule f (ring_items r) = Contains local.rows r × (is_line r.op ≡ true)
IsSlotAt local schedule f (ring_place r) = Contains local.rows r × (is_line r.op ≡ true)
IsSlotAt local schedule f (ring_taken r) = Contains local.rows r × (is_line r.op ≡ true)
IsSlotAt local schedule f trigger = is_triggered local.control ≡ true
IsSlotAt local schedule f (counter name type) =
    (k : ℕ) × (g : ℕ) × (slice_get (shared_groups schedule) k ≡ Some g)
    × (f ≡ child_field local (length local.children) + k) × (name ≡ counter_name (suc g))
IsSlotAt local schedule f (instance k u) = slice_get local.children k ≡ Some u
IsSlotAt local schedule f filler = ⊤

-- The slots are the system's, what the code names by the number of a row, a child or a counter
-- is there, each occurs once, and no other counter has the name of one.
pub record HasFieldPlaces (local : LocalSystem) (schedule : SystemSchedule) : Type 0 where
  pub are_slots : AreSlots local (code_slots local schedule)
  pub values : (r : LocalRow) → Contains local.rows r → has_value r.kind ≡ true →
      slice_get (code_slots local schedule) (value_field local r.row) ≡ Some (value r)
  pub memories : (r : LocalRow) → Contains local.rows r → is_single r.op ≡ true →
      slice_get (code_slots local schedule) (memory_field local r.row) ≡ Some (memory r)
  pub items : (r : LocalRow) → Contains local.rows r → is_line r.op ≡ true →
      slice_get (code_slots local schedule) (ring_field local r.row) ≡ Some (ring_items r)
  pub places : (r : LocalRow) → Contains local.rows r → is_line r.op ≡ true →
      slice_get (code_slots local schedule) (ring_field local r.row + 1) ≡ Some (ring_place r)
  pub counts : (r : LocalRow) → Contains local.rows r → is_line r.op ≡ true →
      slice_get (code_slots local schedule) (ring_field local r.row + 2) ≡ Some (ring_taken r)
  pub trigger : is_triggered local.control ≡ true →
      slice_get (code_slots local schedule) (trigger_field local) ≡ Some trigger
  pub children : (k : ℕ) (u : ChildUse) → slice_get local.children k ≡ Some u →
      slice_get (code_slots local schedule) (child_field local k) ≡ Some (instance k u)
  pub counters : (k g : ℕ) → slice_get (shared_groups schedule) k ≡ Some g →
      slice_get (code_slots local schedule) (child_field local (length local.children) + k)
      ≡ Some (counter_slot g)
  pub each : (f : ℕ) (x : Slot) → slice_get (code_slots local schedule) f ≡ Some x →
      IsSlotAt local schedule f x
  pub differ : (f g : ℕ) (x : Slot) → slice_get (code_slots local schedule) f ≡ Some x →
      slice_get (code_slots local schedule) g ≡ Some x → f ≡ g
  pub counters_differ : (i k g h : ℕ) → slice_get (shared_groups schedule) i ≡ Some g →
      slice_get (shared_groups schedule) k ≡ Some h →
      bytes_eq (counter_name (suc g)) (counter_name (suc h)) ≡ true → i ≡ k

abbrev pub FieldsHavePlaces : Type 0
FieldsHavePlaces = (local : LocalSystem) (profile : SystemProfile) (schedule : SystemSchedule) →
    IsEmitted local profile schedule → HasFieldPlaces local schedule

-- ---- Procedures

-- Own procedures are found by their names: groups by number, and after them the functions, the
-- update and the reset.
pub record HasProcedurePlaces (local : LocalSystem) (profile : SystemProfile)
    (schedule : SystemSchedule) : Type 0 where
  pub outs : (j : ℕ) → 0 < j → j ≤ length profile.functions →
      own_position (system_code local profile schedule) (out_name local.row j)
      ≡ length (code_groups schedule) + (j - 1)
  pub update : own_position (system_code local profile schedule) (update_name local.row)
      ≡ length (code_groups schedule) + length profile.functions
  pub reset : own_position (system_code local profile schedule) (reset_name local.row)
      ≡ length (code_groups schedule) + length profile.functions + 2

abbrev pub ProceduresHavePlaces : Type 0
ProceduresHavePlaces = (local : LocalSystem) (profile : SystemProfile) (schedule : SystemSchedule) →
    IsEmitted local profile schedule → HasProcedurePlaces local profile schedule

-- calls of functions and of updates are logged, and those of groups, starts and resets are not
pub record LogsByName (local : LocalSystem) (profile : SystemProfile) (schedule : SystemSchedule)
    : Type 0 where
  pub outs : (j : ℕ) → 0 < j → j ≤ length profile.functions →
      is_interface (out_name local.row j) ≡ true
  pub update : is_interface (update_name local.row) ≡ true
  pub groups : (g : ℕ) → g < length (code_groups schedule) →
      is_interface (group_name local.row (suc g)) ≡ false
  pub start : is_interface (start_name local.row) ≡ false
  pub reset : is_interface (reset_name local.row) ≡ false

abbrev pub CallsAreLoggedByName : Type 0
CallsAreLoggedByName = (local : LocalSystem) (profile : SystemProfile) (schedule : SystemSchedule) →
    IsEmitted local profile schedule → LogsByName local profile schedule

-- the procedure that the code calls to reset a child is the child's
abbrev pub ResetsStand : LocalSystem → List Offer → List Routine → Type 0
ResetsStand local offers own = (k : ℕ) (u : ChildUse) → slice_get local.children k ≡ Some u →
    routine_at (children_routines offers ++ own)
    (sum_by (λ (v : ChildUse). length (header_functions v.header) + 3) (take k local.children)
    + (length (header_functions u.header) + 2))
    ≡ (offer_at offers k).reset.routine

abbrev pub ChildResetsStand : Type 0
ChildResetsStand = (local : LocalSystem) (offers : List Offer) (own : List Routine) →
    AllZip (λ u o. IsOfferOf u.header o) local.children offers → ResetsStand local offers own

-- ---- Arguments

-- the argument for a parameter is the tick's, and in the parameter's type
pub record IsTypedArgument (local : LocalSystem) (cycle : ℕ) (m : LocalTick) (wanted : ParamTree)
    (v : ℤ) : Type 0 where
  pub in_type : IsTrue (is_in_type wanted.type v)
  pub is_argument : (slots : List Slot) (offers : List Offer) (children : List InstanceTick)
      (params : List ParamTree) (scope : List ℤ → Scope) →
      IsArgument local slots offers children cycle m params scope wanted v

-- what a function or the update is called with are arguments for its parameters
pub record TakesArguments (local : LocalSystem) (profile : SystemProfile) (cycle : ℕ)
    (m : LocalTick) : Type 0 where
  pub outs : (j : ℕ) → 0 < j → j ≤ length profile.functions →
      AllZip (IsTypedArgument local cycle m) (out_head (own_header local profile) j).params
      (act_values (own_header local profile) cycle (outer_tick_of local m) (out j))
  pub update :
      AllZip (IsTypedArgument local cycle m) (update_head (own_header local profile)).params
      (act_values (own_header local profile) cycle (outer_tick_of local m) update)

abbrev pub ArgumentsAreTaken : Type 0
ArgumentsAreTaken = (local : LocalSystem) (profile : SystemProfile) (schedule : SystemSchedule)
    (cycle : ℕ) (m : LocalTick) →
    IsEmitted local profile schedule → IsCycleOf local cycle → IsLocalTick local m →
    IsTypedTick local m → TakesArguments local profile cycle m

-- a parameter of a group that a function calls is one of the function, of the same type, where the
-- function looks it up by its name
abbrev pub GroupsTakeParameters : Type 0
GroupsTakeParameters = (local : LocalSystem) (profile : SystemProfile) (schedule : SystemSchedule) →
    IsEmitted local profile schedule →
    (j g : ℕ) (wanted : ParamTree) → 0 < j → j ≤ length profile.functions →
    IsTrue (calls_group schedule j g) → Contains (group_params local profile schedule g) wanted →
    (k : ℕ) × (slice_get (out_head (own_header local profile) j).params k ≡ Some wanted)
    × (param_leaf (out_head (own_header local profile) j).params wanted.name ≡ Param k)
