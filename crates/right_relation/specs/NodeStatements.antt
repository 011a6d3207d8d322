-- What is said of the code of a single node, memory, trigger, update call or reset call: the
-- statements on which all else rests. Executed on fields of the struct's shape in which what it
-- reads is as in the tick, it isn't stuck, makes its own field that of the run, whether the
-- system is active or not, and changes nothing else.
use Rattle.std.specs.Prelude.{◌≡◌, ℕ, ◌+◌, ◌%◌, ◌≤◌, Bool, ◌==◌, MatchBool, if◌then◌else◌, List, [], ◌∷◌, ◌++◌, map, length, count_by, slice_get, slice_index, IsTrue, Some, ℤ, pos, ⊤, Option, None}
use Rattle.std.specs.List.{AllByRecursion, AllZip}
use Rattle.base_core.specs.declared.Port.{Port}
use Rattle.base_fixed_point.specs.declared.FixType.{FixType}
use Rattle.diagram_blocks.specs.Meaning.{delay_length}
use Rattle.diagram_meaning.specs.Run.{first_of}
use Rattle.modules_profile.specs.declared.ChildUse.{ChildUse}
use Rattle.modules_profile.specs.declared.LocalRow.{LocalRow}
use Rattle.modules_profile.specs.declared.Node.TheVariants.{Row, Call}
use Rattle.modules_profile.specs.LocalSystem.{LocalSystem}
use Rattle.modules_profile.specs.Headers.{ports_of_header}
use Rattle.modules_profile.specs.Locals.{bare_header, entering}
use Rattle.modules_profile.specs.LocalNodes.{node_needs}
use Rattle.base_core.specs.Numbers.{int_at}
use Rattle.c_syntax.specs.declared.CType.{CType}
use Rattle.c_syntax.specs.declared.CType.TheVariants.{I32}
use Rattle.c_syntax.specs.Tree.{StmtTrees, ParamTree}
use Rattle.c_semantics.specs.Cells.{Cell, number, items, object, Cells, no_cells, more_cells, set_cell, number_at, items_at, fields_at}
use Rattle.c_semantics.specs.Values.{is_in_type, step_limit}
use Rattle.c_semantics.specs.Machine.{LoggedCall, Scope, run_stmts, call_under}
use Rattle.emit_shape.specs.Names.{container, now_name, port_name}
use Rattle.emit_shape.specs.Slots.{Slot, value, memory, ring_items, ring_place, ring_taken, trigger, counter, instance, filler}
use Rattle.right_relation.specs.Rings.{Ring}
use Rattle.right_relation.specs.LocalTicks.{LocalTick, is_active, is_off}
use Rattle.right_relation.specs.Instances.{Act, out, update, reset, InstanceTick, instance_at, fields_after, Offer, offer_at, OnDone, Leaves}
use Rattle.right_relation.specs.Standing.{child_tick_of}
use Rattle.diagram_activity.specs.Activity.{memory_number}
use Rattle.right_relation.specs.Serving.{MayCome}

-- the cell is a number of a type, or any number
abbrev pub IsNumberIn : CType → Cell → Type 0
IsNumberIn type (number v) = IsTrue (is_in_type type v)
IsNumberIn type (items vs) = ⊥
IsNumberIn type (object cells) = ⊥

abbrev pub IsAnyNumber : Cell → Type 0
IsAnyNumber (number v) = ⊤
IsAnyNumber (items vs) = ⊥
IsAnyNumber (object cells) = ⊥

-- the cell is an array of so many numbers
abbrev pub IsArrayOf : ℕ → Cell → Type 0
IsArrayOf n (number v) = ⊥
IsArrayOf n (items vs) = length vs ≡ n
IsArrayOf n (object cells) = ⊥

abbrev pub IsInstance : Cell → Type 0
IsInstance (number v) = ⊥
IsInstance (items vs) = ⊥
IsInstance (object cells) = ⊤

-- the fields have the struct's shape, and numbers lie in the fields' types
abbrev pub HasSlot : Slot → Cell → Type 0
HasSlot (value r) c = IsNumberIn (container r.out) c
HasSlot (memory r) c = IsNumberIn (container r.out) c
HasSlot (ring_items r) c = IsArrayOf (delay_length r.op) c
HasSlot (ring_place r) c = IsNumberIn I32 c
HasSlot (ring_taken r) c = IsNumberIn I32 c
HasSlot trigger c = IsAnyNumber c
HasSlot (counter name type) c = IsNumberIn type c
HasSlot (instance k u) c = IsInstance c
HasSlot filler c = IsAnyNumber c

abbrev pub HasSlots : List Slot → Cells → Type 0
HasSlots [] no_cells = ⊤
HasSlots [] (more_cells c cs) = ⊥
HasSlots (s ∷ slots) no_cells = ⊥
HasSlots (s ∷ slots) (more_cells c cs) = HasSlot s c × HasSlots slots cs

-- no field is stored
abbrev pub nothing_stored : List ℕ → ℕ → ℕ
nothing_stored path field = 0

-- the one own field is stored once at most
abbrev pub stored_once : ℕ → List ℕ → ℕ → ℕ
stored_once f [] g = if g == f then 1 else 0
stored_once f (h ∷ path) g = 0

-- each of these own fields is stored once at most
abbrev pub stored_each : List ℕ → List ℕ → ℕ → ℕ
stored_each fs [] g = count_by (λ f. g == f) fs
stored_each fs (h ∷ path) g = 0

-- what an instance at a field stores
abbrev pub stored_inside : ℕ → (List ℕ → ℕ → ℕ) → List ℕ → ℕ → ℕ
stored_inside f stored [] g = 0
stored_inside f stored (h ∷ path) g = if h == f then stored path g else 0

-- the fields with a ring in these three
abbrev pub ring_cells : (f g h : ℕ) → Ring → Cells → Cells
ring_cells f g h ring cells =
    set_cell (set_cell (set_cell cells f (items ring.items)) g (number (pos ring.place))) h
    (number (pos ring.taken))

-- what the call of a function of the child of this row needs; the root is no child
abbrev pub call_needs : LocalSystem → (row : Option ℕ) → (j : ℕ) → List ℕ
call_needs local None j = []
call_needs local (Some e) j = node_needs local (Call e j)

-- Code of a procedure with these parameters, which sees `scope values`, in a system with these
-- slots and children, in a tick whose number counts modulo a cycle.
module _ (local : LocalSystem) (slots : List Slot) (offers : List Offer)
    (children : List InstanceTick) (cycle : ℕ) (m : LocalTick) (params : List ParamTree)
    (scope : List ℤ → Scope) where
  -- the argument for a parameter is the tick's: its number, or the value of the input
  pub data IsArgument (wanted : ParamTree) (v : ℤ) : Type 0 where
    now : wanted.name ≡ now_name → v ≡ pos (m.tick.t % cycle) → IsArgument wanted v
    input : (k : ℕ) (i : Port) → slice_get (ports_of_header (bare_header local)) k ≡ Some i →
        wanted.name ≡ port_name local.control i →
        v ≡ int_at (m.tick.inputs ++ m.tick.controls) k → IsArgument wanted v

  -- the place of wire c holds the tick's value
  pub record HoldsWire (cells : Cells) (c : ℕ) : Type 0 where
    pub own : (f : ℕ) (r : LocalRow) → slice_get slots f ≡ Some (value r) → r.row ≡ c →
        number_at cells f ≡ m.tick.value c
    pub inner : (f k o : ℕ) (u : ChildUse) (type : FixType) →
        slice_get slots f ≡ Some (instance k u) → slice_get u.header.outputs o ≡ Some (c, type) →
        number_at (fields_at cells f) (slice_index (offer_at offers k).places o) ≡ m.tick.value c

  -- What holds before the code is executed: the fields have their shape, the trigger's memory is
  -- that of the tick, each argument is the tick's, and so is each of these wires, where the system
  -- is active; else none of them is read.
  pub record IsReady (values : List ℤ) (cells : Cells) (wires : List ℕ) : Type 0 where
    pub callable : IsTrue m.tick.parent
    pub shape : HasSlots slots cells
    pub arguments : AllZip IsArgument params values
    pub remembers : (f : ℕ) → slice_get slots f ≡ Some trigger →
        number_at cells f ≡ memory_number m.tick.trigger
    pub needed : IsTrue (is_active local m) → AllByRecursion (HoldsWire cells) wires

  -- the fields of row r's memory hold it: one number, or a ring
  pub record HoldsMemory (cells : Cells) (r : LocalRow) : Type 0 where
    pub single : (g : ℕ) → slice_get slots g ≡ Some (memory r) →
        number_at cells g ≡ first_of (m.tick.memory r.row)
    pub array : (g : ℕ) → slice_get slots g ≡ Some (ring_items r) →
        items_at cells g ≡ (m.ring r.row).items
    pub place : (g : ℕ) → slice_get slots g ≡ Some (ring_place r) →
        number_at cells g ≡ pos (m.ring r.row).place
    pub taken : (g : ℕ) → slice_get slots g ≡ Some (ring_taken r) →
        number_at cells g ≡ pos (m.ring r.row).taken

  -- executed on these fields in at most so many steps, the code leaves this
  abbrev pub Gives : StmtTrees → List ℤ → (before after : Cells) → ℕ → List LoggedCall →
      (List ℕ → ℕ → ℕ) → Type 0
  Gives code values before after most log stored =
      (steps : ℕ) → steps + most ≤ step_limit →
      OnDone (run_stmts (scope values) code before steps)
      (Leaves after (steps + most) log stored)

  -- The code of row r: where it hasn't been executed and what it needs is ready, it makes r's value
  -- that of the tick.
  abbrev pub GivesValue : StmtTrees → ℕ → LocalRow → Type 0
  GivesValue code most r =
      (values : List ℤ) (cells : Cells) (f : ℕ) → slice_get slots f ≡ Some (value r) →
      IsReady values cells (node_needs local (Row r.row)) →
      number_at cells f ≡ m.tick.before r.row →
      HoldsMemory cells r →
      Gives code values cells (set_cell cells f (number (m.tick.value r.row))) most []
      (stored_once f)

  -- The code in the update that stores r's memory: where the memory and r's inputs are ready, it makes
  -- the memory that of the next tick.
  abbrev pub GivesMemory : StmtTrees → ℕ → LocalRow → Type 0
  GivesMemory code most r =
      (values : List ℤ) (cells : Cells) (f : ℕ) → slice_get slots f ≡ Some (memory r) →
      IsReady values cells r.inputs →
      HoldsMemory cells r →
      Gives code values cells (set_cell cells f (number (first_of (m.tick.memory_after r.row))))
      most [] (stored_once f)

  -- The same of a delay of several samples: its three fields become those of the next tick's ring.
  abbrev pub GivesRing : StmtTrees → ℕ → LocalRow → Type 0
  GivesRing code most r =
      (values : List ℤ) (cells : Cells) (f g h : ℕ) → slice_get slots f ≡ Some (ring_items r) →
      slice_get slots g ≡ Some (ring_place r) → slice_get slots h ≡ Some (ring_taken r) →
      IsReady values cells r.inputs → HoldsMemory cells r →
      Gives code values cells (ring_cells f g h (m.ring_after r.row) cells) most []
      (stored_each (f ∷ g ∷ h ∷ []))

  -- The code in the update that stores what the trigger remembers.
  abbrev pub GivesTrigger : StmtTrees → ℕ → Type 0
  GivesTrigger code most =
      (values : List ℤ) (cells : Cells) (f : ℕ) → slice_get slots f ≡ Some trigger →
      IsReady values cells [] →
      Gives code values cells (set_cell cells f (number (memory_number m.tick.trigger_after))) most
      [] (stored_once f)

  -- The code of an act on child k at field f, with the wires that the act's arguments are read
  -- from: where the child is as after calls of these functions, it leaves it as after the
  -- act if `acts` says so, else it changes nothing.
  abbrev pub GivesAct : StmtTrees → ℕ → (acts : Bool) → (f k : ℕ) (u : ChildUse) → List ℕ → Act →
      Type 0
  GivesAct code most acts f k u wires act =
      (values : List ℤ) (cells : Cells) (called : ℕ → Bool) →
      slice_get slots f ≡ Some (instance k u) → IsReady values cells wires →
      (IsTrue acts → (fields_at cells f ≡ (instance_at children k).standing called)
      × MayCome u.header (child_tick_of local m u) called act) →
      MatchBool acts
      (Gives code values cells
      (set_cell cells f (object (fields_after (instance_at children k) called act)))
      (most + (instance_at children k).most called act)
      (map (call_under f) ((instance_at children k).log called act))
      (stored_inside f ((instance_at children k).stored called act)))
      (Gives code values cells cells most [] nothing_stored)

  -- the code of a node: a row's value, or the call of a child's function, which is made where the
  -- system is active
  abbrev pub GivesCall : StmtTrees → ℕ → (f k : ℕ) (u : ChildUse) (j : ℕ) → Type 0
  GivesCall code most f k u j =
      GivesAct code most (is_active local m) f k u (call_needs local u.header.row j) (out j)

  -- the code in the update that calls a child's update
  abbrev pub GivesUpdate : StmtTrees → ℕ → (f k : ℕ) (u : ChildUse) → Type 0
  GivesUpdate code most f k u = GivesAct code most (is_active local m) f k u (entering u) update

  -- the code in the update that resets a child where the system is off
  abbrev pub GivesReset : StmtTrees → ℕ → (f k : ℕ) (u : ChildUse) → Type 0
  GivesReset code most f k u = GivesAct code most (is_off local m) f k u [] reset
