-- The fields of a system in its update: all nodes were executed, and some fields are those of the next tick.
use Rattle.std.specs.Prelude.{◌≡◌, ◌⊎◌, ℕ, zero, suc, ◌<◌, ◌≤◌, ◌^◌, Bool, true, false, ◌||◌, ◌&&◌, if◌then◌else◌, List, [], ◌∷◌, map, filter, flat_map, length, replicate, slice_get, slice_index, Contains, IsTrue, Some, ℤ, pos, refl}
use Rattle.std.specs.List.{AllByRecursion, AllZip, range_with_len}
use Rattle.std.proofs.Common.{sym, ap, subst, ◌∙◌, arith, inl, inr, true≢false}
use Rattle.std.proofs.lemmas.Option.{same_Some, none-some}
use Rattle.std.proofs.lemmas.List.Elements.{Contains-append_left, Contains-append_right}
use Rattle.diagram_blocks.specs.declared.op.Op.{Op}
use Rattle.diagram_blocks.specs.declared.op.Op.TheVariants as op
use Rattle.diagram_blocks.specs.Meaning.{has_value, delay_length}
use Rattle.base_fixed_point.specs.declared.types.FixType.{FixType}
use Rattle.base_fixed_point.specs.Conversion.{InType}
use Rattle.base_core.specs.Numbers.{int_at}
use Rattle.diagram_meaning.specs.Run.{first_of, moved_on}
use Rattle.diagram_blocks.specs.Kinds.{is_delay}
use Rattle.diagram_blocks.specs.Value.{input}
use Rattle.modules_profile.specs.declared.local.ChildUse.{ChildUse}
use Rattle.modules_profile.specs.declared.local.LocalRow.{LocalRow}
use Rattle.modules_profile.specs.declared.nodes.Node.{Node}
use Rattle.modules_profile.specs.declared.nodes.Node.TheVariants as node
use Rattle.modules_profile.specs.LocalSystem.{LocalSystem}
use Rattle.modules_profile.specs.Headers.{header_functions, header_function}
use Rattle.modules_profile.specs.LocalNodes.{calls_of, call_nodes, node_list}
use Rattle.base_core.specs.Ports.{has_bit}
use Rattle.modules_profile.proofs.lemmas.Members.{in-none, in-first, in-rest, in-cases, in-map, in-filter, in-range, in-at, at-in, at-below, number-of}
use Rattle.modules_schedule.specs.SystemSchedule.{SystemSchedule}
use Rattle.c_syntax.specs.Tree.{ParamTree, PureTree}
use Rattle.c_semantics.specs.Cells.{Cell, Cells, cell_value, cell_items, cell_fields, cell_at, number_at, fields_at, set_cell}
use Rattle.c_semantics.specs.Machine.{Scope}
use Rattle.c_semantics.specs.Values.{is_in_type}
use Rattle.emit_shape.specs.Names.{container}
use Rattle.emit_shape.specs.Delays.{is_single, is_line}
use Rattle.emit_shape.specs.RowStarts.{row_start}
use Rattle.emit_shape.specs.Slots.{Slot, value, memory, ring_items, ring_place, ring_taken, trigger, counter, instance, filler}
use Rattle.right_relation.specs.ExecutedNodes.{IsCounting, StandingHasSlots}
use Rattle.right_relation.specs.Instances.{InstanceTick, instance_at, Offer, offer_at}
use Rattle.right_relation.specs.LocalTicks.{LocalTick, IsLocalTick, IsTypedTick, is_active, is_off, row_runs, row_inputs, ring_of}
use Rattle.right_relation.specs.NodeStatements.{HasSlot, HasSlots, IsArgument, HoldsWire, IsReady, HoldsMemory}
use Rattle.right_relation.specs.Relation.{ChildrenServe}
use Rattle.right_relation.specs.Rings.{IsRing, emptied_ring, moved_ring, EmptiedIsRing, MovedIsRing}
use Rattle.right_relation.specs.Serving.{is_given, Serves}
use Rattle.right_relation.specs.Standing.{is_call_executed, called_in, cells_of, standing_cell, standing_cells, after_cell, after_cells, child_tick_of}
use Rattle.right_relation.proofs.lemmas.Containers.{container-has, bit-fits, place-fits}
use Rattle.emit_system_spec.specs.Fields.{code_slots}
use Rattle.right_system_ticks.specs.PlaceLaws.{HasFieldPlaces, IsSlotAt}
use Rattle.right_system_ticks.proofs.Tests.{any-in, true-both}
use Rattle.right_system_ticks.proofs.MixedCells.{is_one_of, one-of, none-of, mixed, mixed-at, mixed-set, mixed-none, mixed-all, mixed-slots}
use Rattle.right_system_ticks.proofs.NodeRuns.{IsRunning}

-- ---- Members

pub member : {A : Type 0} (P : A → Type 0) (xs : List A) (x : A) → AllByRecursion P xs → Contains xs x → P x
member P [] x all h = absurd (in-none x h)
member P (y ∷ ys) x all h = elim (in-cases y x ys h) [ inl same ↦ subst P same all.0 | inr more ↦ member P ys x all.1 more ]

-- what holds of those that pass
pub kept : {A : Type 0} (P : A → Type 0) (test : A → Bool) (xs : List A) (x : A) → AllByRecursion P (filter test xs) → Contains xs x →
    test x ≡ true → P x
kept P test xs x all h passes = member P (filter test xs) x all (in-filter test xs x h passes)

pub each-member : {A : Type 0} (P : A → Type 0) (xs : List A) → ((x : A) → Contains xs x → P x) → AllByRecursion P xs
each-member P [] each = tt
each-member P (x ∷ xs) each = (each x (in-first x xs), each-member P xs (λ y h. each y (in-rest x y xs h)))

slot-of : (P : Slot → Cell) (xs : List Slot) (x : Slot) → HasSlots xs (cells_of (map P xs)) → Contains xs x → HasSlot x (P x)
slot-of P [] x all h = absurd (in-none x h)
slot-of P (y ∷ ys) x all h = elim (in-cases y x ys h) [
  | inl same ↦ subst (λ z. HasSlot z (P z)) same all.0
  | inr more ↦ slot-of P ys x all.1 more
]

number-at : {A : Type 0} (f : A → ℤ) (xs : List A) (k : ℕ) (x : A) → slice_get xs k ≡ Some x → int_at (map f xs) k ≡ f x
number-at f [] k x at = absurd (none-some x at)
number-at f (y ∷ ys) zero x at = ap f (same_Some y x at)
number-at f (y ∷ ys) (suc k) x at = number-at f ys k x at

first-in : (P : ℤ → Type 0) (vs : List ℤ) → P (pos 0) → AllByRecursion P vs → P (first_of vs)
first-in P [] none all = none
first-in P (v ∷ vs) none all = all.0

-- ---- Delays

pub delay-single : (op : Op) → is_delay op ≡ true → is_line op ≡ false → is_single op ≡ true
delay-single (op.Delay initial) delay line = refl
delay-single (op.Line long start) delay line = absurd (true≢false line)
delay-single _ delay line = absurd (true≢false (sym delay))

pub single-delay : (op : Op) → is_single op ≡ true → (is_delay op ≡ true) × (is_line op ≡ false)
single-delay (op.Delay initial) single = (refl, refl)
single-delay _ single = absurd (true≢false (sym single))

pub line-delay : (op : Op) → is_line op ≡ true → is_delay op ≡ true
line-delay (op.Line long start) line = refl
line-delay _ line = absurd (true≢false (sym line))

-- ---- Children

pub serves-at : (local : LocalSystem) (m : LocalTick) (cycle : ℕ) (us : List ChildUse) (os : List Offer) (is : List InstanceTick)
    (k : ℕ) (u : ChildUse) → ChildrenServe local m cycle us os is → slice_get us k ≡ Some u →
    Serves u.header (offer_at os k) cycle (child_tick_of local m u) (instance_at is k)
serves-at local m cycle [] os is k u all at = absurd (none-some u at)
serves-at local m cycle (w ∷ us) [] is k u all at = absurd all
serves-at local m cycle (w ∷ us) (o ∷ os) [] k u all at = absurd all
serves-at local m cycle (w ∷ us) (o ∷ os) (i ∷ is) zero u all at =
    subst (λ (v : ChildUse). Serves v.header o cycle (child_tick_of local m v) i) (same_Some w u at) all.0
serves-at local m cycle (w ∷ us) (o ∷ os) (i ∷ is) (suc k) u all at = serves-at local m cycle us os is k u all.1 at

-- each call of a child is a node
pub call-in : (local : LocalSystem) (k e j : ℕ) (u : ChildUse) → slice_get local.children k ≡ Some u → u.header.row ≡ Some e → 0 < j →
    j ≤ length (header_functions u.header) → Contains (node_list local) (node.Call e j)
call-in local k e j u at is some below =
    Contains-append_right (map (λ (r : LocalRow). node.Row r.row) local.rows) (flat_map call_nodes local.children) (node.Call e j)
    (in-flat local.children (in-at local.children k u at))
  where
    own : Contains (call_nodes u) (node.Call e j)
    own =
        subst (λ o. Contains (calls_of o (length (header_functions u.header))) (node.Call e j)) (sym is)
        (in-map (node.Call e) (range_with_len 1 (length (header_functions u.header))) j
        (in-range 1 (length (header_functions u.header)) j (omega (arith, some)) (omega (arith, below))))

    in-flat : (us : List ChildUse) → Contains us u → Contains (flat_map call_nodes us) (node.Call e j)
    in-flat [] h = absurd (in-none u h)
    in-flat (w ∷ us) h = elim (in-cases w u us h) [
      | inl same ↦
          Contains-append_left (call_nodes w) (flat_map call_nodes us) (node.Call e j)
          (subst (λ v. Contains (call_nodes v) (node.Call e j)) (sym same) own)
      | inr more ↦ Contains-append_right (call_nodes w) (flat_map call_nodes us) (node.Call e j) (in-flat us more)
    ]

-- ---- The fields of the next tick

module _ (emptied_is_ring : EmptiedIsRing) (moved_is_ring : MovedIsRing) (local : LocalSystem) (m : LocalTick)
    (children : List InstanceTick)
    (tick : IsLocalTick local m) (typed : IsTypedTick local m) (short : (r : LocalRow) → Contains local.rows r →
    delay_length r.op < 2 ^ 16) where
  ring-after : (r : LocalRow) → Contains local.rows r → is_line r.op ≡ true → (v : List ℤ) × IsRing (delay_length r.op)
      (row_start local r) (m.ring_after r.row) v
  ring-after r own line =
      let is = kept (λ (q : LocalRow). m.ring_after q.row ≡ ring_of local m q)
      (λ (q : LocalRow). is_line q.op) local.rows r tick.rings own line in
      let holds = kept (λ (q : LocalRow). IsRing (delay_length q.op) (row_start local q) (m.ring q.row) (m.tick.memory q.row))
      (λ (q : LocalRow). is_line q.op) local.rows r tick.ring_holds own line in
      let made = by holds (m.tick.is_off_around || is_off local m) (row_runs local m r) in
      (made.0, subst (λ ring. IsRing (delay_length r.op) (row_start local r) ring made.0) (sym is) made.1)
    where
      by : IsRing (delay_length r.op) (row_start local r) (m.ring r.row) (m.tick.memory r.row) → (a b : Bool) →
          (v : List ℤ) × IsRing (delay_length r.op) (row_start local r)
          (if a then emptied_ring (m.ring r.row)
          else (if b then moved_ring (delay_length r.op) (m.ring r.row) (input (row_inputs local m r) 0) else m.ring r.row)) v
      by holds true b = (
        replicate (delay_length r.op) (row_start local r),
        emptied_is_ring (delay_length r.op) (row_start local r)
            (m.ring r.row) (m.tick.memory r.row) holds,
      )
      by holds false true = (
        moved_on (m.tick.memory r.row) (input (row_inputs local m r) 0),
        moved_is_ring (delay_length r.op) (row_start local r) (input (row_inputs local m r) 0) (m.ring r.row) (m.tick.memory r.row) holds,
      )
      by holds false false = (m.tick.memory r.row, holds)

  module _ (schedule : SystemSchedule) (places : HasFieldPlaces local schedule) where
    after-slot : (f : ℕ) (x : Slot) → IsSlotAt local schedule f x → HasSlot x (after_cell local m children x)
    after-slot f (value r) (own, has) =
        container-has r.out (m.tick.value r.row)
        (kept (λ (q : LocalRow). InType q.out (m.tick.value q.row)) (λ (q : LocalRow). has_value q.kind) local.rows r typed.values own has)
    after-slot f (memory r) (own, single) =
        let all = kept
        (λ (q : LocalRow). AllByRecursion (InType q.out) (m.tick.memory q.row) × AllByRecursion (InType q.out) (m.tick.memory_after q.row))
        (λ (q : LocalRow). is_delay q.op) local.rows r typed.memories own (single-delay r.op single).0 in
        first-in (λ v. is_in_type (container r.out) v ≡ true) (m.tick.memory_after r.row) (bit-fits (container r.out) (pos 0) (inl refl))
        (contained (m.tick.memory_after r.row) all.1)
      where
        contained : (vs : List ℤ) → AllByRecursion (InType r.out) vs → AllByRecursion (λ v. is_in_type (container r.out) v ≡ true) vs
        contained [] all = tt
        contained (v ∷ vs) all = (container-has r.out v all.0, contained vs all.1)
    after-slot f (ring_items r) (own, line) = (ring-after r own line).1.long
    after-slot f (ring_place r) (own, line) =
        let below = (ring-after r own line).1.place in
        let few = short r own in
        place-fits (m.ring_after r.row).place (omega (arith, below, few))
    after-slot f (ring_taken r) (own, line) =
        let most = (ring-after r own line).1.taken in
        let few = short r own in
        place-fits (m.ring_after r.row).taken (omega (arith, most, few))
    after-slot f trigger is = tt
    after-slot f (counter name type) is = bit-fits type (pos 0) (inl refl)
    after-slot f (instance k u) is = tt
    after-slot f filler is = tt

-- ---- States

module _ (standing_has_slots : StandingHasSlots) (emptied_is_ring : EmptiedIsRing) (moved_is_ring : MovedIsRing)
    (local : LocalSystem) (schedule : SystemSchedule) (offers : List Offer) (children : List InstanceTick) (cycle : ℕ) (m : LocalTick)
    (pures : List PureTree) (running : IsRunning local schedule offers children cycle m pures)
    (executed : Node → Bool) (everything : (x : Node) → Contains (node_list local) x → IsTrue (executed x))
    (counted : List ℕ → ℤ) (counting : IsCounting counted) where
  abbrev slots : List Slot
  slots = code_slots local schedule

  -- a field where all nodes were executed
  abbrev cell : Slot → Cell
  cell x = standing_cell local m children executed counted x

  -- these fields are those of the next tick
  abbrev pub state : List ℕ → Cells
  state fields = mixed cell (after_cell local m children) (is_one_of fields) slots

  -- none of these is the field of a slot
  abbrev pub Untouched : List ℕ → Slot → Type 0
  Untouched fields x = (f : ℕ) → Contains fields f → slice_get slots f ≡ Some x → ⊥

  -- one of them is
  abbrev pub Touched : List ℕ → Slot → Type 0
  Touched fields x = (f : ℕ) × Contains fields f × (slice_get slots f ≡ Some x)

  pub begins : state [] ≡ standing_cells local m children slots executed counted
  begins = mixed-none cell (after_cell local m children) slots

  -- one field more
  pub one-more : (fields : List ℕ) (f : ℕ) (x : Slot) → slice_get slots f ≡ Some x →
      set_cell (state fields) f (after_cell local m children x) ≡ state (f ∷ fields)
  one-more fields f x at = mixed-set cell (after_cell local m children) (is_one_of fields) slots f x at

  -- all fields
  pub ends : (fields : List ℕ) → ((f : ℕ) (x : Slot) → slice_get slots f ≡ Some x →
      Touched fields x ⊎ (cell x ≡ after_cell local m children x)) →
      state fields ≡ after_cells local m children slots
  ends fields each = mixed-all cell (after_cell local m children) (is_one_of fields) slots (λ f x at. elim (each f x at) [
    | inl (g, h, there) ↦ inl (ap (is_one_of fields) (running.places.differ f g x at there) ∙ one-of fields g h)
    | inr same ↦ inr same
  ])

  -- a field that wasn't touched
  pub untouched-at : (fields : List ℕ) (f : ℕ) (x : Slot) → slice_get slots f ≡ Some x → Untouched fields x → cell_at (state fields) f
      ≡ cell x
  untouched-at fields f x at none =
      mixed-at cell (after_cell local m children) (is_one_of fields) slots f x at
      ∙ ap (λ t. if t then after_cell local m children x else cell x) (none-of fields f (λ h. none f h at))

  pub still-untouched : (fields : List ℕ) (f : ℕ) (x s : Slot) → slice_get slots f ≡ Some s → (s ≡ x → ⊥) → Untouched fields x →
      Untouched (f ∷ fields) x
  still-untouched fields f x s at apart none g h there = elim (in-cases f g fields h) [
    | inl same ↦ apart (same_Some s x (sym at ∙ ap (slice_get slots) same ∙ there))
    | inr more ↦ none g more there
  ]

  pub touched : (fields : List ℕ) (f : ℕ) (x : Slot) → slice_get slots f ≡ Some x → Touched (f ∷ fields) x
  touched fields f x at = (f, in-first f fields, at)

  pub still-touched : (fields : List ℕ) (f : ℕ) (x : Slot) → Touched fields x → Touched (f ∷ fields) x
  still-touched fields f x (g, h, at) = (g, in-rest f g fields h, at)

  -- ---- What each piece of the update needs

  shaped : (fields : List ℕ) → HasSlots slots (state fields)
  shaped fields = mixed-slots cell (after_cell local m children) (is_one_of fields) slots (λ x h.
      let at = at-in slots x h in (
        slot-of cell slots x
            (standing_has_slots local slots m children running.works.sound running.works.are_slots running.works.is_tick
            running.works.is_typed executed counted counting) h,
        after-slot emptied_is_ring moved_is_ring local m children running.works.is_tick running.works.is_typed running.works.sound.lengths
            schedule running.places
            at.0 x (running.places.each at.0 x at.1),
      ))

  -- a call of each child's function was executed
  pub all-called : (k : ℕ) (u : ChildUse) (j : ℕ) → slice_get local.children k ≡ Some u → 0 < j → j ≤ length (header_functions u.header) →
      is_call_executed u.header.row executed j ≡ true
  all-called k u j at some most =
      let n = number-of (λ (w : ChildUse). w.header.row) local.children running.works.sound.lawful.numbers u
      running.works.sound.lawful.have_numbers (in-at local.children k u at) in
      ap (λ row. is_call_executed row executed j) n.2 ∙ everything (node.Call n.0 j) (call-in local k n.0 j u at n.2 some most)

  pub child-serves : (k : ℕ) (u : ChildUse) → slice_get local.children k ≡ Some u →
      Serves u.header (offer_at offers k) cycle (child_tick_of local m u) (instance_at children k)
  child-serves k u at = serves-at local m cycle local.children offers children k u running.works.serve at

  -- wires hold, before and after
  holds-own : (fields : List ℕ) (c f : ℕ) (r : LocalRow) → slice_get slots f ≡ Some (value r) → r.row ≡ c → number_at (state fields) f
      ≡ m.tick.value c
  holds-own fields c f r at is =
      ap cell_value (mixed-at cell (after_cell local m children) (is_one_of fields) slots f (value r) at) ∙ by (is_one_of fields f)
      ∙ ap m.tick.value is
    where
      own : Contains (node_list local) (node.Row r.row)
      own =
          Contains-append_left (map (λ (q : LocalRow). node.Row q.row) local.rows) (flat_map call_nodes local.children) (node.Row r.row)
          (in-map (λ (q : LocalRow). node.Row q.row) local.rows r (running.places.each f (value r) at).0)

      by : (t : Bool) → cell_value (if t then after_cell local m children (value r) else cell (value r)) ≡ m.tick.value r.row
      by true = refl
      by false = ap (λ t. if t then m.tick.value r.row else m.tick.before r.row) (everything (node.Row r.row) own)

  holds-inner : (fields : List ℕ) (c f k o : ℕ) (u : ChildUse) (type : FixType) → IsTrue (is_active local m) → slice_get slots f
      ≡ Some (instance k u) →
      slice_get u.header.outputs o ≡ Some (c, type) →
      number_at (fields_at (state fields) f) (slice_index (offer_at offers k).places o) ≡ m.tick.value c
  holds-inner fields c f k o u type active at output =
      ap (λ (x : Cell). number_at (cell_fields x) (slice_index (offer_at offers k).places o))
      (mixed-at cell (after_cell local m children) (is_one_of fields) slots f (instance k u) at)
      ∙ by (is_one_of fields f)
      ∙ number-at (λ (x : ℕ × FixType). m.tick.value x.0) u.header.outputs o (c, type) output
    where
      child : slice_get local.children k ≡ Some u
      child = running.places.each f (instance k u) at

      below : o < length u.header.outputs
      below = at-below u.header.outputs o (c, type) output

      called : ℕ → Bool
      called = called_in (is_active local m) executed u

      outputs : List ℤ
      outputs = map (λ (x : ℕ × FixType). m.tick.value x.0) u.header.outputs

      was-given : is_given u.header called o ≡ true
      was-given =
          let g = running.works.sound.given u o (in-at local.children k u child) below in
          any-in (λ j. called j && has_bit (header_function u.header j).outputs o)
          (range_with_len 1 (length (header_functions u.header))) g.0
          (in-range 1 (length (header_functions u.header)) g.0 (omega (arith, g.1)) (omega (arith, g.2)))
          (true-both (called g.0) (has_bit (header_function u.header g.0).outputs o)
          (true-both (is_active local m) (is_call_executed u.header.row executed g.0) active (all-called k u g.0 child g.1 g.2)) g.3)

      by : (t : Bool) →
          number_at (cell_fields (if t then after_cell local m children (instance k u) else cell (instance k u)))
          (slice_index (offer_at offers k).places o)
          ≡ int_at outputs o
      by true = (child-serves k u child).stay o below
      by false =
          (child-serves k u child).outputs called o below
          ∙ ap (λ t. int_at (if t then outputs else (child_tick_of local m u).before) o) was-given

  pub ready : (params : List ParamTree) (scope : List ℤ → Scope) (values : List ℤ) →
      AllZip (IsArgument local slots offers children cycle m params scope) params values → (fields : List ℕ) → Untouched fields trigger →
      (wires : List ℕ) →
      IsReady local slots offers children cycle m params scope values (state fields) wires
  ready params scope values arguments fields still wires = record {
    callable = running.works.callable;
    shape = shaped fields;
    arguments = arguments;
    remembers = λ f at. ap cell_value (untouched-at fields f trigger at still);
    needed = λ active. each-member (HoldsWire local slots offers children cycle m params scope (state fields)) wires (λ c h. record {
      own = λ f r at is. holds-own fields c f r at is;
      inner = λ f k o u type at output. holds-inner fields c f k o u type active at output;
    });
  }

  pub holds-memory : (params : List ParamTree) (scope : List ℤ → Scope) (fields : List ℕ) (r : LocalRow) →
      Untouched fields (memory r) → Untouched fields (ring_items r) → Untouched fields (ring_place r) → Untouched fields (ring_taken r) →
      HoldsMemory local slots offers children cycle m params scope (state fields) r
  holds-memory params scope fields r a b c d = record {
    single = λ g at. ap cell_value (untouched-at fields g (memory r) at a);
    array = λ g at. ap cell_items (untouched-at fields g (ring_items r) at b);
    place = λ g at. ap cell_value (untouched-at fields g (ring_place r) at c);
    taken = λ g at. ap cell_value (untouched-at fields g (ring_taken r) at d);
  }
