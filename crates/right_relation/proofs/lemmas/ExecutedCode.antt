-- The code of a node takes the fields from one set of executed nodes to the next.
use Rattle.std.specs.Prelude.{◌≡◌, ℕ, zero, suc, ◌+◌, ◌<◌, ◌≤◌, Bool, true, false, ◌||◌, ◌&&◌, ◌==◌, if◌then◌else◌, MatchBool, List, [], ◌∷◌, map, flat_map, length, slice_get, slice_index, Contains, IsTrue, IsFalse, Some, ℤ, refl}
use Rattle.std.specs.Option.{option_map_or}
use Rattle.std.specs.List.{AllByRecursion, AllZip, list_any, range_with_len}
use Rattle.std.proofs.Common.{sym, ap, subst, ◌∙◌, arith, inl, inr}
use Rattle.std.proofs.lemmas.Bool.{eq-eqb, eqb-true}
use Rattle.std.proofs.lemmas.List.Elements.{Contains-append_left, Contains-append_right}
use Rattle.std.proofs.lemmas.Option.{same_Some, none-some}
use Rattle.base_fixed_point.specs.declared.FixType.{FixType}
use Rattle.base_core.specs.Numbers.{int_at}
use Rattle.diagram_meaning.specs.Rows.{is_system}
use Rattle.modules_profile.specs.declared.ChildUse.{ChildUse}
use Rattle.modules_profile.specs.declared.LocalRow.{LocalRow}
use Rattle.modules_profile.specs.declared.Node.{Node}
use Rattle.modules_profile.specs.declared.Node.TheVariants.{Row, Call}
use Rattle.modules_profile.specs.LocalSystem.{LocalSystem}
use Rattle.base_core.specs.Ports.{has_bit}
use Rattle.modules_profile.specs.Headers.{header_functions, header_function, given_rows}
use Rattle.modules_profile.specs.Locals.{child_of}
use Rattle.modules_profile.specs.LocalNodes.{node_gives, node_needs, calls_of, call_nodes, node_list}
use Rattle.modules_profile.proofs.lemmas.Members.{in-none, in-first, in-rest, in-cases, in-map, number-of, found-in, finds, in-range, in-at, at-in, at-below, at-map, map-at}
use Rattle.modules_profile.proofs.lemmas.OwnRows.{differ-at}
use Rattle.c_syntax.specs.Tree.{ParamTree}
use Rattle.c_semantics.specs.Cells.{Cell, object, Cells, set_cell, cell_value, cell_items, cell_fields, cell_at, number_at, fields_at}
use Rattle.c_semantics.specs.Machine.{Scope, call_under}
use Rattle.emit_shape.specs.Slots.{Slot, value, memory, ring_items, ring_place, ring_taken, trigger, instance}
use Rattle.right_relation.specs.LocalTicks.{LocalTick, is_active}
use Rattle.right_relation.specs.Instances.{InstanceTick, instance_at, Offer, offer_at, out, with_called}
use Rattle.right_relation.specs.Standing.{with_node, is_call_executed, called_in, standing_cell, standing_cells, child_tick_of}
use Rattle.right_relation.specs.Serving.{is_given, Serves}
use Rattle.right_relation.specs.NodeStatements.{IsArgument, HoldsWire, IsReady, HoldsMemory, Gives, call_needs, nothing_stored, stored_once, stored_inside}
use Rattle.right_relation.specs.Relation.{ChildrenServe}
use Rattle.right_relation.specs.ExecutedNodes.{IsCounting, IsInTick, IsNextNode, RowIsExecuted, CallIsExecuted}
use Rattle.right_relation.proofs.lemmas.HeldOutports.{gives}
use Rattle.right_relation.proofs.lemmas.SlotMembers.{slot-is, system-row}
use Rattle.right_relation.proofs.lemmas.StandingShapes.{standing_has_slots}
use Rattle.right_relation.proofs.lemmas.ExecutedFields.{row_is_one_field, call_is_one_child}

each-member : {A : Type 0} (P : A → Type 0) (xs : List A) → ((x : A) → Contains xs x → P x) → AllByRecursion P xs
each-member P [] each = tt
each-member P (x ∷ xs) each = (each x (in-first x xs), each-member P xs (λ y h. each y (in-rest x y xs h)))

any-in : {A : Type 0} (test : A → Bool) (xs : List A) (x : A) → Contains xs x → test x ≡ true → list_any test xs ≡ true
any-in test [] x h passes = absurd (in-none x h)
any-in test (y ∷ ys) x h passes = elim (in-cases y x ys h) [
  | inl same ↦ ap (λ t. t || list_any test ys) (ap test same ∙ passes)
  | inr more ↦ ap (λ t. test y || t) (any-in test ys x more passes) ∙ either (test y)
]
  where
    either : (t : Bool) → (t || true) ≡ true
    either true = refl
    either false = refl

number-at : {A : Type 0} (f : A → ℤ) (xs : List A) (k : ℕ) (x : A) → slice_get xs k ≡ Some x → int_at (map f xs) k ≡ f x
number-at f [] k x at = absurd (none-some x at)
number-at f (y ∷ ys) zero x at = ap f (same_Some y x at)
number-at f (y ∷ ys) (suc k) x at = number-at f ys k x at

-- a child serves at its place
serves-at : (local : LocalSystem) (m : LocalTick) (cycle : ℕ) (us : List ChildUse) (os : List Offer) (is : List InstanceTick)
    (k : ℕ) (u : ChildUse) → ChildrenServe local m cycle us os is → slice_get us k ≡ Some u →
    Serves u.header (offer_at os k) cycle (child_tick_of local m u) (instance_at is k)
serves-at local m cycle [] os is k u all at = absurd (none-some u at)
serves-at local m cycle (w ∷ us) [] is k u all at = absurd all
serves-at local m cycle (w ∷ us) (o ∷ os) [] k u all at = absurd all
serves-at local m cycle (w ∷ us) (o ∷ os) (i ∷ is) zero u all at =
    subst (λ (v : ChildUse). Serves v.header o cycle (child_tick_of local m v) i) (same_Some w u at) all.0
serves-at local m cycle (w ∷ us) (o ∷ os) (i ∷ is) (suc k) u all at = serves-at local m cycle us os is k u all.1 at

module _ (local : LocalSystem) (slots : List Slot) (offers : List Offer) (children : List InstanceTick) (cycle : ℕ) (m : LocalTick)
    (works : IsInTick local slots offers children cycle m) (executed : Node → Bool) (counted : List ℕ → ℤ)
    (counting : IsCounting counted) where
  abbrev cells : Cells
  cells = standing_cells local m children slots executed counted

  stands : (xs : List Slot) (f : ℕ) (x : Slot) → slice_get xs f ≡ Some x →
      cell_at (standing_cells local m children xs executed counted) f ≡ standing_cell local m children executed counted x
  stands [] f x at = absurd (none-some x at)
  stands (y ∷ ys) zero x at = ap (standing_cell local m children executed counted) (same_Some y x at)
  stands (y ∷ ys) (suc f) x at = stands ys f x at

  holds-memory : (params : List ParamTree) (scope : List ℤ → Scope) (r : LocalRow) →
      HoldsMemory local slots offers children cycle m params scope cells r
  holds-memory params scope r = record {
    single = λ g at. ap cell_value (stands slots g (memory r) at);
    array = λ g at. ap cell_items (stands slots g (ring_items r) at);
    place = λ g at. ap cell_value (stands slots g (ring_place r) at);
    taken = λ g at. ap cell_value (stands slots g (ring_taken r) at);
  }

  -- ---- Children

  child-at : (f k : ℕ) (u : ChildUse) → slice_get slots f ≡ Some (instance k u) → slice_get local.children k ≡ Some u
  child-at f k u at = slot-is local slots works.are_slots (instance k u) (in-at slots f (instance k u) at)

  -- the child of a row is one
  child-found : (k e : ℕ) (u : ChildUse) → slice_get local.children k ≡ Some u → u.header.row ≡ Some e → child_of local e ≡ Some u
  child-found k e u at is =
      let passes : is_system u.header.row e ≡ true = ap (λ o. is_system o e) is ∙ eq-eqb e e refl in
      let f = finds (λ (w : ChildUse). is_system w.header.row e) local.children u (in-at local.children k u at) passes in
      let which = found-in (λ (w : ChildUse). is_system w.header.row e) local.children f.0 f.1 in
      let place = at-in local.children f.0 which.0 in
      let same : k ≡ place.0 = differ-at works.sound.lawful.numbers k place.0 e works.sound.lawful.children_differ
      (number k u at is) (number place.0 f.0 place.1 (system-row f.0.header.row e which.1)) in
      f.1 ∙ sym place.1 ∙ ap (slice_get local.children) (sym same) ∙ at
    where
      number : (k : ℕ) (w : ChildUse) → slice_get local.children k ≡ Some w → w.header.row ≡ Some e →
          slice_get works.sound.lawful.numbers k ≡ Some e
      number k w at row =
          let n = map-at Some works.sound.lawful.numbers k (Some e)
          (ap (λ os. slice_get os k) (sym works.sound.lawful.have_numbers) ∙ at-map (λ (w : ChildUse). w.header.row) local.children k w at
          ∙ ap Some row) in
          n.1 ∙ n.2

  call-in : (k e j : ℕ) (u : ChildUse) → slice_get local.children k ≡ Some u → u.header.row ≡ Some e → 0 < j →
      j ≤ length (header_functions u.header) →
      Contains (node_list local) (Call e j)
  call-in k e j u at is some below =
      Contains-append_right (map (λ (r : LocalRow). Row r.row) local.rows) (flat_map call_nodes local.children) (Call e j)
      (in-flat local.children (in-at local.children k u at))
    where
      own : Contains (call_nodes u) (Call e j)
      own =
          subst (λ o. Contains (calls_of o (length (header_functions u.header))) (Call e j)) (sym is)
          (in-map (Call e) (range_with_len 1 (length (header_functions u.header))) j
          (in-range 1 (length (header_functions u.header)) j (omega (arith, some)) (omega (arith, below))))

      in-flat : (us : List ChildUse) → Contains us u → Contains (flat_map call_nodes us) (Call e j)
      in-flat [] h = absurd (in-none u h)
      in-flat (w ∷ us) h = elim (in-cases w u us h) [
        | inl same ↦
            Contains-append_left (call_nodes w) (flat_map call_nodes us) (Call e j)
            (subst (λ v. Contains (call_nodes v) (Call e j)) (sym same) own)
        | inr more ↦ Contains-append_right (call_nodes w) (flat_map call_nodes us) (Call e j) (in-flat us more)
      ]

  -- ---- What was executed holds its wires

  module _ (params : List ParamTree) (scope : List ℤ → Scope) (y : Node) (next : IsNextNode local executed y) where
    own-wire : (c f : ℕ) (q : LocalRow) → Contains (node_needs local y) c → slice_get slots f ≡ Some (value q) → q.row ≡ c →
        number_at cells f ≡ m.tick.value c
    own-wire c f q needs at is =
        ap cell_value (stands slots f (value q) at)
        ∙ ap (λ t. if t then m.tick.value q.row else m.tick.before q.row) (next.needs (Row q.row) listed (c, needs, giving))
        ∙ ap m.tick.value is
      where
        own : Contains local.rows q
        own = (slot-is local slots works.are_slots (value q) (in-at slots f (value q) at)).0

        listed : Contains (node_list local) (Row q.row)
        listed =
            Contains-append_left (map (λ (r : LocalRow). Row r.row) local.rows) (flat_map call_nodes local.children) (Row q.row)
            (in-map (λ (r : LocalRow). Row r.row) local.rows q own)

        giving : Contains (node_gives local (Row q.row)) c
        giving =
            let found = finds (λ (r : LocalRow). r.row == q.row) local.rows q own (eq-eqb q.row q.row refl) in
            let which = found-in (λ (r : LocalRow). r.row == q.row) local.rows found.0 found.1 in
            subst (λ o. Contains (option_map_or (λ (r : LocalRow). r.row ∷ []) o []) c) (sym found.1)
            (subst (Contains (found.0.row ∷ [])) (eqb-true found.0.row q.row which.1 ∙ is) (in-first found.0.row []))

    inner-wire : (c f k o : ℕ) (u : ChildUse) (type : FixType) → Contains (node_needs local y) c → IsTrue (is_active local m) →
        slice_get slots f ≡ Some (instance k u) →
        slice_get u.header.outputs o ≡ Some (c, type) →
        number_at (fields_at cells f) (slice_index (offer_at offers k).places o) ≡ m.tick.value c
    inner-wire c f k o u type needs active at output =
        ap (λ (x : Cell). number_at (cell_fields x) (slice_index (offer_at offers k).places o)) (stands slots f (instance k u) at)
        ∙ serves.outputs called o below ∙ ap (λ t. int_at (if t then outer_outputs else outer_before) o) was-given
        ∙ number-at (λ (x : ℕ × FixType). m.tick.value x.0) u.header.outputs o (c, type) output
      where
        child : slice_get local.children k ≡ Some u
        child = child-at f k u at

        serves : Serves u.header (offer_at offers k) cycle (child_tick_of local m u) (instance_at children k)
        serves = serves-at local m cycle local.children offers children k u works.serve child

        called : ℕ → Bool
        called = called_in (is_active local m) executed u

        outer_outputs : List ℤ
        outer_outputs = (child_tick_of local m u).outputs

        outer_before : List ℤ
        outer_before = (child_tick_of local m u).before

        below : o < length u.header.outputs
        below = at-below u.header.outputs o (c, type) output

        was-given : is_given u.header called o ≡ true
        was-given =
            let g = works.sound.given u o (in-at local.children k u child) below in
            any-in (λ j. called j && has_bit (header_function u.header j).outputs o)
            (range_with_len 1 (length (header_functions u.header))) g.0
            (in-range 1 (length (header_functions u.header)) g.0 (omega (arith, g.1)) (omega (arith, g.2)))
            (ap (λ t. t && has_bit (header_function u.header g.0).outputs o) (was-called g.0 g.1 g.2 g.3) ∙ g.3)
          where
            was-called : (j : ℕ) → 0 < j → j ≤ length (header_functions u.header) →
                IsTrue (has_bit (header_function u.header j).outputs o) → called j ≡ true
            was-called j some most bit =
                let n = number-of (λ (w : ChildUse). w.header.row) local.children works.sound.lawful.numbers u
                works.sound.lawful.have_numbers (in-at local.children k u child) in
                let outs = map (λ (x : ℕ × FixType). x.0) u.header.outputs in
                let giving : Contains (node_gives local (Call n.0 j)) c =
                subst (λ w. Contains (option_map_or (λ (w : ChildUse). given_rows w.header j) w []) c) (sym (child-found k n.0 u child n.2))
                (gives (header_function u.header j) outs o c (at-map (λ (x : ℕ × FixType). x.0) u.header.outputs o (c, type) output) bit) in
                ap (λ a. a && is_call_executed u.header.row executed j) active ∙ ap (λ row. is_call_executed row executed j) n.2
                ∙ next.needs (Call n.0 j) (call-in k n.0 j u child n.2 some most) (c, needs, giving)

    holds-wire : (c : ℕ) → Contains (node_needs local y) c → IsTrue (is_active local m) →
        HoldsWire local slots offers children cycle m params scope cells c
    holds-wire c needs active = record {
      own = λ f q at is. own-wire c f q needs at is;
      inner = λ f k o u type at output. inner-wire c f k o u type needs active at output;
    }

    ready : (values : List ℤ) → AllZip (IsArgument local slots offers children cycle m params scope) params values →
        IsReady local slots offers children cycle m params scope values cells (node_needs local y)
    ready values arguments = record {
      callable = works.callable;
      shape = standing_has_slots local slots m children works.sound works.are_slots works.is_tick works.is_typed executed counted counting;
      arguments = arguments;
      remembers = λ f at. ap cell_value (stands slots f trigger at);
      needed = λ active. each-member (HoldsWire local slots offers children cycle m params scope cells) (node_needs local y)
          (λ c needs. holds-wire c needs active);
    }

pub row_is_executed : RowIsExecuted
row_is_executed local slots offers children cycle m works params scope code most f r does at
    executed counted counting next values arguments =
    let before = standing_cells local m children slots executed counted in
    let cell = stands local slots offers children cycle m works executed counted counting slots f (value r) at in
    subst (λ after. Gives local slots offers children cycle m params scope code values before after most [] (stored_once f))
    (sym (row_is_one_field local slots m children works.sound works.are_slots executed counted f r at))
    (does values before f at
    (ready local slots offers children cycle m works executed counted counting params scope (Row r.row) next values arguments)
    (ap cell_value cell ∙ ap (λ t. if t then m.tick.value r.row else m.tick.before r.row) next.is_new)
    (holds-memory local slots offers children cycle m works executed counted counting params scope r))

pub call_is_executed : CallIsExecuted
call_is_executed local slots offers children cycle m works params scope code most f k j e u does at is some below
    executed counted counting next values arguments =
    by (is_active local m) (call_is_one_child local slots m children works.sound works.are_slots executed counted f k j e u at is)
    (does values before called at is-ready (λ active. (stands-so active, (active, some, below, new))))
  where
    before : Cells
    before = standing_cells local m children slots executed counted

    after : Cells
    after = standing_cells local m children slots (with_node executed (Call e j)) counted

    called : ℕ → Bool
    called = called_in true executed u

    new : IsFalse (called j)
    new = ap (λ row. is_call_executed row executed j) is ∙ next.is_new

    stands-so : is_active local m ≡ true → fields_at before f ≡ (instance_at children k).standing called
    stands-so active =
        ap cell_fields (stands local slots offers children cycle m works executed counted counting slots f (instance k u) at)
        ∙ ap (λ a. (instance_at children k).standing (called_in a executed u)) active

    is-ready : IsReady local slots offers children cycle m params scope values before (call_needs local u.header.row j)
    is-ready =
        subst (λ row. IsReady local slots offers children cycle m params scope values before (call_needs local row j)) (sym is)
        (ready local slots offers children cycle m works executed counted counting params scope (Call e j) next values arguments)

    inner : InstanceTick
    inner = instance_at children k

    further : Cells
    further = set_cell before f (object (inner.standing (with_called called j)))

    -- the code leaves these fields: where the call is made, and where it is not
    Makes : Cells → Type 0
    Makes leaves =
        Gives local slots offers children cycle m params scope code values before leaves (most + inner.most called (out j))
        (map (call_under f) (inner.log called (out j))) (stored_inside f (inner.stored called (out j)))

    Skips : Cells → Type 0
    Skips leaves = Gives local slots offers children cycle m params scope code values before leaves most [] nothing_stored

    by : (t : Bool) → after ≡ (if t then further else before) → MatchBool t (Makes further) (Skips before) →
        MatchBool t (Makes after) (Skips after)
    by true same made = subst Makes (sym same) made
    by false same made = subst Skips (sym same) made
