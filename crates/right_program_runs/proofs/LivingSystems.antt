-- Each instance of a system lives through each run, from the last system to the first.
use Rattle.std.specs.Prelude.{◌≡◌, ◌⊎◌, ℕ, zero, suc, ◌+◌, ◌<◌, ◌≤◌, Bool, true, false, ◌&&◌, ◌||◌, List, [], ◌∷◌, map, length, slice_get, slice_index_or, Contains, Option, Some, None, ℤ, refl}
use Rattle.std.specs.List.{AllZip, list_any, range_with_len}
use Rattle.std.proofs.Common.{sym, ap, subst, ◌∙◌, arith, inl, inr}
use Rattle.std.proofs.lemmas.Bool.{cases_lt}
use Rattle.std.proofs.lemmas.Option.{get_or_from_slice_get}
use Rattle.diagram_blocks.specs.Meaning.{delay_length}
use Rattle.diagram_meaning.specs.declared.table.Row.{Row}
use Rattle.diagram_meaning.specs.Rows.{row_at, row_numbers, is_system, is_inside}
use Rattle.diagram_blocks.specs.Kinds.{is_subsystem}
use Rattle.diagram_meaning.specs.Diagram.{op_at}
use Rattle.diagram_meaning.specs.Laws.{Run, IsRunOver}
use Rattle.diagram_meaning.specs.RunLaws.{IsSystemWithin}
use Rattle.diagram_meaning.specs.Traces.{IsTrace}
use Rattle.diagram_meaning.proofs.lemmas.TickLaws.{own_rows_stand_in}
use Rattle.diagram_typed_runs.specs.TypedRuns.{IsSystem}
use Rattle.modules_profile.specs.declared.ChildUse.{ChildUse}
use Rattle.modules_profile.specs.declared.Node.{Node}
use Rattle.modules_profile.specs.LocalSystem.{LocalSystem}
use Rattle.modules_profile.specs.Headers.{header_functions}
use Rattle.modules_profile.specs.Locals.{child_use}
use Rattle.modules_profile.specs.Systems.{systems, systems_inside, system_name}
use Rattle.modules_profile.proofs.lemmas.Members.{of-map, of-filter, in-at, at-in, at-map, map-at, at-below}
use Rattle.c_syntax.specs.declared.CType.TheVariants.{I8}
use Rattle.c_semantics.specs.Cells.{Cells, number, items, cell_at, cell_fields, cell_items, number_at, fields_at, items_at}
use Rattle.emit_shape.specs.Assembled.{first_procedure}
use Rattle.emit_shape.specs.Names.{container, memory_name, filler_name}
use Rattle.emit_shape.specs.Programs.{struct_place}
use Rattle.emit_shape.specs.Slots.{Slot, value, memory, ring_items, ring_place, ring_taken, trigger, counter, instance, filler, slot_field}
use Rattle.right_relation.specs.Forms.{Forms, no_forms, HasForm, HasForms, slot_form, slot_forms}
use Rattle.right_relation.specs.Instances.{none_called, InstanceTick, no_instance, Offer}
use Rattle.right_relation.specs.LocalTicks.{LocalTick, IsLocalTick, IsTypedTick}
use Rattle.right_relation.specs.Relation.{IsCycleOf, KeepsRelation}
use Rattle.right_relation.specs.Renewals.{Renewal, no_renewal, renewal_at, IsStarted}
use Rattle.right_relation.specs.RunTicks.{Untouched, nothing_untouched, tick_at}
use Rattle.right_relation.specs.RunTickLaws.{TicksAreLocal, LocalTicksAreTyped, TicksFollow, CycleIsOfLocals, ChildrenMeetTheirTicks}
use Rattle.right_relation.specs.Serving.{IsOfferOf, Serves}
use Rattle.right_relation.specs.Standing.{standing_cells, child_tick_of}
use Rattle.right_relation.specs.StandingLaws.{NextStands, FirstStands, BeginsFrom}
use Rattle.right_relation.proofs.lemmas.ChildTicks.{child-header}
use Rattle.right_relation.proofs.lemmas.SlotMembers.{SlotIs, slot-is}
use Rattle.right_claim.specs.Paths.{place_in, number_in}
use Rattle.right_claim.specs.Anew.{forms_at}
use Rattle.right_claim.specs.Held.{HoldsRun}
use Rattle.right_linking.specs.Parts.{Parts, program_of, diagram, all_systems, coded_header, IsCodedAs, IsChildBehind, Views}
use Rattle.right_linking.specs.Places.{SystemsHavePlaces, FieldsAreFound, FormsAreOfSlots}
use Rattle.right_linking.specs.Offers.{offer_of, child_offers, OffersAreOfHeaders, SystemsOfferTheirs}
use Rattle.right_linking.specs.Starts.{IsRenewed, Renewed}
use Rattle.right_linking.specs.Lives.{outer_at, HasAccounts, Lives, AccountsFollow, LivesFollow}
use Rattle.right_linking.proofs.lemmas.AssembledChildren.{has-child}
use Rattle.right_linking.proofs.lemmas.AssembledPlaces.{member, all-made}
use Rattle.right_linking.proofs.lemmas.OwnSlots.{forms-at, instance-fields}
use Rattle.right_program_runs.proofs.SlotFields.{sized, sized-long, sized-same, number-held, array-items, begins-all}
use Rattle.right_program_runs.proofs.FirstTicks.{own-op, value-begins, memory-begins, trigger-begins}
use Rattle.right_program_runs.proofs.ChildInstances.{zip-held, AllLive, instances, at-child, linked, all-serve}
use Rattle.right_program_runs.proofs.HeldFields.{holds-run}

-- ---- Systems

left-of : (p q : Bool) → (p && q) ≡ true → p ≡ true
left-of true q h = refl
left-of false q h = h

right-of : (p q : Bool) → q ≡ true → (p || q) ≡ true
right-of true q h = refl
right-of false q h = h

-- a system that is at a place is the root or a subsystem
is-a-system : (rows : List Row) (place : ℕ) (n : Option ℕ) → slice_get (systems rows) place ≡ Some n → IsSystem rows n
is-a-system rows zero n at = let root : None ≡ n = cc at in subst (IsSystem rows) root tt
is-a-system rows (suc place) n at =
    let found = map-at Some (systems_inside rows None) place n at in
    let passes = of-filter (λ e. is_subsystem (row_at rows e).kind && is_inside rows None e) (row_numbers rows) found.0
    (in-at (systems_inside rows None) place found.0 found.1) in
    subst (IsSystem rows) found.2 (left-of (is_subsystem (row_at rows found.0).kind) (is_inside rows None found.0) passes.1)

-- where no function was called no node was executed
none-any : (js : List ℕ) → list_any (λ j. false) js ≡ false
none-any [] = refl
none-any (j ∷ js) = none-any js

-- ---- What is known of ticks and of programs

record Laws : Type 0 where
  pub local_ticks : TicksAreLocal
  pub typed_ticks : LocalTicksAreTyped
  pub follow : TicksFollow
  pub cycles : CycleIsOfLocals
  pub meet : ChildrenMeetTheirTicks
  pub next : NextStands
  pub first : FirstStands
  pub headers : OffersAreOfHeaders
  pub structs : SystemsHavePlaces
  pub places : FieldsAreFound
  pub forms : FormsAreOfSlots
  pub offers : SystemsOfferTheirs
  pub accounts : AccountsFollow

module _ (laws : Laws) (a : Parts) (v : Views a) (renewed : Renewed a v) (s : Option ℕ) (xs : List (List ℤ)) (run : Run)
    (trace : IsTrace (diagram a) s xs) (is : IsRunOver (diagram a) s xs run) where
  module _ (place : ℕ) (n : Option ℕ) (stands : slice_get (all_systems a) place ≡ Some n) (within : IsSystemWithin (diagram a).rows s n)
      (before : Cells) (has : HasForms (renewed.started n).forms before) where
    abbrev local : LocalSystem
    local = (v.at n).local

    abbrev slots : List Slot
    slots = (v.at n).slots

    abbrev known : IsCodedAs a place n (v.at n)
    known = v.each place n stands

    -- the fields of a child
    abbrev child_fields : ChildUse → Cells
    child_fields u = fields_at before (place_in (program_of a) n (system_name u.header.row))

    is-renewed : (k : ℕ) (o : Option ℕ) → slice_get (all_systems a) k ≡ Some o → IsRenewed a v (λ q. q.start) IsStarted renewed.started o
    is-renewed k o at =
        member (IsRenewed a v (λ q. q.start) IsStarted renewed.started) (all_systems a) o renewed.starts (in-at (all_systems a) k o at)

    -- ---- Fields

    abbrev child_forms : List Forms
    child_forms = map (λ (u : ChildUse). forms_at (program_of a) (struct_place (program_of a) u.header.row)) local.children

    has-slots : HasForms (slot_forms child_forms slots) before
    has-slots = subst (λ forms. HasForms forms before) ((is-renewed place n stands).forms ∙ laws.forms a v place n stands) has

    field-place : (f : ℕ) (x : Slot) → slice_get slots f ≡ Some x → place_in (program_of a) n (slot_field x).name ≡ f
    field-place f x at = laws.places a v n f x (in-at (all_systems a) place n stands) at

    behind : (u : ChildUse) → Contains local.children u → IsChildBehind a v.at place u
    behind u h = member (IsChildBehind a v.at place) local.children u (v.children place n stands) h

    child-has : (u : ChildUse) → Contains local.children u → HasForms (renewed.started u.header.row).forms (child_fields u)
    child-has u h =
        let forms_of_child : ChildUse → Forms = λ u. forms_at (program_of a) (struct_place (program_of a) u.header.row) in
        let (k, at) = at-in local.children u h in
        let (f, slot) = at-in slots (instance k u) (has-child local slots known.shape.slots_right k u at) in
        let form = forms-at child_forms slots before f (instance k u) has-slots slot in
        let inner = behind u h in
        let struct : slice_index_or child_forms k no_forms ≡ (renewed.started u.header.row).forms =
        get_or_from_slice_get child_forms k (forms_of_child u) no_forms (at-map forms_of_child local.children k u at)
        ∙ sym (is-renewed inner.inner_place u.header.row inner.stands).forms in
        subst (λ i. HasForms (renewed.started u.header.row).forms (fields_at before i)) (sym (field-place f (instance k u) slot))
        (subst (λ forms. HasForms forms (cell_fields (cell_at before f))) struct
        (instance-fields (slice_index_or child_forms k no_forms) (cell_at before f) form))

    child-within : (u : ChildUse) → Contains local.children u → IsSystemWithin (diagram a).rows s u.header.row
    child-within u h =
        let d = diagram a in
        let headers = known.local.headers in
        let m = of-map (child_use d) headers u (subst (λ (l : LocalSystem). Contains l.children u) known.local.is_local h) in
        let child = child-header d n headers known.local.are_headers m.0 m.1 in
        let stood = own_rows_stand_in d.rows s n child.row a.can.resolved.tree.table.nested
        (record { in_table = child.own.in_table; own = child.own.own; within = within }) in
        let row : Some child.row ≡ u.header.row = sym child.is_row ∙ ap (λ (w : ChildUse). w.header.row) m.2 in
        subst (IsSystemWithin d.rows s) row (right-of (is_system s child.row) (is_inside d.rows s child.row) stood.is_inside)

    -- ---- Ticks, where each child lives

    module _ (live : AllLive a v s xs run renewed child_fields local.children) where
      -- what is in the ring of a delay, and in the filler, before the start
      abbrev untouched : Untouched
      untouched = record {
        items = λ b. sized (delay_length (op_at (diagram a) b)) (items_at before (place_in (program_of a) n (memory_name b)));
        filler = number_in (program_of a) n before filler_name;
      }

      abbrev tick : ℕ → LocalTick
      tick t = tick_at (diagram a) s xs run n untouched t

      abbrev children : ℕ → List InstanceTick
      children t = instances a v s xs run renewed child_fields local.children live t

      child-serves : (t : ℕ) → t < length xs → (u : ChildUse) (one : Lives a v s xs run renewed u.header.row (child_fields u)) →
          Contains local.children u →
          Serves u.header (offer_of a v u.header.row) a.hyper (child_tick_of local (tick t) u) (one.at t)
      child-serves t below u one h =
          let inner = behind u h in
          let met =
          laws.meet a.model s n local (v.at u.header.row).local u xs run untouched nothing_untouched t a.can.resolved within known.local h
          (v.each inner.inner_place u.header.row inner.stands).local is below in
          subst (λ outer. Serves u.header (offer_of a v u.header.row) a.hyper outer (one.at t)) (sym met)
          (subst (λ header. Serves header (offer_of a v u.header.row) a.hyper (outer_at a v s xs run u.header.row t) (one.at t))
          (sym inner.header) (one.serves t below))

      offered : AllZip (λ (u : ChildUse) (o : Offer). IsOfferOf u.header o) local.children (child_offers a v n)
      offered = zip-held (λ (u : ChildUse) (o : Offer). IsOfferOf u.header o) (λ (u : ChildUse). offer_of a v u.header.row) local.children
          (λ u h.
          let inner = behind u h in
          subst (λ header. IsOfferOf header (offer_of a v u.header.row)) (sym inner.header)
          (laws.headers a v inner.inner_place u.header.row inner.stands))

      cycle : IsCycleOf local a.hyper
      cycle = subst (IsCycleOf local) (sym a.can.is_cycle) (laws.cycles a.model n local a.can.resolved known.local)

      is-local : (t : ℕ) → t < length xs → IsLocalTick local (tick t)
      is-local t below = laws.local_ticks a.model s n local xs run untouched t a.can.resolved within known.local is
          (λ b. sized-long (delay_length (op_at (diagram a) b)) (items_at before (place_in (program_of a) n (memory_name b)))) below

      is-typed : (t : ℕ) → t < length xs → IsTypedTick local (tick t)
      is-typed t below = laws.typed_ticks a.model s n local xs run untouched t a.can.resolved
          (is-a-system (diagram a).rows place n stands) within known.local is trace a.can.no_loop below

      kept : (t : ℕ) → t < length xs →
          KeepsRelation local (coded_header (v.at n)) slots known.behaves.held known.behaves.counted a.hyper (tick t) (offer_of a v n)
          (children t)
      kept t below =
          subst (λ offer.
          KeepsRelation local (coded_header (v.at n)) slots known.behaves.held known.behaves.counted a.hyper (tick t) offer (children t))
          (sym (laws.offers a v place n stands))
          (known.behaves.in_ticks a.pures a.prelude (λ i. first_procedure a.codes place + i) a.hyper cycle (child_offers a v n) offered
          (tick t) (is-local t below) (is-typed t below) (children t)
          (all-serve a v s xs run renewed child_fields local (tick t) a.hyper t (λ (u : ChildUse). offer_of a v u.header.row) local.children
          live (child-serves t below)))

      -- ---- From tick to tick

      abbrev instance_by : (t : ℕ) → (t < length xs) ⊎ (length xs ≤ t) → InstanceTick
      instance_by t (inl below) = (kept t below).own
      instance_by t (inr past) = no_instance

      serves-by : (t : ℕ) (when : (t < length xs) ⊎ (length xs ≤ t)) → t < length xs →
          Serves (coded_header (v.at n)) (offer_of a v n) a.hyper (outer_at a v s xs run n t) (instance_by t when)
      serves-by t (inl below) inside = (kept t below).serves
      serves-by t (inr past) inside = absurd (omega arith)

      -- before any call
      stands-before : (t : ℕ) (below : t < length xs) →
          (kept t below).own.standing none_called
          ≡ standing_cells local (tick t) (children t) slots (λ x. false) (known.behaves.counted none_called)
      stands-before t below =
          (kept t below).standing none_called
          ∙ ap (λ (executed : Node → Bool). standing_cells local (tick t) (children t) slots executed (known.behaves.counted none_called))
          (λ i x. none-any (range_with_len 1 (length (header_functions (coded_header (v.at n))))) i)

      follows-by : (t : ℕ) (when : (t < length xs) ⊎ (length xs ≤ t)) (later : (suc t < length xs) ⊎ (length xs ≤ suc t)) →
          suc t < length xs → (instance_by t when).after ≡ (instance_by (suc t) later).standing none_called
      follows-by t (inl below) (inl further) inside =
          (kept t below).after
          ∙ laws.next local slots (tick t) (tick (suc t)) (children t) (children (suc t)) (known.behaves.counted none_called)
          (laws.follow (diagram a) s n xs run untouched t) known.behaves.nothing_counted
          (linked a v s xs run renewed child_fields t inside local.children live)
          ∙ sym (stands-before (suc t) further)
      follows-by t (inl below) (inr past) inside = absurd (omega arith)
      follows-by t (inr past) later inside = absurd (omega arith)

      accounts-by : (t : ℕ) (when : (t < length xs) ⊎ (length xs ≤ t)) → t < length xs →
          HasAccounts a v s xs run n t (instance_by t when)
      accounts-by t (inl below) inside =
          laws.accounts a v s xs run trace is place n stands within untouched
          (λ b. sized-long (delay_length (op_at (diagram a) b)) (items_at before (place_in (program_of a) n (memory_name b)))) t below
          (children t) (kept t below)
          (at-child a v s xs run renewed child_fields
          (λ u i. Serves (coded_header (v.at u.header.row)) (offer_of a v u.header.row) a.hyper (outer_at a v s xs run u.header.row t) i) t
          local.children live (λ u one. one.serves t below))
          (at-child a v s xs run renewed child_fields (λ u i. HasAccounts a v s xs run u.header.row t i) t local.children live
          (λ u one. one.accounts t below))
      accounts-by t (inr past) inside = absurd (omega arith)

      -- what it leaves is what its slots hold after the tick, and each child's instance holds the tick
      holds-by : (t : ℕ) (when : (t < length xs) ⊎ (length xs ≤ t)) → t < length xs →
          HoldsRun (program_of a) (diagram a) n run t (instance_by t when).after
      holds-by t (inl below) inside =
          subst (HoldsRun (program_of a) (diagram a) n run t) (sym (kept t below).after)
          (holds-run laws.structs laws.places a v place n stands s xs run untouched t (is-local t below) (children t)
          (at-child a v s xs run renewed child_fields (λ u i. HoldsRun (program_of a) (diagram a) u.header.row run t i.after) t
          local.children live (λ u one. one.holds t below)))
      holds-by t (inr past) inside = absurd (omega arith)

      -- ---- The first tick

      abbrev renewals : List Renewal
      renewals = map (λ (u : ChildUse). renewed.started u.header.row) local.children

      begins : zero < length xs → (f : ℕ) (x : Slot) → slice_get slots f ≡ Some x → SlotIs local x →
          HasForm (slot_form child_forms x) (cell_at before f) → BeginsFrom local (tick 0) renewals (children 0) x (cell_at before f)
      begins some f (value q) at slot form = value-begins a.model n local known.local s xs run untouched a.can.resolved within is q slot.0
      begins some f (memory q) at slot form =
          memory-begins a.model n local known.local s xs run untouched a.can.resolved within is q slot.0 slot.1
      begins some f (ring_items q) at slot form =
          let array = array-items (container q.out) (delay_length q.op) (cell_at before f) form in
          let long = array.1 ∙ ap delay_length (own-op a.model n local known.local q slot.0) in
          array.0
          ∙ ap items (sym (ap (λ i. sized (delay_length (op_at (diagram a) q.row)) (items_at before i)) (field-place f (ring_items q) at)
          ∙ sized-same (delay_length (op_at (diagram a) q.row)) (cell_items (cell_at before f)) long))
      begins some f (ring_place q) at slot form = refl
      begins some f (ring_taken q) at slot form = refl
      begins some f trigger at slot form = trigger-begins a.model n local known.local s xs run untouched a.can.resolved within is
      begins some f (counter name type) at slot form = tt
      begins some f (instance k u) at slot form =
          let started : renewal_at renewals k ≡ renewed.started u.header.row =
          get_or_from_slice_get renewals k (renewed.started u.header.row) no_renewal
          (at-map (λ (w : ChildUse). renewed.started w.header.row) local.children k u slot) in
          ap (λ (z : Renewal). z.renewed (cell_fields (cell_at before f))) started
          ∙ ap (λ i. (renewed.started u.header.row).renewed (fields_at before i)) (sym (field-place f (instance k u) at))
          ∙ sym (at-child a v s xs run renewed child_fields
          (λ w i. i.standing none_called ≡ (renewed.started w.header.row).renewed (child_fields w)) 0 local.children live
          (λ w one. one.first some) k u slot)
      begins some f filler at slot form =
          number-held I8 (cell_at before f) form ∙ ap (λ i. number (number_at before i)) (sym (field-place f filler at))

      first-by : (when : (zero < length xs) ⊎ (length xs ≤ zero)) → zero < length xs →
          (instance_by zero when).standing none_called ≡ (renewed.started n).renewed before
      first-by (inl below) inside =
          stands-before zero below
          ∙ sym (laws.first local slots (tick 0) renewals (children 0) (known.behaves.counted none_called) before
          ((renewed.started n).renewed before) ((is-renewed place n stands).becomes before has)
          (begins-all local (tick 0) renewals (children 0) child_forms slots before has-slots (λ f x at.
          begins inside f x at (slot-is local slots known.shape.slots_right x (in-at slots f x at))
          (forms-at child_forms slots before f x has-slots at)))
          known.behaves.nothing_counted)
      first-by (inr past) inside = absurd (omega arith)

      lives-here : Lives a v s xs run renewed n before
      lives-here = record {
        at = λ t. instance_by t (cases_lt t (length xs));
        serves = λ t below. serves-by t (cases_lt t (length xs)) below;
        follows = λ t below. follows-by t (cases_lt t (length xs)) (cases_lt (suc t) (length xs)) below;
        first = λ below. first-by (cases_lt zero (length xs)) below;
        accounts = λ t below. accounts-by t (cases_lt t (length xs)) below;
        holds = λ t below. holds-by t (cases_lt t (length xs)) below;
      }

  -- children come later
  lives-from : (count place : ℕ) (n : Option ℕ) → slice_get (all_systems a) place ≡ Some n → IsSystemWithin (diagram a).rows s n →
      (before : Cells) → HasForms (renewed.started n).forms before → length (all_systems a) ≤ place + count →
      Lives a v s xs run renewed n before
  lives-from zero place n stands within before has enough = absurd (let below = at-below (all_systems a) place n stands in omega arith)
  lives-from (suc count) place n stands within before has enough =
      lives-here place n stands within before has
      (all-made (λ (u : ChildUse). Lives a v s xs run renewed u.header.row (child_fields place n stands within before has u))
      (v.at n).local.children (λ u h.
      let inner = behind place n stands within before has u h in
      lives-from count inner.inner_place u.header.row inner.stands (child-within place n stands within before has u h)
      (child_fields place n stands within before has u) (child-has place n stands within before has u h)
      (let later = inner.later in omega arith)))

pub lives_follow : TicksAreLocal → LocalTicksAreTyped → TicksFollow → CycleIsOfLocals → ChildrenMeetTheirTicks → NextStands → FirstStands →
    OffersAreOfHeaders → SystemsHavePlaces → FieldsAreFound → LivesFollow
lives_follow local_ticks typed_ticks follow cycles meet next first headers structs places offers forms accounts =
    λ a v renewed s xs run trace is n inside within before has.
    let stands = at-in (all_systems a) n inside in
    let laws : Laws = record {
      local_ticks = local_ticks;
      typed_ticks = typed_ticks;
      follow = follow;
      cycles = cycles;
      meet = meet;
      next = next;
      first = first;
      headers = headers;
      structs = structs;
      places = places;
      forms = forms;
      offers = offers;
      accounts = accounts;
    } in
    lives-from laws a v renewed s xs run trace is (length (all_systems a)) stands.0 n stands.1 within before has (omega arith)
