-- The relation between a system's code and the runs of its own rows: what a system's code does in
-- each tick, provided that the children's procedures do the same by their headers.
use Rattle.std.specs.Prelude.{◌≡◌, ℕ, ◌+◌, ◌%◌, ◌^◌, ◌<◌, ◌≤◌, Bool, List, [], ◌∷◌, ◌++◌, map, flat_map, length, slice_get, slice_index, ℤ, pos, ⊤}
use Rattle.std.specs.Option.{option_map_or}
use Rattle.std.specs.List.{AllByRecursion, AllZip, range_with_len}
use Rattle.modules_profile.specs.declared.ChildUse.{ChildUse}
use Rattle.modules_profile.specs.declared.Node.{Node}
use Rattle.modules_profile.specs.LocalSystem.{LocalSystem}
use Rattle.modules_profile.specs.SystemProfile.{SystemProfile}
use Rattle.modules_profile.specs.SystemHeader.{SystemHeader}
use Rattle.modules_profile.specs.Locals.{own_header}
use Rattle.c_syntax.specs.declared.CType.{CType}
use Rattle.c_syntax.specs.Tree.{PureTree, ProcedureTree, field_types}
use Rattle.c_semantics.specs.Values.{Function, functions_of as pure_functions}
use Rattle.c_semantics.specs.Machine.{Routine, routine_at, routine_with}
use Rattle.emit_prelude.specs.Rules.{IsPrelude}
use Rattle.emit_shape.specs.Names.{out_name, update_name, start_name, reset_name}
use Rattle.emit_shape.specs.SystemTree.{SystemTree}
use Rattle.emit_shape.specs.LocalShape.{own_position}
use Rattle.emit_shape.specs.Slots.{Slot, value, memory, ring_items, ring_place, ring_taken, trigger, counter, instance, filler}
use Rattle.emit_shape.specs.Relocation.{Relocation, behind_children, moved_procedure}
use Rattle.right_relation.specs.LocalTicks.{LocalTick, IsLocalTick, IsTypedTick}
use Rattle.right_relation.specs.Instances.{Act, none_called, InstanceTick, Offered, Offer, offer_at}
use Rattle.right_relation.specs.Serving.{MayCome, IsOfferOf, Serves}
use Rattle.right_relation.specs.Standing.{AreHeld, executed_by, standing_cells, after_cells, outer_tick_of, child_tick_of}
use Rattle.right_relation.specs.Budgets.{IsWithinBudget}
use Rattle.right_relation.specs.Accounts.{Adds}
use Rattle.right_relation.specs.Renewals.{Renewal, Renews, IsStarted, IsReset, RenewsOwn}

-- ---- A system's procedures among those of its children

-- the procedures that an instance of a child offers, in the order in which the code around it
-- counts them
abbrev pub offered_routines : Offer → List Routine
offered_routines o = map (λ (q : Offered). q.routine) (o.outs ++ o.update ∷ o.start ∷ o.reset ∷ [])

abbrev pub children_routines : List Offer → List Routine
children_routines offers = flat_map offered_routines offers

-- the position of an output's field in the child of a slot
abbrev pub place_in_child : List Offer → ℕ → Slot → ℕ
place_in_child offers o (instance k u) = slice_index (offer_at offers k).places o
place_in_child offers o _ = 0

-- the system's own procedures, which are so many, are after what these offer
abbrev pub behind_offers : List Slot → List Offer → ℕ → Relocation
behind_offers slots offers count =
    behind_children count (length (children_routines offers))
    (λ f o. option_map_or (place_in_child offers o) (slice_get slots f) 0) 0

-- each procedure of a list, where the first is the k-th of its system, with its number in the
-- program; the struct's fields have these types
abbrev pub numbered_routines : List Function → List CType → (ℕ → ℕ) → ℕ → List Routine →
    List ProcedureTree → List Routine
numbered_routines functions types numbers k earlier [] = earlier
numbered_routines functions types numbers k earlier (q ∷ qs) =
    numbered_routines functions types numbers (k + 1)
    (earlier ++ routine_with functions types earlier (numbers k) q ∷ []) qs

-- the procedures of the children, and then the system's own
abbrev pub system_routines : List PureTree → List Slot → List Offer → SystemTree → (ℕ → ℕ) →
    List Routine
system_routines pures slots offers code numbers =
    numbered_routines (pure_functions [] pures) (field_types code.structure.fields) numbers 0
    (children_routines offers)
    (map (moved_procedure (behind_offers slots offers (length code.procedures)))
    code.procedures)

-- what the system offers by the names of its procedures
abbrev pub own_offer : LocalSystem → SystemProfile → List PureTree → List Slot → List Offer →
    SystemTree → (ℕ → ℕ) → Offer
own_offer local profile pures slots offers code numbers =
    let routines = system_routines pures slots offers code numbers in
    let offered =
    λ (name : List ℕ). named_offer routines (length (children_routines offers))
    (own_position code name) numbers in
    record {
      outs =
          map (λ j. offered (out_name local.row j)) (range_with_len 1 (length profile.functions));
      update = offered (update_name local.row);
      start = offered (start_name local.row);
      reset = offered (reset_name local.row);
      places = code.outputs;
    }
  where
    named_offer : List Routine → ℕ → ℕ → (ℕ → ℕ) → Offered
    named_offer routines before k numbers =
        record { routine = routine_at routines (before + k); number = numbers k }

-- ---- The relation

-- each child serves in the tick as it meets it
abbrev pub ChildrenServe : LocalSystem → LocalTick → ℕ → List ChildUse → List Offer →
    List InstanceTick → Type 0
ChildrenServe local m cycle [] [] [] = ⊤
ChildrenServe local m cycle (u ∷ us) (o ∷ os) (i ∷ is) =
    Serves u.header o cycle (child_tick_of local m u) i × ChildrenServe local m cycle us os is
ChildrenServe local m cycle _ _ _ = ⊥

-- all hits of the system's rows repeat after a cycle
pub record IsCycleOf (local : LocalSystem) (cycle : ℕ) : Type 0 where
  pub some : 0 < cycle
  pub short : cycle ≤ 2 ^ 30
  pub repeats : AllByRecursion (λ r. cycle % r.time.period ≡ 0) local.rows

-- In a tick, an instance of the system: its fields are those of the run, by the functions called;
-- it serves; and each act adds to steps, log and stores what it should.
pub record KeepsRelation (local : LocalSystem) (h : SystemHeader) (slots : List Slot) (held : ℕ →
    Node → Bool) (counted : (ℕ → Bool) → List ℕ → ℤ) (cycle : ℕ) (m : LocalTick) (offer : Offer)
    (children : List InstanceTick) : Type 0 where
  pub own : InstanceTick
  pub standing : (called : ℕ → Bool) →
      own.standing called ≡ standing_cells local m children slots (executed_by h held called)
      (counted called)
  pub after : own.after ≡ after_cells local m children slots
  pub serves : Serves h offer cycle (outer_tick_of local m) own
  pub steps : (ℕ → Bool) → Act → ℕ
  pub in_budget : IsWithinBudget local h steps
  pub adds : (called : ℕ → Bool) (act : Act) → MayCome h (outer_tick_of local m) called act →
      Adds local h held m slots children own steps called act

-- The behaviour of a system's code, whatever eight functions of the prelude, whatever numbers in a
-- program and whatever children it meets: in each tick of each run of its own rows it keeps the
-- relation, and from any fields it starts and resets right.
pub record Behaves (local : LocalSystem) (profile : SystemProfile) (slots : List Slot)
    (code : SystemTree) : Type 0 where
  pub held : ℕ → Node → Bool
  pub are_held : AreHeld local (own_header local profile) held
  pub counted : (ℕ → Bool) → List ℕ → ℤ
  pub nothing_counted : (name : List ℕ) → counted none_called name ≡ pos 0
  pub in_ticks : (pures : List PureTree) → IsPrelude pures → (numbers : ℕ → ℕ) (cycle : ℕ) →
      IsCycleOf local cycle →
      (offers : List Offer) → AllZip (λ u o. IsOfferOf u.header o) local.children offers →
      (m : LocalTick) → IsLocalTick local m → IsTypedTick local m →
      (children : List InstanceTick) → ChildrenServe local m cycle local.children offers children →
      KeepsRelation local (own_header local profile) slots held counted cycle m
      (own_offer local profile pures slots offers code numbers) children
  pub starts : (pures : List PureTree) → IsPrelude pures → (numbers : ℕ → ℕ) →
      (offers : List Offer) → AllZip (λ u o. IsOfferOf u.header o) local.children offers →
      (children : List Renewal) → AllZip (λ (o : Offer) n. Renews o.start n) offers children →
      RenewsOwn local slots children (IsStarted local children)
      (own_offer local profile pures slots offers code numbers).start
  pub resets : (pures : List PureTree) → IsPrelude pures → (numbers : ℕ → ℕ) →
      (offers : List Offer) → AllZip (λ u o. IsOfferOf u.header o) local.children offers →
      (children : List Renewal) → AllZip (λ (o : Offer) n. Renews o.reset n) offers children →
      RenewsOwn local slots children (IsReset local children)
      (own_offer local profile pures slots offers code numbers).reset
