-- After the update each field is that of the next tick.
use Rattle.std.specs.Prelude.{◌≡◌, ◌⊎◌, ℕ, ◌+◌, Bool, true, false, ◌||◌, if◌then◌else◌, List, [], ◌∷◌, map, filter, flat_map, length, slice_get, Contains, IsTrue, Some, ℤ, refl}
use Rattle.std.proofs.Common.{sym, ap, subst, ◌∙◌, arith, inl, inr, true≢false}
use Rattle.std.proofs.lemmas.List.Elements.{Contains-append_left}
use Rattle.diagram_meaning.specs.Rows.{is_triggered}
use Rattle.diagram_blocks.specs.Kinds.{is_delay}
use Rattle.modules_profile.specs.declared.local.LocalRow.{LocalRow}
use Rattle.modules_profile.specs.declared.nodes.Node.{Node}
use Rattle.modules_profile.specs.declared.nodes.Node.TheVariants as node
use Rattle.modules_profile.specs.LocalSystem.{LocalSystem}
use Rattle.modules_profile.specs.LocalNodes.{call_nodes, node_list}
use Rattle.modules_profile.proofs.lemmas.Members.{in-first, in-rest, in-map, in-filter, at-below}
use Rattle.modules_schedule.specs.SystemSchedule.{SystemSchedule}
use Rattle.c_syntax.specs.Tree.{PureTree}
use Rattle.c_semantics.specs.Cells.{Cell, number, object}
use Rattle.emit_shape.specs.Delays.{is_line}
use Rattle.emit_shape.specs.Slots.{Slot, value, memory, ring_items, ring_place, ring_taken, trigger, counter, instance, filler}
use Rattle.right_relation.specs.ExecutedNodes.{IsCounting, StandingHasSlots}
use Rattle.right_relation.specs.Instances.{InstanceTick, instance_at, Offer}
use Rattle.right_relation.specs.LocalTicks.{LocalTick, is_active, is_off}
use Rattle.right_relation.specs.Rings.{EmptiedIsRing, MovedIsRing}
use Rattle.right_relation.specs.Standing.{called_in, standing_cell, after_cell, after_cells}
use Rattle.emit_system_spec.specs.Fields.{memory_field, ring_field, trigger_field, child_field, shared_groups, code_slots}
use Rattle.right_system_ticks.specs.PlaceLaws.{IsSlotAt}
use Rattle.right_system_ticks.proofs.Tests.{not-true}
use Rattle.right_system_ticks.proofs.NodeRuns.{IsRunning}
use Rattle.right_system_ticks.proofs.UpdateStates.{state, Touched, child-serves, ends, single-delay, line-delay}
use Rattle.right_system_ticks.proofs.NewFields.{with_memory, with_memories, with_children, with_trigger, with_counters, stays-children, stays-trigger, stays-counters, new-memory, new-child, new-counter}

module _ (standing_has_slots : StandingHasSlots) (emptied_is_ring : EmptiedIsRing) (moved_is_ring : MovedIsRing)
    (local : LocalSystem) (schedule : SystemSchedule) (offers : List Offer) (children : List InstanceTick) (cycle : ℕ) (m : LocalTick)
    (pures : List PureTree) (running : IsRunning local schedule offers children cycle m pures)
    (executed : Node → Bool) (everything : (x : Node) → Contains (node_list local) x → IsTrue (executed x))
    (counted : List ℕ → ℤ) (counting : IsCounting counted) where
  abbrev slots : List Slot
  slots = code_slots local schedule

  abbrev cell : Slot → Cell
  cell x = standing_cell local m children executed counted x

  abbrev Made : List ℕ → Slot → Type 0
  Made fields x = Touched standing_has_slots emptied_is_ring moved_is_ring local schedule offers children cycle m pures running executed
      everything counted counting fields x

  abbrev pub delays : List LocalRow
  delays = filter (λ r. is_delay r.op) local.rows

  -- the fields after each part of the update
  abbrev pub behind_memories : List ℕ
  behind_memories = with_memories local delays []

  abbrev pub behind_updates : List ℕ
  behind_updates = with_children local (is_active local m) 0 local.children behind_memories

  abbrev pub behind_resets : List ℕ
  behind_resets = with_children local (is_off local m) 0 local.children behind_updates

  abbrev pub behind_trigger : List ℕ
  behind_trigger = with_trigger local (is_triggered local.control) behind_resets

  abbrev base : ℕ
  base = child_field local (length local.children)

  abbrev pub behind_all : List ℕ
  behind_all = with_counters base (length (shared_groups schedule)) behind_trigger

  from-trigger : (f : ℕ) → Contains behind_trigger f → Contains behind_all f
  from-trigger f h = stays-counters base (length (shared_groups schedule)) behind_trigger f h

  from-resets : (f : ℕ) → Contains behind_resets f → Contains behind_all f
  from-resets f h = from-trigger f (stays-trigger local (is_triggered local.control) behind_resets f h)

  from-updates : (f : ℕ) → Contains behind_updates f → Contains behind_all f
  from-updates f h = from-resets f (stays-children local (is_off local m) 0 local.children behind_updates f h)

  from-memories : (f : ℕ) → Contains behind_memories f → Contains behind_all f
  from-memories f h = from-updates f (stays-children local (is_active local m) 0 local.children behind_memories f h)

  ring-made : (r : LocalRow) (f : ℕ) → Contains local.rows r → is_line r.op ≡ true → Contains (with_memory local true r []) f →
      Contains behind_all f
  ring-made r f mine line h =
      from-memories f (new-memory local delays [] r f (in-filter (λ (q : LocalRow). is_delay q.op) local.rows r mine (line-delay r.op line))
      (subst (λ t. Contains (with_memory local t r []) f) (sym line) h))

  each : (f : ℕ) (x : Slot) → slice_get slots f ≡ Some x → IsSlotAt local schedule f x →
      Made behind_all x ⊎ (cell x ≡ after_cell local m children x)
  each f (value r) at (mine, has) =
      inr (ap number (ap (λ t. if t then m.tick.value r.row else m.tick.before r.row) (everything (node.Row r.row)
      (Contains-append_left (map (λ (q : LocalRow). node.Row q.row) local.rows) (flat_map call_nodes local.children) (node.Row r.row)
      (in-map (λ (q : LocalRow). node.Row q.row) local.rows r mine)))))
  each f (memory r) at (mine, single) =
      let is = single-delay r.op single in
      inl (
        memory_field local r.row,
        from-memories (memory_field local r.row) (new-memory local delays [] r (memory_field local r.row)
            (in-filter (λ (q : LocalRow). is_delay q.op) local.rows r mine is.0)
            (subst (λ t. Contains (with_memory local t r []) (memory_field local r.row)) (sym is.1)
            (in-first (memory_field local r.row) []))),
        running.places.memories r mine single,
      )
  each f (ring_items r) at (mine, line) =
      let g = ring_field local r.row in
      inl (
        g,
        ring-made r g mine line (in-rest (g + 2) g ((g + 1) ∷ g ∷ []) (in-rest (g + 1) g (g ∷ []) (in-first g []))),
        running.places.items r mine line,
      )
  each f (ring_place r) at (mine, line) =
      let g = ring_field local r.row in
      inl (
        g + 1,
        ring-made r (g + 1) mine line (in-rest (g + 2) (g + 1) ((g + 1) ∷ g ∷ []) (in-first (g + 1) (g ∷ []))),
        running.places.places r mine line,
      )
  each f (ring_taken r) at (mine, line) =
      let g = ring_field local r.row in
      inl (g + 2, ring-made r (g + 2) mine line (in-first (g + 2) ((g + 1) ∷ g ∷ [])), running.places.counts r mine line)
  each f trigger at is =
      inl (
        trigger_field local,
        from-trigger (trigger_field local) (subst (λ t. Contains (with_trigger local t behind_resets) (trigger_field local)) (sym is)
            (in-first (trigger_field local) behind_resets)),
        running.places.trigger is,
      )
  each f (counter name type) at (k, g, there, is, named) =
      inl (
        f,
        subst (Contains behind_all) (sym is)
            (new-counter base (length (shared_groups schedule)) behind_trigger k (at-below (shared_groups schedule) k g there)),
        at,
      )
  each f (instance k u) at there = by (is_active local m) refl (is_off local m) refl
    where
      zero-more : child_field local (0 + k) ≡ child_field local k
      zero-more = ap (child_field local) (let e : 0 + k ≡ k = omega arith in e)

      around : m.tick.is_off_around ≡ false
      around = not-true m.tick.is_off_around (λ h. true≢false (sym running.works.callable ∙ running.works.is_tick.at_rest h))

      by : (t : Bool) → is_active local m ≡ t → (s : Bool) → is_off local m ≡ s →
          Made behind_all (instance k u) ⊎ (cell (instance k u) ≡ after_cell local m children (instance k u))
      by true active s is =
          inl (
            child_field local k,
            from-updates (child_field local k)
                (subst (λ t. Contains (with_children local t 0 local.children behind_memories) (child_field local k)) (sym active)
                (subst (Contains (with_children local true 0 local.children behind_memories)) zero-more
                (new-child local 0 local.children behind_memories k u there))),
            running.places.children k u there,
          )
      by false active true is =
          inl (
            child_field local k,
            from-resets (child_field local k)
                (subst (λ t. Contains (with_children local t 0 local.children behind_updates) (child_field local k)) (sym is)
                (subst (Contains (with_children local true 0 local.children behind_updates)) zero-more
                (new-child local 0 local.children behind_updates k u there))),
            running.places.children k u there,
          )
      by false active false is =
          let serves = child-serves standing_has_slots emptied_is_ring moved_is_ring local schedule offers children cycle m pures running
          executed everything
          counted counting k u there in
          inr (ap object (ap (λ a. (instance_at children k).standing (called_in a executed u)) active
          ∙ sym (serves.rests active (ap (λ t. t || is_off local m) around ∙ is))))
  each f filler at is = inr refl

  pub update-ends : state standing_has_slots emptied_is_ring moved_is_ring local schedule offers children cycle m pures running executed
      everything counted counting behind_all
      ≡ after_cells local m children slots
  update-ends = ends standing_has_slots emptied_is_ring moved_is_ring local schedule offers children cycle m pures running executed
      everything counted counting behind_all
      (λ f x at. each f x at (running.places.each f x at))
