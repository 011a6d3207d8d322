-- Fields of a triggered subsystem that hold something else than its run has after a tick are refused, one by one.
use Rattle.std.specs.Prelude.{◌≡◌, refl, [], ◌∷◌, List, slice_index_or, Some, pos, nat_abs, ℤ}
use Rattle.std.specs.Fmt.{digits}
use Rattle.std.proofs.Common.{sym, ap, ◌∙◌}
use Rattle.c_semantics.specs.Cells.{Cells}
use Rattle.right_relation.specs.Rings.{Ring, ring_list}
use Rattle.right_claim.specs.Held.{HoldsTick}
use Rattle.right_claim.specs.HeldExamples.{remembering, second_values, third_memories, third_triggers, held_program, held_cells}
use Rattle.right_claim.proofs.RefusedPrograms.{values-apart}

abbrev Holds : Cells → Type 0
Holds cells = HoldsTick held_program remembering second_values third_memories third_triggers (Some 2) cells

-- the Unit Delay's value is 0
other_value : Holds (held_cells (pos 6) (pos 4) (pos 1) (pos 2) (pos 0)) → ⊥
unfolding digits
other_value h = values-apart 6 0 refl h.values.1.0

-- it remembers 4
other_memory : Holds (held_cells (pos 0) (pos 3) (pos 1) (pos 2) (pos 0)) → ⊥
unfolding digits
other_memory h = values-apart 3 4 refl h.memories.0

-- one sample was taken: were it two, the oldest would be the 9 that was in the ring before the start
other_ring : Holds (held_cells (pos 0) (pos 4) (pos 2) (pos 2) (pos 0)) → ⊥
unfolding digits
other_ring h = by h.rings.0.ring h.rings.0.items h.rings.0.place h.rings.0.taken h.rings.0.holds.holds
  where
    by : (ring : Ring) → pos 4 ∷ pos 9 ∷ [] ≡ ring.items → pos 1 ≡ pos ring.place → pos 2 ≡ pos ring.taken →
        pos 0 ∷ pos 4 ∷ [] ≡ ring_list 2 (pos 0) ring → ⊥
    by ring items place taken holds =
        values-apart 0 9 refl
        (ap (λ (vs : List ℤ). slice_index_or vs 0 (pos 0)) (holds
        ∙ sym (λ i. ring_list 2 (pos 0) (record { items = items i; place = nat_abs (place i); taken = nat_abs (taken i) }))))

-- the trigger was high
other_trigger : Holds (held_cells (pos 0) (pos 4) (pos 1) (pos 1) (pos 0)) → ⊥
unfolding digits
other_trigger h = values-apart 1 2 refl (h.trigger refl)

-- no function counts as called
other_counter : Holds (held_cells (pos 0) (pos 4) (pos 1) (pos 2) (pos 1)) → ⊥
unfolding digits
other_counter h = values-apart 1 0 refl h.counters.0
