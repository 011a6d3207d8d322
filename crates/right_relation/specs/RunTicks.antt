-- What a tick of a run of a diagram, or of one of its systems, is for the rows of each system
-- inside, with the rings of its delays of several samples.
use Rattle.std.specs.Prelude.{ℕ, zero, suc, ◌||◌, if◌then◌else◌, List, [], Option, ℤ, pos}
use Rattle.diagram_blocks.specs.Meaning.{delay_length}
use Rattle.diagram_blocks.specs.Value.{input}
use Rattle.diagram_meaning.specs.Diagram.{Diagram, op_at}
use Rattle.diagram_meaning.specs.Laws.{Run}
use Rattle.diagram_meaning.specs.SystemRuns.{SystemTick, system_tick, system_is_off, own_runs, own_inputs}
use Rattle.right_relation.specs.Rings.{Ring, begun_ring, emptied_ring, moved_ring}
use Rattle.right_relation.specs.LocalTicks.{LocalTick}

-- the ring of row b of the system n after a tick
abbrev pub next_ring : Diagram → Option ℕ → SystemTick → ℕ → Ring → Ring
next_ring d n m b ring =
    if m.is_off_around || system_is_off d n m then emptied_ring ring
    else (if own_runs d n m b
    then moved_ring (delay_length (op_at d b)) ring (input (own_inputs d n m b) 0)
    else ring)

-- What was before the start in the fields that a start leaves alone: in the array of each row's
-- ring, and in the filler.
pub record Untouched : Type 0 where
  pub items : ℕ → List ℤ
  pub filler : ℤ

-- what an instance without rings and filler has
abbrev pub nothing_untouched : Untouched
nothing_untouched = record { items = λ b. []; filler = pos 0 }

-- A run of the system s of a diagram over a trace, and a system n, which is s or inside it, in an
-- instance that was started.
module _ (d : Diagram) (s : Option ℕ) (xs : List (List ℤ)) (run : Run) (n : Option ℕ) (untouched :
    Untouched) where
  -- The ring of row b before a tick: from the start on, as the row runs and is reset.
  abbrev pub ring_at : ℕ → ℕ → Ring
  ring_at zero b = begun_ring (untouched.items b)
  ring_at (suc t) b = next_ring d n (system_tick d s xs run n t) b (ring_at t b)

  -- the tick for the rows of n
  abbrev pub tick_at : ℕ → LocalTick
  tick_at t =
      record {
        tick = system_tick d s xs run n t;
        ring = ring_at t;
        ring_after = ring_at (suc t);
        filler = untouched.filler;
      }
