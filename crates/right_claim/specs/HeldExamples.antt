-- What the fields of a triggered subsystem hold after a tick: a value, a memory, a ring, what the
-- trigger remembers, and a counter.
use Rattle.std.specs.Prelude.{refl, ℕ, false, List, [], ◌∷◌, ◌++◌, map, replicate, pos, codes, Some, None, ℤ}
use Rattle.std.specs.Fmt.{digits}
use Rattle.std.proofs.Common.{lit<, lit≤}
use Rattle.base_core.specs.declared.Control.TheVariants.{Triggered}
use Rattle.base_core.specs.declared.Edge.TheVariants.{Rising}
use Rattle.diagram_activity.specs.declared.TrigMem.{TrigMem}
use Rattle.diagram_activity.specs.declared.TrigMem.TheVariants.{NotYet, Low, High}
use Rattle.diagram_blocks.specs.declared.Kind.TheVariants.{Inport, Outport, SubSystem, UnitDelay, Delay, TriggerPort}
use Rattle.diagram_meaning.specs.Diagram.{Diagram}
use Rattle.diagram_meaning.specs.RunExamples.{simple, row, zero_initial}
use Rattle.diagram_meaning.specs.Laws.{IsRunOver}
use Rattle.modules_profile.specs.Locals.{local_row}
use Rattle.modules_profile.specs.declared.LocalRow.{LocalRow}
use Rattle.c_syntax.specs.declared.CType.TheVariants.{U8}
use Rattle.c_syntax.specs.Tree.{ProgramTree}
use Rattle.c_semantics.specs.Cells.{Cells, number, items, no_cells, more_cells}
use Rattle.emit_shape.specs.Names.{counter_name}
use Rattle.emit_shape.specs.Slots.{value, memory, ring_slots, trigger, counter, slot_field}
use Rattle.right_claim.specs.Held.{HoldsTick}

-- In1, and In2, at whose rises C runs: in it In1 goes through a Unit Delay to y1, and through a
-- Delay of two samples; Out1 is C's output
abbrev pub remembering : Diagram
remembering =
    simple (row None (Inport 1) [] ∷ row None (Inport 2) []
    ∷ row None (SubSystem (Triggered Rising)) (1 ∷ []) ∷ row (Some 2) (Inport 1) (0 ∷ [])
    ∷ row (Some 2) TriggerPort [] ∷ row (Some 2) (UnitDelay zero_initial) (3 ∷ [])
    ∷ row (Some 2) (Delay 2 zero_initial) (3 ∷ [])
    ∷ row (Some 2) (Outport 1 false zero_initial) (5 ∷ [])
    ∷ row None (Outport 1 false zero_initial) (7 ∷ []) ∷ [])

-- ---- Its run over two ticks, of which the second is a rise

abbrev pub rise : List (List ℤ)
rise = (pos 3 ∷ pos 0 ∷ []) ∷ (pos 4 ∷ pos 1 ∷ []) ∷ []

abbrev remembers : (single : ℤ) (line : List ℤ) → List (List ℤ)
remembers single line = [] ∷ [] ∷ [] ∷ [] ∷ [] ∷ (single ∷ []) ∷ line ∷ [] ∷ [] ∷ []

abbrev triggers : TrigMem → List TrigMem
triggers g = NotYet ∷ NotYet ∷ g ∷ replicate 6 NotYet

abbrev pub second_values : List ℤ
second_values = pos 4 ∷ pos 1 ∷ pos 0 ∷ pos 4 ∷ pos 0 ∷ pos 0 ∷ pos 0 ∷ pos 0 ∷ pos 0 ∷ []

abbrev pub third_memories : List (List ℤ)
third_memories = remembers (pos 4) (pos 0 ∷ pos 4 ∷ [])

abbrev pub third_triggers : List TrigMem
third_triggers = triggers High

is_run : IsRunOver remembering None rise
    (record {
      values = (pos 3 ∷ replicate 8 (pos 0)) ∷ second_values ∷ [];
      memories =
          remembers (pos 0) (pos 0 ∷ pos 0 ∷ []) ∷ remembers (pos 0) (pos 0 ∷ pos 0 ∷ [])
          ∷ third_memories ∷ [];
      triggers = triggers NotYet ∷ triggers Low ∷ third_triggers ∷ [];
    })
is_run = (
  refl,
  refl,
  (
    record { values = refl; memories = refl; triggers = refl },
    (record { values = refl; memories = refl; triggers = refl }, tt),
  ),
)

-- ---- Fields of the subsystem

abbrev at_row : ℕ → LocalRow
at_row b = local_row remembering [] b

-- its struct: In1's value and those of the delays and of y1, the memory, the ring, the trigger and
-- a counter
abbrev pub held_program : ProgramTree
held_program = record {
  pures = [];
  structs =
      record {
        name = codes "s2";
        fields =
            map slot_field (map value (map at_row (3 ∷ 5 ∷ 6 ∷ 7 ∷ [])) ++ memory (at_row 5)
            ∷ ring_slots (at_row 6) ++ trigger ∷ counter (counter_name 0) U8 ∷ []);
      }
      ∷ [];
  procedures = [];
}

-- these after the second tick: the ring's first item is the 4 that it took, its second is whatever
-- was there before the start
abbrev pub held_cells : (delayed remembered taken memory_of_trigger count : ℤ) → Cells
held_cells delayed remembered taken memory_of_trigger count =
    more_cells (number (pos 4))
    (more_cells (number delayed)
    (more_cells (number (pos 0))
    (more_cells (number (pos 0))
    (more_cells (number remembered)
    (more_cells (items (pos 4 ∷ pos 9 ∷ []))
    (more_cells (number (pos 1))
    (more_cells (number taken)
    (more_cells (number memory_of_trigger) (more_cells (number count) no_cells)))))))))

holds : HoldsTick held_program remembering second_values third_memories third_triggers (Some 2)
    (held_cells (pos 0) (pos 4) (pos 1) (pos 2) (pos 0))
unfolding digits
holds = record {
  values = (refl, (refl, (refl, (refl, tt))));
  memories = (refl, tt);
  rings = (
    record {
      ring = record { items = pos 4 ∷ pos 9 ∷ []; place = 1; taken = 1 };
      items = refl;
      place = refl;
      taken = refl;
      holds = record { place = lit< tt; taken = lit≤ tt; long = refl; holds = refl };
    },
    tt,
  );
  trigger = λ is. refl;
  counters = (refl, tt);
}
