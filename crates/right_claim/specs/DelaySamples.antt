-- The program of a root that delays its input by a tick, one whose memory is stored before the
-- input that it takes, and one whose reset does nothing.
use Rattle.std.specs.Prelude.{◌≡◌, refl, false, List, [], ◌∷◌, ◌++◌, map, None, pos, codes, ℤ}
use Rattle.std.specs.Fmt.{digits}
use Rattle.diagram_blocks.specs.declared.Kind.TheVariants.{Inport, Outport, UnitDelay}
use Rattle.diagram_meaning.specs.Diagram.{Diagram}
use Rattle.diagram_meaning.specs.RunExamples.{simple, row, zero_initial}
use Rattle.modules_profile.specs.LocalSystem.{LocalSystem}
use Rattle.modules_profile.specs.Locals.{local_of, local_row}
use Rattle.c_syntax.specs.declared.Leaf.TheVariants.{Param, Own}
use Rattle.c_syntax.specs.Tree.{read, assign, StmtTree, ProgramTree}
use Rattle.c_semantics.specs.Rows.{c_rows}
use Rattle.emit_shape.specs.Heads.{now_param}
use Rattle.emit_shape.specs.SystemTree.{SystemTree}
use Rattle.emit_shape.specs.Slots.{Slot, value, memory, slot_field}
use Rattle.emit_shape.specs.Assembled.{assembled}
use Rattle.emit_shape.specs.TinySamples.{input_param, inner_procedure, zeros}

-- In1 through a Unit Delay to Out1
abbrev pub one_delay : Diagram
one_delay =
    simple (row None (Inport 1) [] ∷ row None (UnitDelay zero_initial) (0 ∷ [])
    ∷ row None (Outport 1 false zero_initial) (1 ∷ []) ∷ [])

abbrev pub delay_local : LocalSystem
delay_local = local_of one_delay [] None []

abbrev delay_slots : List Slot
delay_slots = map value (map (local_row one_delay []) (0 ∷ 1 ∷ 2 ∷ []))
    ++ memory (local_row one_delay [] 1) ∷ []

-- its code by the statements of the update and of the reset
abbrev delay_code : (on_update on_reset : List StmtTree) → SystemTree
delay_code on_update on_reset = record {
  structure = record { name = codes "top"; fields = map slot_field delay_slots };
  outputs = 2 ∷ [];
  procedures =
      inner_procedure (codes "top_out1") (now_param ∷ []) (assign 0 1 (read (Own 3))
      ∷ assign 0 2 (read (Own 1)) ∷ [])
      ∷ inner_procedure (codes "top_update") (now_param ∷ input_param ∷ []) on_update
      ∷ inner_procedure (codes "top_start") [] (zeros (0 ∷ 1 ∷ 2 ∷ 3 ∷ []))
      ∷ inner_procedure (codes "top_reset") [] on_reset
      ∷ [];
}

abbrev program_of : SystemTree → ProgramTree
program_of code = assembled (code ∷ []) delay_local 1 []

-- the input first, and then the memory that takes it
abbrev in_turn : List StmtTree
in_turn = assign 0 0 (read (Param 1)) ∷ assign 0 3 (read (Own 0)) ∷ []

abbrev pub delay_program : ProgramTree
delay_program = program_of (delay_code in_turn (zeros (3 ∷ [])))

-- the other way round
abbrev pub early_memory : ProgramTree
early_memory =
    program_of (delay_code (assign 0 3 (read (Own 0)) ∷ assign 0 0 (read (Param 1)) ∷ [])
    (zeros (3 ∷ [])))

-- the reset does nothing
abbrev pub empty_reset : ProgramTree
empty_reset = program_of (delay_code in_turn [])

-- three ticks
abbrev pub delay_trace : List (List ℤ)
delay_trace = (pos 5 ∷ []) ∷ (pos 6 ∷ []) ∷ (pos 7 ∷ []) ∷ []

outputs : map (λ row. row.outputs) (c_rows delay_program delay_trace).ticks
    ≡ (pos 0 ∷ []) ∷ (pos 5 ∷ []) ∷ (pos 6 ∷ []) ∷ []
unfolding digits
outputs = refl

early_outputs : map (λ row. row.outputs) (c_rows early_memory delay_trace).ticks
    ≡ (pos 0 ∷ []) ∷ (pos 0 ∷ []) ∷ (pos 5 ∷ []) ∷ []
unfolding digits
early_outputs = refl
