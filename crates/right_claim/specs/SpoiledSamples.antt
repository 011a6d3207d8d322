-- Programs that are wrong in one thing after a second start, after a reset, between two ticks, or
-- where functions are called in another order.
use Rattle.std.specs.Prelude.{◌≡◌, refl, ℕ, false, List, [], ◌∷◌, ◌++◌, map, pos, codes, Some, None, ℤ}
use Rattle.std.specs.Fmt.{digits}
use Rattle.std.proofs.Common.{lit≤}
use Rattle.base_core.specs.declared.Compare.TheVariants.{Eq, Ne}
use Rattle.base_core.specs.declared.Control.TheVariants.{Plain}
use Rattle.diagram_blocks.specs.declared.Kind.TheVariants.{Outport, SubSystem, Constant, Delay}
use Rattle.diagram_meaning.specs.Diagram.{Diagram}
use Rattle.diagram_meaning.specs.RunExamples.{whole_decimal, simple, row, zero_initial}
use Rattle.modules_profile.specs.Headers.{header_of}
use Rattle.modules_profile.specs.Locals.{local_of, local_row}
use Rattle.modules_profile.specs.declared.LocalRow.{LocalRow}
use Rattle.c_syntax.specs.declared.BinOp.TheVariants.{Add, Sub}
use Rattle.c_syntax.specs.declared.CType.TheVariants.{U8}
use Rattle.c_syntax.specs.declared.Leaf.TheVariants.{Param, Own, Child}
use Rattle.c_syntax.specs.declared.Target.TheVariants.{Own as OnSelf, Child as OnChild}
use Rattle.c_syntax.specs.Tree.{literal, read, binary, pick, item, compare, assign, assign_at, branch, call, no_stmts, no_exprs, exprs_of_list, stmts_of_list, ExprTree, StmtTree, ProcedureTree, ProgramTree}
use Rattle.c_semantics.specs.Cells.{Cells, number, items, object, no_cells, more_cells}
use Rattle.c_semantics.specs.Machine.{call_from_outside}
use Rattle.c_semantics.specs.Rows.{c_rows, rows_of_start}
use Rattle.emit_shape.specs.Names.{counter_name}
use Rattle.emit_shape.specs.Heads.{now_param}
use Rattle.emit_shape.specs.SystemTree.{SystemTree}
use Rattle.emit_shape.specs.Slots.{Slot, value, ring_slots, counter, slot_field}
use Rattle.emit_shape.specs.Assembled.{assembled}
use Rattle.emit_shape.specs.TinySamples.{input_param, second_param, inner_procedure, group_procedure, zeros, outer_code}
use Rattle.right_claim.specs.SharedSamples.{program_of, replaced, with_procedure}
use Rattle.right_claim.specs.WholeSamples.{child_profile, child_code, top_code, top_local}

-- ---- A ring

-- C, in which a Constant 5 goes through a Delay of one sample to y1, and Out1, which is C's output
abbrev pub ring_five : Diagram
ring_five =
    simple (row None (SubSystem Plain) [] ∷ row (Some 0) (Delay 1 zero_initial) (2 ∷ [])
    ∷ row (Some 0) (Constant (whole_decimal 5 (lit≤ tt))) []
    ∷ row (Some 0) (Outport 1 false zero_initial) (1 ∷ []) ∷ row None (Outport 1 false zero_initial)
    (3 ∷ []) ∷ [])

abbrev at_row : ℕ → LocalRow
at_row b = local_row ring_five [] b

-- the values of the delay, the Constant and y1, the delay's ring, and a counter
abbrev ring_fields : List Slot
ring_fields =
    map value (map at_row (1 ∷ 2 ∷ 3 ∷ [])) ++ ring_slots (at_row 1) ++ counter (counter_name 0) U8
    ∷ []

-- the child's code by what the delay reads, and by its reset
abbrev ring_code : ExprTree → List StmtTree → SystemTree
ring_code oldest on_reset = record {
  structure = record { name = codes "s0"; fields = map slot_field ring_fields };
  outputs = 2 ∷ [];
  procedures =
      group_procedure (codes "s0_g0") [] 6 (assign 0 0 oldest ∷ assign 0 2 (read (Own 0)) ∷ [])
      ∷ inner_procedure (codes "s0_out1") (now_param ∷ []) (call 0 0 OnSelf no_exprs ∷ [])
      ∷ inner_procedure (codes "s0_update") (now_param ∷ []) (assign 0 1 (literal (pos 5))
      ∷ assign_at 0 3 (read (Own 4)) (read (Own 1)) ∷ assign 0 5 (literal (pos 1))
      ∷ zeros (4 ∷ 6 ∷ []))
      ∷ inner_procedure (codes "s0_start") [] (zeros (0 ∷ 1 ∷ 2 ∷ 4 ∷ 5 ∷ 6 ∷ []))
      ∷ inner_procedure (codes "s0_reset") [] on_reset
      ∷ [];
}

abbrev ring_program_of : ExprTree → List StmtTree → ProgramTree
ring_program_of oldest on_reset =
    assembled (top_code ∷ ring_code oldest on_reset ∷ [])
    (local_of ring_five [] None (header_of ring_five (Some 0) child_profile ∷ [])) 1 []

-- the ring where a sample was taken
abbrev oldest_taken : ExprTree
oldest_taken =
    pick (compare Eq (read (Own 5)) (literal (pos 0))) (literal (pos 0)) (item 3 (read (Own 4)))

abbrev pub ring_program : ProgramTree
ring_program = ring_program_of oldest_taken (zeros (4 ∷ 5 ∷ []))

-- it reads the ring in any case
abbrev pub early_ring : ProgramTree
early_ring = ring_program_of (item 3 (read (Own 4))) (zeros (4 ∷ 5 ∷ []))

-- its reset leaves what was taken
abbrev pub lasting_ring : ProgramTree
lasting_ring = ring_program_of oldest_taken (zeros (4 ∷ []))

-- fields of the child whose ring holds a 9, and fields of `root` around them
abbrev pub child_midst : Cells
child_midst =
    more_cells (number (pos 9))
    (more_cells (number (pos 5))
    (more_cells (number (pos 9))
    (more_cells (items (pos 9 ∷ []))
    (more_cells (number (pos 0)) (more_cells (number (pos 1)) (more_cells (number (pos 0)) no_cells))))))

abbrev pub root_midst : Cells
root_midst =
    let top = more_cells (number (pos 9)) (more_cells (object child_midst)
    (more_cells (number (pos 0)) no_cells)) in
    more_cells (number (pos 0)) (more_cells (number (pos 9)) (more_cells (object top) no_cells))

-- the outputs of two ticks after the first start, and after a start from those fields
abbrev FirstOutputs : ProgramTree → List (List ℤ) → Type 0
FirstOutputs p outputs = map (λ row. row.outputs) (c_rows p ([] ∷ [] ∷ [])).ticks ≡ outputs

abbrev LaterOutputs : ProgramTree → List (List ℤ) → Type 0
LaterOutputs p outputs =
    map (λ row. row.outputs)
    (rows_of_start p (call_from_outside p 10 [] [] root_midst) ([] ∷ [] ∷ [])).ticks ≡ outputs

first : FirstOutputs ring_program ((pos 0 ∷ []) ∷ (pos 5 ∷ []) ∷ [])
unfolding digits
first = refl

later : LaterOutputs ring_program ((pos 0 ∷ []) ∷ (pos 5 ∷ []) ∷ [])
unfolding digits
later = refl

early_first : FirstOutputs early_ring ((pos 0 ∷ []) ∷ (pos 5 ∷ []) ∷ [])
unfolding digits
early_first = refl

early_later : LaterOutputs early_ring ((pos 9 ∷ []) ∷ (pos 5 ∷ []) ∷ [])
unfolding digits
early_later = refl

-- ---- The child that gives 0 and then always 5

abbrev with_child : ℕ → ProcedureTree → ProgramTree
with_child k q =
    assembled
    (top_code
    ∷ record {
      structure = child_code.structure;
      outputs = child_code.outputs;
      procedures = replaced child_code.procedures k q;
    } ∷ []) top_local 1 []

-- the field of the delay's value holds one more, which its reader takes off again
abbrev pub shifted_value : ProgramTree
shifted_value =
    with_child 0
    (group_procedure (codes "s0_g0") [] 4
    (assign 0 0 (binary Add (read (Own 3)) (literal (pos 1)))
    ∷ assign 0 2 (binary Sub (read (Own 0)) (literal (pos 1))) ∷ []))

-- it gives the outputs of the run
shifted_outputs : FirstOutputs shifted_value ((pos 0 ∷ []) ∷ (pos 5 ∷ []) ∷ [])
unfolding digits
shifted_outputs = refl

-- the start stores each field twice
abbrev pub long_start : ProgramTree
long_start =
    with_child 3
    (inner_procedure (codes "s0_start") [] (zeros (0 ∷ 1 ∷ 2 ∷ 3 ∷ 4 ∷ [])
    ++ zeros (0 ∷ 1 ∷ 2 ∷ 3 ∷ 4 ∷ [])))

-- after the reset the group counts as executed
abbrev pub counting_reset : ProgramTree
counting_reset =
    with_child 4
    (inner_procedure (codes "s0_reset") [] (zeros (3 ∷ []) ++ assign 0 4 (literal (pos 1)) ∷ []))

-- ---- The root whose two functions share a child

-- the first function stores In1 once more where the second was called
abbrev pub stores_again : ProgramTree
stores_again =
    with_procedure 3
    (inner_procedure (codes "top_out1") (now_param ∷ input_param ∷ [])
    (branch 0 (compare Ne (read (Own 7)) (literal (pos 0)))
    (stmts_of_list (assign 0 0 (read (Param 1)) ∷ [])) no_stmts
    ∷ call 0 0 OnSelf (exprs_of_list (read (Param 0) ∷ read (Param 1) ∷ []))
    ∷ call 0 2 OnSelf no_exprs ∷ []))

-- the second function spoils the first output, and the update mends it
abbrev pub mends_output : ProgramTree
mends_output =
    program_of (record {
      structure = outer_code.structure;
      outputs = outer_code.outputs;
      procedures =
          replaced
          (replaced outer_code.procedures 4
          (inner_procedure (codes "top_out2") (now_param ∷ input_param ∷ second_param ∷ [])
          (call 0 0 OnSelf (exprs_of_list (read (Param 0) ∷ read (Param 1) ∷ []))
          ∷ call 0 1 OnSelf (exprs_of_list (read (Param 2) ∷ [])) ∷ zeros (3 ∷ []))))
          5 (inner_procedure (codes "top_update") (now_param ∷ input_param ∷ second_param ∷ [])
          (assign 0 3 (read (Child 5 0))
          ∷ call 0 9 (OnChild 5) (exprs_of_list (read (Param 0) ∷ read (Own 0) ∷ []))
          ∷ zeros (6 ∷ 7 ∷ 8 ∷ [])));
    })
