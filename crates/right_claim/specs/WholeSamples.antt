-- A model whose child gives 0 and then always 5, and a program that is right code for it in every
-- part.
use Rattle.std.specs.Prelude.{ℕ, false, List, [], ◌∷◌, ◌++◌, map, replicate, pos, codes, Some, None, ℤ}
use Rattle.std.proofs.Common.{lit≤}
use Rattle.base_core.specs.declared.Control.TheVariants.{Plain}
use Rattle.diagram_activity.specs.declared.TrigMem.{TrigMem}
use Rattle.diagram_activity.specs.declared.TrigMem.TheVariants.{NotYet}
use Rattle.diagram_blocks.specs.declared.Kind.TheVariants.{Outport, SubSystem, Constant, UnitDelay}
use Rattle.diagram_meaning.specs.Diagram.{Diagram}
use Rattle.diagram_meaning.specs.Laws.{Run}
use Rattle.diagram_meaning.specs.RunExamples.{whole_decimal, simple, row, zero_initial}
use Rattle.modules_profile.specs.SystemHeader.{SystemHeader}
use Rattle.modules_profile.specs.SystemProfile.{SystemProfile}
use Rattle.modules_profile.specs.LocalSystem.{LocalSystem}
use Rattle.modules_profile.specs.Headers.{header_of}
use Rattle.modules_profile.specs.Locals.{local_of, local_row, child_use}
use Rattle.modules_profile.specs.declared.LocalRow.{LocalRow}
use Rattle.c_syntax.specs.declared.CType.TheVariants.{U8}
use Rattle.c_syntax.specs.declared.Leaf.TheVariants.{Param, Own, Child}
use Rattle.c_syntax.specs.declared.Target.TheVariants.{Own as OnSelf, Child as OnChild}
use Rattle.c_syntax.specs.Tree.{literal, read, assign, call, no_exprs, exprs_of_list, ProgramTree}
use Rattle.emit_shape.specs.Names.{counter_name}
use Rattle.emit_shape.specs.Heads.{now_param}
use Rattle.emit_shape.specs.SystemTree.{SystemTree}
use Rattle.emit_shape.specs.Slots.{Slot, value, memory, counter, instance, slot_field}
use Rattle.emit_shape.specs.Assembled.{assembled}
use Rattle.emit_shape.specs.TinySamples.{inner_procedure, group_procedure, zeros}

-- C, in which a Constant 5 goes through a Unit Delay to y1, and Out1, which is C's output
abbrev pub later_five : Diagram
later_five =
    simple (row None (SubSystem Plain) [] ∷ row (Some 0) (UnitDelay zero_initial) (2 ∷ [])
    ∷ row (Some 0) (Constant (whole_decimal 5 (lit≤ tt))) []
    ∷ row (Some 0) (Outport 1 false zero_initial) (1 ∷ []) ∷ row None (Outport 1 false zero_initial)
    (3 ∷ []) ∷ [])

-- both systems have one function, which takes nothing
abbrev pub child_profile : SystemProfile
child_profile = record { row = Some 0; functions = record { inputs = 0; outputs = 1 } ∷ [] }

abbrev pub top_profile : SystemProfile
top_profile = record { row = None; functions = record { inputs = 0; outputs = 1 } ∷ [] }

abbrev pub child_header : SystemHeader
child_header = header_of later_five (Some 0) child_profile

abbrev pub top_local : LocalSystem
top_local = local_of later_five [] None (child_header ∷ [])

-- ---- The child's code

abbrev at_row : ℕ → LocalRow
at_row b = local_row later_five [] b

-- the values of the delay, the Constant and y1, the delay's memory, and a counter
abbrev pub child_slots : List Slot
child_slots =
    map value (map at_row (1 ∷ 2 ∷ 3 ∷ [])) ++ memory (at_row 1) ∷ counter (counter_name 0) U8 ∷ []

-- its function runs the delay and y1; the update runs the Constant, and then its memory takes that
abbrev pub child_code : SystemTree
child_code = record {
  structure = record { name = codes "s0"; fields = map slot_field child_slots };
  outputs = 2 ∷ [];
  procedures =
      group_procedure (codes "s0_g0") [] 4 (assign 0 0 (read (Own 3)) ∷ assign 0 2 (read (Own 0))
      ∷ [])
      ∷ inner_procedure (codes "s0_out1") (now_param ∷ []) (call 0 0 OnSelf no_exprs ∷ [])
      ∷ inner_procedure (codes "s0_update") (now_param ∷ []) (assign 0 1 (literal (pos 5))
      ∷ assign 0 3 (read (Own 1)) ∷ zeros (4 ∷ []))
      ∷ inner_procedure (codes "s0_start") [] (zeros (0 ∷ 1 ∷ 2 ∷ 3 ∷ 4 ∷ []))
      ∷ inner_procedure (codes "s0_reset") [] (zeros (3 ∷ []))
      ∷ [];
}

-- ---- The root's code

-- the value of Out1, the child, and a counter
abbrev pub top_slots : List Slot
top_slots = value (at_row 4) ∷ instance 0 (child_use later_five child_header)
    ∷ counter (counter_name 0) U8 ∷ []

abbrev pub top_code : SystemTree
top_code = record {
  structure = record { name = codes "top"; fields = map slot_field top_slots };
  outputs = 0 ∷ [];
  procedures =
      group_procedure (codes "top_g0") (now_param ∷ []) 2
      (call 0 5 (OnChild 1) (exprs_of_list (read (Param 0) ∷ []))
      ∷ assign 0 0 (read (Child 1 0)) ∷ [])
      ∷ inner_procedure (codes "top_out1") (now_param ∷ [])
      (call 0 0 OnSelf (exprs_of_list (read (Param 0) ∷ [])) ∷ [])
      ∷ inner_procedure (codes "top_update") (now_param ∷ [])
      (call 0 6 (OnChild 1) (exprs_of_list (read (Param 0) ∷ [])) ∷ zeros (2 ∷ []))
      ∷ inner_procedure (codes "top_start") [] (zeros (0 ∷ 2 ∷ []) ++ call 0 7 (OnChild 1) no_exprs
      ∷ [])
      ∷ inner_procedure (codes "top_reset") [] (call 0 8 (OnChild 1) no_exprs ∷ [])
      ∷ [];
}

abbrev pub whole_program : ProgramTree
whole_program = assembled (top_code ∷ child_code ∷ []) top_local 1 []

-- ---- Its run: 0 in the first tick, and then 5

abbrev pub first_values : List ℤ
first_values = pos 0 ∷ pos 0 ∷ pos 5 ∷ pos 0 ∷ pos 0 ∷ []

abbrev pub later_values : List ℤ
later_values = pos 0 ∷ pos 5 ∷ pos 5 ∷ pos 5 ∷ pos 5 ∷ []

-- in a run of the child alone Out1 has no value
abbrev pub child_values : List ℤ
child_values = pos 0 ∷ pos 5 ∷ pos 5 ∷ pos 5 ∷ pos 0 ∷ []

abbrev pub remembered : ℤ → List (List ℤ)
remembered v = [] ∷ (v ∷ []) ∷ [] ∷ [] ∷ [] ∷ []

abbrev pub no_triggers : List TrigMem
no_triggers = replicate 5 NotYet

-- the run of a system over a trace of as many ticks, where these are its later values
abbrev pub values_over : (later : List ℤ) → List (List ℤ) → List (List ℤ)
values_over later [] = []
values_over later (x ∷ xs) = first_values ∷ map (λ y. later) xs

abbrev pub run_over : (later : List ℤ) → List (List ℤ) → Run
run_over later xs =
    record {
      values = values_over later xs;
      memories = remembered (pos 0)
          ∷ map (λ y. remembered (pos 5)) xs;
      triggers = no_triggers ∷ map (λ y. no_triggers) xs;
    }
