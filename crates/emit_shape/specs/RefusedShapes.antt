-- Codes that differ in one thing from that of a child that passes its input on.
use Rattle.std.specs.Prelude.{ℕ, true, pos, List, [], ◌∷◌, ◌++◌, codes}
use Rattle.base_core.specs.declared.Compare.TheVariants.{Eq}
use Rattle.c_syntax.specs.declared.CType.TheVariants.{U8}
use Rattle.c_syntax.specs.declared.FieldKind.TheVariants.{Number}
use Rattle.c_syntax.specs.declared.Leaf.TheVariants.{Param, Own}
use Rattle.c_syntax.specs.declared.Target.TheVariants.{Own as OnSelf}
use Rattle.c_syntax.specs.Tree.{ExprTree, literal, read, compare, assign, branch, call, no_stmts, exprs_of_list, stmts_of_list, StmtTree, ProcedureTree}
use Rattle.emit_shape.specs.Names.{counter_name}
use Rattle.emit_shape.specs.Heads.{now_param}
use Rattle.emit_shape.specs.Slots.{Slot, counter, slot_field}
use Rattle.emit_shape.specs.SystemTree.{SystemTree}
use Rattle.emit_shape.specs.TinySamples.{x1, y1, inner_slots, input_param, inner_procedure, zeros, child_code}

-- the code by the statements of its function, of its update, and its group
abbrev with_bodies : (group : ProcedureTree) (on_out on_update : List StmtTree) → SystemTree
with_bodies group on_out on_update = record {
  structure = child_code.structure;
  outputs = child_code.outputs;
  procedures =
      group
      ∷ inner_procedure (codes "s2_out1") (now_param ∷ input_param ∷ []) on_out
      ∷ inner_procedure (codes "s2_update") (now_param ∷ input_param ∷ []) on_update
      ∷ inner_procedure (codes "s2_start") [] (zeros (0 ∷ 1 ∷ 2 ∷ []))
      ∷ inner_procedure (codes "s2_reset") [] []
      ∷ [];
}

-- its group by its name, the value that its test compares with 0, and what its output is stored
-- from
abbrev group : (name : List ℕ) (tested stored : ExprTree) → ProcedureTree
group name tested stored = record {
  name = name;
  private = true;
  of = 0;
  params = input_param ∷ [];
  body = stmts_of_list
      (branch 0 (compare Eq tested (literal (pos 0)))
      (stmts_of_list (assign 0 2 (literal (pos 1)) ∷ assign 0 0 (read (Param 0)) ∷ assign 0 1 stored
      ∷ [])) no_stmts ∷ []);
}

abbrev right_group : ProcedureTree
right_group = group (codes "s2_g0") (read (Own 2)) (read (Own 0))

-- a call of the group with the input
abbrev calls_group : List StmtTree
calls_group = call 0 0 OnSelf (exprs_of_list (read (Param 1) ∷ [])) ∷ []

-- ---- The others

-- the struct has a field more
abbrev pub longer_struct : SystemTree
longer_struct = record {
  structure =
      record {
        name = child_code.structure.name;
        fields = child_code.structure.fields
            ++ record { name = codes "x"; kind = Number U8 } ∷ [];
      };
  outputs = child_code.outputs;
  procedures = child_code.procedures;
}

-- the update stores the output once more
abbrev pub stored_by_two : SystemTree
stored_by_two = with_bodies right_group calls_group (assign 0 1 (read (Own 0)) ∷ zeros (2 ∷ []))

-- the output is stored from the parameter, and not from the place of what it reads
abbrev pub reads_parameter : SystemTree
reads_parameter =
    with_bodies (group (codes "s2_g0") (read (Own 2)) (read (Param 0))) calls_group (zeros (2 ∷ []))

-- a test reads a value
abbrev pub tests_value : SystemTree
tests_value =
    with_bodies (group (codes "s2_g0") (read (Own 0)) (read (Own 0))) calls_group (zeros (2 ∷ []))

-- a private procedure is none of a group
abbrev pub named_otherwise : SystemTree
named_otherwise =
    with_bodies (group (codes "s2_h0") (read (Own 2)) (read (Own 0))) calls_group (zeros (2 ∷ []))

-- the group is called with a number
abbrev pub passes_number : SystemTree
passes_number =
    with_bodies right_group (call 0 0 OnSelf (exprs_of_list (literal (pos 5) ∷ [])) ∷ [])
    (zeros (2 ∷ []))

-- the function stores nothing, and the update calls the group
abbrev pub gives_nothing : SystemTree
gives_nothing = with_bodies right_group [] (calls_group ++ zeros (2 ∷ []))

-- a second group that nothing calls
abbrev pub idle_group : SystemTree
idle_group = record {
  structure = child_code.structure;
  outputs = child_code.outputs;
  procedures =
      child_code.procedures ++ group (codes "s2_g1") (read (Own 2)) (read (Own 0)) ∷ [];
}

-- a second counter that no test reads, in the struct and among the slots
abbrev pub idle_counter : SystemTree
idle_counter = record {
  structure =
      record {
        name = child_code.structure.name;
        fields = child_code.structure.fields ++ slot_field (counter (counter_name 1) U8) ∷ [];
      };
  outputs = child_code.outputs;
  procedures = child_code.procedures;
}

abbrev pub idle_slots : List Slot
idle_slots = inner_slots x1 y1 ++ counter (counter_name 1) U8 ∷ []
