-- The code of a child that passes its input on.
use Rattle.std.specs.Prelude.{ℕ, false, true, pos, List, [], ◌∷◌, ◌++◌, map, codes}
use Rattle.base_core.specs.declared.Compare.TheVariants.{Eq}
use Rattle.modules_profile.specs.LocalSamples.{shared_child, inner_header}
use Rattle.modules_profile.specs.Locals.{local_row, child_use}
use Rattle.modules_profile.specs.declared.LocalRow.{LocalRow}
use Rattle.c_syntax.specs.declared.CType.TheVariants.{I32, U8}
use Rattle.c_syntax.specs.declared.Leaf.TheVariants.{Param, Own, Child}
use Rattle.c_syntax.specs.declared.Target.TheVariants.{Own as OnSelf, Child as OnChild}
use Rattle.c_syntax.specs.declared.BinOp.TheVariants.{Add}
use Rattle.c_syntax.specs.Tree.{literal, read, binary, compare, assign, branch, call, no_stmts, no_exprs, exprs_of_list, stmts_of_list, StmtTree, StmtTrees, ParamTree, ProcedureTree}
use Rattle.emit_shape.specs.Names.{counter_name}
use Rattle.emit_shape.specs.Heads.{now_param}
use Rattle.emit_shape.specs.SystemTree.{SystemTree}
use Rattle.emit_shape.specs.Slots.{Slot, value, counter, instance, slot_field}

-- a field for the value of x1, one for that of y1, and a counter
abbrev pub inner_slots : (x y : LocalRow) → List Slot
inner_slots x y = value x ∷ value y ∷ counter (counter_name 0) U8 ∷ []

abbrev pub input_param : ParamTree
input_param = record { name = codes "u1"; type = I32 }

abbrev pub inner_procedure : List ℕ → List ParamTree → List StmtTree → ProcedureTree
inner_procedure name params body =
    record { name = name; private = false; of = 0; params = params; body = stmts_of_list body }

-- the one group runs both rows where its counter is 0; the one function runs it, and the update
-- brings the counter back
abbrev pub inner_procedures : List ProcedureTree
inner_procedures =
    record {
      name = codes "s2_g0";
      private = true;
      of = 0;
      params = input_param ∷ [];
      body = stmts_of_list
          (branch 0 (compare Eq (read (Own 2)) (literal (pos 0)))
          (stmts_of_list (assign 0 2 (literal (pos 1)) ∷ assign 0 0 (read (Param 0))
          ∷ assign 0 1 (read (Own 0)) ∷ [])) no_stmts ∷ []);
    }
    ∷ inner_procedure (codes "s2_out1") (now_param ∷ input_param ∷ [])
    (call 0 0 OnSelf (exprs_of_list (read (Param 1) ∷ [])) ∷ [])
    ∷ inner_procedure (codes "s2_update") (now_param ∷ input_param ∷ [])
    (assign 0 2 (literal (pos 0)) ∷ [])
    ∷ inner_procedure (codes "s2_start") [] (assign 0 0 (literal (pos 0))
    ∷ assign 0 1 (literal (pos 0)) ∷ assign 0 2 (literal (pos 0)) ∷ [])
    ∷ inner_procedure (codes "s2_reset") [] []
    ∷ []

abbrev pub inner_code : (x y : LocalRow) → SystemTree
inner_code x y = record {
  structure =
      record {
        name = codes "s2";
        fields = slot_field (value x) ∷ slot_field (value y)
            ∷ slot_field (counter (counter_name 0) U8) ∷ [];
      };
  outputs = 1 ∷ [];
  procedures = inner_procedures;
}

-- the rows of the child
abbrev pub x1 : LocalRow
x1 = local_row shared_child [] 3

abbrev pub y1 : LocalRow
y1 = local_row shared_child [] 4

abbrev pub child_code : SystemTree
child_code = inner_code x1 y1

-- The code of the root around it: both functions hold In1 and the call of the child, so these are
-- in a group of their own.

-- In1, In2, the Sum, Out1 and Out2, the child, and three counters
abbrev pub outer_slots : List Slot
outer_slots = map value (map (local_row shared_child []) (0 ∷ 1 ∷ 5 ∷ 6 ∷ 7 ∷ []))
    ++ instance 0 (child_use shared_child inner_header) ∷ map (λ g. counter (counter_name g) U8)
    (0 ∷ 1 ∷ 2 ∷ [])

abbrev pub second_param : ParamTree
second_param = record { name = codes "u2"; type = I32 }

-- where the counter at this field is 0, it becomes 1 and these statements are executed
abbrev pub group_body : ℕ → List StmtTree → StmtTrees
group_body at body =
    stmts_of_list
    (branch 0 (compare Eq (read (Own at)) (literal (pos 0)))
    (stmts_of_list (assign 0 at (literal (pos 1)) ∷ body)) no_stmts ∷ [])

abbrev pub group_procedure : List ℕ → List ParamTree → ℕ → List StmtTree → ProcedureTree
group_procedure name params at body =
    record { name = name; private = true; of = 0; params = params; body = group_body at body }

abbrev pub zeros : List ℕ → List StmtTree
zeros fields = map (λ f. assign 0 f (literal (pos 0))) fields

abbrev pub outer_procedures : List ProcedureTree
outer_procedures =
    group_procedure (codes "top_g0") (now_param ∷ input_param ∷ []) 6 (assign 0 0 (read (Param 1))
    ∷ call 0 8 (OnChild 5) (exprs_of_list (read (Param 0) ∷ read (Own 0) ∷ [])) ∷ [])
    ∷ group_procedure (codes "top_g1") (second_param ∷ []) 7 (assign 0 1 (read (Param 0))
    ∷ assign 0 2 (binary Add (read (Child 5 0)) (read (Own 1))) ∷ assign 0 4 (read (Own 2))
    ∷ [])
    ∷ group_procedure (codes "top_g2") [] 8 (assign 0 3 (read (Child 5 0)) ∷ [])
    ∷ inner_procedure (codes "top_out1") (now_param ∷ input_param ∷ [])
    (call 0 0 OnSelf (exprs_of_list (read (Param 0) ∷ read (Param 1) ∷ []))
    ∷ call 0 2 OnSelf no_exprs ∷ [])
    ∷ inner_procedure (codes "top_out2") (now_param ∷ input_param ∷ second_param ∷ [])
    (call 0 0 OnSelf (exprs_of_list (read (Param 0) ∷ read (Param 1) ∷ []))
    ∷ call 0 1 OnSelf (exprs_of_list (read (Param 2) ∷ [])) ∷ [])
    ∷ inner_procedure (codes "top_update") (now_param ∷ input_param ∷ second_param ∷ [])
    (call 0 9 (OnChild 5) (exprs_of_list (read (Param 0) ∷ read (Own 0) ∷ []))
    ∷ zeros (6 ∷ 7 ∷ 8 ∷ []))
    ∷ inner_procedure (codes "top_start") [] (zeros (0 ∷ 1 ∷ 2 ∷ 3 ∷ 4 ∷ 6 ∷ 7 ∷ 8 ∷ [])
    ++ call 0 10 (OnChild 5) no_exprs ∷ [])
    ∷ inner_procedure (codes "top_reset") [] (call 0 11 (OnChild 5) no_exprs ∷ [])
    ∷ []

abbrev pub outer_code : SystemTree
outer_code = record {
  structure = record { name = codes "top"; fields = map slot_field outer_slots };
  outputs = 3 ∷ 4 ∷ [];
  procedures = outer_procedures;
}
