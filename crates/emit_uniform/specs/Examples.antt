-- Programs of two accumulators that are the same, one behind the other.
use Rattle.std.specs.Prelude.{refl, ℕ, ◌+◌, true, false, pos, List, [], ◌∷◌, ◌++◌, slice_index_or, codes}
use Rattle.std.specs.Fmt.{digits}
use Rattle.std.proofs.Common.{ap, true≢false, ◌==◌}
use Rattle.base_core.specs.declared.base.Compare.TheVariants.{Gt}
use Rattle.c_syntax.specs.declared.code.CType.TheVariants.{I32}
use Rattle.c_syntax.specs.declared.code.BinOp.TheVariants.{Add, Mul}
use Rattle.c_syntax.specs.declared.code.Leaf.TheVariants.{Param, Own, Child}
use Rattle.c_syntax.specs.declared.code.Target.TheVariants.{Own as OnSelf, Child as OnChild}
use Rattle.c_syntax.specs.declared.program.FieldKind.TheVariants.{Number, Struct}
use Rattle.c_syntax.specs.Tree.{ExprTree, literal, read, binary, compare, StmtTree, assign, branch, call, StmtTrees, no_stmts, more_stmts, stmts_of_list, exprs_of_list, FieldTree, StructTree, ParamTree, ProcedureTree, ProgramTree}
use Rattle.emit_shape.specs.Names.{value_name, memory_name, child_name}
use Rattle.emit_shape.specs.Programs.{no_procedure}
use Rattle.diagram_same.specs.Examples.{chain}
use Rattle.emit_uniform.specs.Uniform.{AreTurned, turn_of}

-- ---- Parts

abbrev number : List ℕ → FieldTree
number name = record { name = name; kind = Number I32 }

abbrev instance : ℕ → (struct : ℕ) → FieldTree
instance e k = record { name = child_name e; kind = Struct k }

abbrev input_param : ParamTree
input_param = record { name = codes "u1"; type = I32 }

abbrev tick_and_input : List ParamTree
tick_and_input = record { name = codes "now"; type = I32 } ∷ input_param ∷ []

abbrev procedure : List ℕ → ℕ → List ParamTree → List StmtTree → ProcedureTree
procedure name of params body =
    record { name = name; private = false; of = of; params = params; body = stmts_of_list body }

abbrev helper : List ℕ → ℕ → List StmtTree → ProcedureTree
helper name of body = record {
  name = name;
  private = true;
  of = of;
  params = tick_and_input;
  body = stmts_of_list body;
}

-- `if (u1 > 0) { s->fF = VALUE; }`
abbrev positive : ℕ → ExprTree → StmtTree
positive f value =
    branch 0 (compare Gt (read (Param 1)) (literal (pos 0)))
    (stmts_of_list (assign 0 f value ∷ [])) no_stmts

-- an accumulator in subsystem e
abbrev accumulator_struct : ℕ → StructTree
accumulator_struct e =
    record {
      name = child_name e;
      fields = number (value_name (e + 1)) ∷ number (value_name (e + 2))
          ∷ number (value_name (e + 3)) ∷ number (value_name (e + 4))
          ∷ number (memory_name (e + 3)) ∷ [];
    }

-- its procedures, from this position on; the update stores this field
abbrev accumulator_procedures : (e of first stored : ℕ) → List ProcedureTree
accumulator_procedures e of first stored =
    helper (child_name e ++ codes "_g1") of
    (positive 1 (binary Mul (binary Add (read (Own 0)) (read (Own 2))) (literal (pos 1)))
    ∷ positive 3 (read (Own 1)) ∷ [])
    ∷ procedure (child_name e ++ codes "_out1") of tick_and_input
    (assign 0 0 (read (Param 1)) ∷ assign 0 2 (read (Own 4))
    ∷ call 0 first OnSelf (exprs_of_list (read (Param 0) ∷ read (Param 1) ∷ [])) ∷ [])
    ∷ procedure (child_name e ++ codes "_update") of tick_and_input
    (assign 0 4 (read (Own stored)) ∷ []) ∷ []

-- a call of a procedure on the child at a field with the tick and a value
abbrev on_child : (procedure field : ℕ) → ExprTree → StmtTree
on_child k f value =
    call 0 k (OnChild f) (exprs_of_list (read (Param 0) ∷ value ∷ []))

-- ---- Programs

-- In1, A in row 1, B in row 6, Out1; the update of B stores this field
abbrev pub two : (stored : ℕ) → ProgramTree
two stored = record {
  pures = [];
  structs =
      accumulator_struct 6 ∷ accumulator_struct 1
      ∷ record {
        name = codes "top";
        fields = number (value_name 0) ∷ number (value_name 11) ∷ instance 1 1 ∷ instance 6 0 ∷ [];
      }
      ∷ record {
        name = codes "root";
        fields = number (codes "now") ∷ number (codes "y1")
            ∷ record { name = codes "top"; kind = Struct 2 } ∷ [];
      } ∷ [];
  procedures =
      accumulator_procedures 6 0 0 stored ++ accumulator_procedures 1 1 3 1
      ++ procedure (codes "top_out1") 2 tick_and_input
      (assign 0 0 (read (Param 1)) ∷ on_child 4 2 (read (Own 0)) ∷ on_child 1 3 (read (Child 2 3))
      ∷ assign 0 1 (read (Child 3 3)) ∷ [])
      ∷ procedure (codes "top_update") 2 tick_and_input
      (on_child 5 2 (read (Own 0)) ∷ on_child 2 3 (read (Child 2 3)) ∷ [])
      ∷ procedure (codes "root_start") 3 [] (assign 0 0 (literal (pos 0)) ∷ [])
      ∷ procedure (codes "root_step") 3 (input_param ∷ [])
      (call 0 6 (OnChild 2) (exprs_of_list (read (Own 0) ∷ read (Param 0) ∷ []))
      ∷ call 0 7 (OnChild 2) (exprs_of_list (read (Own 0) ∷ read (Param 0) ∷ []))
      ∷ assign 0 1 (read (Child 2 1)) ∷ assign 0 0 (literal (pos 0)) ∷ []) ∷ [];
}

-- both store the sum, and have the same code but for the names of rows
turned : AreTurned (two 1) (turn_of chain.rows 1 6) 1 6
unfolding digits
turned = record { struct = refl; procedures = refl }

turned_back : AreTurned (two 1) (turn_of chain.rows 6 1) 6 1
unfolding digits
turned_back = record { struct = refl; procedures = refl }

-- ---- What isn't so

-- the own field that the first statement stores in another
abbrev stored_first : StmtTrees → ℕ
stored_first (more_stmts (assign line f (read (Own k))) rest) = k
stored_first _ = 0

-- what the update stores among a system's procedures
abbrev stored_by : List ProcedureTree → ℕ
stored_by qs = stored_first (slice_index_or qs 2 no_procedure).body

-- if B stores its input, its update isn't that of A
other : AreTurned (two 0) (turn_of chain.rows 1 6) 1 6 → ⊥
unfolding digits
other h = true≢false (ap (λ qs. stored_by qs == 0) h.procedures)
