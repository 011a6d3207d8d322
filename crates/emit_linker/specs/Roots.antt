-- The root's two procedures, by how many outputs the root has and by what a step takes.
use Rattle.std.specs.Prelude.{ℕ, ◌+◌, false, List, [], ◌∷◌, ◌++◌, map, length, pos, codes as text}
use Rattle.c_syntax.specs.declared.code.BinOp.TheVariants.{Add, Rem}
use Rattle.c_syntax.specs.declared.code.Leaf.TheVariants as leaf
use Rattle.c_syntax.specs.Tree.{StmtTree, assign, binary, literal, read, stmts_of_list, ParamTree, ProcedureTree}
use Rattle.emit_shape.specs.Assembled.{code_at, call_top, out_names, output_copies}
use Rattle.emit_shape.specs.Names.{root_start_name, root_step_name}
use Rattle.emit_shape.specs.SystemTree.{SystemTree}

-- the store of the next tick, and that of an output
abbrev pub tick_store : ℕ → StmtTree
tick_store hyper =
    assign 0 0 (binary Rem (binary Add (read (leaf.Own 0)) (literal (pos 1))) (literal (pos hyper)))

abbrev pub output_store : ℕ → ℕ × ℕ → StmtTree
output_store count e = assign 0 (e.0 + 1) (read (leaf.Child (count + 1) e.1))

module _ (all : List SystemTree) where
  -- a procedure of the root
  abbrev pub root_procedure : List ℕ → List ParamTree → List StmtTree → ProcedureTree
  root_procedure name params body =
      record {
        name = name;
        private = false;
        of = length all;
        params = params;
        body = stmts_of_list body;
      }

  -- the one that starts the root
  abbrev pub root_start : ℕ → ProcedureTree
  root_start count =
      root_procedure root_start_name []
      (call_top all [] count ((code_at all 0).structure.name ++ text "_start")
      ∷ output_copies all count ++ assign 0 0 (literal (pos 0)) ∷ [])

  -- the one that makes a step
  abbrev pub step_statements : List ParamTree → ℕ → ℕ → List StmtTree
  step_statements params count hyper =
      map (call_top all params count)
      (out_names (code_at all 0) ++ ((code_at all 0).structure.name ++ text "_update") ∷ [])
      ++ output_copies all count ++ tick_store hyper ∷ []

  abbrev pub root_step : List ParamTree → ℕ → ℕ → ProcedureTree
  root_step params count hyper =
      root_procedure root_step_name params (step_statements params count hyper)
