-- Codes that differ in one thing from that of a child that passes its input on: its group is
-- after the function that calls it, and calls on `s` go through four procedures.
use Rattle.std.specs.Prelude.{ℕ, true, List, [], ◌∷◌, ◌++◌, drop, codes}
use Rattle.c_syntax.specs.declared.Leaf.TheVariants.{Param, Own}
use Rattle.c_syntax.specs.declared.Target.TheVariants.{Own as OnSelf}
use Rattle.c_syntax.specs.Tree.{read, assign, call, exprs_of_list, stmts_of_list, ProcedureTree}
use Rattle.emit_shape.specs.Heads.{now_param}
use Rattle.emit_shape.specs.SystemTree.{SystemTree}
use Rattle.emit_shape.specs.TinySamples.{input_param, inner_procedure, group_procedure, child_code}

-- the child's code with other procedures before its update, its start and its reset
abbrev with_first : List ProcedureTree → SystemTree
with_first procedures =
    record {
      structure = child_code.structure;
      outputs = child_code.outputs;
      procedures = procedures ++ drop 2 child_code.procedures;
    }

abbrev group : ProcedureTree
group = group_procedure (codes "s2_g0") (input_param ∷ []) 2 (assign 0 0 (read (Param 0))
    ∷ assign 0 1 (read (Own 0)) ∷ [])

-- its function calls the procedure at this position
abbrev function : ℕ → ProcedureTree
function k =
    inner_procedure (codes "s2_out1") (now_param ∷ input_param ∷ [])
    (call 0 k OnSelf (exprs_of_list (read (Param 1) ∷ [])) ∷ [])

-- a private procedure that does nothing but call the one at a position
abbrev passing : (name : List ℕ) → ℕ → ProcedureTree
passing name k =
    record {
      name = name;
      private = true;
      of = 0;
      params = input_param ∷ [];
      body = stmts_of_list (call 0 k OnSelf (exprs_of_list (read (Param 0) ∷ [])) ∷ []);
    }

abbrev pub late_group : SystemTree
late_group = with_first (function 1 ∷ group ∷ [])

abbrev pub long_chain : SystemTree
long_chain =
    with_first (group ∷ passing (codes "s2_g1") 0 ∷ passing (codes "s2_g2") 1 ∷ function 2 ∷ [])
