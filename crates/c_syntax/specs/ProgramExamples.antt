-- The program of a model with one input and one output, and a division by zero.
use Rattle.std.specs.Prelude.{ℕ, pos, false, List, [], ◌∷◌, codes}
use Rattle.c_syntax.specs.declared.code.BinOp.TheVariants.{Add, Div, Rem}
use Rattle.c_syntax.specs.declared.code.CType.TheVariants.{I32}
use Rattle.c_syntax.specs.declared.code.Leaf.TheVariants.{Param, Own, Child}
use Rattle.c_syntax.specs.declared.code.Target.TheVariants.{Child as ChildTarget}
use Rattle.c_syntax.specs.declared.program.FieldKind.TheVariants.{Number, Struct}
use Rattle.c_syntax.specs.Tree.{literal, read, binary, no_exprs, assign, call, stmts_of_list, exprs_of_list, FieldTree, ParamTree, ProgramTree}

abbrev pub field : List ℕ → FieldTree
field n = record { name = n; kind = Number I32 }

abbrev pub param : List ℕ → ParamTree
param n = record { name = n; type = I32 }

-- `#include <stdint.h>`
-- `struct top { int32_t v0; int32_t v1; };`
-- `struct root { int32_t now; int32_t y1; struct top top; };`
-- ..
abbrev pub one_program : ProgramTree
one_program = record {
  pures = [];
  structs =
      record { name = codes "top"; fields = field (codes "v0") ∷ field (codes "v1") ∷ [] }
      ∷ record {
        name = codes "root";
        fields = field (codes "now") ∷ field (codes "y1")
            ∷ record { name = codes "top"; kind = Struct 0 } ∷ [];
      }
      ∷ [];
  procedures =
      record {
        name = codes "top_start";
        private = false;
        of = 0;
        params = [];
        body = stmts_of_list (assign 5 0 (literal (pos 0)) ∷ assign 6 1 (literal (pos 0)) ∷ []);
      }
      ∷ record {
        name = codes "top_reset";
        private = false;
        of = 0;
        params = [];
        body = stmts_of_list [];
      }
      ∷ record {
        name = codes "top_out1";
        private = false;
        of = 0;
        params = param (codes "now")
            ∷ param (codes "u1") ∷ [];
        body =
            stmts_of_list (assign 11 0 (read (Param 1)) ∷ assign 12 1 (read (Own 0)) ∷ []);
      }
      ∷ record {
        name = codes "top_update";
        private = false;
        of = 0;
        params = param (codes "now")
            ∷ param (codes "u1") ∷ [];
        body = stmts_of_list [];
      }
      ∷ record {
        name = codes "root_start";
        private = false;
        of = 1;
        params = [];
        body = stmts_of_list (assign 17 0 (literal (pos 0)) ∷ assign 18 1 (literal (pos 0))
            ∷ call 19 0 (ChildTarget 2) no_exprs ∷ []);
      }
      ∷ record {
        name = codes "root_step";
        private = false;
        of = 1;
        params = param (codes "u1")
            ∷ [];
        body =
            stmts_of_list
            (call 22 2 (ChildTarget 2) (exprs_of_list (read (Own 0) ∷ read (Param 0) ∷ []))
            ∷ call 23 3 (ChildTarget 2) (exprs_of_list (read (Own 0) ∷ read (Param 0) ∷ []))
            ∷ assign 24 1 (read (Child 2 1))
            ∷ assign 25 0
            (binary Rem (binary Add (read (Own 0)) (literal (pos 1))) (literal (pos 1)))
            ∷ []);
      }
      ∷ [];
}

-- a division by zero is stuck at its line
abbrev pub zero_program : ProgramTree
zero_program = record {
  pures = [];
  structs = record { name = codes "root"; fields = field (codes "y1") ∷ [] } ∷ [];
  procedures =
      record {
        name = codes "root_start";
        private = false;
        of = 0;
        params = [];
        body = stmts_of_list [];
      }
      ∷ record {
        name = codes "root_step";
        private = false;
        of = 0;
        params = param (codes "u1")
            ∷ [];
        body =
            stmts_of_list (assign 5 0 (binary Div (literal (pos 1)) (literal (pos 0))) ∷ []);
      }
      ∷ [];
}
