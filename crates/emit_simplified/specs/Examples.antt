-- All passes on one system: its helper's body goes where it is called, its test is that of the
-- neighbour, and what a remainder by 1 leaves calls no function any more.
use Rattle.std.specs.Prelude.{◌≡◌, ℕ, true, false, pos, List, [], ◌∷◌, codes, refl}
use Rattle.base_core.specs.declared.base.Compare.TheVariants.{Gt}
use Rattle.c_syntax.specs.declared.code.BinOp.TheVariants.{Mul, Rem}
use Rattle.c_syntax.specs.declared.code.CType.TheVariants.{I32}
use Rattle.c_syntax.specs.declared.code.Leaf.TheVariants.{Param}
use Rattle.c_syntax.specs.declared.code.Target.TheVariants.{Own as OnSelf}
use Rattle.c_syntax.specs.declared.program.FieldKind.TheVariants.{Number}
use Rattle.c_syntax.specs.Tree.{ExprTree, literal, read, binary, pure, compare, StmtTree, assign, branch, call, exprs_of_list, no_stmts, stmts_of_list, PureTree, ProcedureTree, ProgramTree}
use Rattle.emit_simplified.specs.Simplified.{simplified}

abbrev a : ExprTree
a = read (Param 0)

-- `if (a > 0) { s->vF = VALUE; }`
abbrev positive : ℕ → ExprTree → StmtTree
positive f value =
    branch 0 (compare Gt a (literal (pos 0))) (stmts_of_list (assign 0 f value ∷ [])) no_stmts

abbrev procedure : List ℕ → List StmtTree → ProcedureTree
procedure name body = record {
  name = name;
  private = false;
  of = 0;
  params = record { name = codes "a"; type = I32 } ∷ [];
  body = stmts_of_list body;
}

abbrev helper : List ℕ → List StmtTree → ProcedureTree
helper name body = record {
  name = name;
  private = true;
  of = 0;
  params = record { name = codes "a"; type = I32 } ∷ [];
  body = stmts_of_list body;
}

abbrev program : List PureTree → List ProcedureTree → ProgramTree
program pures procedures = record {
  pures = pures;
  structs =
      record {
        name = codes "top";
        fields = record { name = codes "v0"; kind = Number I32 }
            ∷ record { name = codes "v1"; kind = Number I32 } ∷ [];
      } ∷ [];
  procedures = procedures;
}

all_passes : simplified
    (program (record { name = codes "f"; params = codes "v" ∷ []; body = read (Param 0); line = 0 }
    ∷ [])
    (helper (codes "top_g1") (positive 0 (binary Mul a (literal (pos 1))) ∷ [])
    ∷ procedure (codes "top_out1") (call 0 0 OnSelf (exprs_of_list (a ∷ []))
    ∷ positive 1 (binary Rem (pure 0 (exprs_of_list (a ∷ []))) (literal (pos 1))) ∷ []) ∷ []))
    ≡ program [] (procedure (codes "top_out1") (branch 0 (compare Gt a (literal (pos 0)))
    (stmts_of_list (assign 0 0 a ∷ assign 0 1 (literal (pos 0)) ∷ [])) no_stmts ∷ []) ∷ [])
all_passes = refl
