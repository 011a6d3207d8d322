-- The least root: one field, and procedures that store 0 in it.
use Rattle.std.specs.Prelude.{ℕ, List, [], ◌∷◌, codes, pos, false}
use Rattle.c_syntax.specs.declared.code.CType.TheVariants.{I32}
use Rattle.c_syntax.specs.declared.program.FieldKind.TheVariants.{Number}
use Rattle.c_syntax.specs.Tree.{literal, assign, no_stmts, more_stmts, StructTree, ProcedureTree}

-- struct root { int32_t now; };
abbrev pub root_struct : StructTree
root_struct =
    record { name = codes "root"; fields = record { name = codes "now"; kind = Number I32 } ∷ [] }

-- s->now = 0, in a procedure of the root without parameters
abbrev pub root_procedure : List ℕ → ProcedureTree
root_procedure name =
    record {
      name = name;
      private = false;
      of = 0;
      params = [];
      body = more_stmts (assign 0 0 (literal (pos 0))) no_stmts;
    }
