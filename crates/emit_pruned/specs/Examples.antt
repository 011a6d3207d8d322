-- A program with eight pure functions of which its procedures call two, and one of these a third.
use Rattle.std.specs.Prelude.{◌≡◌, ℕ, pos, false, List, [], ◌∷◌, codes, refl}
use Rattle.c_syntax.specs.declared.CType.TheVariants.{I32}
use Rattle.c_syntax.specs.declared.FieldKind.TheVariants.{Number}
use Rattle.c_syntax.specs.declared.Leaf.TheVariants.{Param}
use Rattle.c_syntax.specs.Tree.{ExprTree, literal, neg, read, pure, more_exprs, no_exprs, assign, more_stmts, no_stmts, PureTree, ProcedureTree, ProgramTree}
use Rattle.emit_pruned.specs.Calls.{called_functions}
use Rattle.emit_pruned.specs.Needed.{needed}
use Rattle.emit_pruned.specs.Pruned.{pruned}

-- `static int64_t NAME(int64_t v) { return BODY; }`
abbrev pub function : List ℕ → ExprTree → PureTree
function name body = record { name = name; params = codes "v" ∷ []; body = body; line = 0 }

-- the call of a function on the first parameter
abbrev pub of_first : ℕ → ExprTree
of_first k = pure k (more_exprs (read (Param 0)) no_exprs)

-- `s->y1 = (int32_t)VALUE;`
abbrev pub step_with : ExprTree → ProcedureTree
step_with value = record {
  name = codes "root_step";
  private = false;
  of = 0;
  params = record { name = codes "u1"; type = I32 } ∷ [];
  body = more_stmts (assign 0 0 value) no_stmts;
}

abbrev pub with_functions : List PureTree → ExprTree → ProgramTree
with_functions pures value = record {
  pures = pures;
  structs =
      record { name = codes "root"; fields = record { name = codes "y1"; kind = Number I32 } ∷ [] }
      ∷ [];
  procedures =
      record { name = codes "root_start"; private = false; of = 0; params = []; body = no_stmts }
      ∷ step_with value ∷ [];
}

-- the step calls h, and h calls b; g, which calls e, is called by none
abbrev pub eight : ProgramTree
eight = with_functions
    (function (codes "a") (read (Param 0)) ∷ function (codes "b") (neg (read (Param 0)))
    ∷ function (codes "c") (literal (pos 1))
    ∷ function (codes "d") (literal (pos 2)) ∷ function (codes "e") (literal (pos 3))
    ∷ function (codes "f") (literal (pos 4))
    ∷ function (codes "g") (of_first 4) ∷ function (codes "h") (of_first 1) ∷ [])
    (neg (pure 7 (more_exprs (of_first 3) no_exprs)))

pub eight-needed : needed eight ≡ 7 ∷ 3 ∷ 1 ∷ []
eight-needed = refl

pub eight-pruned : pruned eight ≡ with_functions
    (function (codes "b") (neg (read (Param 0))) ∷ function (codes "d") (literal (pos 2))
    ∷ function (codes "h") (of_first 0) ∷ [])
    (neg (pure 2 (more_exprs (of_first 1) no_exprs)))
eight-pruned = refl

pub pruned-called : called_functions (pruned eight) ≡ 2 ∷ 1 ∷ 0 ∷ []
pruned-called = refl
