-- Code that is moved does the same where what it names does.
use Rattle.std.specs.Prelude.{◌≡◌, ℕ, List, Contains, map}
use Rattle.c_syntax.specs.declared.Leaf.TheVariants.{Child}
use Rattle.c_syntax.specs.Tree.{StmtTrees}
use Rattle.c_semantics.specs.Cells.{Cells}
use Rattle.c_semantics.specs.Machine.{Scope, Routine, routine_at, run_stmts}
use Rattle.emit_shape.specs.Reads.{calls_in, stmts_leaves}
use Rattle.emit_shape.specs.Relocation.{Relocation, moved_number, moved_stmts}

-- the procedures and outputs that statements name are the same in both places
pub record NameAlike (stmts : StmtTrees) (m n : Relocation) (a b : List Routine) : Type 0 where
  pub procedures : (k : ℕ) → Contains (map (λ c. c.procedure) (calls_in stmts)) k →
      routine_at a (moved_number m k) ≡ routine_at b (moved_number n k)
  pub outputs : (f o : ℕ) → Contains (stmts_leaves stmts) (Child f o) → m.output f o ≡ n.output f o

-- so the statements do the same
abbrev pub MovedCodeAgrees : Type 0
MovedCodeAgrees =
    (stmts : StmtTrees) (m n : Relocation) (scope : Scope) (routines : List Routine) (cells : Cells)
    (steps : ℕ) → NameAlike stmts m n scope.routines routines →
    run_stmts scope (moved_stmts m stmts) cells steps
    ≡ run_stmts (record {
      functions = scope.functions;
      routines = routines;
      types = scope.types;
      values = scope.values;
    }) (moved_stmts n stmts) cells steps
