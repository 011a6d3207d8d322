-- A system's code at other positions: those of procedures, and those of the outputs of children.
use Rattle.std.specs.Prelude.{ℕ, ◌+◌, ◌-◌, nat_lt, if◌then◌else◌}
use Rattle.c_syntax.specs.declared.Leaf.{Leaf}
use Rattle.c_syntax.specs.declared.Leaf.TheVariants.{Param, Own, Child}
use Rattle.c_syntax.specs.Tree.{ExprTree, ExprTrees, CondTree, StmtTree, assign, assign_at, branch, call, StmtTrees, no_stmts, more_stmts, ProcedureTree}
use Rattle.c_semantics.specs.MappedLeaves.{mapped_expr, mapped_exprs, mapped_cond}

-- Where code goes: its own procedures, which are so many, begin at `first`; the k-th that its
-- children offer goes to `offered k`, and the outputs of the child at a field to others; and its
-- struct goes to `of`.
pub record Relocation : Type 0 where
  pub own : ℕ
  pub first : ℕ
  pub offered : ℕ → ℕ
  pub output : (field output : ℕ) → ℕ
  pub of : ℕ

-- own procedures, which are so many, after all that the children offer, which are so many and
-- are in their order
abbrev pub behind_children : (own children : ℕ) (output : ℕ → ℕ → ℕ) (of : ℕ) → Relocation
behind_children own children output of =
    record { own = own; first = children; offered = λ k. k; output = output; of = of }

module _ (m : Relocation) where
  -- where a procedure goes that the code names by this number
  abbrev pub moved_number : ℕ → ℕ
  moved_number k = if nat_lt k m.own then m.first + k else m.offered (k - m.own)

  abbrev pub moved_leaf : Leaf → Leaf
  moved_leaf (Param k) = Param k
  moved_leaf (Own f) = Own f
  moved_leaf (Child f o) = Child f (m.output f o)

  -- an expression, expressions and a condition with their leaves moved
  abbrev pub moved_expr : ExprTree → ExprTree
  moved_expr = mapped_expr moved_leaf (λ field. field)

  abbrev pub moved_exprs : ExprTrees → ExprTrees
  moved_exprs = mapped_exprs moved_leaf (λ field. field)

  abbrev pub moved_cond : CondTree → CondTree
  moved_cond = mapped_cond moved_leaf (λ field. field)

  abbrev mutual
    -- a statement with its calls and leaves moved
    pub moved_stmt : StmtTree → StmtTree
    moved_stmt (assign line f e) = assign line f (moved_expr e)
    moved_stmt (assign_at line f index e) = assign_at line f (moved_expr index) (moved_expr e)
    moved_stmt (branch line test on_true on_false) =
        branch line (moved_cond test) (moved_stmts on_true) (moved_stmts on_false)
    moved_stmt (call line k target es) = call line (moved_number k) target (moved_exprs es)

    pub moved_stmts : StmtTrees → StmtTrees
    moved_stmts no_stmts = no_stmts
    moved_stmts (more_stmts s ss) = more_stmts (moved_stmt s) (moved_stmts ss)

  -- a procedure at its new place
  abbrev pub moved_procedure : ProcedureTree → ProcedureTree
  moved_procedure q =
      record {
        name = q.name;
        private = q.private;
        of = m.of;
        params = q.params;
        body = moved_stmts q.body;
      }
