-- Another numbering of the own fields: code that names each field by its new number does the same
-- to fields that are there.
use Rattle.std.specs.Prelude.{◌≡◌, ◌↔◌, ℕ, ◌<◌, List, [], ◌∷◌, map, ℤ}
use Rattle.c_syntax.specs.declared.code.CType.{CType}
use Rattle.c_syntax.specs.declared.code.Leaf.{Leaf}
use Rattle.c_syntax.specs.declared.code.Leaf.TheVariants.{Param, Own, Child}
use Rattle.c_syntax.specs.declared.code.Target.{Target}
use Rattle.c_syntax.specs.declared.code.Target.TheVariants.{Own as OwnTarget, Child as ChildTarget}
use Rattle.c_syntax.specs.Tree.{ExprTree, ExprTrees, CondTree, StmtTree, assign, assign_at, branch, call, StmtTrees, no_stmts, more_stmts, type_at}
use Rattle.c_semantics.specs.Cells.{Cells, cell_at}
use Rattle.c_semantics.specs.MappedLeaves.{mapped_expr, mapped_exprs, mapped_cond}
use Rattle.c_semantics.specs.Machine.{LoggedCall, StoredField, Outcome, done, stuck, Routine, routine_at, Scope, run_stmts}
use Rattle.c_semantics.specs.CellLaws.{cells_count}
use Rattle.c_semantics.specs.NumberingLaws.{AllCalls}

-- where each own field is
module _ (place : ℕ → ℕ) where
  -- ---- Code

  abbrev pub placed_leaf : Leaf → Leaf
  placed_leaf (Param k) = Param k
  placed_leaf (Own f) = Own (place f)
  placed_leaf (Child f g) = Child (place f) g

  -- an expression, expressions and a condition with the new numbers of the fields
  abbrev pub placed_expr : ExprTree → ExprTree
  placed_expr = mapped_expr placed_leaf place

  abbrev pub placed_exprs : ExprTrees → ExprTrees
  placed_exprs = mapped_exprs placed_leaf place

  abbrev pub placed_cond : CondTree → CondTree
  placed_cond = mapped_cond placed_leaf place

  abbrev pub placed_target : Target → Target
  placed_target OwnTarget = OwnTarget
  placed_target (ChildTarget f) = ChildTarget (place f)

  abbrev mutual
    -- a statement, and statements, with the new numbers
    pub placed_stmt : StmtTree → StmtTree
    placed_stmt (assign line f e) = assign line (place f) (placed_expr e)
    placed_stmt (assign_at line f index e) =
        assign_at line (place f) (placed_expr index) (placed_expr e)
    placed_stmt (branch line test on_true on_false) =
        branch line (placed_cond test) (placed_stmts on_true) (placed_stmts on_false)
    placed_stmt (call line k target es) = call line k (placed_target target) (placed_exprs es)

    pub placed_stmts : StmtTrees → StmtTrees
    placed_stmts no_stmts = no_stmts
    placed_stmts (more_stmts s ss) = more_stmts (placed_stmt s) (placed_stmts ss)

  -- ---- What is done

  -- each own field, with all that is in it, is at its new place
  pub record ArePlaced (cells others : Cells) : Type 0 where
    pub stands : (f : ℕ) → cell_at others (place f) ≡ cell_at cells f
    pub there : (f : ℕ) → (f < cells_count cells) ↔ (place f < cells_count others)

  -- a call inside, and a store here or inside, by the new numbers
  abbrev pub placed_path : List ℕ → List ℕ
  placed_path [] = []
  placed_path (f ∷ path) = place f ∷ path

  abbrev pub placed_call : LoggedCall → LoggedCall
  placed_call c = record { path = placed_path c.path; procedure = c.procedure }

  abbrev pub placed_field : List ℕ → ℕ → ℕ
  placed_field [] field = place field
  placed_field (f ∷ path) field = field

  abbrev pub placed_store : StoredField → StoredField
  placed_store s = record { path = placed_path s.path; field = placed_field s.path s.field }

  -- both are done in the same steps, or stuck alike; fields, calls and stores are those of the one
  -- by the new numbers
  abbrev pub EndPlaced : Outcome → Outcome → Type 0
  EndPlaced (done a) (done b) =
      ArePlaced a.cells b.cells × (a.steps ≡ b.steps) × (map placed_call a.log ≡ b.log)
      × (map placed_store a.stores ≡ b.stores)
  EndPlaced (done a) (stuck at others) = ⊥
  EndPlaced (stuck at cells) (done b) = ⊥
  EndPlaced (stuck at cells) (stuck at_other others) = (at ≡ at_other) × ArePlaced cells others

  -- what is called does the same: on the instance itself to the fields at their new places, and the
  -- same to one inside
  abbrev pub DoesPlaced : Target → Routine → Routine → Type 0
  DoesPlaced OwnTarget r q =
      (r.params ≡ q.params) × ((values : List ℤ) (cells others : Cells) (steps : ℕ) →
      ArePlaced cells others →
      EndPlaced (r.run values cells steps) (q.run values others steps))
  DoesPlaced (ChildTarget f) r q = r ≡ q

-- Code with other numbers of the own fields does the same to fields that are at these numbers,
-- whose types are there too, where no two fields have one number, and what it calls does.
abbrev pub FieldNumbersAreFree : Type 0
FieldNumbersAreFree =
    (place : ℕ → ℕ) → ((f g : ℕ) → place f ≡ place g → f ≡ g) →
    (scope : Scope) (routines : List Routine) (types : List CType) →
    ((f : ℕ) → type_at types (place f) ≡ type_at scope.types f) →
    (stmts : StmtTrees) →
    AllCalls (λ k target. DoesPlaced place target (routine_at scope.routines k)
    (routine_at routines k)) stmts →
    (cells others : Cells) (steps : ℕ) → ArePlaced place cells others →
    EndPlaced place (run_stmts scope stmts cells steps)
    (run_stmts (record {
      functions = scope.functions;
      routines = routines;
      types = types;
      values = scope.values;
    })
    (placed_stmts place stmts) others steps)
