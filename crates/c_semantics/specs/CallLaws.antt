-- What calls do: how arguments are passed, a call on the same instance, and a call on the instance
-- in a field.
use Rattle.std.specs.Prelude.{◌≡◌, ◌≢◌, ℕ, ◌+◌, ◌<◌, ◌≤◌, true, false, List, [], ◌∷◌, ◌++◌, map, ℤ}
use Rattle.c_syntax.specs.declared.code.CType.{CType}
use Rattle.c_syntax.specs.declared.code.Target.TheVariants.{Own, Child}
use Rattle.c_syntax.specs.declared.fault.Stuck.{Stuck}
use Rattle.c_syntax.specs.declared.fault.Why.TheVariants.{Range, Steps}
use Rattle.c_syntax.specs.Tree.{ExprTree, ExprTrees, no_exprs, more_exprs, call, ProcedureTree}
use Rattle.c_semantics.specs.Cells.{Cells, object, cell_at, set_cell, fields_at}
use Rattle.c_semantics.specs.Values.{Answer, gives, sticks, eval, Function, Reads, reads, is_in_type, stuck_at, step_limit}
use Rattle.c_semantics.specs.Machine.{After, Outcome, done, stuck, behind, in_child, call_under, store_under, call_entry, arguments, Routine, routine_at, Scope, run_stmt, run_stmts}

-- ---- Arguments

-- Arguments are passed one by one: each is evaluated and has to be a number of its parameter's type
-- before the next is looked at.
pub record PassesInOrder (functions : List Function) (leaf : Reads) (line steps : ℕ) : Type 0 where
  pub none : (types : List CType) →
      arguments functions leaf line types no_exprs steps ≡ gives [] steps
  pub passed : (type : CType) (types : List CType) (e : ExprTree) (es : ExprTrees) (v : ℤ)
      (vs : List ℤ) (mid end : ℕ) →
      eval functions leaf line e steps ≡ gives v mid → is_in_type type v ≡ true →
      arguments functions leaf line types es mid ≡ gives vs end →
      arguments functions leaf line (type ∷ types) (more_exprs e es) steps ≡ gives (v ∷ vs) end
  pub out_of_type : (type : CType) (types : List CType) (e : ExprTree) (es : ExprTrees) (v : ℤ)
      (mid : ℕ) →
      eval functions leaf line e steps ≡ gives v mid → is_in_type type v ≡ false →
      arguments functions leaf line (type ∷ types) (more_exprs e es) steps
      ≡ sticks (stuck_at line Range)
  pub value_sticks : (type : CType) (types : List CType) (e : ExprTree) (es : ExprTrees)
      (at : Stuck) →
      eval functions leaf line e steps ≡ sticks at →
      arguments functions leaf line (type ∷ types) (more_exprs e es) steps ≡ sticks at
  pub later_sticks : (type : CType) (types : List CType) (e : ExprTree) (es : ExprTrees) (v : ℤ)
      (mid : ℕ) (at : Stuck) →
      eval functions leaf line e steps ≡ gives v mid → is_in_type type v ≡ true →
      arguments functions leaf line types es mid ≡ sticks at →
      arguments functions leaf line (type ∷ types) (more_exprs e es) steps ≡ sticks at

abbrev pub ArgumentsArePassed : Type 0
ArgumentsArePassed = (functions : List Function) (leaf : Reads) (line steps : ℕ) →
    PassesInOrder functions leaf line steps

-- what the arguments of a call come to after the step of its statement, on these fields
abbrev pub passed_in : Scope → Cells → (line steps procedure : ℕ) → ExprTrees → Answer (List ℤ)
passed_in scope cells line steps procedure es =
    arguments scope.functions (reads scope.values cells) line
    (routine_at scope.routines procedure).params es steps

-- ---- What is called

-- what a procedure's body sees: these functions, routines and types of its struct's fields, and its
-- arguments
abbrev pub body_scope : List Function → List Routine → List CType → List ℤ → Scope
body_scope functions earlier types values =
    record { functions = functions; routines = earlier; types = types; values = values }

-- The routine is that of a procedure with this number, whose body sees these functions, routines
-- and types: it does what the body does, and where it is one that a system offers, its call is
-- logged before those in it.
pub record IsRoutineOf (functions : List Function) (earlier : List Routine) (types : List CType)
    (number : ℕ) (p : ProcedureTree)
    (r : Routine) : Type 0 where
  pub params : r.params ≡ map (λ q. q.type) p.params
  pub run : (values : List ℤ) (cells : Cells) (steps : ℕ) → r.run values cells steps
      ≡ behind (call_entry number p.name) []
      (run_stmts (body_scope functions earlier types values) p.body cells steps)

-- ---- Calls on the same instance

-- A call takes a step and evaluates the arguments. On the same instance it then does what the
-- routine does with these fields, and so what the procedure's body does, with the call's own entry
-- before the log. It is stuck, and changes nothing, where no step is left, and where an argument
-- is.
pub record CallsItself (scope : Scope) (line procedure : ℕ) (es : ExprTrees) (cells : Cells)
    (steps : ℕ) : Type 0 where
  pub does : (values : List ℤ) (end : ℕ) → steps < step_limit →
      passed_in scope cells line (steps + 1) procedure es ≡ gives values end →
      run_stmt scope (call line procedure Own es) cells steps
      ≡ (routine_at scope.routines procedure).run values cells end
  pub body_ends : (functions : List Function) (earlier : List Routine) (types : List CType)
      (number : ℕ) (p : ProcedureTree)
      (values : List ℤ) (end : ℕ) (a : After) →
      IsRoutineOf functions earlier types number p (routine_at scope.routines procedure) →
      steps < step_limit →
      passed_in scope cells line (steps + 1) procedure es ≡ gives values end →
      run_stmts (body_scope functions earlier types values) p.body cells end ≡ done a →
      run_stmt scope (call line procedure Own es) cells steps
      ≡ done (record {
        cells = a.cells;
        steps = a.steps;
        log = call_entry number p.name ++ a.log;
        stores = a.stores;
      })
  pub body_sticks : (functions : List Function) (earlier : List Routine) (types : List CType)
      (number : ℕ) (p : ProcedureTree)
      (values : List ℤ) (end : ℕ) (at : Stuck) (left : Cells) →
      IsRoutineOf functions earlier types number p (routine_at scope.routines procedure) →
      steps < step_limit →
      passed_in scope cells line (steps + 1) procedure es ≡ gives values end →
      run_stmts (body_scope functions earlier types values) p.body cells end ≡ stuck at left →
      run_stmt scope (call line procedure Own es) cells steps ≡ stuck at left
  pub argument_sticks : (at : Stuck) → steps < step_limit →
      passed_in scope cells line (steps + 1) procedure es ≡ sticks at →
      run_stmt scope (call line procedure Own es) cells steps ≡ stuck at cells
  pub no_step_left : step_limit ≤ steps →
      run_stmt scope (call line procedure Own es) cells steps ≡ stuck (stuck_at line Steps) cells

abbrev pub OwnCallsRunBodies : Type 0
OwnCallsRunBodies =
    (scope : Scope) (line procedure : ℕ) (es : ExprTrees) (cells : Cells) (steps : ℕ) →
    CallsItself scope line procedure es cells steps

-- ---- Calls on the instance in a field

-- the fields that an execution left, also where it is stuck
abbrev pub cells_left : Outcome → Cells
cells_left (done a) = a.cells
cells_left (stuck at cells) = cells

-- A call on the instance in a field, after its step and its arguments, does to that instance what
-- the routine does with its fields: what it leaves is in the field, and the calls and stores in
-- it are seen from the own instance under that field. No other field is changed, whatever the call
-- comes to.
pub record CallsChild (scope : Scope) (line procedure field : ℕ) (es : ExprTrees) (cells : Cells)
    (steps : ℕ) : Type 0 where
  pub does : (values : List ℤ) (end : ℕ) → steps < step_limit →
      passed_in scope cells line (steps + 1) procedure es ≡ gives values end →
      run_stmt scope (call line procedure (Child field) es) cells steps
      ≡ in_child field cells
      ((routine_at scope.routines procedure).run values (fields_at cells field) end)
  pub ends : (values : List ℤ) (end : ℕ) (a : After) → steps < step_limit →
      passed_in scope cells line (steps + 1) procedure es ≡ gives values end →
      (routine_at scope.routines procedure).run values (fields_at cells field) end ≡ done a →
      run_stmt scope (call line procedure (Child field) es) cells steps
      ≡ done (record {
        cells = set_cell cells field (object a.cells);
        steps = a.steps;
        log = map (call_under field) a.log;
        stores = map (store_under field) a.stores;
      })
  pub routine_sticks : (values : List ℤ) (end : ℕ) (at : Stuck) (inner : Cells) →
      steps < step_limit →
      passed_in scope cells line (steps + 1) procedure es ≡ gives values end →
      (routine_at scope.routines procedure).run values (fields_at cells field) end
      ≡ stuck at inner →
      run_stmt scope (call line procedure (Child field) es) cells steps
      ≡ stuck at (set_cell cells field (object inner))
  pub argument_sticks : (at : Stuck) → steps < step_limit →
      passed_in scope cells line (steps + 1) procedure es ≡ sticks at →
      run_stmt scope (call line procedure (Child field) es) cells steps ≡ stuck at cells
  pub no_step_left : step_limit ≤ steps →
      run_stmt scope (call line procedure (Child field) es) cells steps
      ≡ stuck (stuck_at line Steps) cells
  pub others : (f : ℕ) → field ≢ f →
      cell_at (cells_left (run_stmt scope (call line procedure (Child field) es) cells steps)) f
      ≡ cell_at cells f

abbrev pub ChildCallsStayInside : Type 0
ChildCallsStayInside =
    (scope : Scope) (line procedure field : ℕ) (es : ExprTrees) (cells : Cells) (steps : ℕ) →
    CallsChild scope line procedure field es cells steps
