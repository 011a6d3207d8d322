-- What statements and calls do to the tree of fields.
use Rattle.std.specs.Prelude.{ℕ, ◌+◌, ℤ, Bool, true, ◌&&◌, nat_lt, nat_eq, if◌then◌else◌, List, [], ◌∷◌, ◌++◌, length, map, drop, reverse, slice_index_or, codes}
use Rattle.std.specs.List.{starts_with, prefix_len}
use Rattle.std.specs.Char.{is_ascii_digit}
use Rattle.c_syntax.specs.declared.code.CType.{CType}
use Rattle.c_syntax.specs.declared.code.Target.{Target}
use Rattle.c_syntax.specs.declared.code.Target.TheVariants.{Own, Child}
use Rattle.c_syntax.specs.declared.fault.Cost.{Cost}
use Rattle.c_syntax.specs.declared.fault.Stuck.{Stuck}
use Rattle.c_syntax.specs.declared.fault.Why.TheVariants.{Range, Steps}
use Rattle.c_syntax.specs.Tree.{ExprTrees, no_exprs, more_exprs, StmtTree, assign, assign_at, branch, call, StmtTrees, no_stmts, more_stmts, StructTree, struct_fields, field_types, type_at, ProcedureTree, ProgramTree}
use Rattle.c_syntax.specs.Names.{ends_with}
use Rattle.c_semantics.specs.Cells.{Cells, object, number, items, set_cell, set_item, fields_at, items_at}
use Rattle.c_semantics.specs.Values.{Answer, gives, sticks, and_then, within, is_in_type, stuck_at, step_limit, Function, functions_of, eval, eval_cond, Reads, reads, index_in}

-- a call of an interface procedure: the path of the instance by positions of fields, and the
-- procedure's position
pub record LoggedCall : Type 0 where
  pub path : List ℕ
  pub procedure : ℕ

-- a store: the path of the instance, and the field's position; a store in an item of an array
-- counts as one in the field
pub record StoredField : Type 0 where
  pub path : List ℕ
  pub field : ℕ

-- what an execution leaves: the fields of its instance and the count of steps so far,
-- with the interface calls and stores that it made, in order, by their paths from that instance
pub record After : Type 0 where
  pub cells : Cells
  pub steps : ℕ
  pub log : List LoggedCall
  pub stores : List StoredField

-- what an execution from outside took: its steps, and the interface calls in it
abbrev pub cost_of : After → Cost
cost_of a = record { steps = a.steps; calls = length a.log }

-- how an execution ends: done, or stuck at a place with these fields
pub data Outcome : Type 0 where
  done : (after : After) → Outcome
  stuck : (at : Stuck) (cells : Cells) → Outcome

-- an outcome with earlier calls and stores before its own
abbrev pub behind : List LoggedCall → List StoredField → Outcome → Outcome
behind log stores (done a) =
    done (record {
      cells = a.cells;
      steps = a.steps;
      log = log ++ a.log;
      stores = stores ++ a.stores;
    })
behind log stores (stuck at cells) = stuck at cells

-- goes on from the fields and the count of steps that an execution left
abbrev pub then_run : Outcome → (Cells → ℕ → Outcome) → Outcome
then_run (done a) go = behind a.log a.stores (go a.cells a.steps)
then_run (stuck at cells) go = stuck at cells

-- goes on with the result of an evaluation
abbrev pub on_answer : {A : Type 0} → Answer A → Cells → (A → ℕ → Outcome) → Outcome
on_answer (gives result steps) cells go = go result steps
on_answer (sticks at) cells go = stuck at cells

-- takes one more step and goes on, unless that is one too many
abbrev pub begin_step : ℕ → Cells → ℕ → (ℕ → Outcome) → Outcome
begin_step line cells steps go =
    if nat_lt steps step_limit then go (steps + 1) else stuck (stuck_at line Steps) cells

-- what happens in the instance at a field, seen from the instance that holds it
abbrev pub call_under : ℕ → LoggedCall → LoggedCall
call_under f c = record { path = f ∷ c.path; procedure = c.procedure }

-- the same for a store
abbrev pub store_under : ℕ → StoredField → StoredField
store_under f s = record { path = f ∷ s.path; field = s.field }

-- an execution in the instance at a field: what it leaves is in that field
abbrev pub in_child : ℕ → Cells → Outcome → Outcome
in_child f cells (done a) =
    done (record {
      cells = set_cell cells f (object a.cells);
      steps = a.steps;
      log = map (call_under f) a.log;
      stores = map (store_under f) a.stores;
    })
in_child f cells (stuck at inner) = stuck at (set_cell cells f (object inner))

-- an execution on the instance at a path
abbrev pub at_path : List ℕ → (Cells → Outcome) → Cells → Outcome
at_path [] go cells = go cells
at_path (f ∷ path) go cells = in_child f cells (at_path path go (fields_at cells f))

-- an execution on the target of a call
abbrev pub on_target : Target → (Cells → ℕ → Outcome) → Cells → ℕ → Outcome
on_target Own go cells steps = go cells steps
on_target (Child f) go cells steps = in_child f cells (go (fields_at cells f) steps)

-- a procedure: the types of its parameters, and what a call with these arguments does
pub record Routine : Type 0 where
  pub params : List CType
  pub run : List ℤ → Cells → ℕ → Outcome

-- a procedure that does nothing: what is past the end of a list, where no lawful program calls
abbrev pub no_routine : Routine
no_routine =
    record {
      params = [];
      run = λ values cells steps.
          done (record { cells = cells; steps = steps; log = []; stores = [] });
    }

-- the procedure at a position
abbrev pub routine_at : List Routine → ℕ → Routine
routine_at routines k = slice_index_or routines k no_routine

-- what a body sees: the functions and procedures before it, the types of the own fields, and its
-- arguments
pub record Scope : Type 0 where
  pub functions : List Function
  pub routines : List Routine
  pub types : List CType
  pub values : List ℤ

-- the arguments of a call of a procedure, each of them in its parameter's type, from the left
abbrev pub arguments : List Function → Reads → ℕ → List CType → ExprTrees → ℕ → Answer (List ℤ)
arguments functions leaf line types no_exprs steps = gives [] steps
arguments functions leaf line [] (more_exprs e es) steps = gives [] steps
arguments functions leaf line (t ∷ types) (more_exprs e es) steps =
    and_then (and_then (eval functions leaf line e steps) (within t Range line))
    (λ v count. and_then (arguments functions leaf line types es count)
    (λ vs end. gives (v ∷ vs) end))

-- stores a number in a field, if it is in the field's type
abbrev pub store : ℕ → CType → ℕ → ℤ → Cells → ℕ → Outcome
store line type f v cells steps =
    if is_in_type type v
    then done (record {
      cells = set_cell cells f (number v);
      steps = steps;
      log = [];
      stores = record { path = []; field = f } ∷ [];
    }) else stuck (stuck_at line Range) cells

-- stores a number in an item of the array at a field, if it is in the type of the items
abbrev pub store_at : ℕ → CType → ℕ → ℕ → ℤ → Cells → ℕ → Outcome
store_at line type f i v cells steps =
    if is_in_type type v
    then done (record {
      cells = set_cell cells f (items (set_item (items_at cells f) i v));
      steps = steps;
      log = [];
      stores = record { path = []; field = f } ∷ [];
    })
    else stuck (stuck_at line Range) cells

abbrev mutual
  -- what a statement does to the fields of an instance, from this count of steps
  pub run_stmt : Scope → StmtTree → Cells → ℕ → Outcome
  run_stmt s (assign line f e) cells steps =
      begin_step line cells steps
      (λ count. on_answer (eval s.functions (reads s.values cells) line e count) cells
      (λ v end. store line (type_at s.types f) f v cells end))
  run_stmt s (assign_at line f index e) cells steps =
      begin_step line cells steps
      (λ count.
      on_answer (and_then (eval s.functions (reads s.values cells) line index count)
      (index_in line (items_at cells f))) cells
      (λ i mid. on_answer (eval s.functions (reads s.values cells) line e mid) cells
      (λ v end. store_at line (type_at s.types f) f i v cells end)))
  run_stmt s (branch line test on_true on_false) cells steps =
      begin_step line cells steps
      (λ count. on_answer (eval_cond s.functions (reads s.values cells) line test count) cells
      (λ holds. (if holds then run_stmts s on_true else run_stmts s on_false) cells))
  run_stmt s (call line k target es) cells steps =
      begin_step line cells steps
      (λ count.
      on_answer
      (arguments s.functions (reads s.values cells) line (routine_at s.routines k).params es
      count) cells (λ values. on_target target ((routine_at s.routines k).run values) cells))

  -- the statements of a list, one after another
  pub run_stmts : Scope → StmtTrees → Cells → ℕ → Outcome
  run_stmts s no_stmts cells steps =
      done (record { cells = cells; steps = steps; log = []; stores = [] })
  run_stmts s (more_stmts first rest) cells steps =
      then_run (run_stmt s first cells steps) (run_stmts s rest)

-- a name ends with `_update`, or with `_out` and digits
abbrev pub trailing_digits : List ℕ → ℕ
trailing_digits name = prefix_len is_ascii_digit (reverse name)

-- a name ends with these bytes and at least one digit
abbrev pub ends_with_number : List ℕ → List ℕ → Bool
ends_with_number name end =
    nat_lt 0 (trailing_digits name)
    && starts_with nat_eq (drop (trailing_digits name) (reverse name)) (reverse end)

-- a procedure that a system offers: its calls are logged
abbrev pub is_interface : List ℕ → Bool
is_interface name =
    if ends_with name (codes "_update") then true else ends_with_number name (codes "_out")

-- the entry of the log for a call of the procedure at a position, on the instance itself
abbrev pub call_entry : ℕ → List ℕ → List LoggedCall
call_entry k name = if is_interface name then record { path = []; procedure = k } ∷ [] else []

-- the procedure at position k of a program, which sees these functions, these types of its own
-- fields and these earlier procedures
abbrev pub routine_with : List Function → List CType → List Routine → ℕ → ProcedureTree → Routine
routine_with functions types earlier k p =
    record {
      params = map (λ q. q.type) p.params;
      run = λ values cells steps. behind (call_entry k p.name) []
          (run_stmts (record {
            functions = functions;
            routines = earlier;
            types = types;
            values = values;
          }) p.body cells steps);
    }

-- the same in a program with these structs
abbrev pub routine_of : List StructTree → List Function → List Routine → ℕ → ProcedureTree → Routine
routine_of structs functions earlier k p =
    routine_with functions (field_types (struct_fields structs p.of)) earlier k p

-- the procedures of a list; each calls only earlier ones
abbrev pub routines_of : List StructTree → List Function → List Routine → List ProcedureTree →
    List Routine
routines_of structs functions earlier [] = earlier
routines_of structs functions earlier (p ∷ ps) =
    routines_of structs functions
    (earlier ++ routine_of structs functions earlier (length earlier) p ∷ []) ps

-- the procedures of a program
abbrev pub program_routines : ProgramTree → List Routine
program_routines p = routines_of p.structs (functions_of [] p.pures) [] p.procedures

-- a call from outside of the procedure at a position, on the instance at a path below these fields
abbrev pub call_from_outside : ProgramTree → ℕ → List ℕ → List ℤ → Cells → Outcome
call_from_outside p k path values cells =
    at_path path (λ inner. (routine_at (program_routines p) k).run values inner 0) cells
