-- A program refines another from what its procedures do, its bodies, or other refinements.
use Rattle.std.specs.Prelude.{◌≡◌, ℕ, zero, suc, ◌+◌, Bool, true, List, [], ◌∷◌, ◌++◌, map, length, Some, None, unwrap_or, slice_index_or, if◌then◌else◌, bytes_eq, codes, ℤ, pos}
use Rattle.std.specs.List.{position_from}
use Rattle.std.proofs.Common.{refl, sym, ap, subst, ◌∙◌, arith}
use Rattle.std.proofs.lemmas.List.{length-append}
use Rattle.c_syntax.specs.declared.fault.Stuck.{Stuck}
use Rattle.c_syntax.specs.Tree.{StructTree, struct_fields, field_types, PureTree, ParamTree, ProcedureTree, ProgramTree}
use Rattle.c_syntax.specs.RootFields.{procedure_named, output_fields, root_fields}
use Rattle.c_semantics.specs.Cells.{Cells, no_cells, number_at}
use Rattle.c_semantics.specs.Values.{gives, Function, function_at, function_of, functions_of, reads, eval}
use Rattle.c_semantics.specs.Machine.{After, Outcome, done, stuck, Routine, no_routine, routine_at, routine_of, routines_of, program_routines, call_entry, call_from_outside, Scope, run_stmts}
use Rattle.c_semantics.specs.Rows.{TickRow, Rows, zero_root, tick_row, with_tick, rows_after, rows_from, rows_of_start, start_run, step_run}
use Rattle.c_refinement.specs.Refinement.{placed_call, Refines, RefinesTick, RefinesRows, RefinesBy, kept_all, in_place}
use Rattle.c_refinement.specs.Evaluations.{IsSteady, AreSteady}
use Rattle.c_refinement.specs.Routines.{RefinesRoutine, IsSteadyRoutine, AreSteadyRoutines, IsSteadyScope}
use Rattle.c_refinement.specs.Laws.{KeepsNamed, RefinesProcedures, ProceduresRefine, RefinesBodies, with_bodies, BodiesRefine}
use Rattle.c_refinement.proofs.lemmas.Answers.{take_step-refines, expr-refines}
use Rattle.c_refinement.proofs.lemmas.Onward.{take_step-onward, expr-onward, same-onward}
use Rattle.c_refinement.proofs.lemmas.Outcomes.{behind-refines, at_path-refines, behind-onward, same-calls}
use Rattle.c_refinement.proofs.lemmas.Code.{same-refine, stmts-onward}

-- ---- What holds at each place of a list

-- it holds of one more after the others
pub each-appended : {A : Type 0} (P : A → Type 0) (none x : A) (xs : List A) → ((k : ℕ) → P (slice_index_or xs k none)) → P x →
    (k : ℕ) → P (slice_index_or (xs ++ x ∷ []) k none)
each-appended P none x [] h one zero = one
each-appended P none x [] h one (suc k) = h k
each-appended P none x (y ∷ ys) h one zero = h zero
each-appended P none x (y ∷ ys) h one (suc k) = each-appended P none x ys (λ j. h (suc j)) one k

-- the same of two lists of one length
pub both-appended : {A : Type 0} (R : A → A → Type 0) (none x y : A) (xs ys : List A) → length ys ≡ length xs →
    ((k : ℕ) → R (slice_index_or xs k none) (slice_index_or ys k none)) → R x y →
    (k : ℕ) → R (slice_index_or (xs ++ x ∷ []) k none) (slice_index_or (ys ++ y ∷ []) k none)
both-appended R none x y [] [] same h one zero = one
both-appended R none x y [] [] same h one (suc k) = h k
both-appended R none x y [] (z ∷ zs) same h one k = absurd (omega (arith, same))
both-appended R none x y (z ∷ zs) [] same h one k = absurd (omega (arith, same))
both-appended R none x y (w ∷ ws) (z ∷ zs) same h one zero = h zero
both-appended R none x y (w ∷ ws) (z ∷ zs) same h one (suc k) =
    both-appended R none x y ws zs (omega (arith, same)) (λ j. h (suc j)) one k

-- ---- Pure functions

function-steady : (earlier : List Function) (f : PureTree) → AreSteady earlier → IsSteady (function_of earlier f)
function-steady earlier f steady = record {
  fewer = λ values n m fewer. take_step-refines f.line f.line n m (eval earlier (reads values no_cells) f.line f.body)
      (eval earlier (reads values no_cells) f.line f.body) fewer
      (λ i j below. expr-refines earlier steady (reads values no_cells) f.line f.line f.body i j below);
  onward = λ values n. take_step-onward f.line n (eval earlier (reads values no_cells) f.line f.body)
      (λ m. expr-onward earlier steady (reads values no_cells) f.line f.body m);
}

none-steady : (k : ℕ) → IsSteady (function_at [] k)
none-steady k = record { fewer = λ values n m fewer. (refl, fewer); onward = λ values n. same-onward (pos 0) n }

steady-from : (earlier : List Function) (ps : List PureTree) → AreSteady earlier → AreSteady (functions_of earlier ps)
steady-from earlier [] steady = steady
steady-from earlier (f ∷ fs) steady =
    steady-from (earlier ++ function_of earlier f ∷ []) fs
    (each-appended IsSteady (λ values steps. gives (pos 0) steps) (function_of earlier f) earlier steady
    (function-steady earlier f steady))

-- the pure functions of a program
pub functions-steady : (ps : List PureTree) → AreSteady (functions_of [] ps)
functions-steady ps = steady-from [] ps none-steady

-- ---- Procedures

-- among steady functions
module _ (structs : List StructTree) (functions : List Function) (steady : AreSteady functions) where
  -- what a procedure's body sees
  abbrev pub sees : List Routine → ProcedureTree → List ℤ → Scope
  sees earlier h values = record {
    functions = functions;
    routines = earlier;
    types = field_types (struct_fields structs h.of);
    values = values;
  }

  pub steady-scope : (earlier : List Routine) (h : ProcedureTree) (values : List ℤ) → AreSteadyRoutines earlier →
      IsSteadyScope (sees earlier h values)
  steady-scope earlier h values are = record { functions = steady; routines = are }

  routine-steady : (earlier : List Routine) (k : ℕ) (h : ProcedureTree) → AreSteadyRoutines earlier →
      IsSteadyRoutine (routine_of structs functions earlier k h)
  routine-steady earlier k h are = record {
    fewer = record {
      params = refl;
      run = λ values cells n m fewer. behind-refines in_place (call_entry k h.name) (call_entry k h.name) [] []
          (run_stmts (sees earlier h values) h.body cells n) (run_stmts (sees earlier h values) h.body cells m)
          (sym (same-calls (call_entry k h.name))) refl
          (same-refine in_place (sees earlier h values) earlier steady (λ j. (are j).fewer) h.body cells n m fewer);
    };
    onward = λ values cells n. behind-onward (call_entry k h.name) [] (run_stmts (sees earlier h values) h.body cells n) n
        (stmts-onward (sees earlier h values) (steady-scope earlier h values are) h.body cells n);
  }

  -- one more procedure
  pub more-steady : (earlier : List Routine) (h : ProcedureTree) → AreSteadyRoutines earlier →
      AreSteadyRoutines (earlier ++ routine_of structs functions earlier (length earlier) h ∷ [])
  more-steady earlier h are =
      each-appended IsSteadyRoutine no_routine (routine_of structs functions earlier (length earlier) h) earlier are
      (routine-steady earlier (length earlier) h are)

  no_routine-steady : AreSteadyRoutines []
  no_routine-steady k = record {
    fewer = record {
      params = refl;
      run = λ values cells n m fewer. record { cells = refl; steps = fewer; log = refl; stores = refl };
    };
    onward = λ values cells n. omega arith;
  }

  -- ---- Other bodies

  module _ (change : ProcedureTree → ProcedureTree) (is : RefinesBodies change) where
    abbrev Each : List Routine → List Routine → Type 0
    Each earlier others = (k : ℕ) → RefinesRoutine in_place (routine_at earlier k) (routine_at others k)

    -- the entry of a call in the log is the same
    same-entry : (k j : ℕ) (h : ProcedureTree) → j ≡ k → call_entry j (change h).name ≡ map (placed_call in_place) (call_entry k h.name)
    same-entry k j h at = (λ i. call_entry (at i) (is.names h i)) ∙ sym (same-calls (call_entry k h.name))

    changed-refines : (earlier others : List Routine) (k j : ℕ) (h : ProcedureTree) → j ≡ k → AreSteadyRoutines earlier →
        Each earlier others →
        RefinesRoutine in_place (routine_of structs functions earlier k h) (routine_of structs functions others j (change h))
    changed-refines earlier others k j h at are each = record {
      params = ap (map (λ (q : ParamTree). q.type)) (is.params h);
      run = λ values cells n m fewer. behind-refines in_place (call_entry k h.name) (call_entry j (change h).name) [] []
          (run_stmts (sees earlier h values) h.body cells n) (run_stmts (sees others (change h) values) (change h).body cells m)
          (same-entry k j h at) refl
          (subst (λ of. Refines in_place (run_stmts (sees earlier h values) h.body cells n)
          (run_stmts (record {
            functions = functions;
            routines = others;
            types = field_types (struct_fields structs of);
            values = values;
          }) (change h).body cells m)) (sym (is.of h))
          (is.bodies h (sees earlier h values) others (steady-scope earlier h values are) each cells n m fewer));
    }

    changed-from : (earlier others : List Routine) (hs : List ProcedureTree) → length others ≡ length earlier →
        AreSteadyRoutines earlier → Each earlier others →
        Each (routines_of structs functions earlier hs) (routines_of structs functions others (map change hs))
    changed-from earlier others [] same are each = each
    changed-from earlier others (h ∷ hs) same are each =
        let r : Routine = routine_of structs functions earlier (length earlier) h in
        let q : Routine = routine_of structs functions others (length others) (change h) in
        changed-from (earlier ++ r ∷ []) (others ++ q ∷ []) hs
        (omega (arith, same, length-append earlier (r ∷ []), length-append others (q ∷ []))) (more-steady earlier h are)
        (both-appended (RefinesRoutine in_place) no_routine r q earlier others same each
        (changed-refines earlier others (length earlier) (length others) h same are each))

    none-each : Each [] []
    none-each k = (no_routine-steady k).fewer

    pub changed-routines : (hs : List ProcedureTree) →
        Each (routines_of structs functions [] hs) (routines_of structs functions [] (map change hs))
    changed-routines hs = changed-from [] [] hs refl no_routine-steady none-each

-- ---- Programs

-- the structs of a program, and nothing else
abbrev bare : List StructTree → ProgramTree
bare structs = record { pures = []; structs = structs; procedures = [] }

module _ (place : ℕ → ℕ) (keeps : ℕ → Bool) (p q : ProgramTree) (are : RefinesProcedures place keeps p q) where
  called-refines : (k : ℕ) → keeps k ≡ true → (path : List ℕ) (values : List ℤ) (cells : Cells) →
      Refines place (call_from_outside p k path values cells) (call_from_outside q (place k) path values cells)
  called-refines k kept path values cells =
      at_path-refines place path (λ inner. (routine_at (program_routines p) k).run values inner 0)
      (λ inner. (routine_at (program_routines q) (place k)).run values inner 0)
      (λ inner. (are.routines k kept).run values inner 0 0 (omega arith)) cells

  -- a call by name
  named-refines : (name : List ℕ) → KeepsNamed place keeps p q name → (values : List ℤ) (cells : Cells) →
      Refines place (call_from_outside p (unwrap_or (procedure_named p name) 0) [] values cells)
      (call_from_outside q (unwrap_or (procedure_named q name) 0) [] values cells)
  named-refines name named values cells =
      subst (λ k. Refines place (call_from_outside p (unwrap_or (procedure_named p name) 0) [] values cells)
      (call_from_outside q k [] values cells)) (sym named.moved)
      (called-refines (unwrap_or (procedure_named p name) 0) named.kept [] values cells)

  same-zero : zero_root q ≡ zero_root p
  same-zero = ap (λ structs. zero_root (bare structs)) are.structs

  begun-refines : Refines place (start_run p) (start_run q)
  begun-refines =
      subst (λ cells. Refines place (start_run p) (call_from_outside q (unwrap_or (procedure_named q (codes "root_start")) 0) [] [] cells))
      (sym same-zero) (named-refines (codes "root_start") are.start [] (zero_root p))

  tick-refines : (a b : After) → Refines place (done a) (done b) → RefinesTick place (tick_row p a) (tick_row q b)
  tick-refines a b h = record {
    outputs = λ i. map (number_at (h.cells i)) (output_fields (root_fields (bare (are.structs i))));
    steps = h.steps;
    log = h.log;
    stores = h.stores;
  }

  no_rows-refined : (at : Stuck) (cells : Cells) (rows : Rows) →
      RefinesRows place (record { ticks = []; cells = cells; stuck_place = Some at }) rows
  no_rows-refined at cells rows = record {
    ticks = tt;
    not_stuck = λ none. absurd (some_is_not_none at none);
    count = λ none. absurd (some_is_not_none at none);
    cells = λ none. absurd (some_is_not_none at none);
  }
    where
      some_is_not_none : (x : Stuck) → Some x ≡ None → ⊥
      some_is_not_none x e = cc

  -- one more tick of both
  more_rows-refine : (one two : TickRow) (rows others : Rows) → RefinesTick place one two → RefinesRows place rows others →
      RefinesRows place (with_tick one rows) (with_tick two others)
  more_rows-refine one two rows others first rest = record {
    ticks = (first, rest.ticks);
    not_stuck = rest.not_stuck;
    count = λ none. ap suc (rest.count none);
    cells = rest.cells;
  }

  rows_after-refine : (o r : Outcome) (go further : Cells → Rows) → Refines place o r →
      ((cells : Cells) → RefinesRows place (go cells) (further cells)) → RefinesRows place (rows_after p o go) (rows_after q r further)
  rows_after-refine (done a) (done b) go further h after =
      more_rows-refine (tick_row p a) (tick_row q b) (go a.cells) (further b.cells) (tick-refines a b h)
      (subst (λ cells. RefinesRows place (go a.cells) (further cells)) (sym h.cells) (after a.cells))
  rows_after-refine (done a) (stuck at cells) go further h after = absurd h
  rows_after-refine (stuck at cells) r go further h after = no_rows-refined at cells (rows_after q r further)

  rows_from-refine : (trace : List (List ℤ)) (cells : Cells) → RefinesRows place (rows_from p trace cells) (rows_from q trace cells)
  rows_from-refine [] cells = record { ticks = tt; not_stuck = λ none. refl; count = λ none. refl; cells = λ none. refl }
  rows_from-refine (row ∷ trace) cells =
      rows_after-refine (step_run p row cells) (step_run q row cells) (rows_from p trace) (rows_from q trace)
      (named-refines (codes "root_step") are.step row cells) (rows_from-refine trace)

  of_start-refine : (o r : Outcome) (trace : List (List ℤ)) → Refines place o r →
      RefinesRows place (rows_of_start p o trace) (rows_of_start q r trace)
  of_start-refine (done a) (done b) trace h =
      subst (λ cells. RefinesRows place (rows_from p trace a.cells) (rows_from q trace cells)) (sym h.cells)
      (rows_from-refine trace a.cells)
  of_start-refine (done a) (stuck at cells) trace h = absurd h
  of_start-refine (stuck at cells) r trace h = no_rows-refined at cells (rows_of_start q r trace)

  pub program-refines : RefinesBy place keeps p q
  program-refines = record {
    calls = called-refines;
    start = begun-refines;
    rows = λ trace. of_start-refine (start_run p) (start_run q) trace begun-refines;
  }

pub procedures_refine : ProceduresRefine
procedures_refine place keeps p q are = program-refines place keeps p q are

-- ---- Programs with other bodies

-- names are where they were
same-position : (change : ProcedureTree → ProcedureTree) → ((h : ProcedureTree) → (change h).name ≡ h.name) → (name : List ℕ) (n : ℕ)
    (hs : List ProcedureTree) →
    position_from (λ h. bytes_eq h.name name) n (map change hs) ≡ position_from (λ h. bytes_eq h.name name) n hs
same-position change names name n [] = refl
same-position change names name n (h ∷ hs) =
    λ i. if bytes_eq (names h i) name then Some n else same-position change names name (n + 1) hs i

pub bodies_refine : BodiesRefine
bodies_refine change p is = procedures_refine in_place kept_all p (with_bodies change p) (record {
  structs = refl;
  routines = λ k kept. changed-routines p.structs (functions_of [] p.pures) (functions-steady p.pures) change is p.procedures k;
  start = named (codes "root_start");
  step = named (codes "root_step");
})
  where
    named : (name : List ℕ) → KeepsNamed in_place kept_all p (with_bodies change p) name
    named name = record { kept = refl; moved = ap (λ k. unwrap_or k 0) (same-position change is.names name 0 p.procedures) }
