-- The program without helpers refines the one with them.
use Rattle.std.specs.Prelude.{◌≡◌, ℕ, zero, suc, ◌+◌, ◌<◌, ◌≤◌, nat_lt, Bool, true, false, if◌then◌else◌, List, [], ◌∷◌, ◌++◌, length, map, Option, Some, None, slice_get, slice_index_or, unwrap_or, bytes_eq, codes, ℤ}
use Rattle.std.specs.List.{AllByRecursion, position_from}
use Rattle.std.proofs.Common.{refl, sym, ap, subst, ◌∙◌, arith, zero-add}
use Rattle.std.proofs.lemmas.Bool.Decides.{nat_tests}
use Rattle.std.proofs.lemmas.List.{length-map}
use Rattle.std.proofs.lemmas.Option.{slice_get_within}
use Rattle.c_syntax.specs.declared.code.CType.{CType}
use Rattle.c_syntax.specs.declared.code.Target.TheVariants.{Own}
use Rattle.c_syntax.specs.Tree.{ExprTree, ExprTrees, CondTree, StmtTree, assign, assign_at, branch, call, StmtTrees, no_stmts, more_stmts, stmts_append, struct_fields, field_types, ProcedureTree, ProgramTree}
use Rattle.c_syntax.specs.RootFields.{procedure_named}
use Rattle.c_syntax.specs.Lawful.{Reach, exprs_length, IsLawfulExpr, AreLawfulExprs, IsLawfulCond, IsLawfulStmt, AreLawfulStmts, AreDistinct, pure_names, procedure_names, IsLawful}
use Rattle.c_syntax.proofs.lemmas.NameFacts.{AreDistinct-back}
use Rattle.c_syntax.proofs.lemmas.NamePlaces.{position_from-named, map-at}
use Rattle.c_semantics.specs.Cells.{Cells}
use Rattle.c_semantics.specs.Values.{gives, Function, reads, eval, eval_cond}
use Rattle.c_semantics.specs.Machine.{Outcome, behind, is_interface, call_entry, Routine, no_routine, routine_at, program_routines, Scope, arguments, run_stmt, run_stmts}
use Rattle.c_semantics.specs.CallLaws.{body_scope, IsRoutineOf}
use Rattle.c_semantics.proofs.lemmas.NumberingLaws.{procedures_stand_in_order}
use Rattle.c_semantics.proofs.lemmas.Runs.{behind-nothing}
use Rattle.base_core.specs.Numbers.{int_at}
use Rattle.c_refinement.specs.Evaluations.{RefinesAnswer, AreSteady, RefinesExpr, RefinesCond, RefinesArguments}
use Rattle.c_refinement.specs.Refinement.{placed_call, Refines}
use Rattle.c_refinement.specs.Routines.{RefinesRoutine, RefinesStmt, RefinesStmts}
use Rattle.c_refinement.specs.Laws.{KeepsNamed}
use Rattle.c_refinement.proofs.lemmas.Answers.{expr-refines, cond-refines, arguments-refine}
use Rattle.c_refinement.proofs.lemmas.Outcomes.{behind-refines}
use Rattle.c_refinement.proofs.lemmas.Code.{assign-refines, assign_at-refines, branch-refines, call-refines, none-refine, more-refine, more-refine-several, own_call-refines}
use Rattle.c_refinement.proofs.lemmas.Programs.{functions-steady, procedures_refine}
use Rattle.emit_pruned.proofs.lemmas.Numbers.{all-left, all-right}
use Rattle.emit_inlined.specs.Inlined.{stmt_calls, stmts_calls, procedure_at, is_root_name, helper_call, stays, moved_expr, moved_exprs, moved_cond, moved_stmt, moved_stmts, kept_from, itself, place, inlined_stmts, inlined_procedure, inlined}
use Rattle.emit_inlined.specs.Laws.{InlinedRefines}
use Rattle.emit_inlined.proofs.lemmas.KeptPlaces.{take-found, kept-length}
use Rattle.emit_inlined.proofs.lemmas.CallCounts.{CallsHelper, helper_call-found, others_in, IsHelper, helper-is, root-stays}
use Rattle.emit_inlined.proofs.lemmas.AtPositions.{reach_of, body-lawful, functions_in, routine-in}
use Rattle.emit_inlined.proofs.lemmas.PassedParams.{ReadParams, params_of-read, reads-length, Passes, arguments-read, passed-at}
use Rattle.emit_inlined.proofs.lemmas.MovedCode.{expr-moved, cond-moved, arguments-moved}
use Rattle.emit_inlined.proofs.lemmas.Staying.{procedure-at, stays-at, remaining-holds, helper-holds}
use Rattle.emit_inlined.proofs.InlinedLawful.{inlined_is_lawful}

-- ---- Code with other parameters, and calls at other places

module _ (param place : ℕ → ℕ) (reach : Reach) (passed around : List ℤ)
    (same : (k : ℕ) → k < reach.params → int_at around (param k) ≡ int_at passed k) (functions : List Function)
    (steady : AreSteady functions) (types : List CType) (routines others : List Routine) where
  abbrev here : Scope
  here = body_scope functions routines types passed

  abbrev there : Scope
  there = body_scope functions others types around

  -- the procedure at its place refines the one that it was
  abbrev Refined : ℕ → Type 0
  Refined k = RefinesRoutine place (routine_at routines k) (routine_at others (place k))

  module _ (line : ℕ) (cells : Cells) where
    expr-placed : (e : ExprTree) → IsLawfulExpr reach e → RefinesExpr here there line line cells e (moved_expr param place e)
    expr-placed e h n m fewer =
        subst (RefinesAnswer (eval functions (reads passed cells) line e n))
        (ap (λ go. go m) (sym (expr-moved param place reach passed around same functions cells line e h)))
        (expr-refines functions steady (reads passed cells) line line e n m fewer)

    cond-placed : (c : CondTree) → IsLawfulCond reach c → RefinesCond here there line line cells c (moved_cond param place c)
    cond-placed c h n m fewer =
        subst (RefinesAnswer (eval_cond functions (reads passed cells) line c n))
        (ap (λ go. go m) (sym (cond-moved param place reach passed around same functions cells line c h)))
        (cond-refines functions steady (reads passed cells) line line c n m fewer)

    arguments-placed : (es : ExprTrees) → AreLawfulExprs reach es →
        RefinesArguments here there line line cells es (moved_exprs param place es)
    arguments-placed es h given n m fewer =
        subst (RefinesAnswer (arguments functions (reads passed cells) line given es n))
        (ap (λ go. go m) (sym (arguments-moved param place reach passed around same functions cells line given es h)))
        (arguments-refine functions steady (reads passed cells) line line es given n m fewer)

  mutual
    pub stmt-placed : (x : StmtTree) → IsLawfulStmt reach x → AllByRecursion Refined (stmt_calls x) →
        RefinesStmt place here there x (moved_stmt param place x)
    stmt-placed (assign line f e) h called cells n m fewer =
        assign-refines place here there line line cells n m fewer f e (moved_expr param place e) refl (expr-placed line cells e h.1)
    stmt-placed (assign_at line f index e) h called cells n m fewer =
        assign_at-refines place here there line line cells n m fewer f index e (moved_expr param place index) (moved_expr param place e)
        refl (expr-placed line cells index h.1) (expr-placed line cells e h.2)
    stmt-placed (branch line test on_true on_false) h called cells n m fewer =
        branch-refines place here there line line cells n m fewer test (moved_cond param place test) on_true on_false
        (moved_stmts param place on_true) (moved_stmts param place on_false) (cond-placed line cells test h.0)
        (stmts-placed on_true h.1 (all-left Refined (stmts_calls on_true) (stmts_calls on_false) called))
        (stmts-placed on_false h.2 (all-right Refined (stmts_calls on_true) (stmts_calls on_false) called))
    stmt-placed (call line k target es) (q, found, of, count, all) called cells n m fewer =
        call-refines place here there line line cells n m fewer k (place k) target es (moved_exprs param place es) called.0
        (arguments-placed line cells es all)

    pub stmts-placed : (xs : StmtTrees) → AreLawfulStmts reach xs → AllByRecursion Refined (stmts_calls xs) →
        RefinesStmts place here there xs (moved_stmts param place xs)
    stmts-placed no_stmts h called = none-refine place here there
    stmts-placed (more_stmts x xs) h called =
        more-refine place here there x (moved_stmt param place x) xs (moved_stmts param place xs)
        (stmt-placed x h.0 (all-left Refined (stmt_calls x) (stmts_calls xs) called))
        (stmts-placed xs h.1 (all-right Refined (stmt_calls x) (stmts_calls xs) called))

-- ---- Past the end

none-past : (ps : List ProcedureTree) (k : ℕ) → slice_get ps k ≡ None → length ps ≤ k
none-past [] k none = omega arith
none-past (p ∷ ps) zero none = absurd (let wrong : ⊥ = cc none in wrong)
none-past (p ∷ ps) (suc k) none = let past = none-past ps k none in omega (arith, past)

past-end : (rs : List Routine) (k : ℕ) → length rs ≤ k → routine_at rs k ≡ no_routine
past-end [] k past = refl
past-end (r ∷ rs) zero past = absurd (omega (arith, past))
past-end (r ∷ rs) (suc k) past = past-end rs k (omega (arith, past))

none-refines : (move : ℕ → ℕ) → RefinesRoutine move no_routine no_routine
none-refines move = record {
  params = refl;
  run = λ values cells n m fewer. record { cells = refl; steps = fewer; log = refl; stores = refl };
}

routines-length : (p : ProgramTree) → length (program_routines p) ≡ length p.procedures
routines-length p = (procedures_stand_in_order p.structs (functions_in p) [] p.procedures).count ∙ zero-add (length p.procedures)

-- ---- A procedure, where those before it refine

-- the entry of a call in the log
entry-placed : (move : ℕ → ℕ) (k : ℕ) (name : List ℕ) → call_entry (move k) name ≡ map (placed_call move) (call_entry k name)
entry-placed move k name = by (is_interface name)
  where
    by : (b : Bool) → (if b then record { path = []; procedure = move k } ∷ [] else [])
        ≡ map (placed_call move) (if b then record { path = []; procedure = k } ∷ [] else [])
    by true = refl
    by false = refl

-- a procedure that isn't logged does what its body does
unlogged-run : (functions : List Function) (earlier : List Routine) (types : List CType) (k : ℕ) (q : ProcedureTree) (r : Routine) →
    IsRoutineOf functions earlier types k q r → is_interface q.name ≡ false → (values : List ℤ) (cells : Cells) (steps : ℕ) →
    r.run values cells steps ≡ run_stmts (body_scope functions earlier types values) q.body cells steps
unlogged-run functions earlier types k q r is unlogged values cells steps =
    is.run values cells steps
    ∙ ap (λ b. behind (if b then record { path = []; procedure = k } ∷ [] else []) [] o) unlogged ∙ behind-nothing o
  where
    o : Outcome
    o = run_stmts (body_scope functions earlier types values) q.body cells steps

module _ (p : ProgramTree) (lawful : IsLawful p) where
  abbrev functions : List Function
  functions = functions_in p

  steady : AreSteady functions
  steady = functions-steady p.pures

  abbrev before : List Routine
  before = program_routines p

  abbrev after : List Routine
  after = program_routines (inlined p)

  -- a procedure that stays refines at its place
  abbrev Placed : ℕ → Type 0
  Placed k = RefinesRoutine (place p) (routine_at before k) (routine_at after (place p k))

  module _ (n : ℕ) (earlier : (j : ℕ) → j < n → stays p j ≡ true → Placed j) (q : ProcedureTree)
      (found : slice_get p.procedures n ≡ Some q) (values : List ℤ) where
    abbrev types : List CType
    types = field_types (struct_fields p.structs q.of)

    abbrev scope : Scope
    scope = body_scope functions before types values

    abbrev inner : Scope
    inner = body_scope functions after types values

    own-same : (k : ℕ) → k < length q.params → int_at values (itself k) ≡ int_at values k
    own-same k h = refl

    -- ---- The body of a helper

    module _ (line k : ℕ) (ks : List ℕ) (es : ExprTrees) (reads_params : ReadParams es ks) (helper : IsHelper p k) (h : ProcedureTree)
        (is_there : slice_get p.procedures k ≡ Some h) (below : k < n) (of : q.of ≡ h.of) (count : length h.params ≡ exprs_length es) where
      abbrev moves : ℕ → ℕ
      moves i = slice_index_or ks i 0

      abbrev given : List ℤ
      given = map (int_at values) ks

      abbrev theirs : List CType
      theirs = field_types (struct_fields p.structs h.of)

      routine : IsRoutineOf functions before theirs k h (routine_at before k)
      routine = routine-in p k h lawful.procedures is_there

      unlogged : is_interface h.name ≡ false
      unlogged = ap (λ (x : ProcedureTree). is_interface x.name) (sym (procedure-at p k h is_there)) ∙ helper.unlogged

      -- what the caller passes is what its parameters hold
      same : (i : ℕ) → i < length h.params → int_at values (moves i) ≡ int_at given i
      same i inside =
          let many = reads-length es ks reads_params in
          passed-at values ks i (omega (arith, inside, many, count))

      body : (cells : Cells) (end m : ℕ) → m ≤ end →
          Refines (place p) (run_stmts (body_scope functions before theirs given) h.body cells end)
          (run_stmts inner (moved_stmts moves (place p) h.body) cells m)
      body cells end m fewer = subst
          (λ struct. Refines (place p)
          (run_stmts (body_scope functions before theirs given) h.body cells end)
          (run_stmts (body_scope functions after (field_types (struct_fields p.structs struct)) values) (moved_stmts moves (place p) h.body)
          cells m))
          (sym of)
          (stmts-placed moves (place p) (reach_of p k h) given values same functions steady
          theirs before after h.body (body-lawful p k h lawful.procedures is_there)
          (helper-holds Placed p k h lawful.procedures is_there unlogged
          (λ j less keep. earlier j (omega (arith, less, below)) keep)) cells end m fewer)

      many-types : length (routine_at before k).params ≡ exprs_length es
      many-types = ap length routine.params ∙ length-map h.params (λ x. x.type) ∙ count

      -- from what is passed
      passed-body : (cells : Cells) (start m : ℕ) → m ≤ start → (vs : List ℤ) (end : ℕ) →
          Passes (gives vs end) given start →
          Refines (place p) ((routine_at before k).run vs cells end) (run_stmts inner (moved_stmts moves (place p) h.body) cells m)
      passed-body cells start m fewer vs end is =
          subst (λ o. Refines (place p) o (run_stmts inner (moved_stmts moves (place p) h.body) cells m))
          (sym (unlogged-run functions before theirs k h (routine_at before k) routine unlogged
          vs cells end))
          (subst (λ xs. Refines (place p)
          (run_stmts (body_scope functions before theirs xs) h.body cells end)
          (run_stmts inner (moved_stmts moves (place p) h.body) cells m))
          (sym is.0) (body cells end m (let last = is.1 in omega (arith, last, fewer))))

      call-placed : (cells : Cells) (i m : ℕ) → m ≤ i →
          Refines (place p) (run_stmt scope (call line k Own es) cells i) (run_stmts inner (moved_stmts moves (place p) h.body) cells m)
      call-placed cells i m fewer =
          own_call-refines (place p) scope steady line k es cells i (run_stmts inner (moved_stmts moves (place p) h.body) cells m)
          (λ vs end is later. passed-body cells (i + 1) m (omega (arith, fewer)) vs end
          (subst (λ a. Passes a given (i + 1)) is
          (arguments-read functions values cells line es ks (routine_at before k).params (i + 1) reads_params many-types)))

    -- ---- The body of a procedure whose calls are logged

    helper-placed : (s : StmtTree) (call_of : ℕ × List ℕ) → CallsHelper p s call_of → IsLawfulStmt (reach_of p n q) s →
        (cells : Cells) (i m : ℕ) → m ≤ i →
        Refines (place p) (run_stmt scope s cells i)
        (run_stmts inner (moved_stmts (λ k. slice_index_or call_of.1 k 0) (place p) (procedure_at p call_of.0).body) cells m)
    helper-placed s call_of calls legal cells i m fewer =
        by (subst (IsLawfulStmt (reach_of p n q)) calls.is legal)
      where
        by : IsLawfulStmt (reach_of p n q) (call calls.line call_of.0 Own calls.values) →
            Refines (place p) (run_stmt scope s cells i)
            (run_stmts inner (moved_stmts (λ k. slice_index_or call_of.1 k 0) (place p) (procedure_at p call_of.0).body) cells m)
        by (h, is_there, of, count, all) =
            let (below, at) = take-found p.procedures call_of.0 n h is_there in
            subst (λ x. Refines (place p) (run_stmt scope x cells i)
            (run_stmts inner (moved_stmts (λ k. slice_index_or call_of.1 k 0) (place p) (procedure_at p call_of.0).body) cells m))
            (sym calls.is)
            (subst (λ (x : ProcedureTree). Refines (place p) (run_stmt scope (call calls.line call_of.0 Own calls.values) cells i)
            (run_stmts inner (moved_stmts (λ k. slice_index_or call_of.1 k 0) (place p) x.body) cells m))
            (sym (procedure-at p call_of.0 h at))
            (call-placed calls.line call_of.0 call_of.1 calls.values (params_of-read calls.values call_of.1 calls.params)
            (helper-is p call_of.0 calls.helper) h at below of count cells i m fewer))

    own-placed : (xs : StmtTrees) → AreLawfulStmts (reach_of p n q) xs → AllByRecursion Placed (stmts_calls xs) →
        RefinesStmts (place p) scope inner xs (moved_stmts itself (place p) xs)
    own-placed = stmts-placed itself (place p) (reach_of p n q) values values own-same functions steady types before after

    inlined-placed : (ss : StmtTrees) → AreLawfulStmts (reach_of p n q) ss → AllByRecursion Placed (others_in p ss) →
        RefinesStmts (place p) scope inner ss (inlined_stmts p ss)
    inlined-placed no_stmts legal called = none-refine (place p) scope inner
    inlined-placed (more_stmts s ss) legal called =
        by (helper_call p s) refl called (λ rest. inlined-placed ss legal.1 rest)
      where
        by : (o : Option (ℕ × List ℕ)) → helper_call p s ≡ o →
            AllByRecursion Placed (elim o [ Some call_of ↦ others_in p ss | None ↦ stmt_calls s ++ others_in p ss ]) →
            (AllByRecursion Placed (others_in p ss) → RefinesStmts (place p) scope inner ss (inlined_stmts p ss)) →
            RefinesStmts (place p) scope inner (more_stmts s ss)
            (stmts_append (elim o [
              | Some call_of ↦ moved_stmts (λ k. slice_index_or call_of.1 k 0) (place p) (procedure_at p call_of.0).body
              | None ↦ more_stmts (moved_stmt itself (place p) s) no_stmts
            ]) (inlined_stmts p ss))
        by (Some call_of) is rest next =
            more-refine-several (place p) scope inner s
            (moved_stmts (λ k. slice_index_or call_of.1 k 0) (place p) (procedure_at p call_of.0).body) ss (inlined_stmts p ss)
            (helper-placed s call_of (helper_call-found p s call_of is) legal.0) (next rest)
        by None is rest next =
            more-refine (place p) scope inner s (moved_stmt itself (place p) s) ss (inlined_stmts p ss)
            (stmt-placed itself (place p) (reach_of p n q) values values own-same functions steady types before after s legal.0
            (all-left Placed (stmt_calls s) (others_in p ss) rest))
            (next (all-right Placed (stmt_calls s) (others_in p ss) rest))

    body-placed : RefinesStmts (place p) scope inner q.body (inlined_procedure p q).body
    body-placed = by (is_interface q.name) (remaining-holds Placed p n q lawful.procedures found earlier)
      where
        legal : AreLawfulStmts (reach_of p n q) q.body
        legal = body-lawful p n q lawful.procedures found

        by : (b : Bool) → AllByRecursion Placed (if b then others_in p q.body else stmts_calls q.body) →
            RefinesStmts (place p) scope inner q.body (if b then inlined_stmts p q.body else moved_stmts itself (place p) q.body)
        by true called = inlined-placed q.body legal called
        by false called = own-placed q.body legal called

  -- ---- Each procedure

  procedure-placed : (n : ℕ) → ((j : ℕ) → j < n → stays p j ≡ true → Placed j) → stays p n ≡ true → (q : ProcedureTree) →
      slice_get p.procedures n ≡ Some q →
      Placed n
  procedure-placed n earlier keep q found = record {
    params = other.params ∙ sym own.params;
    run = λ values cells i m fewer. subst (λ o. Refines (place p) o ((routine_at after (place p n)).run values cells m))
        (sym (own.run values cells i))
        (subst (Refines (place p) (behind (call_entry n q.name) []
        (run_stmts (body_scope functions before (field_types (struct_fields p.structs q.of)) values) q.body cells i)))
        (sym (other.run values cells m))
        (behind-refines (place p) (call_entry n q.name) (call_entry (place p n) q.name) [] []
        (run_stmts (body_scope functions before (field_types (struct_fields p.structs q.of)) values) q.body cells i)
        (run_stmts (body_scope functions after (field_types (struct_fields p.structs q.of)) values) (inlined_procedure p q).body cells m)
        (entry-placed (place p) n q.name) refl (body-placed n earlier q found values cells i m fewer)));
  }
    where
      own : IsRoutineOf functions before (field_types (struct_fields p.structs q.of)) n q (routine_at before n)
      own = routine-in p n q lawful.procedures found

      other : IsRoutineOf functions after (field_types (struct_fields p.structs q.of)) (place p n) (inlined_procedure p q)
          (routine_at after (place p n))
      other = routine-in (inlined p) (place p n) (inlined_procedure p q) (inlined_is_lawful p lawful).procedures
          (stays-at p n q found keep)

  past-placed : (n : ℕ) → length p.procedures ≤ n → Placed n
  past-placed n past =
      subst (λ r. RefinesRoutine (place p) r (routine_at after (place p n)))
      (sym (past-end before n (let long = routines-length p in omega (arith, long, past))))
      (subst (RefinesRoutine (place p) no_routine)
      (sym (past-end after (place p n)
      (let long = routines-length (inlined p) in
      let many = length-map (kept_from (stays p) 0 p.procedures) (inlined_procedure p) in
      let kept = kept-length (stays p) p.procedures n past in
      omega (arith, long, many, kept))))
      (none-refines (place p)))

  one-placed : (n : ℕ) → ((j : ℕ) → j < n → stays p j ≡ true → Placed j) → stays p n ≡ true → Placed n
  one-placed n earlier keep = by (slice_get p.procedures n) refl
    where
      by : (o : Option ProcedureTree) → slice_get p.procedures n ≡ o → Placed n
      by (Some q) found = procedure-placed n earlier keep q found
      by None found = past-placed n (none-past p.procedures n found)

  all-placed : (n k : ℕ) → k < n → stays p k ≡ true → Placed k
  all-placed zero k below keep = absurd (omega (arith, below))
  all-placed (suc n) k below keep = by (nat_lt k n) refl (all-placed n)
    where
      by : (b : Bool) → nat_lt k n ≡ b → ((j : ℕ) → j < n → stays p j ≡ true → Placed j) → Placed k
      by true is earlier = earlier k (grind (arith, nat_tests)) keep
      by false is earlier =
          let past : n ≤ k = grind (arith, nat_tests) in
          let same : k ≡ n = omega (arith, past, below) in
          one-placed k (λ j less stay. earlier j (omega (arith, less, same)) stay) keep

-- ---- The procedures with which a run begins

named-at : (p : ProgramTree) (k : ℕ) (q : ProcedureTree) (name : List ℕ) → AreDistinct (procedure_names p.procedures) →
    slice_get p.procedures k ≡ Some q → q.name ≡ name → procedure_named p name ≡ Some k
named-at p k q name distinct there is =
    let names = procedure_names p.procedures in
    let inside = slice_get_within p.procedures k q there in
    let many = length-map p.procedures (λ (x : ProcedureTree). x.name) in
    subst (λ m. position_from (λ (x : ProcedureTree). bytes_eq x.name m) 0 p.procedures ≡ Some (0 + k))
    (map-at (λ (x : ProcedureTree). x.name) p.procedures k q [] there ∙ is)
    (position_from-named (λ (x : ProcedureTree). x.name) p.procedures 0 k distinct (omega (arith, inside, many)))
    ∙ ap Some (zero-add k)

-- a procedure with which a run begins stays, and is found at its place
root-named : (p : ProgramTree) → IsLawful p → (k : ℕ) (q : ProcedureTree) (name : List ℕ) → slice_get p.procedures k ≡ Some q →
    q.name ≡ name → is_root_name name ≡ true → KeepsNamed (place p) (stays p) p (inlined p) name
root-named p lawful k q name there is root = record {
  kept = ap (λ o. stays p (unwrap_or o 0)) before ∙ keep;
  moved = ap (λ o. unwrap_or o 0) after ∙ sym (ap (λ o. place p (unwrap_or o 0)) before);
}
  where
    keep : stays p k ≡ true
    keep = root-stays p k (ap (λ (x : ProcedureTree). is_root_name x.name) (procedure-at p k q there) ∙ ap is_root_name is ∙ root)

    before : procedure_named p name ≡ Some k
    before = named-at p k q name (AreDistinct-back (pure_names p.pures) (procedure_names p.procedures) lawful.functions) there is

    after : procedure_named (inlined p) name ≡ Some (place p k)
    after = named-at (inlined p) (place p k) (inlined_procedure p q) name
        (AreDistinct-back (pure_names p.pures) (procedure_names (inlined p).procedures) (inlined_is_lawful p lawful).functions)
        (stays-at p k q there keep) is

pub inlined_refines : InlinedRefines
inlined_refines p lawful = procedures_refine (place p) (stays p) p (inlined p) (record {
  structs = refl;
  routines = λ k keep. all-placed p lawful (suc k) k (omega arith) keep;
  start = root-named p lawful lawful.root.start lawful.root.start_procedure (codes "root_start") lawful.root.start_there
      lawful.root.start_name refl;
  step = root-named p lawful lawful.root.step lawful.root.step_procedure (codes "root_step") lawful.root.step_there
      lawful.root.step_name refl;
})
