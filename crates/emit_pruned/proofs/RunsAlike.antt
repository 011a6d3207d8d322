-- A program with some of its pure functions does what it does with all, where those that are called are kept.
use Rattle.std.specs.Prelude.{◌≡◌, ℕ, ◌+◌, ◌<◌, Bool, true, List, [], ◌∷◌, map, length, Some, unwrap_or, codes, bytes_eq, ℤ, if◌then◌else◌}
use Rattle.std.specs.List.{AllByRecursion, position_from}
use Rattle.std.proofs.Common.{refl, ap, subst, ◌∙◌, arith, zero-add}
use Rattle.c_syntax.specs.Tree.{ProcedureTree, ProgramTree}
use Rattle.c_syntax.specs.RootFields.{procedure_named}
use Rattle.c_semantics.specs.Cells.{Cells}
use Rattle.c_semantics.specs.Values.{functions_of}
use Rattle.c_semantics.specs.Machine.{Outcome, done, stuck, at_path, routine_at, program_routines, call_from_outside}
use Rattle.c_semantics.specs.Rows.{Rows, rows_after, rows_from, rows_of_start, zero_root, start_run, step_run}
use Rattle.emit_pruned.specs.Calls.{stmts_functions, procedures_functions}
use Rattle.emit_pruned.specs.Pruned.{renumbered_procedure, kept_before, kept_program}
use Rattle.emit_pruned.specs.Laws.{RunsAs}
use Rattle.emit_pruned.proofs.lemmas.Numbers.{all-parts, each-then}
use Rattle.emit_pruned.proofs.lemmas.SameRuns.{Agree, routines-same}
use Rattle.emit_pruned.proofs.KeptFunctions.{AreKept, AreClosed, functions-kept}

-- what a program's pure functions and procedures call is kept
pub record KeepsCalled (keeps : ℕ → Bool) (p : ProgramTree) : Type 0 where
  pub pures : AreClosed keeps 0 p.pures
  pub procedures : AllByRecursion (λ j. (j < length p.pures) × (keeps j ≡ true)) (procedures_functions p.procedures)

place-same : (place : ℕ → ℕ) (name : List ℕ) (n : ℕ) (qs : List ProcedureTree) →
    position_from (λ q. bytes_eq q.name name) n (map (renumbered_procedure place) qs) ≡ position_from (λ q. bytes_eq q.name name) n qs
place-same place name n [] = refl
place-same place name n (q ∷ qs) = ap (λ rest. if bytes_eq q.name name then Some n else rest) (place-same place name (n + 1) qs)

module _ (keeps : ℕ → Bool) (p : ProgramTree) where
  abbrev q : ProgramTree
  q = kept_program keeps p

  pub named-same : (name : List ℕ) → procedure_named q name ≡ procedure_named p name
  named-same name = place-same (kept_before keeps) name 0 p.procedures

  after-same : (o : Outcome) (go : Cells → Rows) → rows_after q o go ≡ rows_after p o go
  after-same (done a) go = refl
  after-same (stuck at cells) go = refl

  module _ (called : KeepsCalled keeps p) where
    functions : AreKept keeps (length p.pures) (functions_of [] p.pures) (functions_of [] q.pures)
    functions =
        subst (λ n. AreKept keeps n (functions_of [] p.pures) (functions_of [] q.pures)) (zero-add (length p.pures))
        (functions-kept keeps p.pures 0 [] []
        (record { count = refl; kept_count = refl; same = λ k below keep. absurd (omega arith) }) called.pures)

    pub same-routines : program_routines q ≡ program_routines p
    same-routines =
        let agree = Agree (kept_before keeps) (functions_of [] p.pures) (functions_of [] q.pures) in
        routines-same (kept_before keeps) (functions_of [] p.pures) (functions_of [] q.pures) p.structs [] p.procedures
        (all-parts agree (λ (x : ProcedureTree). stmts_functions x.body) p.procedures
        (each-then (λ j. (j < length p.pures) × (keeps j ≡ true)) agree (procedures_functions p.procedures)
        (λ j is. functions.same j is.0 is.1) called.procedures))

    call-same : (k : ℕ) (path : List ℕ) (values : List ℤ) (cells : Cells) →
        call_from_outside q k path values cells ≡ call_from_outside p k path values cells
    call-same k path values cells = λ i. at_path path (λ inner. (routine_at (same-routines i) k).run values inner 0) cells

    start-same : start_run q ≡ start_run p
    start-same = (λ i. call_from_outside q (unwrap_or (named-same (codes "root_start") i) 0) [] [] (zero_root p))
        ∙ call-same (unwrap_or (procedure_named p (codes "root_start")) 0) [] [] (zero_root p)

    step-same : (row : List ℤ) (cells : Cells) → step_run q row cells ≡ step_run p row cells
    step-same row cells = (λ i. call_from_outside q (unwrap_or (named-same (codes "root_step") i) 0) [] row cells)
        ∙ call-same (unwrap_or (procedure_named p (codes "root_step")) 0) [] row cells

    from-same : (trace : List (List ℤ)) → rows_from q trace ≡ rows_from p trace
    from-same [] = refl
    from-same (row ∷ trace) = λ i cells.
        (after-same (step_run q row cells) (rows_from q trace) ∙ (λ j. rows_after p (step-same row cells j) (from-same trace j))) i

    of_start-same : (o : Outcome) (trace : List (List ℤ)) → rows_of_start q o trace ≡ rows_of_start p o trace
    of_start-same (done a) trace = ap (λ go. go a.cells) (from-same trace)
    of_start-same (stuck at cells) trace = refl

    pub runs-as : RunsAs q p
    runs-as = record {
      calls = call-same;
      start = start-same;
      rows = λ trace. of_start-same (start_run q) trace ∙ ap (λ o. rows_of_start p o trace) start-same;
    }
