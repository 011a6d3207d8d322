-- Which bodies go where isn't a matter of lines.
use Rattle.std.specs.Prelude.{◌≡◌, ℕ, zero, suc, ◌==◌, not, Bool, true, false, ◌&&◌, ◌||◌, if◌then◌else◌, List, [], ◌∷◌, ◌++◌, map, flat_map, count_by, slice_index_or, Option, Some, None, option_map}
use Rattle.std.proofs.Common.{refl, sym, ap, ap₂, ◌∙◌}
use Rattle.c_syntax.specs.declared.code.Target.TheVariants.{Own, Child}
use Rattle.c_syntax.specs.Tree.{StmtTree, assign, assign_at, branch, call, StmtTrees, no_stmts, more_stmts, stmts_append, ProcedureTree, ProgramTree}
use Rattle.c_syntax.specs.Lawful.{stmt_without_lines, stmts_without_lines, pure_without_lines, procedure_without_lines, without_lines}
use Rattle.c_semantics.specs.Machine.{is_interface}
use Rattle.emit_pruned.specs.Needed.{has_number}
use Rattle.emit_inlined.specs.Inlined.{stmt_calls, stmts_calls, no_procedure, procedure_at, is_root_name, is_helper, params_of, helper_call, helpers_in, stays, moved_cond, moved_stmt, moved_stmts, kept_before, kept_from, itself, place, in_place_of, inlined_stmts, inlined_procedure, inlined}
use Rattle.emit_inlined.specs.Laws.{InliningMindsNoLines}

-- ---- Calls

mutual
  stmt-calls-aside : (x : StmtTree) → stmt_calls (stmt_without_lines x) ≡ stmt_calls x
  stmt-calls-aside (assign line f e) = refl
  stmt-calls-aside (assign_at line f index e) = refl
  stmt-calls-aside (branch line test on_true on_false) = ap₂ ◌++◌ (calls-aside on_true) (calls-aside on_false)
  stmt-calls-aside (call line k target es) = refl

  calls-aside : (xs : StmtTrees) → stmts_calls (stmts_without_lines xs) ≡ stmts_calls xs
  calls-aside no_stmts = refl
  calls-aside (more_stmts x xs) = ap₂ ◌++◌ (stmt-calls-aside x) (calls-aside xs)

all-calls-aside : (qs : List ProcedureTree) →
    flat_map (λ q. stmts_calls q.body) (map procedure_without_lines qs) ≡ flat_map (λ q. stmts_calls q.body) qs
all-calls-aside [] = refl
all-calls-aside (q ∷ qs) = ap₂ ◌++◌ (calls-aside q.body) (all-calls-aside qs)

at-aside : (qs : List ProcedureTree) (k : ℕ) →
    slice_index_or (map procedure_without_lines qs) k no_procedure ≡ procedure_without_lines (slice_index_or qs k no_procedure)
at-aside [] k = refl
at-aside (q ∷ qs) zero = refl
at-aside (q ∷ qs) (suc k) = at-aside qs k

-- ---- Moved code

module _ (param move : ℕ → ℕ) where
  mutual
    stmt-moved-aside : (x : StmtTree) → stmt_without_lines (moved_stmt param move x) ≡ moved_stmt param move (stmt_without_lines x)
    stmt-moved-aside (assign line f e) = refl
    stmt-moved-aside (assign_at line f index e) = refl
    stmt-moved-aside (branch line test on_true on_false) = λ i.
        branch 0 (moved_cond param move test) (moved-aside on_true i) (moved-aside on_false i)
    stmt-moved-aside (call line k target es) = refl

    moved-aside : (xs : StmtTrees) → stmts_without_lines (moved_stmts param move xs) ≡ moved_stmts param move (stmts_without_lines xs)
    moved-aside no_stmts = refl
    moved-aside (more_stmts x xs) = λ i. more_stmts (stmt-moved-aside x i) (moved-aside xs i)

append-aside : (xs ys : StmtTrees) →
    stmts_without_lines (stmts_append xs ys) ≡ stmts_append (stmts_without_lines xs) (stmts_without_lines ys)
append-aside no_stmts ys = refl
append-aside (more_stmts x xs) ys = ap (more_stmts (stmt_without_lines x)) (append-aside xs ys)

-- ---- Programs

module _ (p : ProgramTree) where
  abbrev bare : ProgramTree
  bare = without_lines p

  helper-aside : (k : ℕ) → is_helper bare k ≡ is_helper p k
  helper-aside k = λ i.
      (at-aside p.procedures k i).private && (count_by (λ j. j == k) (all-calls-aside p.procedures i) == 1)
      && not (is_interface (at-aside p.procedures k i).name || is_root_name (at-aside p.procedures k i).name)

  call-aside : (s : StmtTree) → helper_call bare (stmt_without_lines s) ≡ helper_call p s
  call-aside (assign line f e) = refl
  call-aside (assign_at line f index e) = refl
  call-aside (branch line test on_true on_false) = refl
  call-aside (call line k Own values) = λ i. if helper-aside k i then option_map (λ ks. (k, ks)) (params_of values) else None
  call-aside (call line k (Child f) values) = refl

  helpers-aside : (ss : StmtTrees) → helpers_in bare (stmts_without_lines ss) ≡ helpers_in p ss
  helpers-aside no_stmts = refl
  helpers-aside (more_stmts s ss) = λ i.
      elim (call-aside s i) [ Some found ↦ found.0 ∷ helpers-aside ss i | None ↦ helpers-aside ss i ]

  all-helpers-aside : (qs : List ProcedureTree) →
      flat_map (λ q. if is_interface q.name then helpers_in bare q.body else []) (map procedure_without_lines qs)
      ≡ flat_map (λ q. if is_interface q.name then helpers_in p q.body else []) qs
  all-helpers-aside [] = refl
  all-helpers-aside (q ∷ qs) = λ i. (if is_interface q.name then helpers-aside q.body i else []) ++ all-helpers-aside qs i

  stays-aside : stays bare ≡ stays p
  stays-aside = λ i k. not (has_number (all-helpers-aside p.procedures i) k)

  place-aside : place bare ≡ place p
  place-aside = λ i. kept_before (stays-aside i)

  in-place-aside : (s : StmtTree) → stmts_without_lines (in_place_of p s) ≡ in_place_of bare (stmt_without_lines s)
  in-place-aside s =
      by (helper_call p s)
      ∙ sym (λ i. elim (call-aside s i) [
        | Some found ↦
            moved_stmts (λ k. slice_index_or found.1 k 0) (place-aside i) (at-aside p.procedures found.0 i).body
        | None ↦ more_stmts (moved_stmt itself (place-aside i) (stmt_without_lines s)) no_stmts
      ])
    where
      by : (o : Option (ℕ × List ℕ)) →
          stmts_without_lines (elim o [
            | Some found ↦ moved_stmts (λ k. slice_index_or found.1 k 0) (place p) (procedure_at p found.0).body
            | None ↦ more_stmts (moved_stmt itself (place p) s) no_stmts
          ])
          ≡ elim o [
            | Some found ↦
                moved_stmts (λ k. slice_index_or found.1 k 0) (place p) (stmts_without_lines (procedure_at p found.0).body)
            | None ↦ more_stmts (moved_stmt itself (place p) (stmt_without_lines s)) no_stmts
          ]
      by (Some found) = moved-aside (λ k. slice_index_or found.1 k 0) (place p) (procedure_at p found.0).body
      by None = λ i. more_stmts (stmt-moved-aside itself (place p) s i) no_stmts

  inlined-aside : (ss : StmtTrees) → stmts_without_lines (inlined_stmts p ss) ≡ inlined_stmts bare (stmts_without_lines ss)
  inlined-aside no_stmts = refl
  inlined-aside (more_stmts s ss) =
      append-aside (in_place_of p s) (inlined_stmts p ss) ∙ (λ i. stmts_append (in-place-aside s i) (inlined-aside ss i))

  body-aside : (q : ProcedureTree) (b : Bool) →
      stmts_without_lines (if b then inlined_stmts p q.body else moved_stmts itself (place p) q.body)
      ≡ (if b then inlined_stmts bare (stmts_without_lines q.body) else moved_stmts itself (place bare) (stmts_without_lines q.body))
  body-aside q true = inlined-aside q.body
  body-aside q false =
      moved-aside itself (place p) q.body ∙ ap (λ move. moved_stmts itself move (stmts_without_lines q.body)) (sym place-aside)

  procedure-aside : (q : ProcedureTree) →
      procedure_without_lines (inlined_procedure p q) ≡ inlined_procedure bare (procedure_without_lines q)
  procedure-aside q = λ i. record {
    name = q.name;
    private = q.private;
    of = q.of;
    params = q.params;
    body = body-aside q (is_interface q.name) i;
  }

  kept-aside : (keeps : ℕ → Bool) (qs : List ProcedureTree) (n : ℕ) →
      map procedure_without_lines (map (inlined_procedure p) (kept_from keeps n qs))
      ≡ map (inlined_procedure bare) (kept_from keeps n (map procedure_without_lines qs))
  kept-aside keeps [] n = refl
  kept-aside keeps (q ∷ qs) n = by (keeps n) (kept-aside keeps qs (suc n))
    where
      by : (b : Bool) →
          map procedure_without_lines (map (inlined_procedure p) (kept_from keeps (suc n) qs))
          ≡ map (inlined_procedure bare) (kept_from keeps (suc n) (map procedure_without_lines qs)) →
          map procedure_without_lines (map (inlined_procedure p) ((if b then q ∷ [] else []) ++ kept_from keeps (suc n) qs))
          ≡ map (inlined_procedure bare)
          ((if b then procedure_without_lines q ∷ [] else []) ++ kept_from keeps (suc n) (map procedure_without_lines qs))
      by true rest = λ i. procedure-aside q i ∷ rest i
      by false rest = rest

  program-aside : without_lines (inlined p) ≡ inlined bare
  program-aside = λ i. record {
    pures = map pure_without_lines p.pures;
    structs = p.structs;
    procedures = (kept-aside (stays p) p.procedures 0
        ∙ (λ j. map (inlined_procedure bare) (kept_from (sym stays-aside j) 0 (map procedure_without_lines p.procedures)))) i;
  }

pub inlining_minds_no_lines : InliningMindsNoLines
inlining_minds_no_lines p q same = program-aside p ∙ ap inlined same ∙ sym (program-aside q)
