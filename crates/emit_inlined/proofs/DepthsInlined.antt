-- The depths of the program without helpers: a helper's body is no deeper than it was.
use Rattle.std.specs.Prelude.{◌≡◌, ℕ, zero, suc, ◌≤◌, max, Bool, true, false, if◌then◌else◌, List, [], ◌∷◌, ◌++◌, map, Option, Some, None, slice_index_or}
use Rattle.std.specs.List.{AllByRecursion}
use Rattle.std.proofs.Common.{refl, arith}
use Rattle.c_syntax.specs.Tree.{StmtTree, StmtTrees, no_stmts, more_stmts, stmts_append, ProcedureTree, ProgramTree}
use Rattle.c_syntax.specs.Limits.{expr_limit, stmt_limit, stmt_depth, stmts_depth, stmt_exprs_depth, stmts_exprs_depth, ProcedureFits}
use Rattle.c_semantics.specs.Machine.{is_interface}
use Rattle.c_renaming.proofs.lemmas.Depths.{stmt-depth, stmts-depth, stmt-exprs-depth, stmts-exprs-depth}
use Rattle.emit_inlined.specs.Inlined.{no_procedure, procedure_at, helper_call, stays, moved_stmt, moved_stmts, kept_from, itself, moved_leaf, place, inlined_stmts, inlined_procedure, inlined}

-- a size of statements, which is that of the largest and stays with other parameters and places
record IsSize (one : StmtTree → ℕ) (size : StmtTrees → ℕ) : Type 0 where
  nothing : size no_stmts ≡ 0
  more : (x : StmtTree) (xs : StmtTrees) → size (more_stmts x xs) ≡ max (one x) (size xs)
  moved_one : (param move : ℕ → ℕ) (x : StmtTree) → one (moved_stmt param move x) ≡ one x
  moved_all : (param move : ℕ → ℕ) (xs : StmtTrees) → size (moved_stmts param move xs) ≡ size xs

module _ (one : StmtTree → ℕ) (size : StmtTrees → ℕ) (is : IsSize one size) (limit : ℕ) (p : ProgramTree)
    (bodies : (k : ℕ) → size (procedure_at p k).body ≤ limit) where
  size-append : (xs ys : StmtTrees) → size xs ≤ limit → size ys ≤ limit → size (stmts_append xs ys) ≤ limit
  size-append no_stmts ys first second = second
  size-append (more_stmts x xs) ys first second =
      let own = is.more x xs in
      let all = is.more x (stmts_append xs ys) in
      let rest = size-append xs ys (omega (arith, own, first)) second in
      omega (arith, own, all, rest, first)

  inlined-size : (ss : StmtTrees) → size ss ≤ limit → size (inlined_stmts p ss) ≤ limit
  inlined-size no_stmts within = within
  inlined-size (more_stmts s ss) within =
      by (helper_call p s) (inlined-size ss (let own = is.more s ss in omega (arith, own, within)))
    where
      by : (o : Option (ℕ × List ℕ)) → size (inlined_stmts p ss) ≤ limit →
          size (stmts_append (elim o [
            | Some call_of ↦ moved_stmts (λ k. slice_index_or call_of.1 k 0) (place p) (procedure_at p call_of.0).body
            | None ↦ more_stmts (moved_stmt itself (place p) s) no_stmts
          ]) (inlined_stmts p ss)) ≤ limit
      by (Some call_of) rest =
          let body = moved_stmts (λ k. slice_index_or call_of.1 k 0) (place p) (procedure_at p call_of.0).body in
          let same = is.moved_all (λ k. slice_index_or call_of.1 k 0) (place p) (procedure_at p call_of.0).body in
          let own = bodies call_of.0 in
          size-append body (inlined_stmts p ss) (omega (arith, same, own)) rest
      by None rest =
          let own = is.more s ss in
          let all = is.more (moved_stmt itself (place p) s) (inlined_stmts p ss) in
          let same = is.moved_one itself (place p) s in
          omega (arith, own, all, same, within, rest)

  body-size : (q : ProcedureTree) → size q.body ≤ limit → size (inlined_procedure p q).body ≤ limit
  body-size q within = by (is_interface q.name)
    where
      by : (b : Bool) → size (if b then inlined_stmts p q.body else moved_stmts itself (place p) q.body) ≤ limit
      by true = inlined-size q.body within
      by false = let same = is.moved_all itself (place p) q.body in omega (arith, same, within)

nesting : IsSize stmt_depth stmts_depth
nesting = record {
  nothing = refl;
  more = λ x xs. refl;
  moved_one = λ param move x. stmt-depth (moved_leaf param move) (λ k. k) move x;
  moved_all = λ param move xs. stmts-depth (moved_leaf param move) (λ k. k) move xs;
}

expressions : IsSize stmt_exprs_depth stmts_exprs_depth
expressions = record {
  nothing = refl;
  more = λ x xs. refl;
  moved_one = λ param move x. stmt-exprs-depth (moved_leaf param move) (λ k. k) move x;
  moved_all = λ param move xs. stmts-exprs-depth (moved_leaf param move) (λ k. k) move xs;
}

-- ---- Procedures

fits-at : (ps : List ProcedureTree) (k : ℕ) → AllByRecursion ProcedureFits ps → ProcedureFits (slice_index_or ps k no_procedure)
fits-at [] k h = record { params = omega arith; statements = omega arith; expressions = omega arith }
fits-at (q ∷ qs) zero h = h.0
fits-at (q ∷ qs) (suc k) h = fits-at qs k h.1

fits-kept : (p : ProgramTree) (bodies : (k : ℕ) → ProcedureFits (procedure_at p k)) (ps : List ProcedureTree) (n : ℕ) →
    AllByRecursion ProcedureFits ps → AllByRecursion ProcedureFits (map (inlined_procedure p) (kept_from (stays p) n ps))
fits-kept p bodies [] n h = tt
fits-kept p bodies (q ∷ qs) n h = by (stays p n) (fits-kept p bodies qs (suc n) h.1)
  where
    own : ProcedureFits (inlined_procedure p q)
    own = record {
      params = h.0.params;
      statements = body-size stmt_depth stmts_depth nesting stmt_limit p (λ k. (bodies k).statements) q h.0.statements;
      expressions = body-size stmt_exprs_depth stmts_exprs_depth expressions expr_limit p (λ k. (bodies k).expressions) q h.0.expressions;
    }

    by : (b : Bool) → AllByRecursion ProcedureFits (map (inlined_procedure p) (kept_from (stays p) (suc n) qs)) →
        AllByRecursion ProcedureFits (map (inlined_procedure p) ((if b then q ∷ [] else []) ++ kept_from (stays p) (suc n) qs))
    by true rest = (own, rest)
    by false rest = rest

pub procedures-fit : (p : ProgramTree) → AllByRecursion ProcedureFits p.procedures → AllByRecursion ProcedureFits (inlined p).procedures
procedures-fit p h = fits-kept p (λ k. fits-at p.procedures k h) p.procedures 0 h
