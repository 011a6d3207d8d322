-- What is fused isn't a matter of lines.
use Rattle.std.specs.Prelude.{◌≡◌, ℕ, ◌&&◌, Bool, true, false, if◌then◌else◌, List, [], ◌∷◌, map}
use Rattle.std.proofs.Common.{refl, sym, ap, ◌∙◌}
use Rattle.c_syntax.specs.Tree.{CondTree, StmtTree, assign, assign_at, branch, call, StmtTrees, no_stmts, more_stmts, ProcedureTree, ProgramTree}
use Rattle.c_syntax.specs.Lawful.{stmt_without_lines, stmts_without_lines, pure_without_lines, procedure_without_lines, without_lines}
use Rattle.emit_fused.specs.Same.{same_cond, is_not_of, opposite}
use Rattle.emit_fused.specs.Kept.{cond_fields, stmt_keeps, stmts_keep, keep_test}
use Rattle.emit_fused.specs.Fused.{put_before, joined, where_fails, fused_stmt, fused_stmts, fused_procedure, fused}
use Rattle.emit_fused.specs.Laws.{FusingMindsNoLines}

-- ---- What is kept

module _ (fields : List ℕ) where
  mutual
    stmt-keeps : (x : StmtTree) → stmt_keeps fields (stmt_without_lines x) ≡ stmt_keeps fields x
    stmt-keeps (assign line f e) = refl
    stmt-keeps (assign_at line f index e) = refl
    stmt-keeps (branch line test a b) =
        let one = stmts-keep a in
        let other = stmts-keep b in
        (λ i. one i && other i)
    stmt-keeps (call line k target es) = refl

    stmts-keep : (xs : StmtTrees) → stmts_keep fields (stmts_without_lines xs) ≡ stmts_keep fields xs
    stmts-keep no_stmts = refl
    stmts-keep (more_stmts x xs) =
        let one = stmt-keeps x in
        let rest = stmts-keep xs in
        (λ i. one i && rest i)

-- ---- Neighbours

choice : (b : Bool) (xs ys us vs : StmtTrees) → stmts_without_lines xs ≡ us → stmts_without_lines ys ≡ vs →
    stmts_without_lines (if b then xs else ys) ≡ (if b then us else vs)
choice true xs ys us vs one other = one
choice false xs ys us vs one other = other

neighbours : (line later : ℕ) (test other : CondTree) (a b c d rest : StmtTrees) →
    ((ys : StmtTrees) → stmts_without_lines (joined a ys) ≡ joined (stmts_without_lines a) (stmts_without_lines ys)) →
    ((ys : StmtTrees) → stmts_without_lines (joined b ys) ≡ joined (stmts_without_lines b) (stmts_without_lines ys)) →
    stmts_without_lines (put_before (branch line test a b) (more_stmts (branch later other c d) rest))
    ≡ put_before (stmt_without_lines (branch line test a b)) (stmts_without_lines (more_stmts (branch later other c d) rest))
neighbours line later test other a b c d rest with_a with_b =
    choice (keep_test test a b && same_cond test other) straight crossed_or straight_there (crossed_there (keep_test test a b))
    (λ i. more_stmts (branch 0 test (with_a c i) (with_b d i)) rest_there)
    (choice (keep_test test a b && is_not_of other test) crossed turned_or
    (more_stmts (branch 0 test (joined a_there d_there) (joined b_there c_there)) rest_there) (turned_there (keep_test test a b))
    (λ i. more_stmts (branch 0 test (with_a d i) (with_b c i)) rest_there)
    (choice (keep_test test a b && is_not_of test other) turned apart
    (more_stmts (branch 0 other (joined b_there c_there) (joined a_there d_there)) rest_there) apart_there
    (λ i. more_stmts (branch 0 other (with_b c i) (with_a d i)) rest_there) refl))
    ∙ (λ i. if kept i && same_cond test other then straight_there else crossed_there (kept i))
  where
    a_there : StmtTrees
    a_there = stmts_without_lines a

    b_there : StmtTrees
    b_there = stmts_without_lines b

    c_there : StmtTrees
    c_there = stmts_without_lines c

    d_there : StmtTrees
    d_there = stmts_without_lines d

    rest_there : StmtTrees
    rest_there = stmts_without_lines rest

    kept : keep_test test a b ≡ keep_test test a_there b_there
    kept =
        let one = stmts-keep (cond_fields test) a in
        let other = stmts-keep (cond_fields test) b in
        sym (λ i. one i && other i)

    apart : StmtTrees
    apart = more_stmts (branch line test a b) (more_stmts (branch later other c d) rest)

    straight : StmtTrees
    straight = more_stmts (branch line test (joined a c) (joined b d)) rest

    crossed : StmtTrees
    crossed = more_stmts (branch line test (joined a d) (joined b c)) rest

    turned : StmtTrees
    turned = more_stmts (branch line other (joined b c) (joined a d)) rest

    turned_or : StmtTrees
    turned_or = if keep_test test a b && is_not_of test other then turned else apart

    crossed_or : StmtTrees
    crossed_or = if keep_test test a b && is_not_of other test then crossed else turned_or

    apart_there : StmtTrees
    apart_there = more_stmts (branch 0 test a_there b_there) (more_stmts (branch 0 other c_there d_there) rest_there)

    straight_there : StmtTrees
    straight_there = more_stmts (branch 0 test (joined a_there c_there) (joined b_there d_there)) rest_there

    turned_there : Bool → StmtTrees
    turned_there k = if k && is_not_of test other
        then more_stmts (branch 0 other (joined b_there c_there) (joined a_there d_there)) rest_there
        else apart_there

    crossed_there : Bool → StmtTrees
    crossed_there k = if k && is_not_of other test
        then more_stmts (branch 0 test (joined a_there d_there) (joined b_there c_there)) rest_there
        else turned_there k

mutual
  placed : (x : StmtTree) (xs : StmtTrees) →
      stmts_without_lines (put_before x xs) ≡ put_before (stmt_without_lines x) (stmts_without_lines xs)
  placed (branch line test a b) (more_stmts (branch later other c d) rest) =
      neighbours line later test other a b c d rest (joins a) (joins b)
  placed x xs = refl

  joins : (xs ys : StmtTrees) →
      stmts_without_lines (joined xs ys) ≡ joined (stmts_without_lines xs) (stmts_without_lines ys)
  joins no_stmts ys = refl
  joins (more_stmts x xs) ys = placed x (joined xs ys) ∙ ap (put_before (stmt_without_lines x)) (joins xs ys)

fails : (t : CondTree) (xs : StmtTrees) → stmts_without_lines (where_fails t xs) ≡ where_fails t (stmts_without_lines xs)
fails t (more_stmts (branch line other x no_stmts) no_stmts) =
    choice (opposite t other) x (more_stmts (branch line other x no_stmts) no_stmts) (stmts_without_lines x)
    (more_stmts (branch 0 other (stmts_without_lines x) no_stmts) no_stmts) refl refl
fails t xs = refl

-- ---- Statements and programs

mutual
  stmt-fused : (x : StmtTree) → stmt_without_lines (fused_stmt x) ≡ fused_stmt (stmt_without_lines x)
  stmt-fused (assign line f e) = refl
  stmt-fused (assign_at line f index e) = refl
  stmt-fused (branch line test a b) =
      let one = stmts-fused a in
      let other = fails test (fused_stmts b) ∙ ap (where_fails test) (stmts-fused b) in
      (λ i. branch 0 test (one i) (other i))
  stmt-fused (call line k target es) = refl

  stmts-fused : (xs : StmtTrees) → stmts_without_lines (fused_stmts xs) ≡ fused_stmts (stmts_without_lines xs)
  stmts-fused no_stmts = refl
  stmts-fused (more_stmts x xs) =
      let one = stmt-fused x in
      let rest = stmts-fused xs in
      placed (fused_stmt x) (fused_stmts xs) ∙ (λ i. put_before (one i) (rest i))

procedures-fused : (qs : List ProcedureTree) →
    map procedure_without_lines (map fused_procedure qs) ≡ map fused_procedure (map procedure_without_lines qs)
procedures-fused [] = refl
procedures-fused (q ∷ qs) =
    let body = stmts-fused q.body in
    let rest = procedures-fused qs in
    (λ i. record { name = q.name; private = q.private; of = q.of; params = q.params; body = body i } ∷ rest i)

program-fused : (p : ProgramTree) → without_lines (fused p) ≡ fused (without_lines p)
program-fused p = λ i. record {
  pures = map pure_without_lines p.pures;
  structs = p.structs;
  procedures = procedures-fused p.procedures i;
}

pub fusing_minds_no_lines : FusingMindsNoLines
fusing_minds_no_lines p q same = program-fused p ∙ ap fused same ∙ sym (program-fused q)
