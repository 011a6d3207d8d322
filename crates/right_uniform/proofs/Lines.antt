-- Code without lines: lines are left out once, and whether it is renamed before or after.
use Rattle.std.specs.Prelude.{◌≡◌, ℕ, List, [], ◌∷◌, map}
use Rattle.std.proofs.Common.{refl, ap}
use Rattle.c_syntax.specs.declared.code.Leaf.{Leaf}
use Rattle.c_syntax.specs.Tree.{StmtTree, assign, assign_at, branch, call, StmtTrees, no_stmts, more_stmts, PureTree, ProcedureTree, ProgramTree}
use Rattle.c_syntax.specs.Lawful.{stmt_without_lines, stmts_without_lines, pure_without_lines, procedure_without_lines, without_lines}
use Rattle.c_renaming.specs.Renamed.{renamed_cond, renamed_stmt, renamed_stmts}

-- ---- Left out once

mutual
  stmt-once : (s : StmtTree) → stmt_without_lines s ≡ stmt_without_lines (stmt_without_lines s)
  stmt-once (assign line f e) = refl
  stmt-once (assign_at line f index e) = refl
  stmt-once (branch line test a b) = λ i. branch 0 test (stmts-once a i) (stmts-once b i)
  stmt-once (call line k target es) = refl

  stmts-once : (ss : StmtTrees) → stmts_without_lines ss ≡ stmts_without_lines (stmts_without_lines ss)
  stmts-once no_stmts = refl
  stmts-once (more_stmts s ss) = λ i. more_stmts (stmt-once s i) (stmts-once ss i)

pures-once : (fs : List PureTree) → map pure_without_lines fs ≡ map pure_without_lines (map pure_without_lines fs)
pures-once [] = refl
pures-once (f ∷ fs) = ap (λ rest. pure_without_lines f ∷ rest) (pures-once fs)

procedures-once : (qs : List ProcedureTree) →
    map procedure_without_lines qs ≡ map procedure_without_lines (map procedure_without_lines qs)
procedures-once [] = refl
procedures-once (q ∷ qs) =
    let body = stmts-once q.body in
    let rest = procedures-once qs in
    (λ i. record { name = q.name; private = q.private; of = q.of; params = q.params; body = body i } ∷ rest i)

pub lines-once : (p : ProgramTree) → without_lines p ≡ without_lines (without_lines p)
lines-once p = λ i. record { pures = pures-once p.pures i; structs = p.structs; procedures = procedures-once p.procedures i }

-- ---- Renamed

module _ (leaf : Leaf → Leaf) (function procedure : ℕ → ℕ) where
  mutual
    stmt-renamed : (s : StmtTree) →
        stmt_without_lines (renamed_stmt leaf function procedure s) ≡ renamed_stmt leaf function procedure (stmt_without_lines s)
    stmt-renamed (assign line f e) = refl
    stmt-renamed (assign_at line f index e) = refl
    stmt-renamed (branch line test a b) = λ i.
        branch 0 (renamed_cond leaf function procedure test) (stmts-renamed a i) (stmts-renamed b i)
    stmt-renamed (call line k target es) = refl

    pub stmts-renamed : (ss : StmtTrees) →
        stmts_without_lines (renamed_stmts leaf function procedure ss) ≡ renamed_stmts leaf function procedure (stmts_without_lines ss)
    stmts-renamed no_stmts = refl
    stmts-renamed (more_stmts s ss) = λ i. more_stmts (stmt-renamed s i) (stmts-renamed ss i)
