-- A choice, step by step.
use Rattle.std.proofs.Common.{◌≡◌, ◌∙◌, ap, ℕ, Bool, Ok}
use Rattle.c_syntax.specs.Tree.{CondTree, StmtTree, StmtTrees}
use Rattle.c_grammar.specs.Written.{WrittenCond, WrittenStmt, WrittenStmts}
use Rattle.base_core.specs.Results.{◌>>=◌}
use Rattle.c_rules.specs.Resolve.{Names, resolve_cond, resolve_stmt, resolve_stmts}
use Rattle.c_grammar.specs.declared.fault.ReadCFault.{ReadCFault}
use Rattle.c_grammar.specs.WrittenTrees.{choice_of}
use Rattle.c_resolver.specs.Choices.{resolve_second}
use Rattle.c_rules.specs.Gives.{Fails}
use Rattle.c_rules.proofs.lemmas.Each.{bind_ok}
use Rattle.c_rules.proofs.lemmas.Fails.{fails-bind}
use Rattle.c_resolver.proofs.Rows.{choice-second}

module _ (names : Names) (w : WrittenStmt) (line : ℕ) (test : WrittenCond) (first : WrittenStmts) (has_else : Bool)
    (second : WrittenStmts) (is : w ≡ choice_of line test first has_else second) (c : CondTree)
    (tested : resolve_cond names test ≡ Ok c) where
  behind_test : resolve_stmt names w
      ≡ (resolve_stmts names first >>= λ xs. resolve_second names has_else second
      >>= λ ys. Ok (StmtTree.branch line c xs ys))
  behind_test = ap (resolve_stmt names) is ∙ choice-second names line test first has_else second
      ∙ bind_ok (resolve_cond names test) (λ d. resolve_stmts names first >>= λ xs. resolve_second names has_else second
      >>= λ ys. Ok (StmtTree.branch line d xs ys)) c tested

  pub fails_first : (e : ReadCFault) → Fails e (resolve_stmts names first) → Fails e (resolve_stmt names w)
  fails_first e h =
      fails-bind e (resolve_stmts names first) (λ xs. resolve_second names has_else second
      >>= λ ys. Ok (StmtTree.branch line c xs ys)) (resolve_stmt names w) behind_test h

  module _ (xs : StmtTrees) (resolved : resolve_stmts names first ≡ Ok xs) where
    behind_first : resolve_stmt names w ≡ (resolve_second names has_else second >>= λ ys. Ok (StmtTree.branch line c xs ys))
    behind_first =
        behind_test
        ∙ bind_ok (resolve_stmts names first) (λ zs. resolve_second names has_else second
        >>= λ ys. Ok (StmtTree.branch line c zs ys)) xs resolved

    pub fails_second : (e : ReadCFault) → Fails e (resolve_second names has_else second) → Fails e (resolve_stmt names w)
    fails_second e h =
        fails-bind e (resolve_second names has_else second) (λ ys. Ok (StmtTree.branch line c xs ys))
        (resolve_stmt names w) behind_first h

    pub gives_choice : (ys : StmtTrees) → resolve_second names has_else second ≡ Ok ys →
        resolve_stmt names w ≡ Ok (StmtTree.branch line c xs ys)
    gives_choice ys h = behind_first ∙ bind_ok (resolve_second names has_else second) (λ zs. Ok (StmtTree.branch line c xs zs)) ys h
