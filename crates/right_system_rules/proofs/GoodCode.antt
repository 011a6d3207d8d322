-- Code that keeps the rules of C where it is moved, calls procedures of children alone, and is shallow.
use Rattle.std.specs.Prelude.{◌≡◌, ℕ, ◌<◌, ◌≤◌, List, [], ◌∷◌}
use Rattle.std.specs.List.{AllByRecursion}
use Rattle.std.proofs.Common.{sym, subst, arith}
use Rattle.c_syntax.specs.Tree.{StmtTrees, no_stmts, more_stmts, stmts_append}
use Rattle.c_syntax.specs.Lawful.{Reach, AreLawfulStmts}
use Rattle.c_syntax.specs.Limits.{stmts_depth, stmts_exprs_depth}
use Rattle.emit_prelude.specs.Rules.{IsPrelude}
use Rattle.emit_row_code.specs.LawfulStatements.{AreShallow}
use Rattle.emit_shape.specs.Relocation.{Relocation, moved_number, moved_stmts}
use Rattle.emit_system_spec.specs.EmittedCode.{joined}
use Rattle.right_system_rules.proofs.Moves.{Calls, CallsNothing, calls-weaker, calls-append, stmts-stay, append-moves}

module _ (m : Relocation) (reach : Reach) (limit : ℕ) where
  -- moved it is lawful after the prelude, it calls procedures in front of a limit, and it is shallow
  pub record IsGood (code : StmtTrees) : Type 0 where
    pub lawful : IsPrelude reach.pures → AreLawfulStmts reach (moved_stmts m code)
    pub calls : Calls (λ k. moved_number m k < limit) code
    pub statements : stmts_depth code ≤ 3
    pub expressions : stmts_exprs_depth code ≤ 40

  pub good-none : IsGood no_stmts
  good-none = record { lawful = λ prelude. tt; calls = tt; statements = omega arith; expressions = omega arith }

  lawful-append : (first later : StmtTrees) → AreLawfulStmts reach first → AreLawfulStmts reach later →
      AreLawfulStmts reach (stmts_append first later)
  lawful-append no_stmts later p q = q
  lawful-append (more_stmts s ss) later p q = (p.0, lawful-append ss later p.1 q)

  depth-append : (first later : StmtTrees) (n : ℕ) → stmts_depth first ≤ n → stmts_depth later ≤ n →
      stmts_depth (stmts_append first later) ≤ n
  depth-append no_stmts later n p q = q
  depth-append (more_stmts s ss) later n p q = let rest = depth-append ss later n (omega (arith, p)) q in omega (arith, p, rest)

  exprs-append : (first later : StmtTrees) (n : ℕ) → stmts_exprs_depth first ≤ n → stmts_exprs_depth later ≤ n →
      stmts_exprs_depth (stmts_append first later) ≤ n
  exprs-append no_stmts later n p q = q
  exprs-append (more_stmts s ss) later n p q = let rest = exprs-append ss later n (omega (arith, p)) q in omega (arith, p, rest)

  pub good-append : (first later : StmtTrees) → IsGood first → IsGood later → IsGood (stmts_append first later)
  good-append first later p q = record {
    lawful = λ prelude. subst (AreLawfulStmts reach) (sym (append-moves m first later))
        (lawful-append (moved_stmts m first) (moved_stmts m later) (p.lawful prelude) (q.lawful prelude));
    calls = calls-append (λ k. moved_number m k < limit) first later p.calls q.calls;
    statements = depth-append first later 3 p.statements q.statements;
    expressions = exprs-append first later 40 p.expressions q.expressions;
  }

  pub good-joined : (codes : List StmtTrees) → AllByRecursion IsGood codes → IsGood (joined codes)
  good-joined [] all = good-none
  good-joined (code ∷ codes) all = good-append code (joined codes) all.0 (good-joined codes all.1)

  -- code without calls stays as it is
  pub good-still : ((f o : ℕ) → m.output f o ≡ o) → (code : StmtTrees) → CallsNothing code →
      (IsPrelude reach.pures → AreLawfulStmts reach code) → AreShallow 40 code → IsGood code
  good-still stays code none lawful shallow = record {
    lawful = λ prelude. subst (AreLawfulStmts reach) (sym (stmts-stay m stays code none)) (lawful prelude);
    calls = calls-weaker (λ k. ⊥) (λ k. moved_number m k < limit) (λ k no. absurd no) code none;
    statements = shallow.statements;
    expressions = shallow.expressions;
  }
