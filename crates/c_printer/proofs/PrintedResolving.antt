-- The names in printed bodies stand for what they are printed from.
use Rattle.std.proofs.Common.{◌≡◌, refl, sym, ◌∙◌, ap, ℕ, ◌+◌, ◌≤◌, pos, List, [], ◌∷◌, length, Some, Ok, Result, slice_get, slice_index, unsigned_abs, arith}
use Rattle.base_core.specs.Numbers.{reported_number}
use Rattle.c_syntax.specs.declared.code.CType.{CType}
use Rattle.c_syntax.specs.declared.code.Leaf.{Leaf}
use Rattle.c_syntax.specs.declared.code.Target.{Target}
use Rattle.c_syntax.specs.Tree.{ExprTree, literal, neg, read, binary, pick, pure, item, ExprTrees, no_exprs, more_exprs, CondTree, compare, both, either, negated, StmtTree, assign, assign_at, branch, call, StmtTrees, no_stmts, more_stmts, field_types, type_at, PureTree, ProcedureTree}
use Rattle.base_core.specs.Results.{◌>>=◌}
use Rattle.c_rules.specs.Resolve.{Names, resolve_leaf, resolve_array, resolve_pure_call, exprs_count, resolve_expr, resolve_exprs, resolve_cond, argument_casts, resolve_arguments, resolve_store, resolve_item_store, resolve_call, resolve_stmt, resolve_stmts}
use Rattle.c_syntax.specs.Chains.{chain_limit, stmt_chain, stmts_chain}
use Rattle.c_syntax.specs.Lawful.{Reach, IsLawfulLeaf, IsLawfulExpr, AreLawfulExprs, IsLawfulCond, IsLawfulTarget, IsLawfulStmt, AreLawfulStmts, IsNumberAt, IsArrayAt, exprs_length}
use Rattle.c_printer.specs.Printing.{Vocabulary, pure_name, procedure_name, procedure_types, field_name, deeper}
use Rattle.c_printer.proofs.PrintedTrees.{written_leaf, written_expr, written_exprs, written_cond, written_target, written_arguments, Above, stmt_lines, else_line, written_stmt, written_stmts, read_stmt, read_stmts}
use Rattle.c_printer.proofs.PrintedBodies.{Speaks}

-- the names in reach of a body stand for what they are printed from
pub record Resolves (v : Vocabulary) (reach : Reach) (names : Names) : Type 0 where
  pub leaf : (leaf : Leaf) → IsLawfulLeaf reach leaf → resolve_leaf names (written_leaf v leaf) ≡ Ok leaf
  pub pure : (k : ℕ) (p : PureTree) → slice_get reach.pures k ≡ Some p →
      resolve_pure_call names.known (pure_name v.program k) (length p.params) ≡ Ok k
  pub store : (f : ℕ) → IsNumberAt reach.fields f → resolve_store names (field_name v.fields f) (type_at (field_types v.fields) f) ≡ Ok f
  pub array : (f : ℕ) → IsArrayAt reach.fields f → resolve_array names (field_name v.fields f) ≡ Ok f
  pub item_store : (f : ℕ) → IsArrayAt reach.fields f →
      resolve_item_store names (field_name v.fields f) (type_at (field_types v.fields) f) ≡ Ok f
  pub call : (k : ℕ) (p : ProcedureTree) (target : Target) → slice_get reach.procedures k ≡ Some p →
      IsLawfulTarget reach target p.of → slice_index names.known.chains k + 1 ≤ chain_limit →
      resolve_call names (procedure_name v.program k) (written_target v target) (procedure_types v.program k)
      ≡ Ok (k, target)

-- goes on with what there is
bind : {A B E : Type 0} {r : Result A E} {x : A} (go : A → Result B E) → r ≡ Ok x → (r >>= go) ≡ go x
bind go e = ap (λ r. r >>= go) e

counted : (v : Vocabulary) (line : ℕ) (es : ExprTrees) → exprs_count (written_exprs v line es) ≡ exprs_length es
counted v line no_exprs = refl
counted v line (more_exprs e es) = ap (λ n. n + 1) (counted v line es)

casts : (v : Vocabulary) (line : ℕ) (types : List CType) (es : ExprTrees) → length types ≡ exprs_length es →
    argument_casts (written_arguments v line types es) ≡ types
casts v line [] no_exprs h = refl
casts v line (t ∷ types) no_exprs h = absurd (omega (arith, h))
casts v line [] (more_exprs e es) h = absurd (omega (arith, h))
casts v line (t ∷ types) (more_exprs e es) h = ap (λ ts. t ∷ ts) (casts v line types es (omega (arith, h)))

module _ (v : Vocabulary) (reach : Reach) (names : Names) (speaks : Speaks v reach) (resolves : Resolves v reach names) where
  mutual
    pub expr-resolved : (line : ℕ) (e : ExprTree) → IsLawfulExpr reach e → resolve_expr names (written_expr v line e) ≡ Ok e
    expr-resolved line (literal value) h = ap (λ n. Ok (literal n)) (ap (λ n. pos (unsigned_abs n)) h.1 ∙ sym h.1)
    expr-resolved line (neg e) h = rw (expr-resolved line e h) refl
    expr-resolved line (read leaf) h = rw (resolves.leaf leaf h) refl
    expr-resolved line (binary op a b) h = rw (expr-resolved line a h.0, expr-resolved line b h.1) refl
    expr-resolved line (pick test a b) h = rw (cond-resolved line test h.0, expr-resolved line a h.1, expr-resolved line b h.2) refl
    expr-resolved line (item f index) h = rw (resolves.array f h.0, expr-resolved line index h.1) refl
    expr-resolved line (pure k es) h = rw (counted v line es, sym h.2, resolves.pure k h.0 h.1, exprs-resolved line es h.3) refl

    pub exprs-resolved : (line : ℕ) (es : ExprTrees) → AreLawfulExprs reach es → resolve_exprs names (written_exprs v line es) ≡ Ok es
    exprs-resolved line no_exprs h = refl
    exprs-resolved line (more_exprs e es) h = rw (expr-resolved line e h.0, exprs-resolved line es h.1) refl

    pub cond-resolved : (line : ℕ) (c : CondTree) → IsLawfulCond reach c → resolve_cond names (written_cond v line c) ≡ Ok c
    cond-resolved line (compare how a b) h = rw (expr-resolved line a h.0, expr-resolved line b h.1) refl
    cond-resolved line (both a b) h = rw (cond-resolved line a h.0, cond-resolved line b h.1) refl
    cond-resolved line (either a b) h = rw (cond-resolved line a h.0, cond-resolved line b h.1) refl
    cond-resolved line (negated a) h = rw (cond-resolved line a h) refl

  arguments-resolved : (line : ℕ) (types : List CType) (es : ExprTrees) → length types ≡ exprs_length es →
      AreLawfulExprs reach es → resolve_arguments names (written_arguments v line types es) ≡ Ok es
  arguments-resolved line [] no_exprs long h = refl
  arguments-resolved line (t ∷ types) no_exprs long h = absurd (omega (arith, long))
  arguments-resolved line [] (more_exprs e es) long h = absurd (omega (arith, long))
  arguments-resolved line (t ∷ types) (more_exprs e es) long h =
      rw (expr-resolved line e h.0, arguments-resolved line types es (omega (arith, long)) h.1) refl

  module _ (above : Above) where
    mutual
      pub stmt-resolved : (margin line : ℕ) (s : StmtTree) → IsLawfulStmt reach s → stmt_chain names.known.chains s + 1
          ≤ chain_limit → resolve_stmt names (written_stmt above v margin line s) ≡ Ok (read_stmt above margin line s)
      stmt-resolved margin line (assign own f e) h short =
          rw (resolves.store f h.0, expr-resolved (reported_number (line + above margin (assign own f e))) e h.1) refl
      stmt-resolved margin line (assign_at own f index e) h short =
          let on : ℕ = reported_number (line + above margin (assign_at own f index e)) in
          rw (resolves.item_store f h.0, expr-resolved on index h.1, expr-resolved on e h.2) refl
      stmt-resolved margin line (branch own test on_true no_stmts) h short =
          rw (
            cond-resolved (reported_number line) test h.0,
            stmts-resolved (deeper margin) (line + 1) on_true h.1 (omega (arith, short)),
          ) refl
      stmt-resolved margin line (branch own test on_true (more_stmts s ss)) h short =
          let k : ℕ = else_line above margin line on_true in
          rw (
            cond-resolved (reported_number line) test h.0,
            stmts-resolved (deeper margin) (line + 1) on_true h.1 (omega (arith, short)),
            stmt-resolved (deeper margin) k s h.2.0 (omega (arith, short)),
            stmts-resolved (deeper margin) (k + stmt_lines above (deeper margin) s) ss h.2.1 (omega (arith, short)),
          ) refl
      stmt-resolved margin line (call own k target es) h short =
          let on : ℕ = reported_number (line + above margin (call own k target es)) in
          let long : length (procedure_types v.program k) ≡ exprs_length es = (speaks.procedure k h.0 h.1).1 ∙ h.3 in
          rw (
            casts v on (procedure_types v.program k) es long,
            resolves.call k h.0 target h.1 h.2 short,
            arguments-resolved on (procedure_types v.program k) es long h.4,
          ) refl

      pub stmts-resolved : (margin line : ℕ) (ss : StmtTrees) → AreLawfulStmts reach ss →
          stmts_chain names.known.chains ss + 1 ≤ chain_limit →
          resolve_stmts names (written_stmts above v margin line ss) ≡ Ok (read_stmts above margin line ss)
      stmts-resolved margin line no_stmts h short = refl
      stmts-resolved margin line (more_stmts s ss) h short =
          rw (
            stmt-resolved margin line s h.0 (omega (arith, short)),
            stmts-resolved margin (line + stmt_lines above margin s) ss h.1 (omega (arith, short)),
          ) refl
