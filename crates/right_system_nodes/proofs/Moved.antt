-- What moved code computes and does: its expressions read what its leaves read where they went, and its statements keep
-- their forms.
use Rattle.std.specs.Prelude.{◌≡◌, ℕ, Bool, true, false, not, if◌then◌else◌, List, [], ◌∷◌, map, Option, Some, None, ℤ, pos, neg_ℤ, int_lt, refl}
use Rattle.std.proofs.Common.{ap, ◌∙◌}
use Rattle.c_syntax.specs.declared.code.CType.TheVariants.{I64}
use Rattle.c_syntax.specs.declared.code.Leaf.{Leaf}
use Rattle.c_syntax.specs.declared.code.Target.TheVariants.{Child as OnChild}
use Rattle.c_syntax.specs.declared.fault.Why.TheVariants.{Overflow}
use Rattle.c_syntax.specs.Tree.{ExprTree, literal, neg, read, binary, pick, pure, item, ExprTrees, no_exprs, more_exprs, CondTree, compare, both, either, negated, call, StmtTrees, no_stmts, more_stmts, stmts_append, exprs_of_list}
use Rattle.c_semantics.specs.Values.{gives, and_then, within, operate, compares, Function, function_at, Reads, index_in, eval, eval_all, eval_cond}
use Rattle.base_core.specs.Numbers.{int_at}
use Rattle.emit_shape.specs.Relocation.{Relocation, moved_number, moved_leaf, moved_expr, moved_exprs, moved_cond, moved_stmt, moved_stmts}
use Rattle.emit_row_code.specs.declared.leaves.RingFields.{RingFields}
use Rattle.emit_row_code.specs.RowCode.{written}
use Rattle.emit_row_code.specs.RingCode.{is_filling_code, place_read, oldest_code, taken_in, emptied}
use Rattle.emit_row_code.specs.StatementCode.{guarded, only_if, store_code, value_statements, value_reset_statements, memory_statements, ring_statements, child_call, call_statements, reset_call_statements}
use Rattle.emit_row_code.specs.TestLaws.{TestIs}

module _ (m : Relocation) where
  abbrev pub moved_test : Option CondTree → Option CondTree
  moved_test None = None
  moved_test (Some test) = Some (moved_cond m test)

  -- what the leaves read where they went
  abbrev pub seen : Reads → Reads
  seen given = record { leaf = λ l. given.leaf (moved_leaf m l); array = given.array }

  -- ---- Expressions

  module _ (functions : List Function) (given : Reads) (line : ℕ) where
    mutual
      pub expr-moved : (e : ExprTree) (steps : ℕ) →
          eval functions given line (moved_expr m e) steps ≡ eval functions (seen given) line e steps
      expr-moved (literal v) steps = refl
      expr-moved (neg e) steps = ap (λ a. and_then a (λ v count. within I64 Overflow line (neg_ℤ v) count)) (expr-moved e steps)
      expr-moved (read l) steps = refl
      expr-moved (binary op a b) steps =
          λ i. and_then (expr-moved a steps i) (λ x count. and_then (expr-moved b count i) (λ y end. operate op line x y end))
      expr-moved (pick test a b) steps =
          λ i. and_then (cond-moved test steps i) (λ holds. if holds then (λ n. expr-moved a n i) else (λ n. expr-moved b n i))
      expr-moved (pure k es) steps = ap (λ a. and_then a (function_at functions k)) (exprs-moved es steps)
      expr-moved (item f index) steps =
          ap (λ a. and_then (and_then a (index_in line (given.array f))) (λ i count. gives (int_at (given.array f) i) count))
          (expr-moved index steps)

      exprs-moved : (es : ExprTrees) (steps : ℕ) →
          eval_all functions given line (moved_exprs m es) steps ≡ eval_all functions (seen given) line es steps
      exprs-moved no_exprs steps = refl
      exprs-moved (more_exprs e es) steps =
          λ i. and_then (expr-moved e steps i) (λ v count. and_then (exprs-moved es count i) (λ vs end. gives (v ∷ vs) end))

      cond-moved : (c : CondTree) (steps : ℕ) →
          eval_cond functions given line (moved_cond m c) steps ≡ eval_cond functions (seen given) line c steps
      cond-moved (compare how a b) steps =
          λ i. and_then (expr-moved a steps i) (λ x count. and_then (expr-moved b count i) (λ y end. gives (compares how x y) end))
      cond-moved (both a b) steps =
          λ i. and_then (cond-moved a steps i) (λ holds. if holds then (λ n. cond-moved b n i) else gives false)
      cond-moved (either a b) steps =
          λ i. and_then (cond-moved a steps i) (λ holds. if holds then gives true else (λ n. cond-moved b n i))
      cond-moved (negated a) steps = ap (λ x. and_then x (λ holds count. gives (not holds) count)) (cond-moved a steps)

    -- a moved test comes to what the test comes to there
    pub test-moved : (none : Bool) (test : Option CondTree) (b : Bool) → TestIs functions (seen given) line none test b →
        TestIs functions given line none (moved_test test) b
    test-moved none None b is = is
    test-moved none (Some test) b is = λ steps. cond-moved test steps ∙ is steps

  -- ---- Statements

  guarded-moved : (test : Option CondTree) (on_true on_false : StmtTrees) →
      moved_stmts m (guarded test on_true on_false) ≡ guarded (moved_test test) (moved_stmts m on_true) (moved_stmts m on_false)
  guarded-moved None on_true on_false = refl
  guarded-moved (Some test) on_true on_false = refl

  only_if-moved : (test : Option CondTree) (code : StmtTrees) →
      moved_stmts m (only_if test code) ≡ only_if (moved_test test) (moved_stmts m code)
  only_if-moved None code = refl
  only_if-moved (Some test) code = refl

  written-moved : (v : ℤ) → moved_expr m (written v) ≡ written v
  written-moved v = by (int_lt v (pos 0))
    where
      by : (t : Bool) → moved_expr m (if t then neg (literal (neg_ℤ v)) else literal v)
          ≡ (if t then neg (literal (neg_ℤ v)) else literal v)
      by true = refl
      by false = refl

  -- the code of a ring's oldest sample reads own fields alone
  pub oldest-moved : (ring : RingFields) (n : ℕ) (start : ℤ) → moved_expr m (oldest_code ring n start) ≡ oldest_code ring n start
  oldest-moved ring n start = ap (λ e. pick (is_filling_code ring n) e (item ring.items (place_read ring))) (written-moved start)

  pub append-moved : (a b : StmtTrees) → moved_stmts m (stmts_append a b) ≡ stmts_append (moved_stmts m a) (moved_stmts m b)
  append-moved no_stmts b = refl
  append-moved (more_stmts s ss) b = ap (more_stmts (moved_stmt m s)) (append-moved ss b)

  pub value-moved : (f : ℕ) (runs : Option CondTree) (e : ExprTree) →
      moved_stmts m (value_statements f runs e) ≡ value_statements f (moved_test runs) (moved_expr m e)
  value-moved f runs e = guarded-moved runs (store_code f e) no_stmts

  start-moved : (f : ℕ) (test : Option CondTree) (start : ℤ) →
      moved_stmts m (only_if test (store_code f (written start))) ≡ only_if (moved_test test) (store_code f (written start))
  start-moved f test start =
      only_if-moved test (store_code f (written start)) ∙ ap (λ e. only_if (moved_test test) (store_code f e)) (written-moved start)

  pub value_reset-moved : (f : ℕ) (disabled : Option CondTree) (start : ℤ) →
      moved_stmts m (value_reset_statements f disabled start) ≡ value_reset_statements f (moved_test disabled) start
  value_reset-moved = start-moved

  pub memory-moved : (f : ℕ) (runs : Option CondTree) (input : Leaf) (off : Option CondTree) (start : ℤ) →
      moved_stmts m (memory_statements f runs input off start)
      ≡ memory_statements f (moved_test runs) (moved_leaf m input) (moved_test off) start
  memory-moved f runs input off start =
      guarded-moved runs (store_code f (read input)) (only_if off (store_code f (written start)))
      ∙ ap (guarded (moved_test runs) (store_code f (read (moved_leaf m input)))) (start-moved f off start)

  pub ring-moved : (ring : RingFields) (n : ℕ) (runs : Option CondTree) (input : Leaf) (off : Option CondTree) →
      moved_stmts m (ring_statements ring n runs input off)
      ≡ ring_statements ring n (moved_test runs) (moved_leaf m input) (moved_test off)
  ring-moved ring n runs input off =
      guarded-moved runs (taken_in ring n input) (only_if off (emptied ring))
      ∙ ap (guarded (moved_test runs) (taken_in ring n (moved_leaf m input))) (only_if-moved off (emptied ring))

  reads-moved : (given : List Leaf) → moved_exprs m (exprs_of_list (map read given))
      ≡ exprs_of_list (map read (map (moved_leaf m) given))
  reads-moved [] = refl
  reads-moved (l ∷ given) = ap (more_exprs (read (moved_leaf m l))) (reads-moved given)

  child_call-moved : (procedure f : ℕ) (given : List Leaf) →
      moved_stmts m (child_call procedure f given) ≡ child_call (moved_number m procedure) f (map (moved_leaf m) given)
  child_call-moved procedure f given =
      ap (λ es. more_stmts (call 0 (moved_number m procedure) (OnChild f) es) no_stmts) (reads-moved given)

  pub call-moved : (active : Option CondTree) (procedure f : ℕ) (given : List Leaf) →
      moved_stmts m (call_statements active procedure f given)
      ≡ call_statements (moved_test active) (moved_number m procedure) f (map (moved_leaf m) given)
  call-moved active procedure f given =
      guarded-moved active (child_call procedure f given) no_stmts
      ∙ ap (λ code. guarded (moved_test active) code no_stmts) (child_call-moved procedure f given)

  pub reset_call-moved : (off : Option CondTree) (procedure f : ℕ) →
      moved_stmts m (reset_call_statements off procedure f) ≡ reset_call_statements (moved_test off) (moved_number m procedure) f
  reset_call-moved off procedure f = only_if-moved off (child_call procedure f [])
