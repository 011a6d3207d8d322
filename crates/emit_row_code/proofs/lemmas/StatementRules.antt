-- The statements for one row, one trigger or one child keep the static rules of C, and are shallow.
use Rattle.std.proofs.Common.{◌≡◌, refl, ◌∙◌, ℕ, ◌^◌, ◌<◌, ◌≤◌, List, [], ◌∷◌, length, map, ℤ, unsigned_abs, arith}
use Rattle.std.specs.Prelude.{Option, Some, None, slice_get}
use Rattle.std.specs.List.{AllByRecursion}
use Rattle.c_syntax.specs.declared.Leaf.{Leaf}
use Rattle.c_syntax.specs.Tree.{ExprTree, CondTree, read, StmtTrees, no_stmts, ProcedureTree, exprs_of_list}
use Rattle.c_syntax.specs.Lawful.{Reach, IsNumberAt, IsStructAt, IsLawfulLeaf, IsLawfulExpr, AreLawfulExprs, AreLawfulStmts, exprs_length}
use Rattle.c_syntax.specs.Limits.{expr_depth, exprs_depth, stmts_depth, stmts_exprs_depth}
use Rattle.emit_row_code.specs.declared.leaves.RingFields.{RingFields}
use Rattle.emit_row_code.specs.RowCode.{written}
use Rattle.emit_row_code.specs.TestCode.{level_code}
use Rattle.emit_row_code.specs.RingCode.{oldest_code, next_taken_code, next_place_code, taken_in, emptied}
use Rattle.emit_row_code.specs.StatementCode.{guarded, only_if, store_code, child_call}
use Rattle.emit_row_code.specs.LawfulStatements.{IsRingIn, LawfulTest, StatementsAreLawful, AreShallow, ShallowTest, AllStatementsAreShallow}
use Rattle.emit_row_code.proofs.lemmas.LawfulLaws.{number_lawful, written_is_lawful}
use Rattle.emit_row_code.proofs.lemmas.DepthLaws.{written_depth}

-- ---- The static rules

module _ (reach : Reach) where
  guarded_lawful : (test : Option CondTree) (a b : StmtTrees) → LawfulTest reach test → AreLawfulStmts reach a →
      AreLawfulStmts reach b → AreLawfulStmts reach (guarded test a b)
  guarded_lawful None a b t p q = p
  guarded_lawful (Some test) a b t p q = ((t, p, q), tt)

  only_if_lawful : (test : Option CondTree) (a : StmtTrees) → LawfulTest reach test → AreLawfulStmts reach a →
      AreLawfulStmts reach (only_if test a)
  only_if_lawful None a t p = tt
  only_if_lawful (Some test) a t p = ((t, p, tt), tt)

  store_lawful : (field : ℕ) (e : ExprTree) → IsNumberAt reach.fields field → IsLawfulExpr reach e →
      AreLawfulStmts reach (store_code field e)
  store_lawful field e there h = ((there, h), tt)

  started_lawful : (field : ℕ) (test : Option CondTree) (start : ℤ) → IsNumberAt reach.fields field → LawfulTest reach test →
      unsigned_abs start < 2 ^ 63 → AreLawfulStmts reach (only_if test (store_code field (written start)))
  started_lawful field test start there t small = only_if_lawful test (store_code field (written start)) t
      (store_lawful field (written start) there (written_is_lawful reach start small))

  module _ (fields : RingFields) (ring : IsRingIn reach fields) (n : ℕ) (few : n < 2 ^ 63) where
    next_taken_lawful : IsLawfulExpr reach (next_taken_code fields n)
    next_taken_lawful = ((ring.taken, number_lawful reach n few), (ring.taken, number_lawful reach 1 (omega arith)), ring.taken)

    next_place_lawful : IsLawfulExpr reach (next_place_code fields n)
    next_place_lawful = ((ring.place, number_lawful reach 1 (omega arith)), number_lawful reach n few)

    taken_in_lawful : (input : Leaf) → IsLawfulLeaf reach input → AreLawfulStmts reach (taken_in fields n input)
    taken_in_lawful input h = ((ring.items, ring.place, h), ((ring.taken, next_taken_lawful), ((ring.place, next_place_lawful), tt)))

    emptied_lawful : AreLawfulStmts reach (emptied fields)
    emptied_lawful = ((ring.place, number_lawful reach 0 (omega arith)), ((ring.taken, number_lawful reach 0 (omega arith)), tt))

    oldest_lawful : (start : ℤ) → unsigned_abs start < 2 ^ 63 → IsLawfulExpr reach (oldest_code fields n start)
    oldest_lawful start small = ((ring.taken, number_lawful reach n few), written_is_lawful reach start small, (ring.items, ring.place))

  level_lawful : (leaf : Leaf) → IsLawfulLeaf reach leaf → IsLawfulExpr reach (level_code leaf)
  level_lawful leaf h = ((h, number_lawful reach 0 (omega arith)), number_lawful reach 2 (omega arith), number_lawful reach 1 (omega arith))

  reads_lawful : (leaves : List Leaf) → AllByRecursion (IsLawfulLeaf reach) leaves → AreLawfulExprs reach (exprs_of_list (map read leaves))
  reads_lawful [] h = tt
  reads_lawful (l ∷ leaves) h = (h.0, reads_lawful leaves h.1)

  reads_many : (leaves : List Leaf) → length leaves ≡ exprs_length (exprs_of_list (map read leaves))
  reads_many [] = refl
  reads_many (l ∷ leaves) = let rest = reads_many leaves in omega (arith, rest)

  call_lawful : (k field : ℕ) (leaves : List Leaf) (p : ProcedureTree) → slice_get reach.procedures k ≡ Some p →
      IsStructAt reach.fields field p.of → length p.params ≡ length leaves → AllByRecursion (IsLawfulLeaf reach) leaves →
      AreLawfulStmts reach (child_call k field leaves)
  call_lawful k field leaves p there of many h = ((p, there, of, many ∙ reads_many leaves, reads_lawful leaves h), tt)

pub statements_are_lawful : StatementsAreLawful
statements_are_lawful reach = (
  record {
    value = λ field runs value there t h. guarded_lawful reach runs (store_code field value) no_stmts t
        (store_lawful reach field value there h) tt;
    value_reset = λ field disabled start there t small. started_lawful reach field disabled start there t small;
    memory = λ field runs off input start there t o h small. guarded_lawful reach runs (store_code field (read input))
        (only_if off (store_code field (written start))) t (store_lawful reach field (read input) there h)
        (started_lawful reach field off start there o small);
    ring = λ fields n runs off input ring few t o h. guarded_lawful reach runs (taken_in fields n input)
        (only_if off (emptied fields)) t (taken_in_lawful reach fields ring n few input h)
        (only_if_lawful reach off (emptied fields) o (emptied_lawful reach fields ring n few));
    oldest = λ fields n start ring few small. oldest_lawful reach fields ring n few start small;
    trigger = λ field leaf there h. store_lawful reach field (level_code leaf) there (level_lawful reach leaf h);
  },
  record {
    call = λ active k field leaves p there of many t h. guarded_lawful reach active (child_call k field leaves) no_stmts t
        (call_lawful reach k field leaves p there of many h) tt;
    reset = λ off k field p there of none t. only_if_lawful reach off (child_call k field []) t
        (call_lawful reach k field [] p there of none tt);
  },
)

-- ---- Depths

-- statements so deep at most, with expressions of this depth
abbrev Low : (depth deep : ℕ) → StmtTrees → Type 0
Low depth deep code = (stmts_depth code ≤ deep) × (stmts_exprs_depth code ≤ depth)

module _ (depth : ℕ) where
  guarded_low : (test : Option CondTree) (a b : StmtTrees) → ShallowTest depth test → Low depth 1 a → Low depth 2 b →
      AreShallow depth (guarded test a b)
  guarded_low None a b t p q = record { statements = omega (arith, p.0); expressions = p.1 }
  guarded_low (Some test) a b t p q = record { statements = omega (arith, p.0, q.0); expressions = omega (arith, t, p.1, q.1) }

  only_if_low : (test : Option CondTree) (a : StmtTrees) → ShallowTest depth test → Low depth 1 a → Low depth 2 (only_if test a)
  only_if_low None a t p = (omega arith, omega arith)
  only_if_low (Some test) a t p = (omega (arith, p.0), omega (arith, t, p.1))

  low_is_shallow : (code : StmtTrees) → Low depth 2 code → AreShallow depth code
  low_is_shallow code h = record { statements = omega (arith, h.0); expressions = h.1 }

  store_low : (field : ℕ) (e : ExprTree) → expr_depth e ≤ depth → Low depth 1 (store_code field e)
  store_low field e h = (omega arith, omega (arith, h))

  nothing_low : Low depth 2 no_stmts
  nothing_low = (omega arith, omega arith)

  module _ (some : 3 ≤ depth) where
    started_low : (field : ℕ) (start : ℤ) → Low depth 1 (store_code field (written start))
    started_low field start = store_low field (written start) (let h = written_depth start in omega (arith, h, some))

    taken_in_low : (fields : RingFields) (n : ℕ) (input : Leaf) → Low depth 1 (taken_in fields n input)
    taken_in_low fields n input = (omega arith, omega (arith, some))

    emptied_low : (fields : RingFields) → Low depth 1 (emptied fields)
    emptied_low fields = (omega arith, omega (arith, some))

    level_low : (leaf : Leaf) → expr_depth (level_code leaf) ≤ depth
    level_low leaf = omega (arith, some)

    reads_low : (leaves : List Leaf) → exprs_depth (exprs_of_list (map read leaves)) ≤ depth
    reads_low [] = omega arith
    reads_low (l ∷ leaves) = let rest = reads_low leaves in omega (arith, some, rest)

    call_low : (k field : ℕ) (leaves : List Leaf) → Low depth 1 (child_call k field leaves)
    call_low k field leaves = let h = reads_low leaves in (omega arith, omega (arith, h))

pub all_statements_are_shallow : AllStatementsAreShallow
all_statements_are_shallow depth some = record {
  value = λ field runs value t h. guarded_low depth runs (store_code field value) no_stmts t (store_low depth field value h)
      (nothing_low depth);
  value_reset = λ field disabled start t. low_is_shallow depth (only_if disabled (store_code field (written start)))
      (only_if_low depth disabled (store_code field (written start)) t (started_low depth some field start));
  memory = λ field runs off input start t o. guarded_low depth runs (store_code field (read input))
      (only_if off (store_code field (written start))) t (store_low depth field (read input) (omega (arith, some)))
      (only_if_low depth off (store_code field (written start)) o (started_low depth some field start));
  ring = λ fields n runs off input t o. guarded_low depth runs (taken_in fields n input) (only_if off (emptied fields)) t
      (taken_in_low depth some fields n input) (only_if_low depth off (emptied fields) o (emptied_low depth some fields));
  oldest = λ fields n start. let h = written_depth start in omega (arith, h, some);
  trigger = λ field leaf. low_is_shallow depth (store_code field (level_code leaf))
      (let h = store_low depth field (level_code leaf) (level_low depth some leaf) in (omega (arith, h.0), h.1));
  call = λ active k field leaves t. guarded_low depth active (child_call k field leaves) no_stmts t
      (call_low depth some k field leaves) (nothing_low depth);
  reset_call = λ off k field t. low_is_shallow depth (only_if off (child_call k field []))
      (only_if_low depth off (child_call k field []) t (call_low depth some k field []));
}
