-- The statements for one row, one trigger or one child keep the static rules of C, and are shallow.
use Rattle.std.specs.Prelude.{◌≡◌, ℕ, ◌^◌, ◌<◌, ◌≤◌, List, length, slice_get, Option, Some, ℤ, unsigned_abs}
use Rattle.std.specs.List.{AllByRecursion}
use Rattle.c_syntax.specs.declared.Leaf.{Leaf}
use Rattle.c_syntax.specs.Tree.{ExprTree, CondTree, StmtTrees, ProcedureTree}
use Rattle.c_syntax.specs.Lawful.{Reach, IsNumberAt, IsArrayAt, IsStructAt, IsLawfulLeaf, IsLawfulExpr, IsLawfulCond, AreLawfulStmts}
use Rattle.c_syntax.specs.Limits.{expr_depth, cond_depth, stmts_depth, stmts_exprs_depth}
use Rattle.emit_row_code.specs.declared.leaves.RingFields.{RingFields}
use Rattle.emit_row_code.specs.RingCode.{oldest_code}
use Rattle.emit_row_code.specs.StatementCode.{value_statements, value_reset_statements, memory_statements, ring_statements, trigger_statements, call_statements, reset_call_statements}
use Rattle.emit_row_code.specs.TestLaws.{OnTest}

-- ---- The static rules

-- the items of a ring are an array, its place and count numbers
pub record IsRingIn (reach : Reach) (ring : RingFields) : Type 0 where
  pub items : IsArrayAt reach.fields ring.items
  pub place : IsNumberAt reach.fields ring.place
  pub taken : IsNumberAt reach.fields ring.taken

abbrev pub LawfulTest : Reach → Option CondTree → Type 0
LawfulTest reach test = OnTest (IsLawfulCond reach) test

-- the statements of rows keep the rules, where what they name is there
pub record RowStatementsAreLawful (reach : Reach) : Type 0 where
  pub value : (field : ℕ) (runs : Option CondTree) (value : ExprTree) →
      IsNumberAt reach.fields field → LawfulTest reach runs →
      IsLawfulExpr reach value →
      AreLawfulStmts reach (value_statements field runs value)
  pub value_reset : (field : ℕ) (disabled : Option CondTree) (start : ℤ) →
      IsNumberAt reach.fields field → LawfulTest reach disabled →
      unsigned_abs start < 2 ^ 63 →
      AreLawfulStmts reach (value_reset_statements field disabled start)
  pub memory : (field : ℕ) (runs off : Option CondTree) (input : Leaf) (start : ℤ) →
      IsNumberAt reach.fields field →
      LawfulTest reach runs → LawfulTest reach off → IsLawfulLeaf reach input →
      unsigned_abs start < 2 ^ 63 →
      AreLawfulStmts reach (memory_statements field runs input off start)
  pub ring : (fields : RingFields) (n : ℕ) (runs off : Option CondTree) (input : Leaf) →
      IsRingIn reach fields → n < 2 ^ 63 →
      LawfulTest reach runs → LawfulTest reach off → IsLawfulLeaf reach input →
      AreLawfulStmts reach (ring_statements fields n runs input off)
  pub oldest : (fields : RingFields) (n : ℕ) (start : ℤ) → IsRingIn reach fields → n < 2 ^ 63 →
      unsigned_abs start < 2 ^ 63 →
      IsLawfulExpr reach (oldest_code fields n start)
  pub trigger : (field : ℕ) (leaf : Leaf) → IsNumberAt reach.fields field →
      IsLawfulLeaf reach leaf →
      AreLawfulStmts reach (trigger_statements field leaf)

-- so do calls of a procedure of the child's struct, with an argument for each of its parameters
pub record ChildStatementsAreLawful (reach : Reach) : Type 0 where
  pub call : (active : Option CondTree) (k field : ℕ) (leaves : List Leaf) (p : ProcedureTree) →
      slice_get reach.procedures k ≡ Some p → IsStructAt reach.fields field p.of →
      length p.params ≡ length leaves →
      LawfulTest reach active → AllByRecursion (IsLawfulLeaf reach) leaves →
      AreLawfulStmts reach (call_statements active k field leaves)
  pub reset : (off : Option CondTree) (k field : ℕ) (p : ProcedureTree) →
      slice_get reach.procedures k ≡ Some p →
      IsStructAt reach.fields field p.of → length p.params ≡ 0 → LawfulTest reach off →
      AreLawfulStmts reach (reset_call_statements off k field)

abbrev pub StatementsAreLawful : Type 0
StatementsAreLawful =
    (reach : Reach) → RowStatementsAreLawful reach × ChildStatementsAreLawful reach

-- ---- Depths

-- three statements deep, with expressions of this depth
pub record AreShallow (depth : ℕ) (code : StmtTrees) : Type 0 where
  pub statements : stmts_depth code ≤ 3
  pub expressions : stmts_exprs_depth code ≤ depth

abbrev pub ShallowTest : ℕ → Option CondTree → Type 0
ShallowTest depth test = OnTest (λ t. cond_depth t ≤ depth) test

-- where tests and values are no deeper, and 3 is within the depth, which the expressions of rings
-- and levels need
pub record StatementsAreShallow (depth : ℕ) : Type 0 where
  pub value : (field : ℕ) (runs : Option CondTree) (value : ExprTree) → ShallowTest depth runs →
      expr_depth value ≤ depth →
      AreShallow depth (value_statements field runs value)
  pub value_reset : (field : ℕ) (disabled : Option CondTree) (start : ℤ) →
      ShallowTest depth disabled →
      AreShallow depth (value_reset_statements field disabled start)
  pub memory : (field : ℕ) (runs off : Option CondTree) (input : Leaf) (start : ℤ) →
      ShallowTest depth runs → ShallowTest depth off →
      AreShallow depth (memory_statements field runs input off start)
  pub ring : (fields : RingFields) (n : ℕ) (runs off : Option CondTree) (input : Leaf) →
      ShallowTest depth runs →
      ShallowTest depth off → AreShallow depth (ring_statements fields n runs input off)
  pub oldest : (fields : RingFields) (n : ℕ) (start : ℤ) → expr_depth (oldest_code fields n start)
      ≤ depth
  pub trigger : (field : ℕ) (leaf : Leaf) → AreShallow depth (trigger_statements field leaf)
  pub call : (active : Option CondTree) (k field : ℕ) (leaves : List Leaf) →
      ShallowTest depth active →
      AreShallow depth (call_statements active k field leaves)
  pub reset_call : (off : Option CondTree) (k field : ℕ) → ShallowTest depth off →
      AreShallow depth (reset_call_statements off k field)

abbrev pub AllStatementsAreShallow : Type 0
AllStatementsAreShallow = (depth : ℕ) → 3 ≤ depth → StatementsAreShallow depth
