-- The expressions of rows and the tests of activity keep the static rules of C.
use Rattle.std.specs.Prelude.{◌^◌, ◌<◌, List}
use Rattle.std.specs.List.{AllByRecursion}
use Rattle.base_core.specs.declared.Control.{Control}
use Rattle.base_fixed_point.specs.declared.FixType.{FixType}
use Rattle.diagram_blocks.specs.declared.Op.{Op}
use Rattle.diagram_meaning.specs.declared.Time.{Time}
use Rattle.c_syntax.specs.declared.Leaf.{Leaf}
use Rattle.c_syntax.specs.Tree.{ExprTree}
use Rattle.c_syntax.specs.Lawful.{Reach, IsLawfulLeaf, IsLawfulExpr, IsLawfulCond}
use Rattle.emit_prelude.specs.Rules.{IsPrelude}
use Rattle.emit_row_code.specs.declared.leaves.ControlLeaves.{ControlLeaves}
use Rattle.emit_row_code.specs.TestCode.{active_by, disabled_by, off_by, hit_test}
use Rattle.emit_row_code.specs.TestLaws.{OnTest, control_leaves}
use Rattle.emit_row_code.specs.RowCode.{rhs_code}
use Rattle.emit_row_code.specs.Resolved.{IsRowOp}

-- where its leaves stand for something, the expression for its memory is lawful and the eight
-- functions are there, a row's expression is lawful
abbrev pub RowsAreLawful : Type 0
RowsAreLawful =
    (reach : Reach) (op : Op) (leaves : List Leaf) (types : List FixType) (memory : ExprTree) →
    IsPrelude reach.pures → IsRowOp op →
    AllByRecursion (IsLawfulLeaf reach) leaves → IsLawfulExpr reach memory →
    IsLawfulExpr reach (rhs_code op leaves types memory)

-- so are the tests
pub record AreLawfulTests (reach : Reach) (control : Control) (leaves : ControlLeaves) (time : Time)
    (now : Leaf) : Type 0 where
  pub active : OnTest (IsLawfulCond reach) (active_by control leaves)
  pub disabled : OnTest (IsLawfulCond reach) (disabled_by control leaves)
  pub off : OnTest (IsLawfulCond reach) (off_by control leaves)
  pub hit : OnTest (IsLawfulCond reach) (hit_test time now)

abbrev pub TestsAreLawful : Type 0
TestsAreLawful =
    (reach : Reach) (control : Control) (leaves : ControlLeaves) (time : Time) (now : Leaf) →
    AllByRecursion (IsLawfulLeaf reach) (control_leaves control leaves) → IsLawfulLeaf reach now →
    time.period < 2 ^ 63 → AreLawfulTests reach control leaves time now
