-- The tests of activity and of sample times keep the static rules of C.
use Rattle.std.proofs.Common.{refl, ◌^◌, ◌<◌, ◌==◌, Bool, true, false, if◌then◌else◌, Some, None, pos, arith}
use Rattle.std.specs.List.{AllByRecursion}
use Rattle.base_core.specs.declared.Compare.TheVariants.{Eq}
use Rattle.base_core.specs.declared.Control.{Control}
use Rattle.base_core.specs.declared.Control.TheVariants.{Plain, Enabled, Triggered, Both}
use Rattle.base_core.specs.declared.Edge.{Edge}
use Rattle.base_core.specs.declared.Edge.TheVariants.{Rising, Falling, Either}
use Rattle.diagram_meaning.specs.declared.Time.{Time}
use Rattle.c_syntax.specs.declared.BinOp.TheVariants.{Rem}
use Rattle.c_syntax.specs.declared.Leaf.{Leaf}
use Rattle.c_syntax.specs.Tree.{read, binary, literal, compare}
use Rattle.c_syntax.specs.Lawful.{Reach, IsLawfulLeaf, IsLawfulCond}
use Rattle.emit_row_code.specs.declared.leaves.ControlLeaves.{ControlLeaves}
use Rattle.emit_row_code.specs.TestCode.{is_high_code, event_test, active_by, disabled_by, off_by, hit_test}
use Rattle.emit_row_code.specs.TestLaws.{OnTest, control_leaves}
use Rattle.emit_row_code.specs.LawfulLaws.{TestsAreLawful}

module _ (reach : Reach) (leaves : ControlLeaves) where
  abbrev Given : Control → Type 0
  Given control = AllByRecursion (IsLawfulLeaf reach) (control_leaves control leaves)

  high_lawful : (l : Leaf) → IsLawfulLeaf reach l → IsLawfulCond reach (is_high_code l)
  high_lawful l h = (h, (0, refl, omega arith))

  event_lawful : (e : Edge) → IsLawfulLeaf reach leaves.trigger → IsLawfulLeaf reach leaves.remembers →
      IsLawfulCond reach (event_test e leaves)
  event_lawful Rising h k = ((k, (1, refl, omega arith)), high_lawful leaves.trigger h)
  event_lawful Falling h k = ((k, (2, refl, omega arith)), high_lawful leaves.trigger h)
  event_lawful Either h k = (
    ((k, (1, refl, omega arith)), high_lawful leaves.trigger h),
    ((k, (2, refl, omega arith)), high_lawful leaves.trigger h),
  )

  active_lawful : (control : Control) → Given control → OnTest (IsLawfulCond reach) (active_by control leaves)
  active_lawful Plain given = tt
  active_lawful (Enabled reset) given = high_lawful leaves.enable given.0
  active_lawful (Triggered e) given = event_lawful e given.0 given.1.0
  active_lawful (Both reset e) given = (high_lawful leaves.enable given.0, event_lawful e given.1.0 given.1.1.0)

  disabled_lawful : (control : Control) → Given control → OnTest (IsLawfulCond reach) (disabled_by control leaves)
  disabled_lawful Plain given = tt
  disabled_lawful (Enabled reset) given = high_lawful leaves.enable given.0
  disabled_lawful (Triggered e) given = tt
  disabled_lawful (Both reset e) given = high_lawful leaves.enable given.0

  off_lawful : (control : Control) → Given control → OnTest (IsLawfulCond reach) (off_by control leaves)
  off_lawful (Enabled true) given = high_lawful leaves.enable given.0
  off_lawful (Both true e) given = high_lawful leaves.enable given.0
  off_lawful _ given = tt

hit_lawful : (reach : Reach) (time : Time) (now : Leaf) → IsLawfulLeaf reach now → time.period < 2 ^ 63 →
    OnTest (IsLawfulCond reach) (hit_test time now)
hit_lawful reach time now h small = by (time.period == 1)
  where
    by : (b : Bool) →
        OnTest (IsLawfulCond reach)
        (if b then None
        else Some (compare Eq (binary Rem (read now) (literal (pos time.period))) (literal (pos time.offset))))
    by true = tt
    by false = ((h, (time.period, refl, small)), (time.offset, refl, (let less = time.in_period in omega (arith, less, small))))

pub tests_are_lawful : TestsAreLawful
tests_are_lawful reach control leaves time now given h small = record {
  active = active_lawful reach leaves control given;
  disabled = disabled_lawful reach leaves control given;
  off = off_lawful reach leaves control given;
  hit = hit_lawful reach time now h small;
}
