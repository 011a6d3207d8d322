-- What the codes of rows read: of a delay what it remembers, of others their inputs.
use Rattle.std.proofs.Common.{◌≡◌, refl, sym, subst, true, false, List, [], ◌++◌}
use Rattle.std.specs.Prelude.{Contains}
use Rattle.base_fixed_point.specs.declared.FixType.{FixType}
use Rattle.diagram_blocks.specs.declared.Op.{Op}
use Rattle.diagram_blocks.specs.declared.Op.TheVariants.{Copy, Value, Delay, Line, Gain, Sum, Product, Switch, Relational, Logic as Logical, Convert, Nothing}
use Rattle.diagram_blocks.specs.Kinds.{is_delay}
use Rattle.c_syntax.specs.declared.Leaf.{Leaf}
use Rattle.c_syntax.specs.Tree.{ExprTree}
use Rattle.emit_row_code.specs.Reading.{ReadsOnly}
use Rattle.emit_row_code.specs.RowCode.{nought, rhs_code}
use Rattle.emit_row_code.proofs.lemmas.ReadingLaws.{rows_read_their_leaves}

-- only a delay reads what it remembers, and nothing else
pub only-memory : (o : Op) (leaves : List Leaf) (ts : List FixType) (memory : ExprTree) → is_delay o ≡ true →
    rhs_code o leaves ts memory ≡ memory
only-memory (Delay initial) leaves ts memory is = refl
only-memory (Line samples start) leaves ts memory is = refl
only-memory _ leaves ts memory is = absurd (cc)

pub no-memory : (o : Op) (leaves : List Leaf) (ts : List FixType) (memory : ExprTree) → is_delay o ≡ false →
    rhs_code o leaves ts memory ≡ rhs_code o leaves ts nought
no-memory (Delay initial) leaves ts memory is = absurd (cc)
no-memory (Line samples start) leaves ts memory is = absurd (cc)
no-memory Copy leaves ts memory is = refl
no-memory (Value v) leaves ts memory is = refl
no-memory (Gain m frac to how) leaves ts memory is = refl
no-memory (Sum count minus fracs to how) leaves ts memory is = refl
no-memory (Product count frac to how) leaves ts memory is = refl
no-memory (Switch criterion threshold fracs to how) leaves ts memory is = refl
no-memory (Relational how fracs) leaves ts memory is = refl
no-memory (Logical o count) leaves ts memory is = refl
no-memory (Convert frac to how) leaves ts memory is = refl
no-memory Nothing leaves ts memory is = refl

-- what an operation reads that remembers nothing
pub reads-leaves : (o : Op) (leaves : List Leaf) (ts : List FixType) (memory : ExprTree) → is_delay o ≡ false →
    ReadsOnly (Contains (leaves ++ [])) (rhs_code o leaves ts memory)
reads-leaves o leaves ts memory is =
    subst (ReadsOnly (Contains (leaves ++ []))) (sym (no-memory o leaves ts memory is)) (rows_read_their_leaves o leaves [] ts nought tt)
