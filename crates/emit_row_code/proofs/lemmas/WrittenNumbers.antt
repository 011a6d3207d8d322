-- A number as it is written gives that number.
use Rattle.std.proofs.Common.{◌≡◌, subst, ℕ, ◌^◌, ◌<◌, Bool, true, false, if◌then◌else◌, ℤ, pos, neg_ℤ, int_lt, unsigned_abs, List, arith}
use Rattle.std.proofs.lemmas.Int.{ints}
use Rattle.c_syntax.specs.Tree.{literal, neg}
use Rattle.c_semantics.specs.Values.{Function, Reads}
use Rattle.c_semantics.specs.EvaluationLaws.{Gives}
use Rattle.c_semantics.proofs.lemmas.WithoutSteps.{gives_literal, gives_neg}
use Rattle.emit_row_code.specs.Laws.{NumbersAreWritten}
use Rattle.emit_row_code.specs.RowCode.{written}

negated_small : (v : ℤ) → unsigned_abs v < 2 ^ 63 → unsigned_abs (neg_ℤ (neg_ℤ v)) < 2 ^ 63
negated_small v h = omega (arith, ints, h)

pub gives_written : (functions : List Function) (reads : Reads) (line : ℕ) (v : ℤ) → unsigned_abs v < 2 ^ 63 →
    Gives functions reads line (written v) v
gives_written functions reads line v h = by (int_lt v (pos 0))
  where
    by : (b : Bool) → Gives functions reads line (if b then neg (literal (neg_ℤ v)) else literal v) v
    by true = subst (Gives functions reads line (neg (literal (neg_ℤ v)))) (let e : neg_ℤ (neg_ℤ v) ≡ v = omega (arith, ints) in e)
        (gives_neg functions reads line (literal (neg_ℤ v)) (neg_ℤ v) (gives_literal functions reads line (neg_ℤ v)) (negated_small v h))
    by false = gives_literal functions reads line v

pub numbers_are_written : NumbersAreWritten
numbers_are_written v functions reads line steps small = gives_written functions reads line v small steps
