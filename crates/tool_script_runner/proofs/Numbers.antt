-- Numbers after a first one.
use Rattle.std.proofs.Common.{◌≡◌, sym, ◌∙◌, ap, ℕ, ◌+◌, ◌-◌, List, [], ◌∷◌, ◌++◌, length, take, drop, slice_set, arith}
use Rattle.std.specs.Prelude.{ℤ}
use Rattle.std.proofs.lemmas.List.{append-nil}
use Rattle.std.proofs.Math.Seq.{take-length}
use Rattle.std.proofs.Math.ListN.{drop_of_length-le}
use borrow.Rule.Slice.PartMut.{put_mid}

pub number_in_front : (numbers out : List ℤ) (x : ℤ) → length numbers ≡ length out + 1 →
    put_mid 1 (length (slice_set numbers 0 x) - 1) (slice_set numbers 0 x) out ≡ x ∷ out
number_in_front [] out x size = absurd (omega arith)
number_in_front (n ∷ numbers) out x size =
    ap (λ more. x ∷ (out ++ more)) (drop_of_length-le numbers (omega arith)) ∙ ap (λ ys. x ∷ ys) (append-nil out)

-- numbers that are written over as many
pub written_over : (new old : List ℤ) (len : ℕ) → len ≡ length old → length new ≡ length old → take len (new ++ drop (length new) old) ≡ new
written_over new old len whole same =
    ap (λ xs. take len (new ++ xs)) (drop_of_length-le old (omega (arith, same))) ∙ ap (take len) (append-nil new)
    ∙ ap (λ n. take n new) (whole ∙ sym same) ∙ take-length new
