-- Ranges as they are computed.
use Rattle.std.proofs.Common.{◌≡◌, refl, sym, ap, ◌∙◌, ℤ, ◌+ℤ◌, ◌*ℤ◌, to_z, of_z, FitsSigned, ℕ, suc, zero, ◌<◌, List, [], ◌∷◌, length, drop, get_or, arith}
use Rattle.std.proofs.lemmas.Int.{to_z-of_z}
use Rattle.std.specs.Prelude.{Option, Some}
use Rattle.std.specs.Int.{int_min, int_max, w128}
use Rattle.emit_row_code.specs.declared.ranges.Range.{Range}
use Rattle.base_fixed_point.specs.declared.FixType.{FixType}
use Rattle.emit_row_code.specs.Ranges.{range_from, added, multiplied, term_range, sum_range}

-- a function of two equal numbers
pub pair : (f : ℤ → ℤ → ℤ) (x y u v : ℤ) → x ≡ u → y ≡ v → f x y ≡ f u v
pair f x y u v p q = ap (λ z. f z y) p ∙ ap (f u) q

-- a number that fits stands for itself
pub as_it_is : (z w : ℤ) → FitsSigned w128 z → z ≡ w → to_z w128 (of_z w128 z) ≡ w
as_it_is z w fits e = to_z-of_z w128 z fits ∙ e

pub added_is : (x y : Option Range) (a b : Range) (low high : ℤ) (r : Option Range) → x ≡ Some a → y ≡ Some b →
    low ≡ a.least +ℤ b.least → high ≡ a.greatest +ℤ b.greatest → r ≡ range_from low high → r ≡ added x y
added_is x y a b low high r ex ey el eh er =
    er ∙ ap (λ z. range_from z high) el ∙ ap (range_from (a.least +ℤ b.least)) eh
    ∙ ap (λ s. added s (Some b)) (sym ex) ∙ ap (added x) (sym ey)

pub multiplied_is : (x y : Option Range) (a b : Range) (low high : ℤ) (r : Option Range) → x ≡ Some a → y ≡ Some b →
    low ≡ int_min (int_min (a.least *ℤ b.least) (a.least *ℤ b.greatest)) (int_min (a.greatest *ℤ b.least) (a.greatest *ℤ b.greatest)) →
    high ≡ int_max (int_max (a.least *ℤ b.least) (a.least *ℤ b.greatest)) (int_max (a.greatest *ℤ b.least) (a.greatest *ℤ b.greatest)) →
    r ≡ range_from low high → r ≡ multiplied x y
multiplied_is x y a b low high r ex ey el eh er =
    er ∙ ap (λ z. range_from z high) el
    ∙ ap (range_from (int_min (int_min (a.least *ℤ b.least) (a.least *ℤ b.greatest))
    (int_min (a.greatest *ℤ b.least) (a.greatest *ℤ b.greatest)))) eh
    ∙ ap (λ s. multiplied s (Some b)) (sym ex) ∙ ap (multiplied x) (sym ey)

split_at : (fs : List ℕ) (i : ℕ) → i < length fs → drop i fs ≡ get_or fs i 0 ∷ drop (suc i) fs
split_at [] i h = absurd (omega (arith, h))
split_at (f ∷ fs) zero h = refl
split_at (f ∷ fs) (suc i) h = split_at fs i (omega (arith, h))

-- one term more
pub sum_more : (minus F i n : ℕ) (fs : List ℕ) (types : List FixType) (total term more whole : Option Range) → i < length fs →
    suc i ≡ n → term ≡ term_range minus F i (get_or fs i 0) types → more ≡ added total term →
    sum_range minus F i (drop i fs) types total ≡ whole → sum_range minus F n (drop n fs) types more ≡ whole
sum_more minus F i n fs types total term more whole h next e sum so_far =
    sym (ap (λ k. sum_range minus F k (drop k fs) types more) next)
    ∙ ap (sum_range minus F (suc i) (drop (suc i) fs) types) (sum ∙ ap (added total) e)
    ∙ sym (ap (λ gs. sum_range minus F i gs types total) (split_at fs i h)) ∙ so_far
