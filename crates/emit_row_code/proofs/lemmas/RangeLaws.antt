-- Exact values lie in their ranges, and what a type holds isn't changed by a cast into it.
use Rattle.std.proofs.Common.{◌≡◌, refl, sym, ap, ◌∙◌, subst, ℕ, zero, suc, ◌+◌, ◌-◌, ◌*◌, ◌^◌, ◌≤◌, ◌==◌, Bool, true, false, ◌&&◌, if◌then◌else◌, List, [], ◌∷◌, length, take, drop, fold, ℤ, pos, negsuc, neg_ℤ, ◌+ℤ◌, ◌-ℤ◌, ◌*ℤ◌, ◌≤ℤ◌, ◌<ℤ◌, int_le, MatchBool, arith, true≢false, pow_pos}
use Rattle.std.specs.Prelude.{Option, Some, None, slice_get, ⊤}
use Rattle.std.specs.Option.{option_map}
use Rattle.std.specs.Int.{bit_at, int_min, int_max}
use Rattle.std.proofs.Math.IntN.{*ℤ_comm}
use Rattle.std.proofs.lemmas.Int.{ints, clamps, by_lt_z}
use borrow.Author.Differences.{up, down}
use Rattle.base_fixed_point.specs.declared.FixType.{FixType}
use Rattle.base_fixed_point.specs.declared.Round.{Round}
use Rattle.base_fixed_point.specs.declared.Round.TheVariants.{Ceiling, Convergent, Floor, Nearest, Zero}
use Rattle.base_fixed_point.specs.declared.Round.TheVariants as round
use Rattle.base_fixed_point.specs.Conversion.{InType, least_of, greatest_of, over_units, under_units}
use Rattle.base_fixed_point.specs.Rounding.{IsRounded, IsFloor, IsCeiling, IsNearest, rounded, RoundingIsOne}
use Rattle.diagram_blocks.specs.Value.{input, signed_term, exact_sum, exact_product}
use Rattle.emit_row_code.specs.declared.ranges.Range.{Range}
use Rattle.emit_row_code.specs.Ranges.{fits_64, range_from, just, type_range, input_range, added, multiplied, gain_range, sum_range, product_range, surely_holds}
use Rattle.emit_row_code.specs.KnownTypes.{IsOfType}
use Rattle.emit_row_code.proofs.IntegerProducts.{mul_neg}

-- a number is one of these, as far as they are known
abbrev pub InRange : Option Range → ℤ → Type 0
InRange None v = ⊤
InRange (Some r) v = (r.least ≤ℤ v) × (v ≤ℤ r.greatest)

-- ---- Products with a positive number

sum_times : (a b : ℤ) (d : ℕ) → (a +ℤ b) *ℤ pos d ≡ (a *ℤ pos d) +ℤ (b *ℤ pos d)
sum_times a b d =
    let s : up (a +ℤ b) + down a + down b ≡ down (a +ℤ b) + up a + up b = omega (arith, ints) in
    let m = ap (λ x. x * d) s in
    omega (arith, ints)

-- how far one number is below another
apart : (a b : ℤ) → a ≤ℤ b → (k : ℕ) × (b ≡ a +ℤ pos k)
apart a b h = (up b + down a - up a - down b, omega (arith, ints, h))

pub times_mono : (a b : ℤ) (n : ℕ) → a ≤ℤ b → (a *ℤ pos n) ≤ℤ (b *ℤ pos n)
times_mono a b n h =
    let gap = apart a b h in
    let whole = ap (λ z. z *ℤ pos n) gap.1 in
    let split = sum_times a (pos gap.0) n in
    omega (arith, ints, whole, split)

-- a number of which a multiple is less than that of the next one isn't above
below_next : (a b : ℤ) (d : ℕ) → (a *ℤ pos d) <ℤ ((b *ℤ pos d) +ℤ pos d) → a ≤ℤ b
below_next a b d h = by_lt_z b a (λ less.
    let next = times_mono (b +ℤ pos 1) a d (omega (arith, ints, less)) in
    let split = sum_times b (pos 1) d in
    absurd (omega (arith, ints, next, split, h))) (λ le. le)

-- ---- Rounding

-- q times d is less than d away from n
abbrev Near : ℤ → ℕ → ℤ → Type 0
Near n d q = (((q *ℤ pos d) -ℤ pos d) <ℤ n) × (n <ℤ ((q *ℤ pos d) +ℤ pos d))

neg_times : (q : ℤ) (d : ℕ) → neg_ℤ q *ℤ pos d ≡ neg_ℤ (q *ℤ pos d)
neg_times q d =
    let s : up (neg_ℤ q) ≡ down q = omega (arith, ints) in
    let t : down (neg_ℤ q) ≡ up q = omega (arith, ints) in
    let m = ap (λ x. x * d) s in
    let n = ap (λ x. x * d) t in
    omega (arith, ints)

twice_times : (q : ℤ) (d : ℕ) → (pos 2 *ℤ q) *ℤ pos d ≡ pos 2 *ℤ (q *ℤ pos d)
twice_times q d =
    let s : up (pos 2 *ℤ q) + 2 * down q ≡ down (pos 2 *ℤ q) + 2 * up q = omega (arith, ints) in
    let m = ap (λ x. x * d) s in
    omega (arith, ints)

floor_near : (n : ℤ) (d : ℕ) (q : ℤ) → 1 ≤ d → IsFloor n d q → Near n d q
floor_near n d q some h =
    let low = h.0 in
    let high = h.1 in
    let next = sum_times q (pos 1) d in
    (omega (arith, ints, some, low), omega (arith, ints, high, next))

ceiling_near : (n : ℤ) (d : ℕ) (q : ℤ) → 1 ≤ d → IsCeiling n d q → Near n d q
ceiling_near n d q some h =
    let low = h.0 in
    let high = h.1 in
    let back = sum_times q (negsuc 0) d in
    (omega (arith, ints, low, back), omega (arith, ints, some, high))

nearest_near : (n : ℤ) (d : ℕ) (q : ℤ) → 1 ≤ d → IsNearest n d q → Near n d q
nearest_near n d q some h =
    let low = h.0 in
    let high = h.1 in
    let twice = twice_times q d in
    let twice_next = twice_times (q +ℤ pos 1) d in
    let next = sum_times q (pos 1) d in
    (omega (arith, ints, some, low, twice), omega (arith, ints, some, high, twice_next, next))

rounded_near : (r : Round) (n : ℤ) (d : ℕ) (q : ℤ) → 1 ≤ d → IsRounded r n d q → Near n d q
rounded_near Floor n d q some h = floor_near n d q some h
rounded_near Ceiling n d q some h = ceiling_near n d q some h
rounded_near Zero n d q some h = by (int_le (pos 0) n) h
  where
    by : (b : Bool) → MatchBool b (IsFloor n d q) (IsCeiling n d q) → Near n d q
    by true k = floor_near n d q some k
    by false k = ceiling_near n d q some k
rounded_near Nearest n d q some h = nearest_near n d q some h
rounded_near round.Round n d q some h = by (int_le (pos 0) n) h
  where
    by : (b : Bool) → MatchBool b (IsNearest n d q) (IsNearest (neg_ℤ n) d (neg_ℤ q)) → Near n d q
    by true k = nearest_near n d q some k
    by false k =
        let near = nearest_near (neg_ℤ n) d (neg_ℤ q) some k in
        let low = near.0 in
        let high = near.1 in
        let turned = neg_times q d in
        (omega (arith, ints, high, turned), omega (arith, ints, low, turned))
rounded_near Convergent n d q some h =
    let close = h.0 in
    let twice = twice_times q d in
    (omega (arith, ints, some, close, twice), omega (arith, ints, some, close, twice))

-- between two whole numbers a quotient is rounded to one between them
rounded_between : RoundingIsOne → (r : Round) (n : ℤ) (d : ℕ) (low high : ℤ) → 1 ≤ d → (low *ℤ pos d) ≤ℤ n → n ≤ℤ (high *ℤ pos d) →
    (low ≤ℤ rounded r n d) × (rounded r n d ≤ℤ high)
rounded_between one r n d low high some from to =
    let q = rounded r n d in
    let near = rounded_near r n d q some (one r n d some).0 in
    let below = near.0 in
    let above = near.1 in
    (below_next low q d (omega (arith, ints, from, above)), below_next q high d (omega (arith, ints, to, below)))

both_hold : (a b : Bool) → (a && b) ≡ true → (a ≡ true) × (b ≡ true)
both_hold true b e = (refl, e)
both_hold false b e = absurd (true≢false (sym e))

at_most : (a b : ℤ) → int_le a b ≡ true → a ≤ℤ b
at_most a b e = grind (arith, ints)

-- what a type holds is rounded to a number of the type
pub held_is_in : RoundingIsOne → (r : Round) (v : ℤ) (f : ℕ) (to : FixType) (range : Option Range) → InRange range v →
    surely_holds to f range ≡ true → InType to (rounded r (over_units v f to.frac) (under_units f to.frac))
held_is_in one r v f to None inside held = absurd (true≢false (sym held))
held_is_in one r v f to (Some range) inside held =
    let n = over_units v f to.frac in
    let d = under_units f to.frac in
    let parts = both_hold (int_le (over_units (least_of to) to.frac f) (over_units range.least f to.frac))
    (int_le (over_units range.greatest f to.frac) (over_units (greatest_of to) to.frac f)) held in
    let low = at_most (least_of to *ℤ pos d) (range.least *ℤ pos (2 ^ (to.frac - f))) parts.0 in
    let high = at_most (range.greatest *ℤ pos (2 ^ (to.frac - f))) (greatest_of to *ℤ pos d) parts.1 in
    let from = times_mono range.least v (2 ^ (to.frac - f)) inside.0 in
    let up_to = times_mono v range.greatest (2 ^ (to.frac - f)) inside.1 in
    rounded_between one r n d (least_of to) (greatest_of to) (pow_pos (f - to.frac)) (omega (arith, ints, low, from))
    (omega (arith, ints, high, up_to))

-- ---- Ranges

from_holds : (low high v : ℤ) → low ≤ℤ v → v ≤ℤ high → InRange (range_from low high) v
from_holds low high v above below = by (fits_64 low && fits_64 high)
  where
    by : (b : Bool) → InRange (if b then Some (record { least = low; greatest = high }) else None) v
    by true = (above, below)
    by false = tt

just_holds : (v : ℤ) → InRange (just v) v
just_holds v = (omega (arith, ints), omega (arith, ints))

pub input_in : (types : List FixType) (vs : List ℤ) (i : ℕ) → IsOfType types vs i → InRange (input_range types i) (input vs i)
input_in types vs i of_type = by (slice_get types i) refl
  where
    by : (o : Option FixType) → slice_get types i ≡ o → InRange (option_map type_range o) (input vs i)
    by None there = tt
    by (Some t) there = of_type t there

added_in : (a b : Option Range) (v w : ℤ) → InRange a v → InRange b w → InRange (added a b) (v +ℤ w)
added_in None b v w h k = tt
added_in (Some a) None v w h k = tt
added_in (Some a) (Some b) v w h k =
    let h0 = h.0 in
    let h1 = h.1 in
    let k0 = k.0 in
    let k1 = k.1 in
    from_holds (a.least +ℤ b.least) (a.greatest +ℤ b.greatest) (v +ℤ w) (omega (arith, ints, h0, k0)) (omega (arith, ints, h1, k1))

-- a multiple lies between those of the ends
ends : (low high v w : ℤ) → low ≤ℤ v → v ≤ℤ high →
    (int_min (low *ℤ w) (high *ℤ w) ≤ℤ (v *ℤ w)) × ((v *ℤ w) ≤ℤ int_max (low *ℤ w) (high *ℤ w))
ends low high v (pos n) above below =
    let from = times_mono low v n above in
    let to = times_mono v high n below in
    (omega (arith, ints, clamps, from, to), omega (arith, ints, clamps, from, to))
ends low high v (negsuc n) above below =
    let from = times_mono low v (suc n) above in
    let to = times_mono v high (suc n) below in
    let p = mul_neg low (pos (suc n)) in
    let q = mul_neg v (pos (suc n)) in
    let r = mul_neg high (pos (suc n)) in
    (omega (arith, ints, clamps, from, to, p, q, r), omega (arith, ints, clamps, from, to, p, q, r))

ends_behind : (low high v w : ℤ) → low ≤ℤ v → v ≤ℤ high →
    (int_min (w *ℤ low) (w *ℤ high) ≤ℤ (w *ℤ v)) × ((w *ℤ v) ≤ℤ int_max (w *ℤ low) (w *ℤ high))
ends_behind low high v w above below =
    let h = ends low high v w above below in
    subst (λ z. (int_min (w *ℤ low) (w *ℤ high) ≤ℤ z) × (z ≤ℤ int_max (w *ℤ low) (w *ℤ high))) (*ℤ_comm v w)
    (subst (λ z. (int_min (w *ℤ low) z ≤ℤ (v *ℤ w)) × ((v *ℤ w) ≤ℤ int_max (w *ℤ low) z)) (*ℤ_comm high w)
    (subst (λ z. (int_min z (high *ℤ w) ≤ℤ (v *ℤ w)) × ((v *ℤ w) ≤ℤ int_max z (high *ℤ w))) (*ℤ_comm low w) h))

-- the least and the greatest of three pairs
chain : (w x y z p q v : ℤ) → int_min p q ≤ℤ v → v ≤ℤ int_max p q → int_min w x ≤ℤ p → p ≤ℤ int_max w x → int_min y z ≤ℤ q →
    q ≤ℤ int_max y z → (int_min (int_min w x) (int_min y z) ≤ℤ v) × (v ≤ℤ int_max (int_max w x) (int_max y z))
chain w x y z p q v a b c d e f = (omega (arith, ints, clamps, a, c, e), omega (arith, ints, clamps, b, d, f))

multiplied_in : (a b : Option Range) (v w : ℤ) → InRange a v → InRange b w → InRange (multiplied a b) (v *ℤ w)
multiplied_in None b v w h k = tt
multiplied_in (Some a) None v w h k = tt
multiplied_in (Some a) (Some b) v w h k =
    let p = a.least *ℤ b.least in
    let q = a.least *ℤ b.greatest in
    let r = a.greatest *ℤ b.least in
    let s = a.greatest *ℤ b.greatest in
    let outer = ends a.least a.greatest v w h.0 h.1 in
    let low = ends_behind b.least b.greatest w a.least k.0 k.1 in
    let high = ends_behind b.least b.greatest w a.greatest k.0 k.1 in
    let bounds = chain p q r s (a.least *ℤ w) (a.greatest *ℤ w) (v *ℤ w) outer.0 outer.1 low.0 low.1 high.0 high.1 in
    from_holds (int_min (int_min p q) (int_min r s)) (int_max (int_max p q) (int_max r s)) (v *ℤ w) bounds.0 bounds.1

-- ---- Exact results

pub gain_in : (m : ℤ) (types : List FixType) (vs : List ℤ) → IsOfType types vs 0 → InRange (gain_range m types) (input vs 0 *ℤ m)
gain_in m types vs of_type = multiplied_in (input_range types 0) (just m) (input vs 0) m (input_in types vs 0 of_type) (just_holds m)

no_terms : (minus F i : ℕ) (vs : List ℤ) → exact_sum minus F i [] vs ≡ pos 0
no_terms minus F i [] = refl
no_terms minus F i (v ∷ vs) = refl

split_at : (vs : List ℤ) (i : ℕ) → suc i ≤ length vs → drop i vs ≡ input vs i ∷ drop (suc i) vs
split_at [] i h = absurd (omega (arith, h))
split_at (v ∷ vs) zero h = refl
split_at (v ∷ vs) (suc i) h = split_at vs i (omega (arith, h))

term_is : (minus : Bool) (v : ℤ) (n : ℕ) → v *ℤ signed_term minus (pos n) ≡ signed_term minus (v *ℤ pos n)
term_is true v n = mul_neg v (pos n)
term_is false v n = refl

sum_from_in : (minus F i : ℕ) (fs : List ℕ) (types : List FixType) (vs : List ℤ) (total : Option Range) (x : ℤ) →
    ((k : ℕ) → IsOfType types vs k) → i + length fs ≤ length vs → InRange total x →
    InRange (sum_range minus F i fs types total) (x +ℤ exact_sum minus F i fs (drop i vs))
sum_from_in minus F i [] types vs total x of_types few inside =
    let same : x ≡ x +ℤ exact_sum minus F i [] (drop i vs) = omega (arith, ints, no_terms minus F i (drop i vs)) in
    subst (InRange total) same inside
sum_from_in minus F i (f ∷ fs) types vs total x of_types few inside =
    let b = bit_at minus i == 1 in
    let v = input vs i in
    let term = signed_term b (over_units v f F) in
    let rest = exact_sum minus F (suc i) fs (drop (suc i) vs) in
    let factor = signed_term b (pos (2 ^ (F - f))) in
    let one = subst (InRange (multiplied (input_range types i) (just factor))) (term_is b v (2 ^ (F - f)))
    (multiplied_in (input_range types i) (just factor) v factor (input_in types vs i (of_types i)) (just_holds factor)) in
    let more = added_in total (multiplied (input_range types i) (just factor)) x term inside one in
    let whole = sum_from_in minus F (suc i) fs types vs (added total (multiplied (input_range types i) (just factor))) (x +ℤ term)
    of_types (omega (arith, few)) more in
    let there = ap (exact_sum minus F i (f ∷ fs)) (split_at vs i (omega (arith, few))) in
    let same : (x +ℤ term) +ℤ rest ≡ x +ℤ (term +ℤ rest) = omega (arith, ints) in
    subst (InRange (sum_range minus F i (f ∷ fs) types total)) (same ∙ ap (λ z. x +ℤ z) (sym there)) whole

pub sum_in : (minus F : ℕ) (fs : List ℕ) (types : List FixType) (vs : List ℤ) → ((k : ℕ) → IsOfType types vs k) → length fs ≤ length vs →
    InRange (sum_range minus F 0 fs types (just (pos 0))) (exact_sum minus F 0 fs vs)
sum_in minus F fs types vs of_types few =
    let same : pos 0 +ℤ exact_sum minus F 0 fs vs ≡ exact_sum minus F 0 fs vs = omega (arith, ints) in
    subst (InRange (sum_range minus F 0 fs types (just (pos 0)))) same
    (sum_from_in minus F 0 fs types vs (just (pos 0)) (pos 0) of_types (omega (arith, few)) (just_holds (pos 0)))

one_more : (vs : List ℤ) (n : ℕ) (a : ℤ) → suc n ≤ length vs → fold ◌*ℤ◌ a (take (suc n) vs) ≡ fold ◌*ℤ◌ a (take n vs) *ℤ input vs n
one_more [] n a h = absurd (omega (arith, h))
one_more (v ∷ vs) zero a h = refl
one_more (v ∷ vs) (suc n) a h = one_more vs n (a *ℤ v) (omega (arith, h))

pub product_in : (n : ℕ) (types : List FixType) (vs : List ℤ) → ((k : ℕ) → IsOfType types vs k) → n ≤ length vs →
    InRange (product_range n types) (exact_product (take n vs))
product_in zero types vs of_types few = just_holds (pos 1)
product_in (suc n) types vs of_types few =
    subst (InRange (product_range (suc n) types)) (sym (one_more vs n (pos 1) few))
    (multiplied_in (product_range n types) (input_range types n) (exact_product (take n vs)) (input vs n)
    (product_in n types vs of_types (omega (arith, few))) (input_in types vs n (of_types n)))
