-- Where a row counts at most 62 bits, every number on the way to its value fits 64 bits with a sign.
use Rattle.std.proofs.Common.{◌≡◌, refl, ap, sym, ◌∙◌, subst, ℕ, suc, ◌+◌, ◌-◌, ◌*◌, ◌^◌, ◌≤◌, max, true, false, List, [], ◌∷◌, take, map, sum, length, replicate, ℤ, pos, unsigned_abs, arith, pow_pos}
use Rattle.std.specs.List.{AllByRecursion, AllZip, sum_by}
use Rattle.std.proofs.Math.Nat.{le-max_left, le-max_right, max-le, mul-le-mul_right}
use Rattle.std.proofs.Math.Pow.{pow_mono}
use Rattle.std.proofs.Math.Seq.{take-append_seam, take-length}
use Rattle.std.proofs.lemmas.List.Sums.{sum_by-cons, sum-map}
use Rattle.std.proofs.lemmas.Nat.{pow-add}
use Rattle.std.proofs.lemmas.Int.{unsigned_abs-mul}
use Rattle.base_fixed_point.specs.declared.FixType.{FixType}
use Rattle.base_fixed_point.specs.Conversion.{InType, over_units}
use Rattle.diagram_blocks.specs.declared.kind.Kind.TheVariants.{Gain, Sum, Product, Switch, Relational, Convert, RateTransition}
use Rattle.diagram_blocks.specs.Value.{greatest_in, input}
use Rattle.diagram_blocks.specs.Width.{magnitude_bits, power_bits, gain_of, input_type, common_frac, common_bits, conversion_bits}
use Rattle.diagram_blocks.specs.Meaning.{sum_fracs}
use Rattle.diagram_blocks.specs.Laws.{sum_magnitude, product_magnitude, ConversionFits, NarrowRowsFit}
use Rattle.diagram_blocks.proofs.Magnitudes.{magnitude-le, members-le, power_bits-enough, product-le}

-- a number of some bits is brought into a type with the bits that are counted
conversion_fits : (magnitude bits F : ℕ) (out : FixType) → magnitude ≤ 2 ^ bits → conversion_bits bits F out ≤ 62 →
    ConversionFits magnitude F out
conversion_fits magnitude bits F out small h =
    let one = le-max_left (bits + (out.frac - F)) (F - out.frac) in
    let two = le-max_right (bits + (out.frac - F)) (F - out.frac) in
    let narrow : bits + (out.frac - F) ≤ 62 = omega (arith, one, h) in
    let power : 2 ^ (bits + (out.frac - F)) ≤ 2 ^ 62 = pow_mono narrow in
    let scaled = mul-le-mul_right (2 ^ (out.frac - F)) small in
    (omega (arith, scaled, pow-add 2 bits (out.frac - F), power), omega (arith, two, h))

aligned-le : (t : FixType) (v : ℤ) (F B : ℕ) → InType t v → magnitude_bits t + (F - t.frac) ≤ B →
    unsigned_abs (over_units v t.frac F) ≤ 2 ^ B
aligned-le t v F B h le =
    let product = product-le (unsigned_abs v) (2 ^ (F - t.frac)) (magnitude_bits t) (F - t.frac) (magnitude-le t v h) (omega arith) in
    let power : 2 ^ (magnitude_bits t + (F - t.frac)) ≤ 2 ^ B = pow_mono le in
    omega (arith, unsigned_abs-mul v (pos (2 ^ (F - t.frac))), product, power)

-- ---- Sums

sum_magnitude-le : (ts : List FixType) (vs : List ℤ) (F B : ℕ) → AllZip InType ts vs →
    AllByRecursion (λ b. b ≤ B) (map (λ t. magnitude_bits t + (F - t.frac)) ts) →
    sum_magnitude F (map (λ t. t.frac) ts) vs ≤ length ts * 2 ^ B
sum_magnitude-le [] vs F B a h = omega arith
sum_magnitude-le (t ∷ ts) [] F B a h = absurd a
sum_magnitude-le (t ∷ ts) (v ∷ vs) F B a h =
    let term = aligned-le t v F B a.0 h.0 in
    let rest = sum_magnitude-le ts vs F B a.1 h.1 in
    omega (arith, term, rest)

pub length_fracs : (ts : List FixType) → length (map (λ t. t.frac) ts) ≡ length ts
length_fracs [] = refl
length_fracs (t ∷ ts) = ap suc (length_fracs ts)

-- the fraction bits of the inputs are first
pub first_fracs : (ts : List FixType) (count : ℕ) → length ts ≡ count → take count (sum_fracs ts) ≡ map (λ t. t.frac) ts
first_fracs ts count e =
    let fracs = map (λ (t : FixType). t.frac) ts in
    let len : length fracs ≡ count = length_fracs ts ∙ e in
    subst (λ n. take n (sum_fracs ts) ≡ fracs) len (take-append_seam fracs (replicate (16 - length ts) 0))

sum_fits : (ts : List FixType) (vs : List ℤ) (count : ℕ) (out : FixType) → length ts ≡ count → AllZip InType ts vs →
    (let F = common_frac ts in conversion_bits (common_bits ts F + power_bits count) F out ≤ 62) →
    (let fs = take count (sum_fracs ts) in ConversionFits (sum_magnitude (greatest_in fs) fs vs) (greatest_in fs) out)
sum_fits ts vs count out e a h =
    let fracs = map (λ (t : FixType). t.frac) ts in
    let F = common_frac ts in
    let B = common_bits ts F in
    let same = first_fracs ts count e in
    let terms = sum_magnitude-le ts vs F B a (members-le (map (λ t. magnitude_bits t + (F - t.frac)) ts) 0) in
    let counted = product-le count (2 ^ B) (power_bits count) B (power_bits-enough count) (omega arith) in
    let swapped : 2 ^ (power_bits count + B) ≡ 2 ^ (B + power_bits count) =
    ap (λ n. 2 ^ n) (let c : power_bits count + B ≡ B + power_bits count = omega arith in c) in
    let times : length ts * 2 ^ B ≡ count * 2 ^ B = ap (λ n. n * 2 ^ B) e in
    let small : sum_magnitude F fracs vs ≤ 2 ^ (B + power_bits count) = omega (arith, terms, counted, swapped, times) in
    subst (λ fs. ConversionFits (sum_magnitude (greatest_in fs) fs vs) (greatest_in fs) out) (sym same)
    (conversion_fits (sum_magnitude F fracs vs) (B + power_bits count) F out small h)

-- ---- Products

factor-le : (t : FixType) (v : ℤ) → InType t v → max 1 (unsigned_abs v) ≤ 2 ^ magnitude_bits t
factor-le t v h = max-le (let p : 1 ≤ 2 ^ magnitude_bits t = pow_pos (magnitude_bits t) in omega arith) (magnitude-le t v h)

product_magnitude-le : (ts : List FixType) (vs : List ℤ) → AllZip InType ts vs → product_magnitude vs ≤ 2 ^ sum_by magnitude_bits ts
product_magnitude-le [] [] a = omega arith
product_magnitude-le [] (v ∷ vs) a = absurd a
product_magnitude-le (t ∷ ts) [] a = absurd a
product_magnitude-le (t ∷ ts) (v ∷ vs) a =
    let rest = product_magnitude-le ts vs a.1 in
    let whole = product-le (max 1 (unsigned_abs v)) (product_magnitude vs) (magnitude_bits t) (sum_by magnitude_bits ts)
    (factor-le t v a.0) rest in
    omega (arith, whole, ap (λ n. 2 ^ n) (sum_by-cons magnitude_bits t ts))

pub length_types : (ts : List FixType) (vs : List ℤ) → AllZip InType ts vs → length ts ≡ length vs
length_types [] [] a = refl
length_types [] (v ∷ vs) a = absurd a
length_types (t ∷ ts) [] a = absurd a
length_types (t ∷ ts) (v ∷ vs) a = ap suc (length_types ts vs a.1)

product_fits : (ts : List FixType) (vs : List ℤ) (count : ℕ) (out : FixType) → length ts ≡ count → AllZip InType ts vs →
    conversion_bits (sum (map magnitude_bits ts)) (sum (map (λ t. t.frac) ts)) out ≤ 62 →
    ConversionFits (product_magnitude (take count vs)) (sum (map (λ t. t.frac) ts)) out
product_fits ts vs count out e a h =
    let len : length vs ≡ count = sym (length_types ts vs a) ∙ e in
    let whole : take count vs ≡ vs = subst (λ n. take n vs ≡ vs) len (take-length vs) in
    let bits = product_magnitude-le ts vs a in
    let small : product_magnitude vs ≤ 2 ^ sum (map magnitude_bits ts) = omega (arith, bits, ap (λ n. 2 ^ n) (sum-map magnitude_bits ts)) in
    subst (λ l. ConversionFits (product_magnitude l) (sum (map (λ t. t.frac) ts)) out) (sym whole)
    (conversion_fits (product_magnitude vs) (sum (map magnitude_bits ts)) (sum (map (λ t. t.frac) ts)) out small h)

-- ---- Rows of one, two and three inputs

gain_fits : (m : ℤ) (f : ℕ) (ts : List FixType) (vs : List ℤ) (out : FixType) → length ts ≡ 1 → AllZip InType ts vs →
    conversion_bits (magnitude_bits (input_type ts 0) + power_bits (unsigned_abs m)) ((input_type ts 0).frac + f) out ≤ 62 →
    ConversionFits (unsigned_abs (input vs 0) * unsigned_abs m) ((input_type ts 0).frac + f) out
gain_fits m f [] vs out e a h = absurd (omega arith)
gain_fits m f (t ∷ ts) [] out e a h = absurd a
gain_fits m f (t ∷ ts) (v ∷ vs) out e a h =
    let product =
    product-le (unsigned_abs v) (unsigned_abs m) (magnitude_bits t) (power_bits (unsigned_abs m))
    (magnitude-le t v a.0) (power_bits-enough (unsigned_abs m)) in
    conversion_fits (unsigned_abs v * unsigned_abs m) (magnitude_bits t + power_bits (unsigned_abs m)) (t.frac + f) out product h

converted_fits : (t : FixType) (v : ℤ) (out : FixType) → InType t v → conversion_bits (magnitude_bits t) t.frac out
    ≤ 62 → ConversionFits (unsigned_abs v) t.frac out
converted_fits t v out a h = conversion_fits (unsigned_abs v) (magnitude_bits t) t.frac out (magnitude-le t v a) h

convert_fits : (ts : List FixType) (vs : List ℤ) (out : FixType) → length ts ≡ 1 → AllZip InType ts vs →
    conversion_bits (magnitude_bits (input_type ts 0)) (input_type ts 0).frac out ≤ 62 →
    ConversionFits (unsigned_abs (input vs 0)) (input_type ts 0).frac out
convert_fits [] vs out e a h = absurd (omega arith)
convert_fits (t ∷ ts) [] out e a h = absurd a
convert_fits (t ∷ ts) (v ∷ vs) out e a h = converted_fits t v out a.0 h

switch_fits : (ts : List FixType) (vs : List ℤ) (out : FixType) → length ts ≡ 3 → AllZip InType ts vs →
    max (conversion_bits (magnitude_bits (input_type ts 0)) (input_type ts 0).frac out)
    (conversion_bits (magnitude_bits (input_type ts 2)) (input_type ts 2).frac out) ≤ 62 →
    ConversionFits (unsigned_abs (input vs 0)) (input_type ts 0).frac out
    × ConversionFits (unsigned_abs (input vs 2)) (input_type ts 2).frac out
switch_fits (t ∷ u ∷ w ∷ []) (x ∷ y ∷ z ∷ []) out e a h =
    let one = conversion_bits (magnitude_bits t) t.frac out in
    let two = conversion_bits (magnitude_bits w) w.frac out in
    let first : one ≤ 62 = omega (arith, le-max_left one two, h) in
    let second : two ≤ 62 = omega (arith, le-max_right one two, h) in
    (converted_fits t x out a.0 first, converted_fits w z out a.1.1.0 second)
switch_fits [] vs out e a h = absurd (omega arith)
switch_fits (t ∷ []) vs out e a h = absurd (omega arith)
switch_fits (t ∷ u ∷ []) vs out e a h = absurd (omega arith)
switch_fits (t ∷ u ∷ w ∷ y ∷ ts) vs out e a h = absurd (omega arith)
switch_fits (t ∷ u ∷ w ∷ []) [] out e a h = absurd a
switch_fits (t ∷ u ∷ w ∷ []) (x ∷ []) out e a h = absurd a.1
switch_fits (t ∷ u ∷ w ∷ []) (x ∷ y ∷ []) out e a h = absurd a.1.1
switch_fits (t ∷ u ∷ w ∷ []) (x ∷ y ∷ z ∷ v ∷ vs) out e a h = absurd a.1.1.1

comparison_fits : (ts : List FixType) (vs : List ℤ) → length ts ≡ 2 → AllZip InType ts vs → common_bits ts (common_frac ts) ≤ 62 →
    (let F = greatest_in ((input_type ts 0).frac ∷ (input_type ts 1).frac ∷ []) in
    (unsigned_abs (over_units (input vs 0) (input_type ts 0).frac F) ≤ 2 ^ 62)
    × (unsigned_abs (over_units (input vs 1) (input_type ts 1).frac F) ≤ 2 ^ 62))
comparison_fits (t ∷ u ∷ []) (x ∷ y ∷ []) e a h =
    let F = common_frac (t ∷ u ∷ []) in
    let bits = members-le (map (λ t. magnitude_bits t + (F - t.frac)) (t ∷ u ∷ [])) 0 in
    (aligned-le t x F 62 a.0 (let b = bits.0 in omega (arith, b, h)), aligned-le u y F 62 a.1.0 (let b = bits.1.0 in omega (arith, b, h)))
comparison_fits [] vs e a h = absurd (omega arith)
comparison_fits (t ∷ []) vs e a h = absurd (omega arith)
comparison_fits (t ∷ u ∷ w ∷ ts) vs e a h = absurd (omega arith)
comparison_fits (t ∷ u ∷ []) [] e a h = absurd a
comparison_fits (t ∷ u ∷ []) (x ∷ []) e a h = absurd a.1
comparison_fits (t ∷ u ∷ []) (x ∷ y ∷ z ∷ vs) e a h = absurd a.1.1

-- ---- All kinds

pub narrow_rows_fit : NarrowRowsFit
narrow_rows_fit (Gain gain how) ts out delays vs has reads h = gain_fits (gain_of gain).0 (gain_of gain).1 ts vs out has reads h
narrow_rows_fit (Sum count minus how) ts out delays vs has reads h = sum_fits ts vs count out has reads h
narrow_rows_fit (Product count how) ts out delays vs has reads h = product_fits ts vs count out has reads h
narrow_rows_fit (Switch criterion threshold how) ts out delays vs has reads h = switch_fits ts vs out has reads h
narrow_rows_fit (Relational compare) ts out delays vs has reads h = comparison_fits ts vs has reads h
narrow_rows_fit (Convert how) ts out delays vs has reads h = convert_fits ts vs out has reads h
narrow_rows_fit (RateTransition initial time) ts out true vs has reads h = tt
narrow_rows_fit (RateTransition initial time) ts out false vs has reads h = tt
narrow_rows_fit _ ts out delays vs has reads h = tt
