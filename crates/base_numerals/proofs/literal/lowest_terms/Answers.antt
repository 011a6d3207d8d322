use Rattle.std.proofs.Common.{rules, subst, sym, ap, ◌∙◌, ◌≡◌, ◌<◌, ◌≤◌, ◌^◌, ◌/◌, ◌%◌, ℕ, ℤ, Bool, unsigned_abs, FitsSigned, le_trans}
use Rattle.std.specs.Int.{w128, IsGcd}
use Rattle.std.proofs.lemmas.Int.{to_z-of_z}
use Rattle.base_core.specs.Numbers.{AreLowest}
use Rattle.base_numerals.specs.Literals.{Ratio, with_sign}
use Rattle.base_numerals.proofs.lemmas.LowestTerms.{IsLowestOf, divided_is_lowest}
use Rattle.base_numerals.proofs.literal.lowest_terms.Goals as goal

abbrev ratio : ℤ → ℕ → Ratio
ratio num den = record { num = num; den = den }

-- the same where the numbers were copied
lowest_of : (negative : Bool) (num den g : ℕ) (z : ℤ) (d h : ℕ) → 0 < den → d ≡ den → h ≡ g → IsGcd d (num % d) g →
    z ≡ with_sign negative (num / h) → IsLowestOf negative num den z (d / h)
lowest_of negative num den g z d h some e f is s =
    divided_is_lowest negative num den g z (d / h) some
    (subst (λ n. IsGcd n (num % n) g) e is)
    (s ∙ ap (λ n. with_sign negative (num / n)) f)
    (ap (λ n. n / h) e ∙ ap (λ n. den / n) f)

pub invariant_of-result : goal.invariant_of-result
invariant_of-result c =
    let fits : FitsSigned w128 c.signed.result = search rules in
    let same = to_z-of_z w128 c.signed.result fits in
    let is = lowest_of _ _ _ _ _ _ _ c.requires.some c.from-den.ensures c.from-divisor.ensures c.gcd.ensures.greatest c.signed.ensures in
    record {
      lowest = subst (λ z. AreLowest (unsigned_abs z) (c.from-den.result / c.from-divisor.result)) (sym same) is.lowest;
      num_bound = subst (λ z. unsigned_abs z ≤ 10 ^ 36) (sym same) (le_trans is.num_bound c.requires.num);
      den_bound = le_trans is.den_bound c.requires.den;
    }

pub returns : goal.returns
returns c =
    let fits : FitsSigned w128 c.signed.result = search rules in
    let same = to_z-of_z w128 c.signed.result fits in
    let is = lowest_of _ _ _ _ _ _ _ c.requires.some c.from-den.ensures c.from-divisor.ensures c.gcd.ensures.greatest c.signed.ensures in
    ap (λ z. ratio z (c.from-den.result / c.from-divisor.result)) same ∙ sym is.value
