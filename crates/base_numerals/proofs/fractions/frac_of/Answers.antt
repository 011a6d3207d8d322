use Rattle.std.proofs.Common.{rules, sym, subst, FitsSigned, unsigned_abs}
use Rattle.std.specs.Int.{w128}
use Rattle.std.proofs.lemmas.Int.{to_z-of_z}
use Rattle.base_core.specs.Numbers.{AreLowest}
use Rattle.base_numerals.proofs.fractions.frac_of.Goals as goal

-- src/numbers.rt:12:5
pub invariant_of-result : goal.invariant_of-result
invariant_of-result c =
    let d = c.args.d.now in
    let fits : FitsSigned w128 d.num = search rules in
    record { lowest = subst (λ z. AreLowest (unsigned_abs z) d.den) (sym (to_z-of_z w128 d.num fits)) d.lowest }
