use Rattle.std.proofs.Common.{rules, ◌≡◌, ◌∙◌, ap, sym, ◌-◌, ℕ, Bool, true, false, ℤ, to_z, of_z, FitsSigned, Ok}
use Rattle.std.specs.Int.{w64}
use Rattle.std.proofs.lemmas.Int.{to_z-of_z}
use Rattle.base_core.specs.declared.base.Decimal.{Decimal}
use Rattle.base_fixed_point.specs.Conversion.{nearest_at, fits_32, reduced_constant}
use Rattle.base_fixed_point.specs.Constants.{capped}
use Rattle.base_fixed_point.proofs.lemmas.GainLaws.{constant_below-fits_at, constant_below-passes_at, fits_32-capped, capped-fits}
use Rattle.base_fixed_point.proofs.constants.constant_below.Goals as goal

-- the test in memory is that of the nearest number
test_of : (d : Decimal) (f : ℕ) (z : ℤ) (b : Bool) → z ≡ capped (nearest_at d f) → b ≡ fits_32 z → fits_32 (nearest_at d f) ≡ b
test_of d f z b e h = sym (h ∙ ap fits_32 e ∙ fits_32-capped (nearest_at d f))

pub returns-then-fits_32 : goal.returns-then-fits_32
returns-then-fits_32 c =
    let d = c.args.d.now in
    let fits : FitsSigned w64 c.nearest_within-number.result = search rules in
    let number : to_z w64 (of_z w64 c.nearest_within-number.result) ≡ capped (nearest_at d (c.loop-frac.frac - 1)) =
    to_z-of_z w64 _ fits ∙ c.nearest_within-number.ensures in
    let test = test_of d (c.loop-frac.frac - 1) _ true number c.if-fits_32.ensures in
    sym c.loop-frac.invariant ∙ constant_below-fits_at c.loop-frac.frac d c.loop-frac-test.true test
    ∙ sym (ap (λ r. Ok r) (c.reduced.ensures
    ∙ ap (reduced_constant (c.loop-frac.frac - 1)) (number
    ∙ capped-fits (nearest_at d (c.loop-frac.frac - 1)) test)))

pub loop-frac-preserved : goal.loop-frac-preserved
loop-frac-preserved c =
    let d = c.args.d.now in
    let fits : FitsSigned w64 c.nearest_within-number.result = search rules in
    let number : to_z w64 (of_z w64 c.nearest_within-number.result) ≡ capped (nearest_at d (c.loop-frac.frac - 1)) =
    to_z-of_z w64 _ fits ∙ c.nearest_within-number.ensures in
    constant_below-passes_at c.loop-frac.frac d c.loop-frac-test.true
    (test_of d (c.loop-frac.frac - 1) _ false number c.if-fits_32.ensures) ∙ c.loop-frac.invariant
