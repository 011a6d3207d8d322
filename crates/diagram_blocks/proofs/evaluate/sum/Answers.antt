use Rattle.std.proofs.Common.{rules, ◌≡◌, ◌∙◌, sym, subst, ℕ, ◌≤◌, List, ℤ, w64, FitsSigned, unsigned_abs}
use Rattle.std.proofs.lemmas.Int.{to_z-of_z}
use Rattle.base_fixed_point.specs.declared.FixType.{FixType}
use Rattle.diagram_blocks.specs.Value.{greatest_in}
use Rattle.diagram_blocks.specs.Laws.{sum_magnitude, ConversionFits}
use Rattle.diagram_blocks.proofs.Evaluable.{lesser_fits}
use Rattle.diagram_blocks.proofs.evaluate.sum.Goals as goal

-- a sum within the magnitude of its terms is brought into the type
sum_fits : (s : ℤ) (unit common : ℕ) (fs : List ℕ) (vs : List ℤ) (to : FixType) → unit ≡ common →
    common ≡ greatest_in fs → unsigned_abs s ≤ sum_magnitude unit fs vs →
    ConversionFits (sum_magnitude (greatest_in fs) fs vs) (greatest_in fs) to → ConversionFits (unsigned_abs s) common to
sum_fits s unit common fs vs to e f bound fits =
    subst (λ k. ConversionFits (unsigned_abs s) k to) (sym f)
    (lesser_fits (unsigned_abs s) (sum_magnitude (greatest_in fs) fs vs) (greatest_in fs) to
    (subst (λ k. unsigned_abs s ≤ sum_magnitude k fs vs) (e ∙ f) bound) fits)

pub conversion-requires : goal.conversion-requires
conversion-requires c =
    let s = c.exact_sum.result in
    let fits : FitsSigned w64 s = search rules in
    simp to_z-of_z
    (sum_fits s c.from.result c.greatest_frac-common.result c.args.fracs.now c.args.inputs.now c.args.to
    c.from.ensures c.greatest_frac-common.ensures c.exact_sum.ensures.bound c.requires.fits)
