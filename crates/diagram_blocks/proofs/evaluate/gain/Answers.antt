use Rattle.std.proofs.Common.{rules, ℕ, ◌*◌, ◌*ℤ◌, unsigned_abs, w64, ℤ, FitsSigned, arith}
use Rattle.std.proofs.lemmas.Int.{to_z-of_z, fits_signed_from_abs, unsigned_abs-mul}
use Rattle.base_fixed_point.specs.declared.FixType.{FixType}
use Rattle.diagram_blocks.specs.Laws.{ConversionFits}
use Rattle.diagram_blocks.proofs.Evaluable.{small_number}
use Rattle.diagram_blocks.proofs.evaluate.gain.Goals as goal

product_fits : (v m : ℤ) (F : ℕ) (to : FixType) → ConversionFits (unsigned_abs v * unsigned_abs m) F to → FitsSigned w64 (v *ℤ m)
product_fits v m F to h =
    fits_signed_from_abs w64 (v *ℤ m)
    (omega (arith, unsigned_abs-mul v m, small_number (unsigned_abs v * unsigned_abs m) F to h))

pub overflow_mul-v : goal.overflow_mul-v
overflow_mul-v c =
    let fits_v : FitsSigned w64 c.args.v = c.ranges.v in
    let fits_m : FitsSigned w64 c.args.m = c.ranges.m in
    simp to_z-of_z (product_fits c.args.v c.args.m c.args.frac c.args.to c.requires)

pub returns : goal.returns
returns c =
    let fits_v : FitsSigned w64 c.args.v = c.ranges.v in
    let fits_m : FitsSigned w64 c.args.m = c.ranges.m in
    let fits : FitsSigned w64 (c.args.v *ℤ c.args.m) = product_fits c.args.v c.args.m c.args.frac c.args.to c.requires in
    let fits_result : FitsSigned w64 c.conversion.result = search rules in
    simp to_z-of_z (simp to_z-of_z at c.conversion.ensures)
