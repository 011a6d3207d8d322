use Rattle.std.proofs.Common.{rules, ◌+◌, ◌≤◌, ◌^◌, List, ℕ, slice_index_or, w64, ℤ, pos, ◌*ℤ◌, FitsSigned, to_z, arith}
use Rattle.std.proofs.lemmas.Int.{to_z-of_z, fits_signed_from_abs}
use Rattle.diagram_blocks.specs.Laws.{product_magnitude}
use Rattle.diagram_blocks.proofs.SoFar.{IsProductSoFar, product_goes_on, product_so_far-le}
use Rattle.diagram_blocks.proofs.exact.exact_product.Goals as goal

-- one factor more fits too
next_fits : (vs : List ℤ) (i : ℕ) (p v : ℤ) → product_magnitude vs ≤ 2 ^ 62 → IsProductSoFar vs (i + 1) (p *ℤ v) → FitsSigned w64 (p *ℤ v)
next_fits vs i p v bound next = fits_signed_from_abs w64 (p *ℤ v) (let small = product_so_far-le vs (i + 1) (p *ℤ v) next in omega arith)

pub overflow_mul-product : goal.overflow_mul-product
overflow_mul-product c =
    let vs = c.args.inputs.now in
    let i = c.loop-v.v-index in
    let v = slice_index_or vs i (pos 0) in
    let p = to_z w64 c.loop-v.product-bits in
    let fits : FitsSigned w64 v = search rules in
    rw to_z-of_z (next_fits vs i p v c.requires (product_goes_on vs i p (pos 0) c.loop-v-test.true c.loop-v.invariant))

pub loop-v-preserved : goal.loop-v-preserved
loop-v-preserved c =
    let vs = c.args.inputs.now in
    let i = c.loop-v.v-index in
    let v = slice_index_or vs i (pos 0) in
    let p = to_z w64 c.loop-v.product-bits in
    let next = product_goes_on vs i p (pos 0) c.loop-v-test.true c.loop-v.invariant in
    let fits : FitsSigned w64 v = search rules in
    let fits_both : FitsSigned w64 (p *ℤ v) = next_fits vs i p v c.requires next in
    simp to_z-of_z next
