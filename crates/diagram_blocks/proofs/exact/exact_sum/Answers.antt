use Rattle.std.proofs.Common.{rules, ◌≡◌, ◌<◌, length, slice_index_or, w64, pos, ◌+ℤ◌, ◌-ℤ◌, FitsSigned, to_z, arith}
use Rattle.std.proofs.lemmas.Int.{to_z-of_z, ints}
use Rattle.base_fixed_point.specs.Conversion.{over_units}
use Rattle.diagram_blocks.proofs.SoFar.{sum_adds, sum_subtracts, term-le}
use Rattle.diagram_blocks.proofs.exact.exact_sum.Goals as goal
use Rattle.diagram_blocks.proofs.exact.exact_sum.Goals.{then-minus-i-eq1, else-minus-i-eq1}

pub loop-i-preserved : goal.loop-i-preserved
loop-i-preserved c =
    let minus = c.args.minus in
    let F = c.args.common in
    let fs = c.args.fracs.now in
    let vs = c.args.inputs.now in
    let i = c.loop-i.i in
    let s = to_z w64 c.loop-i.sum-bits in
    let v = slice_index_or vs i (pos 0) in
    let term = c.aligned-term.result in
    let next = to_z w64 c.if-minus-i-eq1.sum-bits in
    let fits : FitsSigned w64 v = search rules in
    let in_fracs : i < length fs = omega arith in
    let is_term : term ≡ over_units v (slice_index_or fs i 0) F = simp to_z-of_z at c.aligned-term.ensures in
    let small = term-le minus F fs vs i s 0 (pos 0) in_fracs c.loop-i-test.true c.loop-i.invariant in
    let bound = c.requires.fits in
    elim c.if-minus-i-eq1.branch [
      | then-minus-i-eq1 w ↦
          let sum : next ≡ s -ℤ term = omega (arith, ints, w.sum-is, is_term, small, bound) in
          sum_subtracts minus F fs vs i s next term in_fracs c.loop-i-test.true c.loop-i.invariant w.if-minus-i-eq1.true is_term sum
      | else-minus-i-eq1 w ↦
          let sum : next ≡ s +ℤ term = omega (arith, ints, w.sum-is, is_term, small, bound) in
          sum_adds minus F fs vs i s next term in_fracs c.loop-i-test.true c.loop-i.invariant w.if-minus-i-eq1.false is_term sum
    ]
