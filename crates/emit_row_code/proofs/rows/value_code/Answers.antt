use Rattle.std.proofs.Common.{rules, ◌≤◌, take, sym, subst, w64, FitsSigned}
use Rattle.std.proofs.lemmas.Int.{to_z-of_z}
use Rattle.diagram_blocks.specs.Value.{greatest_in}
use Rattle.emit_row_code.specs.Resolved.{IsWritable}
use Rattle.emit_row_code.proofs.rows.value_code.Goals as goal

pub converted_gain-requires-clause-factor_fits : goal.converted_gain-requires-clause-factor_fits
converted_gain-requires-clause-factor_fits c =
    let fits : FitsSigned w64 c.in-Gain.m = search rules in
    let writable = subst IsWritable c.in-Gain.is (c.row_ops_are_writable.ensures c.args.op.now c.requires) in
    simp to_z-of_z writable.0

pub converted_sum-requires-clause-unit : goal.converted_sum-requires-clause-unit
converted_sum-requires-clause-unit c =
    let writable = subst IsWritable c.in-Sum.is (c.row_ops_are_writable.ensures c.args.op.now c.requires) in
    subst (λ n. greatest_in (take n c.in-Sum.fracs) ≤ 31) (sym c.from.ensures) writable.1

pub switched-requires-clause-threshold_fits : goal.switched-requires-clause-threshold_fits
switched-requires-clause-threshold_fits c =
    let fits : FitsSigned w64 c.in-Switch.threshold = search rules in
    let writable = subst IsWritable c.in-Switch.is (c.row_ops_are_writable.ensures c.args.op.now c.requires) in
    simp to_z-of_z writable.0
