use Rattle.std.proofs.Common.{arith, sym}
use Rattle.emit_layout.proofs.ParamNames.{inputs-same}
use Rattle.emit_layout.proofs.params.is_same_input.Goals as goal

pub returns : goal.returns
returns c = let low = c.ranges.j.fits in let high = c.ranges.k.fits in
    sym (inputs-same c.args.j c.args.k (omega (arith, low)) (omega (arith, high)))
