use Rattle.std.proofs.Common.{◌^◌, ◌≤◌, ap, arith}
use Rattle.std.proofs.Math.Pow.{pow_mono}
use Rattle.std.proofs.lemmas.Int.{ints}
use Rattle.c_syntax.specs.Tree.{literal}
use Rattle.emit_row_code.proofs.expression.power.Goals as goal

pub returns : goal.returns
returns c =
    let few : c.args.exponent ≤ 62 = c.requires in
    let small : 2 ^ c.args.exponent ≤ 2 ^ 62 = pow_mono few in
    ap literal (omega (arith, ints, small))
