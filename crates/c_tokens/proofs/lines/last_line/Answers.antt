use Rattle.std.proofs.Common.{◌<◌, arith}
use Rattle.c_tokens.proofs.LastLine.{last-line-is}
use Rattle.c_tokens.proofs.lines.last_line.Goals as goal

pub returns-in-Some : goal.returns-in-Some
returns-in-Some c =
    let fits : c.line_behind.result < 4294967296 = omega arith in
    last-line-is c.args.bytes.now c.in-Some.front.now _ c.line_behind.result c.in-Some.ensures.cases.0 c.line_behind.ensures fits
