use Rattle.lustre_tokens.proofs.Pieces.{double-sign, single-sign}
use Rattle.lustre_tokens.proofs.bytes.sign_piece.Goals as goal

pub returns-then-is_double_sign : goal.returns-then-is_double_sign
returns-then-is_double_sign c =
    double-sign c.args.first c.in-Some.second.now _ c.args.rest.now c.requires c.in-Some.ensures.cases.0
    c.if-is_double_sign.ensures

pub returns-else-is_double_sign : goal.returns-else-is_double_sign
returns-else-is_double_sign c =
    single-sign c.args.first c.in-Some.second.now _ c.args.rest.now c.requires c.in-Some.ensures.cases.0
    c.if-is_double_sign.ensures
