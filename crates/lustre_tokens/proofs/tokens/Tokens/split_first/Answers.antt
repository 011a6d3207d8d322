use Rattle.lustre_tokens.proofs.TokenLines.{first-token}
use Rattle.lustre_tokens.proofs.tokens.Tokens.split_first.Goals as goal

pub returns-in-Token : goal.returns-in-Token
returns-in-Token c =
    first-token c.loop-first.line c.in-Token.len c.in-Some.first.now c.loop-first.bytes.now c.in-Some.after.now
    c.split_at.result.0.now c.split_at.result.1.now c.loop-first.invariant.same c.in-Some.ensures.cases.0
    c.in-Token.ensures c.split_at.ensures.front c.split_at.ensures.back c.loop-first.invariant.fits
    c.new.ensures
