use Rattle.c_tokens.proofs.TokenLines.{first-token}
use Rattle.c_tokens.proofs.tokens.Tokens.split_first.Goals as goal

pub returns-in-Token : goal.returns-in-Token
returns-in-Token c =
    first-token c.loop-first.line c.in-Token.len c.in-Some.first.now c.loop-first.bytes.now c.in-Some.behind.now
    c.split_at-in-Token.result.0.now c.split_at-in-Token.result.1.now c.loop-first.invariant.same c.in-Some.ensures.cases.0
    c.in-Token.ensures.2 c.split_at-in-Token.ensures.front c.split_at-in-Token.ensures.back c.loop-first.invariant.fits c.new.ensures
