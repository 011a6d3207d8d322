use Rattle.std.proofs.Common.{◌≢◌, length, arith, rules}
use Rattle.tool_scripts.proofs.lemmas.CallWalk.{too_many_last, call_last, bad_last}
use Rattle.tool_scripts.proofs.walk.last_call.Goals as goal

pub returns-then-lines-eq-MOST_LINES-clause-last : goal.returns-then-lines-eq-MOST_LINES-clause-last
returns-then-lines-eq-MOST_LINES-clause-last c =
    let some : length c.args.bytes.now ≢ 0 = search rules in
    too_many_last c.args.bytes.now c.args.counts.now (length c.args.into.now) c.args.lines c.requires.unended some
    c.if-lines-eq-MOST_LINES.true

pub returns-in-Ok-clause-last : goal.returns-in-Ok-clause-last
returns-in-Ok-clause-last c =
    let some : length c.args.bytes.now ≢ 0 = search rules in
    call_last c.args.bytes.now c.args.counts.now (length c.args.into.now) c.args.lines _ c.requires.unended some
    (omega arith) c.in-Ok.ensures.call

pub returns-in-Err-clause-last : goal.returns-in-Err-clause-last
returns-in-Err-clause-last c =
    let some : length c.args.bytes.now ≢ 0 = search rules in
    bad_last c.args.bytes.now c.args.counts.now (length c.args.into.now) c.args.lines _ c.requires.unended some
    c.if-lines-eq-MOST_LINES.false c.in-Err.ensures.call
