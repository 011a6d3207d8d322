use Rattle.std.proofs.Common.{◌<◌, ◌≤◌, ◌∷◌, [], length, ap, arith}
use Rattle.std.proofs.lemmas.List.{length-append}
use Rattle.emit_inlined.proofs.FoundHelpers.{found-more, found-all}
use Rattle.emit_inlined.proofs.finding.helpers.Goals as goal

pub loop-position-preserved : goal.loop-position-preserved
loop-position-preserved c =
    let flags = c.loop-position.list.items in
    let b = c.in_ok-is_helper.field-0 in
    let i = c.loop-position.position in
    let made = c.in_ok-push.ensures.items in
    let inside : i < length c.args.procedures.now = omega (arith, c.loop-position-test.true) in
    record {
      long = let more = ap length made in omega (arith, more, length-append flags (b ∷ []), c.loop-position.invariant.long);
      found =
          found-more c.args.counts.now c.args.procedures.now flags c.push.new.self.items i c.index-procedures-position.result b inside
          c.index-procedures-position.is c.loop-position.invariant.long made c.in_ok-is_helper.ensures c.loop-position.invariant.found;
    }

pub returns : goal.returns
returns c =
    let all : length c.args.procedures.now ≤ c.loop-position.position = omega (arith, c.loop-position-test.false) in
    found-all c.args.counts.now c.args.procedures.now c.loop-position.list.items c.loop-position.position all
    c.loop-position.invariant.long c.loop-position.invariant.found
