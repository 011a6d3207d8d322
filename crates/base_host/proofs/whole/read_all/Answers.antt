use Rattle.std.proofs.Common.{◌≡◌, ◌<◌, ◌+◌, length, vec_len, arith, rules}
use Rattle.base_host.proofs.lemmas.ReadLaws.{front_and_more, long_and_more}
use Rattle.base_host.proofs.whole.read_all.Goals as goal

pub returns-then-max-len-clause-reads : goal.returns-then-max-len-clause-reads
returns-then-max-len-clause-reads g c =
    let items : vec_len c.loop-count.bytes ≡ length c.loop-count.bytes.items = search rules in
    let more = c.if-max-len.true in
    let long : c.args.max < length c.loop-count.bytes.items + c.in-Ok.count =
    omega (arith, items, more, c.len.ensures, c.loop-count.invariant.within) in
    record {
      long = long_and_more c.args.max (g.H.Host.files c.args.host.now) c.args.name.now (g.H.Host.rest c.args.host.now) _ _ c.in-Ok.count
          c.loop-count.bytes.items c.read.new.into c.loop-count.invariant.file c.in-Ok.ensures.bytes c.in-Ok.ensures.bound long;
      front = front_and_more (g.H.Host.files c.args.host.now) c.args.name.now (g.H.Host.rest c.args.host.now) _ _ _ _ _ c.in-Ok.count
          c.loop-count.bytes.items c.read.new.into c.loop-count.invariant.file c.in-Ok.ensures.bytes c.in-Ok.ensures.bound
          c.loop-count.invariant.given c.in-Ok.ensures.given;
    }

pub returns-then-is_err-2-clause-reads : goal.returns-then-is_err-2-clause-reads
returns-then-is_err-2-clause-reads g c =
    front_and_more (g.H.Host.files c.args.host.now) c.args.name.now (g.H.Host.rest c.args.host.now) _ _ _ _ _ c.in-Ok.count
    c.loop-count.bytes.items c.read.new.into c.loop-count.invariant.file c.in-Ok.ensures.bytes c.in-Ok.ensures.bound
    c.loop-count.invariant.given c.in-Ok.ensures.given
