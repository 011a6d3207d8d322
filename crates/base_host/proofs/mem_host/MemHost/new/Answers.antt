use Rattle.std.proofs.Common.{arith, rules}
use Rattle.base_host.proofs.Pairs.{bytes_at_past}
use Rattle.base_host.proofs.mem_host.MemHost.new.Goals as goal

pub returns : goal.returns
returns c = rw (bytes_at_past c.args.files.items c.len-opened.result (omega arith)) (search rules)
