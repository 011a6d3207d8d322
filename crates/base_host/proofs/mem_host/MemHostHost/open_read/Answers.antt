use Rattle.std.proofs.Common.{arith, rules}
use Rattle.base_host.proofs.Pairs.{bytes_at_past}
use Rattle.base_host.proofs.mem_host.MemHostHost.open_read.Goals as goal

pub returns-2-clause-err : goal.returns-2-clause-err
returns-2-clause-err c = rw (bytes_at_past c.self.inside.files.items c.len-self-inside.result (omega arith)) (search rules)
