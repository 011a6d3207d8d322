use Rattle.base_host.proofs.Buffers.{taken_behind, lost_behind}
use Rattle.base_host.proofs.put_buffer.PutBuffer.put.Goals as goal

pub returns-clause-taken : goal.returns-clause-taken
returns-clause-taken g c =
    taken_behind c.begin.result c.begin.new.self c.args.self.now c.args.bytes.now _ _ _ c.in_ok-flush.ensures.whole c.begin.ensures.taken

pub returns-clause-front : goal.returns-clause-front
returns-clause-front g c =
    lost_behind c.begin.result c.args.self.now c.args.bytes.now _ _ _ c.in_ok-flush.ensures.whole c.begin.ensures.front
