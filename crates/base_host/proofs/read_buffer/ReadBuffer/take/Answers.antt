use Rattle.std.proofs.Common.{◌≤◌, ◌+◌, ◌-◌, length, drop, ap, ◌∙◌, arith}
use Rattle.std.proofs.lemmas.List.{length-take}
use Rattle.base_host.specs.Buffers.{ReadAhead}
use Rattle.base_host.proofs.Buffers.{taken}
use Rattle.base_host.proofs.read_buffer.ReadBuffer.take.Goals as goal

pub returns : goal.returns
returns c =
    let b = c.self.inside in
    let bytes = ap (λ (s : ReadAhead). s.bytes) c.self.view_is in
    let few : b.start + c.args.count ≤ b.end =
    omega (arith, c.requires, ap length bytes, length-take (b.end - b.start) (drop b.start b.bytes.items), c.self.invariant.0) in
    taken b.bytes.items b.start b.end c.args.count few ∙ ap (drop c.args.count) bytes
