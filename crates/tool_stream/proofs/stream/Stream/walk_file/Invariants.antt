use Rattle.std.proofs.Common.{◌≡◌, ◌≤◌, [], ◌+◌, ◌-◌, ◌*◌, length}
use Rattle.std.specs.Prelude.{true}
use Rattle.base_host.specs.Reading.{source, OnlyReads}
use Rattle.tool_traces.specs.Pieces.{BeginsLine}
use Rattle.tool_stream.specs.Walks.{place}
use Rattle.tool_stream.proofs.Files.{Reads}
use Rattle.tool_stream.proofs.stream.Stream.walk_file.Given as goal

-- whole lines of the file were walked over, and the bytes begin one
abbrev pub invariant-loop-count : goal.invariant-loop-count
invariant-loop-count g l = record {
  reads : Reads g.W.LineWalk.steps (λ a. g.W.LineWalk.said a.0) g.W.LineWalk.stops l.self.read.bytes
      (source (g.H.Host.rest l.fn.host) (g.H.Host.given l.fn.host)) (source (g.H.Host.rest l.host) (g.H.Host.given l.host))
      (place (l.fn.walk, l.fn.machine) (g.S.Sink.bytes l.fn.sink) [])
      (place (l.walk, l.machine) (g.S.Sink.bytes l.sink) l.self.waiting);
  begins : BeginsLine l.self.read.bytes;
  ready : g.W.LineWalk.ready (l.walk, l.machine);
  few : g.W.LineWalk.count l.walk ≤ 4294967295;
  empty : l.self.waiting ≡ [];
  sure : g.H.Host.sure_rest l.fn.host ≡ true → g.H.Host.sure_rest l.host ≡ true;
  read_calm : g.H.Host.read_faults l.host ≡ g.H.Host.read_faults l.fn.host;
  put_calm : g.S.Sink.faults l.sink ≡ g.S.Sink.faults l.fn.sink;
  only_reads : OnlyReads g.H.Host.files g.H.Host.written g.H.Host.write_faults l.fn.host l.host;
}

-- each piece has a whole line more, or the line that it begins grows
abbrev pub decreases-loop-count : goal.decreases-loop-count
decreases-loop-count g l = (4294967295 - g.W.LineWalk.count l.walk) * 5000 + (4097 - length l.self.read.bytes)
