use Rattle.std.proofs.Common.{◌≡◌, [], ◌+◌, ◌-◌, ◌*◌, length}
use Rattle.std.specs.Prelude.{true}
use Rattle.base_host.specs.Reading.{source}
use Rattle.tool_traces.specs.Pieces.{BeginsLine}
use Rattle.tool_driver.specs.Shapes.{inputs_of}
use Rattle.tool_script_runner.specs.Walks.{inside, HasRoom}
use Rattle.tool_script_runner.proofs.Files.{Reads}
use Rattle.tool_script_runner.proofs.script_file.run_pieces.Given as goal

-- the calls of whole lines of the file were answered, and the bytes begin one
abbrev pub invariant-loop-count : goal.invariant-loop-count
invariant-loop-count g l = record {
  reads : Reads l.counts (length (inputs_of l.fn.driver.shape)) l.run.done l.read.bytes (source (g.H.Host.rest l.fn.host) (g.H.Host.given l.fn.host)) (source (g.H.Host.rest l.host) (g.H.Host.given l.host))
      (inside l.fn.driver l.fn.run (g.S.Sink.bytes l.fn.sink)) (inside l.driver l.run (g.S.Sink.bytes l.sink));
  begins : BeginsLine l.read.bytes;
  room : HasRoom l.run l.driver.shape;
  empty : l.run.lines ≡ [];
  shape : l.driver.shape ≡ l.fn.driver.shape;
  sure : g.H.Host.sure_rest l.fn.host ≡ true → g.H.Host.sure_rest l.host ≡ true;
  read_calm : g.H.Host.read_faults l.host ≡ g.H.Host.read_faults l.fn.host;
  put_calm : g.S.Sink.faults l.sink ≡ g.S.Sink.faults l.fn.sink;
  files : g.H.Host.files l.host ≡ g.H.Host.files l.fn.host;
  written : g.H.Host.written l.host ≡ g.H.Host.written l.fn.host;
  write_faults : g.H.Host.write_faults l.host ≡ g.H.Host.write_faults l.fn.host;
}

-- each piece has a whole line more, or the line that it begins grows
abbrev pub decreases-loop-count : goal.decreases-loop-count
decreases-loop-count g l = (4294967295 - l.run.done) * 5000 + (4097 - length l.read.bytes)
