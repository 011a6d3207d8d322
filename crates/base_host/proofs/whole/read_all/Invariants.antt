use Rattle.std.proofs.Common.{◌≡◌, ◌≤◌, ◌-◌, length, vec_len}
use Rattle.std.specs.Prelude.{Some, true}
use Rattle.std.specs.Io.KnownBytes.{prepend_known}
use Rattle.base_host.specs.Files.{OnFile}
use Rattle.base_host.specs.Reading.{RoseBy}
use Rattle.base_host.proofs.whole.read_all.Given as goal

-- what was read and what is left are the file
abbrev pub invariant-loop-count : goal.invariant-loop-count
invariant-loop-count g l = record {
  within : vec_len l.bytes ≤ l.max;
  file : OnFile (g.H.Host.files l.fn.host) (g.H.Host.rest l.fn.host) l.name
      (λ file. Some file ≡ prepend_known l.bytes.items (g.H.Host.rest l.host));
  given : RoseBy (length l.bytes.items) (g.H.Host.given l.fn.host) (g.H.Host.given l.host);
  sure : g.H.Host.sure l.fn.host l.name ≡ true → g.H.Host.sure_rest l.host ≡ true;
  calm : g.H.Host.read_faults l.host ≡ g.H.Host.read_faults l.fn.host;
  files : g.H.Host.files l.host ≡ g.H.Host.files l.fn.host;
  written : g.H.Host.written l.host ≡ g.H.Host.written l.fn.host;
  write_faults : g.H.Host.write_faults l.host ≡ g.H.Host.write_faults l.fn.host;
}

abbrev pub decreases-loop-count : goal.decreases-loop-count
decreases-loop-count g l = l.max - vec_len l.bytes
