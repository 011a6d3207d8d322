use Rattle.std.proofs.Common.{length, take, ◌-◌, ◌≡◌, ◌≤◌}
use Rattle.base_host.specs.Files.{add_file}
use Rattle.base_host.proofs.whole.write_all.Given as goal

abbrev pub invariant-loop-at : goal.invariant-loop-at
invariant-loop-at g l = record {
  within : l.at ≤ length l.bytes;
  written : g.H.Host.written l.host ≡ add_file (g.H.Host.written l.fn.host) l.name (take l.at l.bytes);
  calm : g.H.Host.write_faults l.host ≡ g.H.Host.write_faults l.fn.host;
  files : g.H.Host.files l.host ≡ g.H.Host.files l.fn.host;
  rest : g.H.Host.rest l.host ≡ g.H.Host.rest l.fn.host;
  given : g.H.Host.given l.host ≡ g.H.Host.given l.fn.host;
  read_faults : g.H.Host.read_faults l.host ≡ g.H.Host.read_faults l.fn.host;
}

abbrev pub decreases-loop-at : goal.decreases-loop-at
decreases-loop-at g l = length l.bytes - l.at
