use Rattle.std.proofs.Common.{◌≡◌, ◌++◌, map, take}
use Rattle.std.specs.String.{string_bytes}
use Rattle.base_core.specs.Words.{port_word}
use Rattle.modules_report.specs.Texts.{ports_at, spaced}
use Rattle.modules_report.proofs.lines.push_ports_at.Given as goal

abbrev pub invariant-loop-port : goal.invariant-loop-port
invariant-loop-port l = string_bytes l.out ≡ string_bytes l.fn.out ++ spaced (map port_word (ports_at l.bit (take l.port-index l.ports)))
