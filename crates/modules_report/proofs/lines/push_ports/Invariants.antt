use Rattle.std.proofs.Common.{◌≡◌, ◌++◌, map, take}
use Rattle.std.specs.String.{string_bytes}
use Rattle.base_core.specs.Words.{port_word}
use Rattle.base_core.specs.Ports.{ports_in}
use Rattle.modules_report.specs.Texts.{spaced}
use Rattle.modules_report.proofs.Words.{has_word}
use Rattle.modules_report.proofs.lines.push_ports.Given as goal

abbrev pub invariant-loop-port : goal.invariant-loop-port
invariant-loop-port l =
    (string_bytes l.out ≡ string_bytes l.fn.out ++ spaced (map port_word (ports_in l.mask (take l.port-index l.ports))))
    × (l.any ≡ has_word (map port_word (ports_in l.mask (take l.port-index l.ports))))
