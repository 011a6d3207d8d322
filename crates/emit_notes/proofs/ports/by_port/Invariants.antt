use Rattle.std.proofs.Common.{◌≡◌, ◌-◌, ◌++◌}
use Rattle.std.specs.Prelude.{option_to_list}
use Rattle.std.specs.List.{flat_map, range_with_len}
use Rattle.emit_notes.specs.FunctionNotes.{outport_with, by_port}
use Rattle.emit_notes.proofs.ports.by_port.Given as goal

abbrev pub invariant-loop-port : goal.invariant-loop-port
invariant-loop-port l =
    l.ordered.items ++ flat_map (λ k. option_to_list (outport_with l.labels l.rows k)) (range_with_len l.port (33 - l.port))
    ≡ by_port l.labels l.rows
