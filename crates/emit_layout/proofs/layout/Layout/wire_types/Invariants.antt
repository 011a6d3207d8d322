use Rattle.std.proofs.Common.{◌≡◌, drop, ◌++◌}
use Rattle.emit_system_spec.specs.Sources.{wire_types}
use Rattle.emit_layout.proofs.layout.Layout.wire_types.Given as goal

abbrev pub invariant-loop-wire : goal.invariant-loop-wire
invariant-loop-wire l = wire_types l.self.local l.wires ≡ l.types.items ++ wire_types l.self.local (drop l.wire-index l.wires)
