use Rattle.std.proofs.Common.{◌≡◌, map, take}
use Rattle.emit_system_spec.specs.Sources.{wire_leaf}
use Rattle.emit_layout.proofs.layout.Layout.wire_leaves.Given as goal

abbrev pub invariant-loop-wire : goal.invariant-loop-wire
invariant-loop-wire l = l.leaves.items ≡ map (wire_leaf l.self.local) (take l.wire-index l.wires)
