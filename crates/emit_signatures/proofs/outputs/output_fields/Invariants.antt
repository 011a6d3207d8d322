use Rattle.std.proofs.Common.{◌≡◌, map, take}
use Rattle.emit_system_spec.specs.Fields.{value_field}
use Rattle.emit_signatures.proofs.outputs.output_fields.Given as goal

abbrev pub invariant-loop-outport : goal.invariant-loop-outport
invariant-loop-outport l = l.found.items ≡ map (λ o. value_field l.layout.local o.row) (take l.outport-index l.outport-items)
