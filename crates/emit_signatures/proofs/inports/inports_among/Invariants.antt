use Rattle.std.proofs.Common.{◌≡◌, slice_get, take}
use Rattle.std.specs.List.{filter_map}
use Rattle.std.specs.Option.{option_and_then}
use Rattle.emit_system_spec.specs.Heads.{inport_at}
use Rattle.emit_signatures.proofs.inports.inports_among.Given as goal

abbrev pub invariant-loop-node : goal.invariant-loop-node
invariant-loop-node l =
    l.ports.items ≡ filter_map (λ n. option_and_then (inport_at l.local) (slice_get l.places n))
    (take l.node-index l.nodes)
