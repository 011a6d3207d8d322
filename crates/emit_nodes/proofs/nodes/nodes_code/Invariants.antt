use Rattle.std.proofs.Common.{◌≡◌, map, take}
use Rattle.emit_system_spec.specs.EmittedCode.{joined}
use Rattle.emit_system_spec.specs.Groups.{own_count}
use Rattle.emit_system_spec.specs.NodeCode.{code_at}
use Rattle.emit_nodes.specs.Code.{code_of}
use Rattle.emit_nodes.proofs.nodes.nodes_code.Given as goal

abbrev pub invariant-loop-n : goal.invariant-loop-n
invariant-loop-n l = code_of l.code.items
    ≡ joined (map (code_at l.layout.local (own_count l.layout.schedule) l.params) (take l.n-index l.nodes))
