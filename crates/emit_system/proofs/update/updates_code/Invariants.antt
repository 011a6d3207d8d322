use Rattle.std.proofs.Common.{◌≡◌, map, take}
use Rattle.std.specs.List.{enumerate_from}
use Rattle.emit_system_spec.specs.EmittedCode.{joined}
use Rattle.emit_system_spec.specs.Groups.{own_count}
use Rattle.emit_system_spec.specs.NodeCode.{update_code}
use Rattle.emit_nodes.specs.Code.{code_of}
use Rattle.emit_system.proofs.update.updates_code.Given as goal

abbrev pub invariant-loop-place : goal.invariant-loop-place
invariant-loop-place l = code_of l.code.items
    ≡ joined (map (update_code l.layout.local (own_count l.layout.schedule) l.params) (enumerate_from 0 (take l.place l.children)))
