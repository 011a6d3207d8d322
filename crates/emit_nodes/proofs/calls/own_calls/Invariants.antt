use Rattle.std.proofs.Common.{◌≡◌, [], map, take, slice_index_or}
use Rattle.c_syntax.specs.Plain.{stmt_tree}
use Rattle.emit_system_spec.specs.EmittedCode.{own_call}
use Rattle.emit_nodes.proofs.calls.own_calls.Given as goal

abbrev pub invariant-loop-group : goal.invariant-loop-group
invariant-loop-group l = map stmt_tree l.calls.items
    ≡ map (λ g. own_call l.params g (slice_index_or l.wanted g [])) (take l.group-index l.called)
