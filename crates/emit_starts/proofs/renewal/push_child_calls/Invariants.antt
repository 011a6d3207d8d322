use Rattle.std.proofs.Common.{◌≡◌, ◌++◌, map, take}
use Rattle.std.specs.List.{enumerate_from}
use Rattle.c_syntax.specs.Plain.{stmt_tree}
use Rattle.emit_system_spec.specs.Groups.{own_count}
use Rattle.emit_system_spec.specs.Renewing.{call_behind}
use Rattle.emit_starts.proofs.renewal.push_child_calls.Given as goal

abbrev pub invariant-loop-place : goal.invariant-loop-place
invariant-loop-place l =
    map stmt_tree l.body.items ≡ map stmt_tree l.initial.body.items
    ++ map (call_behind l.layout.local (own_count l.layout.schedule) l.behind) (enumerate_from 0 (take l.place l.children))
