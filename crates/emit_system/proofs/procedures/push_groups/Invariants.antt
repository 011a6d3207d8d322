use Rattle.std.proofs.Common.{◌≡◌, ◌++◌, map, take}
use Rattle.c_syntax.specs.Plain.{procedure_tree}
use Rattle.emit_system_spec.specs.EmittedCode.{group_procedure}
use Rattle.emit_system.proofs.procedures.push_groups.Given as goal

abbrev pub invariant-loop-group : goal.invariant-loop-group
invariant-loop-group l =
    map procedure_tree l.procedures.items ≡ map procedure_tree l.initial.procedures.items
    ++ map (group_procedure l.layout.local l.layout.profile l.layout.schedule) (take l.group-index l.groups)
