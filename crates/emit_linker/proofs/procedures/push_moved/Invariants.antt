use Rattle.std.proofs.Common.{◌≡◌, ◌++◌, map, take}
use Rattle.c_syntax.specs.Plain.{procedure_tree}
use Rattle.emit_shape.specs.Relocation.{moved_procedure}
use Rattle.emit_linker.specs.Linked.{relocation}
use Rattle.emit_linker.proofs.procedures.push_moved.Given as goal

abbrev pub invariant-loop-q : goal.invariant-loop-q
invariant-loop-q l = map procedure_tree l.list.items
    ≡ map procedure_tree l.initial.list.items ++ map (moved_procedure (relocation l.links))
    (map procedure_tree (take l.q-index l.procedures))
