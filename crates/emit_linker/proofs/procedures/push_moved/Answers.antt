use Rattle.std.proofs.Common.{map}
use Rattle.c_syntax.specs.Plain.{procedure_tree}
use Rattle.emit_shape.specs.Relocation.{moved_procedure}
use Rattle.emit_linker.specs.Linked.{relocation}
use Rattle.emit_linker.proofs.Steps.{seen-push, seen-next}
use Rattle.emit_linker.proofs.procedures.push_moved.Goals as goal

pub loop-q-preserved : goal.loop-q-preserved
loop-q-preserved c =
    let x = c.q-item.result in
    let moved = moved_procedure (relocation c.args.links.now) in
    let list = c.loop-q.list.items in
    seen-next moved procedure_tree c.args.procedures.now c.loop-q.q-index x (map procedure_tree c.args.list.now.items)
    (map procedure_tree list) (map procedure_tree c.push.new.self.items) c.loop-q-test.true c.q-item.is c.loop-q.invariant
    (seen-push procedure_tree list c.push.new.self.items c.in_ok-moved_procedure.field-0 (moved (procedure_tree x))
    c.in_ok-push.ensures.items c.in_ok-moved_procedure.ensures)
