use Rattle.emit_system_spec.specs.Groups.{own_count}
use Rattle.emit_system_spec.specs.NodeCode.{update_code}
use Rattle.emit_nodes.specs.Code.{code_of}
use Rattle.emit_system.proofs.Placed.{joined_placed}
use Rattle.emit_system.proofs.update.updates_code.Goals as goal

pub loop-place-preserved : goal.loop-place-preserved
loop-place-preserved c =
    let of = c.args.layout.now in
    let k = c.loop-place.place in
    joined_placed (update_code of.local (own_count of.schedule) c.args.params.now) c.args.children.now k c.index-children-place.result
    (code_of c.loop-place.code.items) (code_of c.in_ok-update_code.field-0.items) (code_of c.push_code.new.code.items)
    c.loop-place-test.true c.index-children-place.is c.in_ok-update_code.ensures c.loop-place.invariant c.in_ok-push_code.ensures
