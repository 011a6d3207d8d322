use Rattle.c_interpreter.specs.Frames.{tree_in}
use Rattle.c_interpreter.proofs.Places.{instance_there}
use Rattle.c_interpreter.proofs.statements.instance_slot.Goals as goal

pub unreachable-requires : goal.unreachable-requires
unreachable-requires c =
    let e = instance_there (tree_in c.args.frame.now) _ _ c.args.frame.now.of c.args.field c.slot_at.ensures.ready c.requires.instance in
    cc (e.3, c.in-Some-Number.ensures.slot)

pub unreachable-requires-in-None : goal.unreachable-requires-in-None
unreachable-requires-in-None c =
    let e = instance_there (tree_in c.args.frame.now) _ _ c.args.frame.now.of c.args.field c.slot_at.ensures.ready c.requires.instance in
    cc (e.3)

pub unreachable-requires-in-Some-Array : goal.unreachable-requires-in-Some-Array
unreachable-requires-in-Some-Array c =
    let e = instance_there (tree_in c.args.frame.now) _ _ c.args.frame.now.of c.args.field c.slot_at.ensures.ready c.requires.instance in
    cc (e.3, c.in-Some-Array.ensures.slot)
