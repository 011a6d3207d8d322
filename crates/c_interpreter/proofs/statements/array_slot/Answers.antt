use Rattle.c_interpreter.specs.Frames.{tree_in}
use Rattle.c_interpreter.proofs.Places.{array_there}
use Rattle.c_interpreter.proofs.statements.array_slot.Goals as goal

pub unreachable-requires : goal.unreachable-requires
unreachable-requires c =
    let e = array_there (tree_in c.args.frame.now) _ _ c.args.frame.now.of c.args.field c.slot_at.ensures.ready c.requires.array in
    cc (e.3, c.in-Some-Number.ensures.slot)

pub unreachable-requires-in-Some-Instance : goal.unreachable-requires-in-Some-Instance
unreachable-requires-in-Some-Instance c =
    let e = array_there (tree_in c.args.frame.now) _ _ c.args.frame.now.of c.args.field c.slot_at.ensures.ready c.requires.array in
    cc (e.3, c.in-Some-Instance.ensures.slot)

pub unreachable-requires-in-None : goal.unreachable-requires-in-None
unreachable-requires-in-None c =
    let e = array_there (tree_in c.args.frame.now) _ _ c.args.frame.now.of c.args.field c.slot_at.ensures.ready c.requires.array in
    cc (e.3)
