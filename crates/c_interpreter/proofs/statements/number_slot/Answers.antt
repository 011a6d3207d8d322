use Rattle.c_interpreter.specs.Frames.{tree_in}
use Rattle.c_interpreter.proofs.Places.{number_there}
use Rattle.c_interpreter.proofs.statements.number_slot.Goals as goal

pub unreachable-requires : goal.unreachable-requires
unreachable-requires c =
    let e = number_there (tree_in c.args.frame.now) _ _ c.args.frame.now.of c.args.field c.slot_at.ensures.ready c.requires.number in
    cc (e.2, c.in-Some-Instance.ensures.slot)

pub unreachable-requires-in-None : goal.unreachable-requires-in-None
unreachable-requires-in-None c =
    let e = number_there (tree_in c.args.frame.now) _ _ c.args.frame.now.of c.args.field c.slot_at.ensures.ready c.requires.number in
    cc (e.2)

pub unreachable-requires-in-Some-Array : goal.unreachable-requires-in-Some-Array
unreachable-requires-in-Some-Array c =
    let e = number_there (tree_in c.args.frame.now) _ _ c.args.frame.now.of c.args.field c.slot_at.ensures.ready c.requires.number in
    cc (e.2, c.in-Some-Array.ensures.slot)
