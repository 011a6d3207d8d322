use Rattle.c_interpreter.specs.Frames.{tree_in}
use Rattle.c_interpreter.proofs.BodyReads.{items_many}
use Rattle.c_interpreter.proofs.frames.items_count.Goals as goal

pub returns : goal.returns
returns c =
    λ numbers. items_many (tree_in c.args.frame.now) _ _ c.args.frame.now.of c.args.field c.own_array.result.0
    c.own_array.result.1 c.slots.result.now numbers c.slots.ensures.ready c.slots.ensures.slots
    (c.own_array.ensures numbers)
