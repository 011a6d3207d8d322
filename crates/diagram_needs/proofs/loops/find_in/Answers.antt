use Rattle.diagram_needs.proofs.GraphSteps.{no_cycle-no_loop}
use Rattle.diagram_needs.proofs.loops.find_in.Goals as goal

pub returns-in-Ok : goal.returns-in-Ok
returns-in-Ok c = no_cycle-no_loop c.args.g.now c.in-Ok.ensures.no_cycle
