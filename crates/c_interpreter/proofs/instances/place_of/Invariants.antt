use Rattle.c_syntax.specs.Plain.{program_tree}
use Rattle.c_interpreter.specs.Numbering.{IsOnWay}
use Rattle.c_interpreter.proofs.instances.place_of.Given as goal

abbrev pub invariant-loop-left : goal.invariant-loop-left
invariant-loop-left l =
    IsOnWay (program_tree l.numbering.code.program) l.numbering.code.layouts l.numbering.root l.instance l.left
    l.place.of l.place.at

abbrev pub decreases-loop-left : goal.decreases-loop-left
decreases-loop-left l = l.left
