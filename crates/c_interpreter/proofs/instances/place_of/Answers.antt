use Rattle.std.proofs.Common.{arith}
use Rattle.c_syntax.specs.Plain.{program_tree}
use Rattle.c_interpreter.proofs.Standing.{way_begins, way_goes, way_lost, way_fits}
use Rattle.c_interpreter.proofs.instances.place_of.Goals as goal

pub returns-in_err-inner-clause-none : goal.returns-in_err-inner-clause-none
returns-in_err-inner-clause-none c =
    let n = c.args.numbering.now in
    absurd (way_lost (program_tree n.code.program) n.code.layouts n.counts.now c.requires.numbered n.root
    c.args.instance c.loop-left.left c.loop-left.place.of c.loop-left.place.at c.loop-left.invariant
    (omega arith) c.in_err-inner.ensures.none)

pub overflow_add-place : goal.overflow_add-place
overflow_add-place c =
    let n = c.args.numbering.now in
    let way =
    way_goes (program_tree n.code.program) n.code.layouts n.counts.now c.requires.numbered n.root c.args.instance
    c.loop-left.left c.loop-left.place.of c.loop-left.place.at c.in_ok-inner.inner.of c.in_ok-inner.inner.at
    c.in_ok-inner.rest c.loop-left.invariant (omega arith) c.in_ok-inner.ensures.found in
    let fits =
    way_fits (program_tree n.code.program) n.code.layouts n.counts.now c.requires.numbered c.requires.laid n.root
    c.args.instance _ _ _ way in
    omega (arith, c.requires.sized)

pub loop-left-preserved : goal.loop-left-preserved
loop-left-preserved c =
    let n = c.args.numbering.now in
    way_goes (program_tree n.code.program) n.code.layouts n.counts.now c.requires.numbered n.root c.args.instance
    c.loop-left.left c.loop-left.place.of c.loop-left.place.at c.in_ok-inner.inner.of c.in_ok-inner.inner.at
    c.in_ok-inner.rest c.loop-left.invariant (omega arith) c.in_ok-inner.ensures.found

pub loop-left-init : goal.loop-left-init
loop-left-init c =
    let n = c.args.numbering.now in
    way_begins (program_tree n.code.program) n.code.layouts n.counts.now c.requires.numbered n.root c.args.instance
    c.requires.root_known (omega (arith, c.requires.counted))
