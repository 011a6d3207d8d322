use Rattle.std.proofs.Common.{◌∙◌, ap, slice_get}
use Rattle.c_syntax.specs.Plain.{program_tree}
use Rattle.c_interpreter.specs.Instances.{field_named}
use Rattle.c_interpreter.specs.Numbering.{slot_number}
use Rattle.c_interpreter.specs.Sound.{zero_at}
use Rattle.c_interpreter.specs.States.{filled}
use Rattle.c_interpreter.proofs.Standing.{named_is, number_unnamed, number_some}
use Rattle.c_interpreter.proofs.instances.number_of.Goals as goal

pub returns-in_err-position : goal.returns-in_err-position
returns-in_err-position c =
    let n = c.args.numbering.now in
    rw c.from_residual-in_err-position.ensures
    (number_unnamed (program_tree n.code.program) n.code.layouts n.counts.now c.requires.numbered n.root
    c.args.instance c.in_ok-place.place.of c.in_ok-place.place.at
    (filled (zero_at (program_tree n.code.program) n.root) c.args.numbers.now) c.args.name.now
    c.in_ok-place.ensures.found (c.in_err-position.ensures ∙ named_is c.fields_of.result.now c.args.name.now
    ∙ ap (λ fs. field_named fs c.args.name.now) c.fields_of.ensures))

pub returns : goal.returns
returns c =
    let n = c.args.numbering.now in
    c.number_at.ensures
    ∙ (λ i. slot_number (c.numbers_from.ensures i)
    ((c.slot_in-slot.ensures ∙ ap (λ xs. slice_get xs c.in_ok-position.position) c.slots.ensures.slots) i))
    ∙ number_some (program_tree n.code.program) n.code.layouts n.counts.now c.requires.numbered c.requires.laid
    n.root c.args.instance c.in_ok-place.place.of c.in_ok-place.place.at c.in_ok-position.position
    c.args.numbers.now c.args.name.now c.in_ok-place.ensures.found (c.in_ok-position.ensures
    ∙ named_is c.fields_of.result.now c.args.name.now
    ∙ ap (λ fs. field_named fs c.args.name.now) c.fields_of.ensures)
