use Rattle.std.proofs.Common.{subst, List, ap, slice_get}
use Rattle.c_syntax.specs.Plain.{program_tree}
use Rattle.c_syntax.specs.Tree.{FieldTree}
use Rattle.c_interpreter.specs.Numbering.{IsHeld}
use Rattle.c_interpreter.proofs.Standing.{held_slot, step_is}
use Rattle.c_interpreter.proofs.instances.step_into.Goals as goal

pub unreachable-requires : goal.unreachable-requires
unreachable-requires c =
    let n = c.args.numbering.now in
    let h = subst
    (λ (fs : List FieldTree). IsHeld n.counts.now fs c.in_ok-position.position c.in_ok-position.left c.args.number)
    c.fields_of-fields.ensures c.in_ok-position.ensures.found in
    let e = held_slot (program_tree n.code.program) n.code.layouts n.counts.now c.requires.numbered c.requires.laid
    c.args.of c.in_ok-position.position c.in_ok-position.left c.args.number h in
    let s = ap (λ xs. slice_get xs c.in_ok-position.position) c.slots.ensures.slots in
    cc (e.3, s, c.in-Some-Number.ensures)

pub unreachable-requires-in-None : goal.unreachable-requires-in-None
unreachable-requires-in-None c =
    let n = c.args.numbering.now in
    let h = subst
    (λ (fs : List FieldTree). IsHeld n.counts.now fs c.in_ok-position.position c.in_ok-position.left c.args.number)
    c.fields_of-fields.ensures c.in_ok-position.ensures.found in
    let e = held_slot (program_tree n.code.program) n.code.layouts n.counts.now c.requires.numbered c.requires.laid
    c.args.of c.in_ok-position.position c.in_ok-position.left c.args.number h in
    let s = ap (λ xs. slice_get xs c.in_ok-position.position) c.slots.ensures.slots in
    cc (e.3, s, c.in-None.ensures)

pub returns-clause-found : goal.returns-clause-found
returns-clause-found c =
    let n = c.args.numbering.now in
    let h = subst
    (λ (fs : List FieldTree). IsHeld n.counts.now fs c.in_ok-position.position c.in_ok-position.left c.args.number)
    c.fields_of-fields.ensures c.in_ok-position.ensures.found in
    let s = ap (λ xs. slice_get xs c.in_ok-position.position) c.slots.ensures.slots in
    step_is (program_tree n.code.program) n.code.layouts n.counts.now c.requires.numbered c.requires.laid c.args.of
    c.in_ok-position.position c.in_ok-position.left c.args.number c.in-Some-Instance.at c.in-Some-Instance.field-0-1
    c.in-Some-Instance.of h (cc (s, c.in-Some-Instance.ensures))

pub unreachable-requires-in-Some-Array : goal.unreachable-requires-in-Some-Array
unreachable-requires-in-Some-Array c =
    let n = c.args.numbering.now in
    let h = subst
    (λ (fs : List FieldTree). IsHeld n.counts.now fs c.in_ok-position.position c.in_ok-position.left c.args.number)
    c.fields_of-fields.ensures c.in_ok-position.ensures.found in
    let e = held_slot (program_tree n.code.program) n.code.layouts n.counts.now c.requires.numbered c.requires.laid
    c.args.of c.in_ok-position.position c.in_ok-position.left c.args.number h in
    let s = ap (λ xs. slice_get xs c.in_ok-position.position) c.slots.ensures.slots in
    cc (e.3, s, c.in-Some-Array.ensures)
