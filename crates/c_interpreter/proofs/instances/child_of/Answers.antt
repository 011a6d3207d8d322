use Rattle.std.proofs.Common.{arith, ◌∙◌, ap}
use Rattle.c_syntax.specs.Plain.{program_tree}
use Rattle.c_interpreter.specs.Instances.{field_named}
use Rattle.c_interpreter.specs.Numbering.{fields_count, struct_count}
use Rattle.c_interpreter.proofs.Standing.{whole_count, place_count, named_is, position_within, child_unnamed, child_none, child_some}
use Rattle.c_interpreter.proofs.instances.child_of.Goals as goal

pub returns-in_err-position-clause-child : goal.returns-in_err-position-clause-child
returns-in_err-position-clause-child c =
    let n = c.args.numbering.now in
    rw c.from_residual-in_err-position.ensures
    (child_unnamed (program_tree n.code.program) n.code.layouts n.counts.now c.requires.numbered n.root
    c.args.instance c.in_ok-place.place.of c.in_ok-place.place.at c.args.name.now c.in_ok-place.ensures.found
    (c.in_err-position.ensures ∙ named_is c.fields_of-fields.result.now c.args.name.now
    ∙ ap (λ fs. field_named fs c.args.name.now) c.fields_of-fields.ensures))

pub count_before-requires-clause-few : goal.count_before-requires-clause-few
count_before-requires-clause-few c =
    let n = c.args.numbering.now in
    let many =
    whole_count (program_tree n.code.program) n.code.layouts n.counts.now c.requires.numbered c.in_ok-place.place.of
    c.in_ok-place.ensures.found.known in
    let all =
    place_count (program_tree n.code.program) n.code.layouts n.counts.now c.requires.numbered n.root c.args.instance
    c.in_ok-place.place.of c.in_ok-place.place.at c.in_ok-place.ensures.found in
    omega (arith, c.requires.few, c.requires.counted, ap (fields_count n.counts.now) c.fields_of-fields.ensures)

pub count_before-requires-clause-inside : goal.count_before-requires-clause-inside
count_before-requires-clause-inside c =
    position_within c.fields_of-fields.result.now c.args.name.now c.in_ok-position.position c.in_ok-position.ensures

pub returns-in_err-before-clause-child : goal.returns-in_err-before-clause-child
returns-in_err-before-clause-child c =
    let n = c.args.numbering.now in
    rw c.from_residual-in_err-before.ensures
    (child_none (program_tree n.code.program) n.code.layouts n.counts.now c.requires.numbered n.root c.args.instance
    c.in_ok-place.place.of c.in_ok-place.place.at c.in_ok-position.position c.args.name.now
    c.in_ok-place.ensures.found (c.in_ok-position.ensures ∙ named_is c.fields_of-fields.result.now c.args.name.now
    ∙ ap (λ fs. field_named fs c.args.name.now) c.fields_of-fields.ensures) (c.in_err-before.ensures
    ∙ ap (λ fs. struct_count n.counts.now fs c.in_ok-position.position) c.fields_of-fields.ensures))

pub overflow_add-result : goal.overflow_add-result
overflow_add-result c =
    let n = c.args.numbering.now in
    let child =
    child_some (program_tree n.code.program) n.code.layouts n.counts.now c.requires.numbered c.requires.laid n.root
    c.args.instance c.in_ok-place.place.of c.in_ok-place.place.at c.in_ok-position.position c.in_ok-before.before
    c.args.name.now c.in_ok-place.ensures.found (c.in_ok-position.ensures
    ∙ named_is c.fields_of-fields.result.now c.args.name.now
    ∙ ap (λ fs. field_named fs c.args.name.now) c.fields_of-fields.ensures) (c.in_ok-before.ensures
    ∙ ap (λ fs. struct_count n.counts.now fs c.in_ok-position.position) c.fields_of-fields.ensures) in
    omega (arith, child.within, c.requires.few, c.requires.counted)

pub overflow_add-result-2 : goal.overflow_add-result-2
overflow_add-result-2 c =
    let n = c.args.numbering.now in
    let child =
    child_some (program_tree n.code.program) n.code.layouts n.counts.now c.requires.numbered c.requires.laid n.root
    c.args.instance c.in_ok-place.place.of c.in_ok-place.place.at c.in_ok-position.position c.in_ok-before.before
    c.args.name.now c.in_ok-place.ensures.found (c.in_ok-position.ensures
    ∙ named_is c.fields_of-fields.result.now c.args.name.now
    ∙ ap (λ fs. field_named fs c.args.name.now) c.fields_of-fields.ensures) (c.in_ok-before.ensures
    ∙ ap (λ fs. struct_count n.counts.now fs c.in_ok-position.position) c.fields_of-fields.ensures) in
    omega (arith, child.within, c.requires.few, c.requires.counted)

pub returns-clause-child : goal.returns-clause-child
returns-clause-child c =
    let n = c.args.numbering.now in
    let child =
    child_some (program_tree n.code.program) n.code.layouts n.counts.now c.requires.numbered c.requires.laid n.root
    c.args.instance c.in_ok-place.place.of c.in_ok-place.place.at c.in_ok-position.position c.in_ok-before.before
    c.args.name.now c.in_ok-place.ensures.found (c.in_ok-position.ensures
    ∙ named_is c.fields_of-fields.result.now c.args.name.now
    ∙ ap (λ fs. field_named fs c.args.name.now) c.fields_of-fields.ensures) (c.in_ok-before.ensures
    ∙ ap (λ fs. struct_count n.counts.now fs c.in_ok-position.position) c.fields_of-fields.ensures) in
    child.is

pub returns-clause-there : goal.returns-clause-there
returns-clause-there c =
    let n = c.args.numbering.now in
    let child =
    child_some (program_tree n.code.program) n.code.layouts n.counts.now c.requires.numbered c.requires.laid n.root
    c.args.instance c.in_ok-place.place.of c.in_ok-place.place.at c.in_ok-position.position c.in_ok-before.before
    c.args.name.now c.in_ok-place.ensures.found (c.in_ok-position.ensures
    ∙ named_is c.fields_of-fields.result.now c.args.name.now
    ∙ ap (λ fs. field_named fs c.args.name.now) c.fields_of-fields.ensures) (c.in_ok-before.ensures
    ∙ ap (λ fs. struct_count n.counts.now fs c.in_ok-position.position) c.fields_of-fields.ensures) in
    child.within
