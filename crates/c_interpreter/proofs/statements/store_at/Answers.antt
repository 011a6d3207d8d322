use Rattle.std.proofs.Common.{arith, sym, ap, ◌∙◌, w64, ◌+◌, ◌<◌}
use Rattle.std.proofs.lemmas.Int.{to_z-of_z}
use Rattle.std.proofs.Math.ListN.{set}
use Rattle.c_semantics.specs.Values.{is_in_type}
use Rattle.c_interpreter.specs.Sound.{zero_at}
use Rattle.c_interpreter.specs.States.{filled}
use Rattle.c_interpreter.specs.Seen.{halted}
use Rattle.c_interpreter.specs.Frames.{cells_in, tree_in}
use Rattle.c_interpreter.proofs.Places.{stores_item}
use Rattle.c_interpreter.proofs.Outcomes.{store_at_gives, store_at_stops}
use Rattle.c_interpreter.proofs.statements.store_at.Goals as goal

pub overflow_add-value : goal.overflow_add-value
overflow_add-value c =
    let h = stores_item (tree_in c.args.frame.now) _ _ c.args.frame.now.of c.args.assignment.now.field c.args.numbers.now
    c.array_slot-at.result.0 c.array_slot-at.result.1 c.array_slot-at.result.2 c.array_slot-at.ensures.ready
    c.requires.array c.requires.room c.array_slot-at.ensures.slot in
    omega (arith, h.within, h.counted, c.requires.inside)

pub offset_bounds-numbers-at : goal.offset_bounds-numbers-at
offset_bounds-numbers-at c =
    let h = stores_item (tree_in c.args.frame.now) _ _ c.args.frame.now.of c.args.assignment.now.field c.args.numbers.now
    c.array_slot-at.result.0 c.array_slot-at.result.1 c.array_slot-at.result.2 c.array_slot-at.ensures.ready
    c.requires.array c.requires.room c.array_slot-at.ensures.slot in
    omega (arith, h.within, h.counted, c.requires.inside)

pub bounds-numbers-at : goal.bounds-numbers-at
bounds-numbers-at c =
    let h = stores_item (tree_in c.args.frame.now) _ _ c.args.frame.now.of c.args.assignment.now.field c.args.numbers.now
    c.array_slot-at.result.0 c.array_slot-at.result.1 c.array_slot-at.result.2 c.array_slot-at.ensures.ready
    c.requires.array c.requires.room c.array_slot-at.ensures.slot in
    omega (arith, h.within, h.counted, c.requires.inside)

pub returns-then-is_in_type : goal.returns-then-is_in_type
returns-then-is_in_type c =
    let h = stores_item (tree_in c.args.frame.now) _ _ c.args.frame.now.of c.args.assignment.now.field c.args.numbers.now
    c.array_slot-at.result.0 c.array_slot-at.result.1 c.array_slot-at.result.2 c.array_slot-at.ensures.ready
    c.requires.array c.requires.room c.array_slot-at.ensures.slot in
    let same = to_z-of_z w64 c.args.value c.ranges.value in
    let inside : c.args.place < c.array_slot-at.result.1 = omega (arith, h.counted, c.requires.inside) in
    λ cost. store_at_gives c.args.assignment.now.line c.args.assignment.now.field c.args.place cost.steps cost.calls _ c.array_slot-at.result.2
    c.args.value _ _ h.typed (c.if-is_in_type.ensures ∙ ap (is_in_type c.array_slot-at.result.2) same)
    (h.stored c.args.place c.args.value inside
    ∙ ap (λ v. filled (zero_at (tree_in c.args.frame.now) c.args.frame.now.of)
    (set c.args.numbers.now (c.array_slot-at.result.0 + c.args.place) v)) (sym same))

pub returns-else-is_in_type : goal.returns-else-is_in_type
returns-else-is_in_type c =
    let h = stores_item (tree_in c.args.frame.now) _ _ c.args.frame.now.of c.args.assignment.now.field c.args.numbers.now
    c.array_slot-at.result.0 c.array_slot-at.result.1 c.array_slot-at.result.2 c.array_slot-at.ensures.ready
    c.requires.array c.requires.room c.array_slot-at.ensures.slot in
    λ cost. ap (λ at. halted at (cells_in c.args.frame.now c.args.numbers.now)) c.at.ensures
    ∙ store_at_stops c.args.assignment.now.line c.args.assignment.now.field c.args.place cost.steps cost.calls _ c.array_slot-at.result.2
    c.args.value _ h.typed (c.if-is_in_type.ensures
    ∙ ap (is_in_type c.array_slot-at.result.2) (to_z-of_z w64 c.args.value c.ranges.value))
