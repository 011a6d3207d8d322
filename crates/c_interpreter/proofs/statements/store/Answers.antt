use Rattle.std.proofs.Common.{arith, sym, ap, ◌∙◌, w64}
use Rattle.std.proofs.lemmas.Int.{to_z-of_z}
use Rattle.std.proofs.Math.ListN.{set}
use Rattle.c_semantics.specs.Values.{is_in_type}
use Rattle.c_interpreter.specs.Sound.{zero_at}
use Rattle.c_interpreter.specs.States.{filled}
use Rattle.c_interpreter.specs.Seen.{halted}
use Rattle.c_interpreter.specs.Frames.{cells_in, tree_in}
use Rattle.c_interpreter.proofs.Places.{stores}
use Rattle.c_interpreter.proofs.Outcomes.{store_gives, store_stops}
use Rattle.c_interpreter.proofs.statements.store.Goals as goal

pub offset_bounds-numbers-at : goal.offset_bounds-numbers-at
offset_bounds-numbers-at c =
    omega (
      arith,
      (stores (tree_in c.args.frame.now) _ _ c.args.frame.now.of c.args.field c.args.numbers.now
          c.number_slot-at.result.0 c.number_slot-at.result.1 c.number_slot-at.ensures.ready c.requires.number
          c.requires.room c.number_slot-at.ensures.slot).within,
    )

pub bounds-numbers-at : goal.bounds-numbers-at
bounds-numbers-at c =
    (stores (tree_in c.args.frame.now) _ _ c.args.frame.now.of c.args.field c.args.numbers.now _
    c.number_slot-at.result.1 c.number_slot-at.ensures.ready c.requires.number c.requires.room
    c.number_slot-at.ensures.slot).within

pub returns-then-is_in_type : goal.returns-then-is_in_type
returns-then-is_in_type c =
    let h = stores (tree_in c.args.frame.now) _ _ c.args.frame.now.of c.args.field c.args.numbers.now _
    c.number_slot-at.result.1 c.number_slot-at.ensures.ready c.requires.number c.requires.room
    c.number_slot-at.ensures.slot in
    let same = to_z-of_z w64 c.args.value c.ranges.value in
    λ cost. store_gives c.args.line c.args.field cost.steps cost.calls _ c.number_slot-at.result.1 c.args.value _ _
    h.typed (c.if-is_in_type.ensures ∙ ap (is_in_type c.number_slot-at.result.1) same) (h.stored c.args.value
    ∙ ap (λ v. filled (zero_at (tree_in c.args.frame.now) c.args.frame.now.of)
    (set c.args.numbers.now c.number_slot-at.result.0 v)) (sym same))

pub returns-else-is_in_type : goal.returns-else-is_in_type
returns-else-is_in_type c =
    let h = stores (tree_in c.args.frame.now) _ _ c.args.frame.now.of c.args.field c.args.numbers.now _
    c.number_slot-at.result.1 c.number_slot-at.ensures.ready c.requires.number c.requires.room
    c.number_slot-at.ensures.slot in
    λ cost. ap (λ at. halted at (cells_in c.args.frame.now c.args.numbers.now)) c.at.ensures
    ∙ store_stops c.args.line c.args.field cost.steps cost.calls _ c.number_slot-at.result.1 c.args.value _ h.typed
    (c.if-is_in_type.ensures
    ∙ ap (is_in_type c.number_slot-at.result.1) (to_z-of_z w64 c.args.value c.ranges.value))
