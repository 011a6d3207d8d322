use Rattle.std.proofs.Common.{◌∙◌, arith, SFits, w64, rules}
use Rattle.std.proofs.lemmas.Int.{to_z-of_z}
use Rattle.std.proofs.lemmas.Grind.{common_steps}
use Rattle.c_interpreter.specs.Reads.{view_array}
use Rattle.c_interpreter.proofs.Items.{item_gives, item_sticks}
use Rattle.c_interpreter.proofs.values.item_at.Goals as goal

pub returns-in_err-place : goal.returns-in_err-place
returns-in_err-place c =
    let f : SFits w64 c.args.index = c.ranges.index in
    λ steps.
    grind (
      arith,
      common_steps,
      item_sticks c.args.view.now.line c.own_array-at.result.1 c.own_array-at.result.0 steps
          (view_array c.args.view.now c.args.field) c.args.view.now.numbers.now c.args.index _
          (c.own_array-at.ensures c.args.view.now.numbers.now) (simp to_z-of_z at (c.in_err-place.ensures.place steps)),
    )

pub returns : goal.returns
returns c =
    let f : SFits w64 c.args.index = c.ranges.index in
    let g : SFits w64 c.number_behind.result = search rules in
    λ steps. item_gives c.args.view.now.line c.own_array-at.result.1 c.own_array-at.result.0 _ steps
    (view_array c.args.view.now c.args.field) c.args.view.now.numbers.now c.args.index _
    (c.own_array-at.ensures c.args.view.now.numbers.now) (simp to_z-of_z at (c.in_ok-place.ensures.place steps))
    c.in_ok-place.ensures.inside (to_z-of_z w64 c.number_behind.result g ∙ c.number_behind.ensures)
