use Rattle.std.proofs.Common.{◌≡◌, ◌∙◌, ◌<◌, ◌≤◌, ap, sym, get_or, length, rules}
use Rattle.base_core.specs.Ports.{has_bit}
use Rattle.emit_nodes.proofs.TakenSteps.{taken_past, taken_then, taken_else}
use Rattle.emit_nodes.proofs.taken.taken_by.Goals as goal
use Rattle.emit_nodes.proofs.taken.taken_by.Goals.{then-has_bit+in_ok-push, else-has_bit}

pub loop-k-preserved : goal.loop-k-preserved
loop-k-preserved c =
    let f = c.args.function in
    let leaves = c.args.leaves.now in
    let k = c.loop-k.k in
    let leaf = c.in-Some.leaf.now in
    let within : k < length leaves = search rules in
    let read : leaf ≡ get_or leaves k leaf = search rules in
    let told = sym (c.has_bit.ensures ∙ ap (has_bit f.inputs) c.bit.ensures) in
    elim c.if-has_bit.branch [
      | then-has_bit+in_ok-push w ↦ taken_then f c.args.inputs.now leaves c.loop-k.taken.items c.if-has_bit.taken.items k _ leaf
          c.loop-k-test.true within read
          (told ∙ w.if-has_bit.true) c.loop-k.invariant (ap (λ v. v.items) w.taken-is ∙ w.in_ok-push.ensures.items)
      | else-has_bit w ↦ ap (λ v. v.items) w.taken-is
          ∙ taken_else f c.args.inputs.now leaves c.loop-k.taken.items k _ leaf c.loop-k-test.true within
          (told ∙ w.if-has_bit.false) c.loop-k.invariant
    ]

pub returns-in_default : goal.returns-in_default
returns-in_default c =
    let past : length c.args.leaves.now ≤ c.loop-k.k = search rules in
    c.loop-k.invariant ∙ taken_past c.args.function c.args.inputs.now c.args.leaves.now c.loop-k.k past
