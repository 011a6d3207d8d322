use Rattle.std.proofs.Common.{ℕ, ◌++◌, ◌∷◌, [], get_or, ap, ◌∙◌}
use Rattle.std.proofs.lemmas.List.{get_or_default}
use Rattle.c_syntax.specs.declared.code.Leaf.{Leaf}
use Rattle.emit_system_spec.specs.Sources.{wire_leaf}
use Rattle.emit_row_facts.proofs.lemmas.Steps.{mapped-next}
use Rattle.emit_layout.proofs.layout.Layout.wire_leaves.Goals as goal

pub loop-wire-preserved : goal.loop-wire-preserved
loop-wire-preserved c =
    let wires = c.args.wires.now in
    let k = c.loop-wire.wire-index in
    let w : ℕ = get_or wires k 0 in
    let leaves = c.loop-wire.leaves.items in
    mapped-next (wire_leaf c.args.self.now.local) wires k w [] leaves c.push.new.self.items c.loop-wire-test.true
    (get_or_default wires k 0 w c.loop-wire-test.true) c.loop-wire.invariant
    (c.in_ok-push.ensures.items ∙ ap (λ (l : Leaf). leaves ++ l ∷ []) c.wire_leaf.ensures)
