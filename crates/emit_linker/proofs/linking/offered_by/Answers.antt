use Rattle.std.proofs.Common.{ℕ, ◌++◌, List, Bor, ap, ◌∙◌}
use Rattle.emit_shape.specs.Assembled.{public_positions, code_named}
use Rattle.emit_linker.specs.Places.{trees}
use Rattle.emit_linker.proofs.Steps.{several-seen}
use Rattle.emit_linker.proofs.linking.offered_by.Goals as goal

pub loop-name-preserved : goal.loop-name-preserved
loop-name-preserved c =
    let all = trees c.args.codes.now.list.now in
    let positions : List ℕ → List ℕ = λ name. public_positions all (code_named all name) in
    let told : Bor (List ℕ) → List ℕ = λ n. n.now in
    let offered = c.loop-name.offered.items in
    several-seen positions told c.args.names.now c.loop-name.name-index _ offered c.push_positions.new.positions.items
    c.loop-name-test.true c.loop-name.invariant
    (c.in_ok-push_positions.ensures ∙ ap (λ (k : ℕ). offered ++ public_positions all k) c.named.ensures)
