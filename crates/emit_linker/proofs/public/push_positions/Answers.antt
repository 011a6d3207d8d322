use Rattle.std.proofs.Common.{ℕ, ◌++◌, ◌∷◌, [], List, map, ap, ◌∙◌}
use Rattle.std.proofs.lemmas.List.{take_all}
use Rattle.emit_shape.specs.Assembled.{procedure_position, public_names}
use Rattle.emit_row_facts.proofs.lemmas.Steps.{mapped-next}
use Rattle.emit_linker.specs.Places.{trees}
use Rattle.emit_linker.proofs.public.push_positions.Goals as goal

pub loop-name-preserved : goal.loop-name-preserved
loop-name-preserved c =
    let position = procedure_position (trees c.args.codes.now.list.now) c.args.i in
    let positions = c.loop-name.positions.items in
    mapped-next position c.deref-name-items.result.now c.loop-name.name-index c.name-item.result c.args.positions.now.items positions
    c.push.new.self.items c.loop-name-test.true c.name-item.is c.loop-name.invariant
    (c.in_ok-push.ensures.items ∙ ap (λ (k : ℕ). positions ++ k ∷ []) (c.in_ok-procedure_position.ensures ∙ ap position c.bytes.ensures))

pub returns : goal.returns
returns c =
    let position = procedure_position (trees c.args.codes.now.list.now) c.args.i in
    let items = c.deref-name-items.result.now in
    let all = take_all c.loop-name.name-index items c.loop-name-test.false in
    let names = c.deref-name-items.ensures.value ∙ c.in_ok-names.ensures ∙ ap public_names c.at.ensures in
    c.loop-name.invariant ∙ ap (λ (ns : List (List ℕ)). c.args.positions.now.items ++ map position ns) (all ∙ names)
