use Rattle.std.proofs.Common.{sym, ◌∙◌}
use Rattle.diagram_needs.proofs.Falling.{on_loop_above}
use Rattle.diagram_needs.proofs.floor.loop_floor.Goals as goal

pub returns-then-all_fall : goal.returns-then-all_fall
returns-then-all_fall c =
    on_loop_above c.args.g.now c.deref-2.result.now c.least_alike-floor.result (sym c.all_fall.ensures ∙ c.if-all_fall.true)
