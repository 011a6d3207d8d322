use Rattle.std.proofs.Common.{ℕ, []}
use Rattle.emit_system_spec.specs.declared.source.Source.{Source}
use Rattle.emit_row_facts.proofs.lemmas.Steps.{mapped-next}
use Rattle.emit_layout.proofs.sources.rows_of.Goals as goal

pub loop-source-preserved : goal.loop-source-preserved
loop-source-preserved c =
    let row : Source → ℕ = λ s. s.row in
    mapped-next row c.args.list.now c.loop-source.source-index c.source-item.result [] c.loop-source.rows.items
    c.push.new.self.items c.loop-source-test.true c.source-item.is c.loop-source.invariant c.in_ok-push.ensures.items
