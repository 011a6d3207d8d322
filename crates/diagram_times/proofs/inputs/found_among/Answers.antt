use Rattle.std.proofs.Common.{get_or, take, subst, sym}
use Rattle.std.proofs.lemmas.List.{take_more, take_all}
use Rattle.diagram_times.specs.Searching.{Among, IsFound}
use Rattle.diagram_times.proofs.CollectSteps.{among-more}
use Rattle.diagram_times.proofs.inputs.found_among.Goals as goal

pub loop-row-preserved : goal.loop-row-preserved
loop-row-preserved c =
    let rows = c.args.rows.now in
    let i = c.loop-row.row-index in
    subst (λ xs. IsFound (Among c.args.found.now xs) c.joined-all.result) (sym (take_more rows i 0 c.loop-row-test.true))
    (among-more c.args.found.now (take i rows) (get_or rows i 0) c.loop-row.all c.found_at.result c.joined-all.result
    (sym c.found_at.ensures) c.joined-all.ensures c.loop-row.invariant)

pub returns : goal.returns
returns c =
    subst (λ xs. IsFound (Among c.args.found.now xs) c.loop-row.all)
    (take_all c.loop-row.row-index c.args.rows.now c.loop-row-test.false) c.loop-row.invariant
