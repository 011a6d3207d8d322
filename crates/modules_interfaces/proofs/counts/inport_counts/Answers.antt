use Rattle.std.proofs.Common.{◌≡◌, ◌+◌, ◌∙◌, ap, length, sym, subst, take, List, ℕ}
use Rattle.diagram_blocks.specs.Kinds.{is_inport}
use Rattle.modules_interfaces.specs.PortCounts.{AreCounts}
use Rattle.modules_interfaces.proofs.CountSteps.{added, fails}
use Rattle.modules_interfaces.proofs.counts.inport_counts.Goals as goal
use Rattle.modules_interfaces.proofs.counts.inport_counts.Goals.{then-is_inport, else-is_inport}

pub loop-row-preserved : goal.loop-row-preserved
loop-row-preserved c =
    let rows = c.args.rows.now in
    let i = c.loop-row.row-index in
    let row = c.row-item.result in
    let old = c.loop-row.counts.items in
    elim c.if-is_inport.branch [
      | then-is_inport w ↦
          let items : c.if-is_inport.counts.items ≡ w.add_one.new.counts.items = ap (λ v. v.items) w.counts-is in (
            ap (λ (ns : List ℕ). length ns) items ∙ w.add_one.ensures.length ∙ c.loop-row.invariant.0,
            subst (AreCounts is_inport (take (i + 1) rows)) (sym items)
                (added is_inport rows i row c.loop-row-test.true c.row-item.is old c.loop-row.invariant.1 w.place_of.result
                w.add_one.new.counts.items w.place_of.ensures (sym c.is_inport.ensures ∙ w.if-is_inport.true)
                w.add_one.ensures.more w.add_one.ensures.others),
          )
      | else-is_inport w ↦
          let items : c.if-is_inport.counts.items ≡ old = ap (λ v. v.items) w.counts-is in (
            ap (λ (ns : List ℕ). length ns) items ∙ c.loop-row.invariant.0,
            subst (AreCounts is_inport (take (i + 1) rows)) (sym items)
                (fails is_inport rows i row c.loop-row-test.true c.row-item.is old c.loop-row.invariant.1
                (sym c.is_inport.ensures ∙ w.if-is_inport.false)),
          )
    ]
