use Rattle.std.proofs.Common.{◌∙◌, sym, arith}
use Rattle.diagram_same.proofs.lemmas.Interiors.{ended, more-within}
use Rattle.diagram_same.proofs.interior.interior_of.Goals as goal

pub loop-end-preserved : goal.loop-end-preserved
loop-end-preserved c =
    let past = c.loop-end.invariant.0 in
    let test = c.loop-end-test.true in
    let count = c.row_count-n.ensures.count in (
      omega (arith, past),
      omega (arith, test, count),
      more-within c.args.r.now.tree.table.rows c.row_count-n.ensures.resolved.tree.table.nested c.args.e c.loop-end.end past
          (omega (arith, test, count)) c.loop-end.invariant.2 (sym c.is_owned_from.ensures ∙ c.if-is_owned_from.true),
    )

pub returns-else-is_owned_from-clause-inside : goal.returns-else-is_owned_from-clause-inside
returns-else-is_owned_from-clause-inside c =
    ended c.args.r.now.tree.table.rows c.row_count-n.ensures.resolved.tree.table.nested c.args.e c.loop-end.end c.loop-end.invariant.0
    c.loop-end.invariant.1 c.loop-end.invariant.2 (λ below. sym c.is_owned_from.ensures ∙ c.if-is_owned_from.false)

pub returns-after-loop-end-clause-inside : goal.returns-after-loop-end-clause-inside
returns-after-loop-end-clause-inside c =
    let test = c.loop-end-test.false in
    let count = c.row_count-n.ensures.count in
    ended c.args.r.now.tree.table.rows c.row_count-n.ensures.resolved.tree.table.nested c.args.e c.loop-end.end c.loop-end.invariant.0
    c.loop-end.invariant.1 c.loop-end.invariant.2 (λ below. absurd (omega (arith, below, test, count)))
