use Rattle.std.proofs.Common.{◌≡◌, ◌+◌, subst, sym, arith}
use Rattle.base_graph.proofs.ReadySteps.{ReadyBelow, ready-more, ready-same}
use Rattle.base_graph.proofs.ready.ready_nodes.Goals as goal
use Rattle.base_graph.proofs.ready.ready_nodes.Goals.{then-unmet-b-eq0+in_ok-add, else-unmet-b-eq0}

pub loop-b-preserved : goal.loop-b-preserved
loop-b-preserved c = elim c.if-unmet-b-eq0.branch [
  | then-unmet-b-eq0+in_ok-add w ↦ subst (λ v. ReadyBelow c.args.unmet.now (c.loop-b.b + 1) v.keys) (sym w.ready-is)
      (ready-more c.args.unmet.now c.loop-b.ready.keys _ c.loop-b.b w.if-unmet-b-eq0.true w.in_ok-add.ensures.has c.loop-b.invariant)
  | else-unmet-b-eq0 w ↦ subst (λ v. ReadyBelow c.args.unmet.now (c.loop-b.b + 1) v.keys) (sym w.ready-is)
      (ready-same c.args.unmet.now c.loop-b.ready.keys c.loop-b.b w.if-unmet-b-eq0.false c.loop-b.invariant)
]

pub returns : goal.returns
returns c = let at : c.loop-b.b ≡ c.args.n = (let low = c.loop-b-test.false in let high = c.loop-b.auto.b-end in omega arith) in
    subst (λ m. ReadyBelow c.args.unmet.now m c.loop-b.ready.keys) at c.loop-b.invariant
