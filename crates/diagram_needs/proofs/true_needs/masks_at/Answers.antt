use Rattle.std.proofs.Common.{subst}
use Rattle.std.proofs.Math.Facts.{Fits-lt-pow, Fits-or}
use Rattle.std.proofs.lemmas.List.{take_all}
use Rattle.diagram_needs.proofs.OutportSteps.{AreMasksAt, masks-more}
use Rattle.diagram_needs.proofs.true_needs.masks_at.Goals as goal

pub loop-b-preserved : goal.loop-b-preserved
loop-b-preserved c =
    masks-more c.args.reached.now c.args.control c.args.rows.now c.loop-b.masks.items c.push.new.self.items
    c.loop-b.b-index c.loop-b-test.true (λ b. Fits-lt-pow (Fits-or (c.type_inv.reached b) c.ranges.control))
    c.in_ok-push.ensures.items c.loop-b.invariant

pub returns : goal.returns
returns c =
    subst (λ l. AreMasksAt c.args.reached.now c.args.control l c.loop-b.masks.items)
    (take_all c.loop-b.b-index c.args.rows.now c.loop-b-test.false) c.loop-b.invariant
