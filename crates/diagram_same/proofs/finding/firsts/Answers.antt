use Rattle.std.proofs.Common.{◌∙◌, ◌+◌, sym, subst, arith, []}
use Rattle.diagram_meaning.specs.ResolvedTree.{diagram_of}
use Rattle.diagram_same.specs.Classes.{AreChained}
use Rattle.diagram_same.proofs.ChainSteps.{chained-none}
use Rattle.diagram_same.proofs.FirstSteps.{AreFirstsBelow, firsts-more, firsts-none, firsts-other}
use Rattle.diagram_same.proofs.finding.firsts.Goals.{then-is_subsystem+in_ok-first_of+in_ok-push, else-is_subsystem}
use Rattle.diagram_same.proofs.finding.firsts.Goals as goal

pub loop-e-init : goal.loop-e-init
loop-e-init c = (
  chained-none (diagram_of c.args.r.now) c.new-classes.result c.new-classes.ensures.list c.new-classes.ensures.latest,
  subst (λ l. AreFirstsBelow (diagram_of c.args.r.now) 0 l c.new-firsts.result.items) (sym c.new-classes.ensures.list)
      (subst (AreFirstsBelow (diagram_of c.args.r.now) 0 []) (sym c.new-firsts.ensures.items) (firsts-none (diagram_of c.args.r.now))),
)

pub loop-e-preserved : goal.loop-e-preserved
loop-e-preserved c =
    let test = c.loop-e-test.true in
    let count = c.row_count-e-end.ensures.count in
    elim c.if-is_subsystem.branch [
      | then-is_subsystem+in_ok-first_of+in_ok-push w ↦ (
        subst (AreChained (diagram_of c.args.r.now)) (sym w.classes-is) w.in_ok-first_of.ensures.chained,
        subst (λ k. AreFirstsBelow (diagram_of c.args.r.now) (c.loop-e.e + 1) k.list.items c.if-is_subsystem.firsts.items) (sym w.classes-is)
            (subst (λ v. AreFirstsBelow (diagram_of c.args.r.now) (c.loop-e.e + 1) w.first_of.new.classes.list.items v.items) (sym w.firsts-is)
            (subst (AreFirstsBelow (diagram_of c.args.r.now) (c.loop-e.e + 1) w.first_of.new.classes.list.items)
            (sym w.in_ok-push.ensures.items)
            (firsts-more (diagram_of c.args.r.now) c.loop-e.e (omega (arith, test, count)) (sym c.is_subsystem.ensures ∙ w.if-is_subsystem.true)
            c.loop-e.classes.list.items w.first_of.new.classes.list.items c.loop-e.firsts.items w.in_ok-first_of.field-0
            w.in_ok-first_of.ensures.first c.loop-e.invariant.1))),
      )
      | else-is_subsystem w ↦ (
        subst (AreChained (diagram_of c.args.r.now)) (sym w.classes-is) c.loop-e.invariant.0,
        subst (λ k. AreFirstsBelow (diagram_of c.args.r.now) (c.loop-e.e + 1) k.list.items c.if-is_subsystem.firsts.items) (sym w.classes-is)
            (subst (λ v. AreFirstsBelow (diagram_of c.args.r.now) (c.loop-e.e + 1) c.loop-e.classes.list.items v.items) (sym w.firsts-is)
            (firsts-other (diagram_of c.args.r.now) c.loop-e.e c.loop-e.classes.list.items c.loop-e.firsts.items
            (sym c.is_subsystem.ensures ∙ w.if-is_subsystem.false) c.loop-e.invariant.1)),
      )
    ]
