use Rattle.std.proofs.Common.{arith, ap, sym, ◌∙◌, subst}
use Rattle.lustre_solver.specs.Searching.{Searching, searching, was_tried, IsSearch, GoesOn}
use Rattle.lustre_solver.proofs.Steps.{enter-search, enter-on, on-self, on-further, tried-now}
use Rattle.lustre_solver.proofs.Stepping.{new-untried}
use Rattle.lustre_solver.proofs.search.Search.settle_slot.Goals as goal

pub loop-self-init : goal.loop-self-init
loop-self-init c =
    let frame = c.args.frame.now in
    let s = searching c.args.self.now in
    let untried = new-untried (was_tried s.tried c.args.slot) (sym c.is_new.ensures ∙ c.if-is_new.true) in
    record {
      search = subst (IsSearch frame) (sym c.enter.ensures) (enter-search frame s c.requires.search c.args.slot untried (λ i is. absurd (omega arith)));
      on = subst (GoesOn frame s) (sym c.enter.ensures) (enter-on frame s c.requires.search c.args.slot untried (λ i is. absurd (omega arith)));
      tried = ap (λ (t : Searching). was_tried t.tried c.args.slot) c.enter.ensures ∙ tried-now s.tried c.args.slot;
    }

pub loop-self-preserved : goal.loop-self-preserved
loop-self-preserved c =
    record {
      search = c.step.ensures.search;
      on = on-further c.args.frame.now (searching c.args.self.now) (searching c.loop-self.self) (searching c.step.new.self)
          c.loop-self.invariant.on c.step.ensures.on;
      tried = c.step.ensures.on.tried c.args.slot c.loop-self.invariant.tried;
    }

pub returns-else-is_new-clause-on : goal.returns-else-is_new-clause-on
returns-else-is_new-clause-on c = on-self c.args.frame.now (searching c.args.self.now)
