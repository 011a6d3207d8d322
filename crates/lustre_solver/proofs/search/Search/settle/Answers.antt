use Rattle.std.proofs.Common.{arith, ap, sym, ◌∙◌, ◌≡◌, true, inl, inr}
use Rattle.lustre_settling.proofs.lemmas.Order.{values-stay-length}
use Rattle.lustre_solver.specs.Searching.{searching, was_tried}
use Rattle.lustre_solver.proofs.Staying.{less-or-last}
use Rattle.lustre_solver.proofs.Steps.{on-self, on-further, search-solves}
use Rattle.lustre_solver.proofs.search.Search.settle.Goals as goal

pub loop-k-init : goal.loop-k-init
loop-k-init c = record {
  search = c.requires.search;
  idle = c.requires.idle;
  on = on-self c.args.frame.now (searching c.args.self.now);
}

pub loop-k-preserved : goal.loop-k-preserved
loop-k-preserved c = record {
  search = c.settle_slot.ensures.search;
  idle = c.settle_slot.ensures.idle;
  on = on-further c.args.frame.now (searching c.args.self.now) (searching c.loop-k.self) (searching c.settle_slot.new.self)
      c.loop-k.invariant.on c.settle_slot.ensures.on;
}

pub loop-slot-preserved : goal.loop-slot-preserved
loop-slot-preserved c = record {
  search = c.settle_slot-in-loop-slot.ensures.search;
  idle = c.settle_slot-in-loop-slot.ensures.idle;
  on = on-further c.args.frame.now (searching c.args.self.now) (searching c.loop-slot.self) (searching c.settle_slot-in-loop-slot.new.self)
      c.loop-slot.invariant.on c.settle_slot-in-loop-slot.ensures.on;
  tried = λ k small.
      elim (less-or-last k c.loop-slot.slot small) as (λ x. was_tried c.settle_slot-in-loop-slot.new.self.tried.items k ≡ true) [
        | inl less ↦ c.settle_slot-in-loop-slot.ensures.on.tried k (c.loop-slot.invariant.tried k less)
        | inr is ↦ ap (was_tried c.settle_slot-in-loop-slot.new.self.tried.items) is ∙ c.settle_slot-in-loop-slot.ensures.tried
      ];
}

pub returns-clause-solves : goal.returns-clause-solves
returns-clause-solves c =
    let first = values-stay-length c.args.self.now.values.items c.loop-k.self.values.items c.loop-k.invariant.on.stays in
    let later = values-stay-length c.args.self.now.values.items c.loop-slot.self.values.items c.loop-slot.invariant.on.stays in
    let size = c.loop-k.self.values.ok.0 in
    search-solves c.args.frame.now (searching c.loop-slot.self) c.loop-slot.invariant.search c.loop-slot.invariant.idle
    (λ k small. c.loop-slot.invariant.tried k (omega (arith, c.len-slot-end.ensures)))

pub returns-clause-room : goal.returns-clause-room
returns-clause-room c =
    let same = values-stay-length c.args.self.now.values.items c.loop-slot.self.values.items c.loop-slot.invariant.on.stays in
    record {
      now = sym same;
      tried = c.loop-slot.invariant.search.size_tried ∙ sym same;
      waiting = c.loop-slot.invariant.search.size_waiting ∙ sym same;
    }
