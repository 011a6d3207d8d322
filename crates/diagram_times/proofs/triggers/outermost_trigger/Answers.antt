use Rattle.std.proofs.Common.{◌-◌, ℕ, Option, ap, ap₂, sym, ◌∙◌}
use Rattle.diagram_times.proofs.Outward.{last_trigger, outward-step}
use Rattle.diagram_times.proofs.triggers.outermost_trigger.Goals as goal

pub outward-preserved : goal.outward-preserved
outward-preserved c =
    ap₂ (λ (found outer : Option ℕ). last_trigger c.args.rows.now found (c.outward.left - 1) outer)
    c.last_trigger-found.ensures c.owner_at-outer-in-outward.ensures
    ∙ sym (outward-step c.args.rows.now c.outward.found c.outward.left c.in-Some.e c.outward-test.true)
    ∙ ap (last_trigger c.args.rows.now c.outward.found c.outward.left) (sym c.in-Some.is)
    ∙ c.outward.invariant
