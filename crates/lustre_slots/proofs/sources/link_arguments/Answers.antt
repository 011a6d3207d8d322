use Rattle.std.proofs.Common.{arith, ◌∙◌}
use Rattle.lustre_slots.proofs.lemmas.Links.{argument-step}
use Rattle.lustre_slots.proofs.sources.link_arguments.Goals as goal

pub loop-k-preserved : goal.loop-k-preserved
loop-k-preserved c =
    argument-step c.loop-k.sources c.link.new.sources c.args.of c.args.equation c.args.at c.loop-k.k c.in_ok-sum.field-0
    c.args.values.now (omega arith) c.in_ok-sum.ensures c.link.ensures
    ∙ c.loop-k.invariant
