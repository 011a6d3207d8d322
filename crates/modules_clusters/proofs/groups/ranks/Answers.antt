use Rattle.std.proofs.Common.{cond, Some, get_or, nat_cmp, is_eq, ap, ◌∙◌}
use Rattle.modules_clusters.proofs.SetSteps.{place-more}
use Rattle.modules_clusters.proofs.groups.ranks.Goals as goal

pub loop-rank-preserved : goal.loop-rank-preserved
loop-rank-preserved c x =
    c.in_ok-insert.ensures.updates.0 x
    ∙ ap (λ o. cond (is_eq (nat_cmp (get_or c.args.sets.now c.loop-rank.rank 0) x)) (Some c.loop-rank.rank) o) (c.loop-rank.invariant x)
    ∙ place-more c.args.sets.now c.loop-rank.rank c.loop-rank-test.true c.requires.different x
