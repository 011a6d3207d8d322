use Rattle.std.proofs.Common.{length, ap, subst}
use Rattle.std.proofs.lemmas.Result.{IfOk-weaker}
use Rattle.base_graph.specs.Masks.{AreMasks}
use Rattle.base_graph.specs.NeedsGraph.{NeedsGraph}
use Rattle.modules_clusters.specs.ClassBits.{AreClassBits}
use Rattle.modules_clusters.specs.Clusters.{AreClusters}
use Rattle.modules_clusters.proofs.ClusterSteps.{are_clusters}
use Rattle.modules_clusters.proofs.reaching.clusters.Goals as goal

pub returns : goal.returns
returns c =
    let bits =
    subst (λ n. AreClassBits n c.args.outputs.now c.args.class.now
    (length c.args.outputs.now) c.in_ok-bits.bits.items)
    (ap (λ (g : NeedsGraph). g.n) c.g.view_is) c.in_ok-bits.ensures in
    IfOk-weaker c.masks.result (λ v. AreMasks c.in_ok-turned.turned c.deref.result.now v.items)
    (λ v. AreClusters c.args.g.now c.args.outputs.now c.args.class.now v.items)
    (λ v masks. are_clusters c.args.g.now c.args.outputs.now c.args.class.now c.in_ok-bits.bits.items v.items c.requires.nodes bits
    (subst (λ g. AreMasks g c.in_ok-bits.bits.items v.items) c.in_ok-turned.ensures
    (subst (λ xs. AreMasks c.in_ok-turned.turned xs v.items) c.deref.ensures.value masks)))
    c.masks.ensures
