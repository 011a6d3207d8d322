use Rattle.emit_simplified.proofs.SimplifiedLaws as proof
use Rattle.emit_simplified.proofs.laws.simplified_refines.Goals as goal

pub returns : goal.returns
returns c =
    proof.simplified_refines c.inlined_is_lawful.ensures c.fused_is_lawful.ensures c.inlined_refines.ensures c.fused_refines.ensures
    c.pruned_runs_alike.ensures c.refinements_compose.ensures c.same_runs_refine.ensures
