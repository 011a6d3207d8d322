use Rattle.std.proofs.Common.{subst}
use Rattle.std.specs.Result.{IfOk}
use Rattle.std.proofs.lemmas.Result.{IfOk-weaker}
use Rattle.diagram_meaning.specs.Nested.{row_of, system_of}
use Rattle.base_graph.specs.Reaching.{HasNoCycle}
use Rattle.modules_profile.specs.LocalSystem.{LocalSystem}
use Rattle.modules_profile.specs.LocalNodes.{AreNodesOf}
use Rattle.modules_profile.proofs.lemmas.NodeReach.{no-cycle}
use Rattle.modules_profile.proofs.NodeWalks.{nodes_have_no_loop}
use Rattle.modules_profile.proofs.profiles.system_nodes.Goals as goal

pub returns-clause-nodes : goal.returns-clause-nodes
returns-clause-nodes c =
    subst (λ (l : LocalSystem). IfOk c.nodes_of.result (λ n. AreNodesOf l n)) c.in_ok-local.ensures.is
    c.nodes_of.ensures

pub returns-clause-no_cycle : goal.returns-clause-no_cycle
returns-clause-no_cycle c = λ none.
    let local = c.in_ok-local.local in
    IfOk-weaker c.nodes_of.result (λ n. AreNodesOf local n) (λ n. HasNoCycle n.graph)
    (λ n h. no-cycle local n h
    (nodes_have_no_loop c.args.r.now (row_of (system_of c.args.s.now)) local c.is_resolved.ensures
    c.in_ok-local.ensures.local none))
    c.nodes_of.ensures
