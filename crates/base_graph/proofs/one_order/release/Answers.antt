use Rattle.std.proofs.Common.{◌≡◌, ℕ, ◌-◌, ◌<◌, List, length, get_or, ap, subst, sym, ◌∙◌, inl, inr, arith}
use Rattle.std.proofs.lemmas.List.{get_or_default}
use Rattle.base_graph.specs.NeedsGraph.{NeedsGraph, IsGraph}
use Rattle.base_graph.specs.EdgeChains.{to}
use Rattle.base_graph.proofs.ReleaseSteps.{ReadyIfNone, release_begins, release_enough, release_done, release_ready}
use Rattle.base_graph.proofs.one_order.release.Goals as goal
use Rattle.base_graph.proofs.one_order.release.Goals.{then-left-eq0+in_ok-add, else-left-eq0}

pub loop-at-init : goal.loop-at-init
loop-at-init c =
    release_begins c.args.g.now c.args.x c.index-at.result.now c.args.unmet.now.items c.args.ready.now.keys
    c.args.chains.now.last.items c.args.chains.now.before.items
    c.requires.chained c.requires.node c.index-at.ensures c.requires.len c.requires.counted

-- the node that an edge leads to, as it was read
goes-to : (g : NeedsGraph) (edges : List (ℕ × ℕ)) (i : ℕ) (edge : ℕ × ℕ) → edges ≡ g.edges → i < length g.edges →
    edge ≡ get_or edges i edge → edge.1 ≡ to g.edges i
goes-to g edges i edge same below read =
    ap (λ (e : ℕ × ℕ). e.1) (read ∙ ap (λ (es : List (ℕ × ℕ)). get_or es i edge) same
    ∙ get_or_default g.edges i edge (0, 0) below)

pub overflow_sub-left : goal.overflow_sub-left
overflow_sub-left c =
    release_enough c.args.g.now (subst IsGraph c.g.view_is c.g.invariant) c.args.chains.now.last.items
    c.args.chains.now.before.items c.requires.chained c.args.x c.index.result.now.1 c.loop-at.at
    c.args.unmet.now.items c.args.ready.now.keys c.loop-at.unmet.items c.loop-at.ready.keys c.loop-at-test.true
    (goes-to c.args.g.now c.g.inside.edges.items (c.loop-at.at - 1) c.index.result.now (ap (λ v. v.edges) c.g.view_is)
    (let b = c.loop-at.invariant.below in let p = c.loop-at-test.true in omega arith) c.index.ensures)
    c.loop-at.invariant c.index-in-loop-at.result.now c.index-in-loop-at.ensures

pub loop-at-preserved : goal.loop-at-preserved
loop-at-preserved c =
    let goes : ReadyIfNone c.loop-at.ready.keys c.if-left-eq0.ready.keys
    (c.index-in-loop-at.result.now - 1) c.index.result.now.1 = elim c.if-left-eq0.branch [
      | then-left-eq0+in_ok-add w ↦
          subst (λ v. ReadyIfNone c.loop-at.ready.keys v.keys (c.index-in-loop-at.result.now - 1) c.index.result.now.1)
          (sym w.ready-is)
          (inl (w.if-left-eq0.true, w.in_ok-add.ensures.has, w.in_ok-add.ensures.len))
      | else-left-eq0 w ↦ inr (w.if-left-eq0.false, ap (λ v. v.keys) w.ready-is)
    ] in
    release_done c.args.g.now (subst IsGraph c.g.view_is c.g.invariant) c.args.chains.now.last.items
    c.args.chains.now.before.items c.requires.chained c.args.x c.index.result.now.1 c.loop-at.at
    c.args.unmet.now.items c.args.ready.now.keys c.loop-at.unmet.items c.loop-at.ready.keys c.loop-at-test.true
    (goes-to c.args.g.now c.g.inside.edges.items (c.loop-at.at - 1) c.index.result.now (ap (λ v. v.edges) c.g.view_is)
    (let b = c.loop-at.invariant.below in let p = c.loop-at-test.true in omega arith) c.index.ensures)
    c.loop-at.invariant c.index-in-loop-at.result.now c.index-in-loop-at.ensures
    c.index-at-in-loop-at.result.now c.index-at-in-loop-at.ensures c.if-left-eq0.ready.keys goes

pub returns-clause-ready : goal.returns-clause-ready
returns-clause-ready c =
    release_ready c.args.g.now c.args.x c.loop-at.at c.args.unmet.now.items c.args.ready.now.keys c.loop-at.unmet.items
    c.loop-at.ready.keys c.loop-at-test.false c.loop-at.invariant
