use Rattle.std.proofs.Common.{◌≡◌, ℕ, List, [], ◌<◌, length, get_or, replicate, ap, sym, ◌∙◌, arith, refl}
use Rattle.std.proofs.lemmas.List.{get_or_read}
use Rattle.modules_clusters.specs.NodeGroups.{NodeGroups}
use Rattle.modules_schedule.proofs.ListSteps.{all_empty, joined, left_out}
use Rattle.modules_schedule.proofs.lists.nodes_by_group.Goals as goal
use Rattle.modules_schedule.proofs.lists.nodes_by_group.Goals.{then-index-ne0+in_ok-push, else-index-ne0}

pub loop-k-init : goal.loop-k-init
loop-k-init c =
    let count : c.len.result ≡ length c.args.g.now.holds =
    c.len.ensures ∙ c.g.inside.holds.ok.0 ∙ ap (λ (g : NodeGroups). length g.holds) c.g.view_is in
    c.in_ok-lists.ensures ∙ ap (λ n. replicate {A = List ℕ} n []) count ∙ all_empty c.args.g.now (length c.args.g.now.holds)

-- the group of the node, and its set
own : (c : goal.Joined-index-ne0) → c.index-group.result.now ≡ get_or c.args.g.now.of (get_or c.args.order.now c.loop-k.k-index 0) 0
own c =
    let node : get_or c.args.order.now c.loop-k.k-index 0 < length c.args.g.now.of =
    c.requires.nodes c.loop-k.k-index 0 c.loop-k-test.true in
    let len : length c.g.inside.of.items ≡ length c.args.g.now.of = ap (λ (g : NodeGroups). length g.of) c.g.view_is in
    get_or_read c.g.inside.of.items (get_or c.args.order.now c.loop-k.k-index 0) c.index-group.result.now
    (omega arith) c.index-group.ensures 0
    ∙ ap (λ (g : NodeGroups). get_or g.of (get_or c.args.order.now c.loop-k.k-index 0) 0) c.g.view_is

inside : (c : goal.Joined-index-ne0) → c.index-group.result.now < length c.args.g.now.holds
inside c =
    let node : get_or c.args.order.now c.loop-k.k-index 0 < length c.args.g.now.of =
    c.requires.nodes c.loop-k.k-index 0 c.loop-k-test.true in
    let group : get_or c.args.g.now.of (get_or c.args.order.now c.loop-k.k-index 0) 0 < length c.args.g.now.holds =
    c.requires.groups (get_or c.args.order.now c.loop-k.k-index 0) 0 node in
    omega (arith, own c)

its_set : (c : goal.Joined-index-ne0) → c.index.result.now ≡ get_or c.args.g.now.holds c.index-group.result.now 0
its_set c =
    let len : length c.g.inside.holds.items ≡ length c.args.g.now.holds = ap (λ (g : NodeGroups). length g.holds) c.g.view_is in
    get_or_read c.g.inside.holds.items c.index-group.result.now c.index.result.now (omega (arith, inside c)) c.index.ensures 0
    ∙ ap (λ (g : NodeGroups). get_or g.holds c.index-group.result.now 0) c.g.view_is

pub loop-k-preserved : goal.loop-k-preserved
loop-k-preserved c = elim c.if-index-ne0.branch [
  | then-index-ne0+in_ok-push w ↦
      ap (λ v. v.items) w.lists-is
      ∙ joined c.args.order.now c.args.g.now c.loop-k.k-index (get_or c.args.order.now c.loop-k.k-index 0)
      c.loop-k-test.true refl c.loop-k.lists.items c.loop-k.invariant
      c.index-group.result.now w.index_mut.result.now w.push.new.self (own c) (inside c)
      (λ e. w.if-index-ne0.true (its_set c ∙ e)) w.index_mut.ensures.value w.in_ok-push.ensures
  | else-index-ne0 w ↦
      ap (λ v. v.items) w.lists-is
      ∙ left_out c.args.order.now c.args.g.now c.loop-k.k-index (get_or c.args.order.now c.loop-k.k-index 0)
      c.loop-k-test.true refl c.loop-k.lists.items c.loop-k.invariant
      (ap (λ i. get_or c.args.g.now.holds i 0) (sym (own c)) ∙ sym (its_set c) ∙ w.if-index-ne0.false)
]
