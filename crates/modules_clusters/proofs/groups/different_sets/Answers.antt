use Rattle.std.proofs.Common.{◌≡◌, ℕ, ◌+◌, Bool, true, false, not, cond, ◌∷◌, [], ◌++◌, get_or, take, nat_cmp, is_eq, sym, ap, ◌∙◌}
use Rattle.std.specs.BTreeSet.{contains}
use Rattle.base_core.specs.Interface.{different}
use Rattle.base_core.proofs.lemmas.Different.{has}
use Rattle.modules_clusters.proofs.SetSteps.{has-more, different-next}
use Rattle.modules_clusters.proofs.groups.different_sets.Goals as goal
use Rattle.modules_clusters.proofs.groups.different_sets.Goals.{then-branch+in_ok-push, else-branch}

-- whether the set was seen
seen : (c : goal.Joined-branch) (added : Bool) → c.in_ok-insert.field-0 ≡ added →
    has (take c.loop-set.set-index c.args.holds.now) (get_or c.args.holds.now c.loop-set.set-index 0) ≡ not added
seen c added e = sym (c.loop-set.invariant.1 (get_or c.args.holds.now c.loop-set.set-index 0))
    ∙ twice (contains nat_cmp c.loop-set.seen (get_or c.args.holds.now c.loop-set.set-index 0)) added
    (sym c.in_ok-insert.ensures.added ∙ e)
  where
    twice : (r q : Bool) → not r ≡ q → r ≡ not q
    twice true q e = ap not e
    twice false q e = ap not e

has-next : (c : goal.Joined-branch) (x : ℕ) →
    contains nat_cmp c.insert.new.self x ≡ has (take (c.loop-set.set-index + 1) c.args.holds.now) x
has-next c x =
    c.in_ok-insert.ensures.updates.0 x
    ∙ ap (λ r. cond (is_eq (nat_cmp (get_or c.args.holds.now c.loop-set.set-index 0) x)) true r)
    (c.loop-set.invariant.1 x)
    ∙ sym (has-more c.args.holds.now c.loop-set.set-index c.loop-set-test.true x)

sets-next : (c : goal.Joined-branch) (r : Bool) →
    has (take c.loop-set.set-index c.args.holds.now) (get_or c.args.holds.now c.loop-set.set-index 0) ≡ r →
    different (take (c.loop-set.set-index + 1) c.args.holds.now)
    ≡ cond r (different (take c.loop-set.set-index c.args.holds.now))
    (different (take c.loop-set.set-index c.args.holds.now) ++ get_or c.args.holds.now c.loop-set.set-index 0 ∷ [])
sets-next c r e = different-next c.args.holds.now c.loop-set.set-index c.loop-set-test.true
    ∙ ap (λ q. cond q (different (take c.loop-set.set-index c.args.holds.now))
    (different (take c.loop-set.set-index c.args.holds.now) ++ get_or c.args.holds.now c.loop-set.set-index 0 ∷ []))
    e

pub loop-set-preserved : goal.loop-set-preserved
loop-set-preserved c = elim c.if-branch.branch [
  | then-branch+in_ok-push w ↦ (
    ap (λ v. v.items) w.sets-is ∙ w.in_ok-push.ensures.items
        ∙ ap (λ xs. xs ++ get_or c.args.holds.now c.loop-set.set-index 0 ∷ []) c.loop-set.invariant.0
        ∙ sym (sets-next c false (seen c true w.if-branch.true)),
    has-next c,
  )
  | else-branch w ↦ (
    ap (λ v. v.items) w.sets-is ∙ c.loop-set.invariant.0 ∙ sym (sets-next c true (seen c false w.if-branch.false)),
    has-next c,
  )
]
