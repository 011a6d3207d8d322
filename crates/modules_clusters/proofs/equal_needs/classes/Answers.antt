use Rattle.std.proofs.Common.{◌≡◌, ℕ, ◌+◌, ◌<◌, ◌≤◌, eqb, List, length, set, take, get_or, Some, sym, ap, ◌∙◌, arith, rules}
use Rattle.std.specs.List.{position_from}
use Rattle.std.proofs.lemmas.List.{length-take-le}
use Rattle.modules_clusters.proofs.Members.{length-different, found-below, old_class, new_class}
use Rattle.modules_clusters.proofs.equal_needs.classes.Goals as goal
use Rattle.modules_clusters.proofs.equal_needs.classes.Goals.{in-Some, in-None}

earlier : (masks : List ℕ) (k j : ℕ) → k < length masks → Some j ≡ position_from (λ y. eqb y (get_or masks k 0)) 0 (take k masks) → j < k
earlier masks k j within found =
    let below = found-below (take k masks) (get_or masks k 0) j (sym found) in
    omega (arith, length-take-le k masks (omega arith))

pub offset_bounds-into-j : goal.offset_bounds-into-j
offset_bounds-into-j c =
    let low = earlier c.args.masks.now c.loop-k.k c.in-Some.j c.loop-k-test.true c.in-Some.ensures in
    let few : c.in-Some.j < 32 = omega arith in
    search rules

pub bounds-into-j : goal.bounds-into-j
bounds-into-j c = let low = earlier c.args.masks.now c.loop-k.k c.in-Some.j c.loop-k-test.true c.in-Some.ensures in omega arith

pub overflow_add-count : goal.overflow_add-count
overflow_add-count c =
    let few = length-different (take c.loop-k.k c.args.masks.now) in
    let len = length-take-le c.loop-k.k c.args.masks.now (omega arith) in
    let low : c.loop-k.count ≤ 32 = omega (arith, c.loop-k.invariant.1) in
    search rules

pub loop-k-preserved : goal.loop-k-preserved
loop-k-preserved c = elim c.match-first_equal.branch [
  | in-Some w ↦
      let kept = old_class c.args.masks.now c.loop-k.into c.loop-k.k c.loop-k-test.true (omega arith) c.loop-k.invariant.0 w.in-Some.j
      (earlier c.args.masks.now c.loop-k.k w.in-Some.j c.loop-k-test.true w.in-Some.ensures) (sym w.in-Some.ensures) in
      (ap (take (c.loop-k.k + 1)) w.into-is ∙ kept.0, w.count-is ∙ c.loop-k.invariant.1 ∙ kept.1)
  | in-None w ↦
      let new =
      new_class c.args.masks.now c.loop-k.into c.loop-k.k c.loop-k-test.true (omega arith) c.loop-k.invariant.0
      (sym w.in-None.ensures) in (
        ap (take (c.loop-k.k + 1)) (w.into-is ∙ ap (set c.loop-k.into c.loop-k.k) c.loop-k.invariant.1) ∙ new.0,
        w.count-is ∙ ap (λ n. n + 1) c.loop-k.invariant.1 ∙ new.1,
      )
]
