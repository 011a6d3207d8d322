use Rattle.std.proofs.Common.{◌+◌, ◌^◌, ℕ, List, ◌++◌, ◌∷◌, [], sym, ap, ap₂, ◌∙◌, arith}
use Rattle.emit_layout_tables.proofs.ChildBases.{procedures, base-fits, base-more, bases-more}
use Rattle.emit_layout_tables.proofs.bases.bases_of.Goals as goal

pub overflow_cast-next : goal.overflow_cast-next
overflow_cast-next c =
    let fits = base-fits c.args.count (2 ^ 32) c.loop-child.next c.function_count.result c.args.children.now
    c.loop-child.child-index c.child-item.result c.loop-child-test.true c.requires c.loop-child.invariant.0 c.child-item.is
    c.function_count.ensures in
    omega (arith, fits)

pub overflow_add-next : goal.overflow_add-next
overflow_add-next c =
    let fits = base-fits c.args.count (2 ^ 32) c.loop-child.next c.function_count.result c.args.children.now
    c.loop-child.child-index c.child-item.result c.loop-child-test.true c.requires c.loop-child.invariant.0 c.child-item.is
    c.function_count.ensures in
    omega (arith, fits)

pub overflow_add-next-in-loop-child : goal.overflow_add-next-in-loop-child
overflow_add-next-in-loop-child c =
    let fits = base-fits c.args.count (2 ^ 32) c.loop-child.next c.function_count.result c.args.children.now
    c.loop-child.child-index c.child-item.result c.loop-child-test.true c.requires c.loop-child.invariant.0 c.child-item.is
    c.function_count.ensures in
    omega (arith, fits)

pub loop-child-preserved : goal.loop-child-preserved
loop-child-preserved c =
    let children = c.args.children.now in
    let i = c.loop-child.child-index in
    let x = c.child-item.result in
    let one = ap (λ (n : ℕ). n + 3) c.function_count.ensures ∙ ap procedures c.child-item.is in
    let next = ap₂ (λ (a b : ℕ). a + b) c.loop-child.invariant.0 one ∙ base-more c.args.count children i x c.loop-child-test.true in (
      next,
      c.in_ok-push-2.ensures.items ∙ ap₂ (λ (l : List ℕ) (n : ℕ). l ++ n ∷ []) c.loop-child.invariant.1 next
          ∙ sym (bases-more c.args.count children i),
    )
