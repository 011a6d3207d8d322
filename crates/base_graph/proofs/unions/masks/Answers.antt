use Rattle.std.proofs.Common.{rules, ◌≡◌, ℕ, ◌+◌, ◌-◌, ◌*◌, ◌^◌, ◌<◌, ◌≤◌, [], ◌∷◌, ◌++◌, length, sum_by, All, Contains, ap, subst, sym, ◌∙◌, length-append}
use Rattle.std.specs.Vec.{with_items}
use Rattle.std.proofs.Math.Facts.{Fits-lt-pow}
use Rattle.std.proofs.lemmas.List.{with_items_is}
use Rattle.base_graph.specs.NeedsGraph.{IsGraph}
use Rattle.base_graph.specs.Spread.{IsSpread}
use Rattle.base_graph.proofs.SpreadSteps.{begin, finish, measure-falls, sum-bound}
use Rattle.base_graph.proofs.unions.masks.Goals as goal

spread-on : (c : goal.In_ok-spread) → IsSpread c.args.g.now c.args.source.now c.spread.new.masks c.spread.new.waiting.items 0 0
spread-on c = c.in_ok-spread.ensures.spread c.args.source.now
    (subst (λ xs. IsSpread c.args.g.now c.args.source.now xs (c.pop.new.self.items ++ c.in-Some.a ∷ []) 0 0) (sym c.deref_mut.ensures.value)
    (subst (λ xs. IsSpread c.args.g.now c.args.source.now c.loop-a.masks.items xs 0 0) c.in-Some.ensures.items c.loop-a.invariant))

written : (c : goal.In_ok-spread) → (with_items c.loop-a.masks c.spread.new.masks).items ≡ c.spread.new.masks
written c = with_items_is c.loop-a.masks c.spread.new.masks (c.spread.auto.masks ∙ c.deref_mut.ensures.len)

pub loop-a-smaller : goal.loop-a-smaller
loop-a-smaller c =
    let s = spread-on c in
    let popped : length c.pop.new.self.items + 1 ≡ length c.loop-a.waiting.items =
    sym (ap length c.in-Some.ensures.items ∙ length-append c.pop.new.self.items (c.in-Some.a ∷ [])) in
    let grown =
    subst (λ xs. length c.spread.new.waiting.items + sum_by (λ mask. mask) xs ≤ length c.pop.new.self.items
    + sum_by (λ mask. mask) c.spread.new.masks) c.deref_mut.ensures.value c.in_ok-spread.ensures.grown in
    subst (λ xs. (c.args.g.now.n * 2 ^ 64 - sum_by (λ mask. mask) xs) + length c.spread.new.waiting.items
    < (c.args.g.now.n * 2 ^ 64 - sum_by (λ mask. mask) c.loop-a.masks.items) + length c.loop-a.waiting.items)
    (sym (written c))
    (measure-falls c.args.g.now.n (sum_by (λ mask. mask) c.loop-a.masks.items)
    (sum_by (λ mask. mask) c.spread.new.masks) (length c.spread.new.waiting.items) (length c.loop-a.waiting.items)
    (length c.pop.new.self.items)
    (sum-bound c.args.g.now.n c.spread.new.masks s.len s.fits) grown popped)

pub loop-a-preserved : goal.loop-a-preserved
loop-a-preserved c = subst (λ xs. IsSpread c.args.g.now c.args.source.now xs c.spread.new.waiting.items 0 0) (sym (written c)) (spread-on c)

pub loop-a-init : goal.loop-a-init
loop-a-init c =
    let all =
    subst (λ n. All (λ b. b < n) c.in_ok-waiting.waiting.items
    × ((a : ℕ) → a < n → Contains c.in_ok-waiting.waiting.items a))
    (ap (λ v. v.n) c.g.view_is) c.in_ok-waiting.ensures in
    subst (λ xs. IsSpread c.args.g.now c.args.source.now xs c.in_ok-waiting.waiting.items 0 0) (sym c.in_ok-masks.ensures.items)
    (begin c.args.g.now c.args.source.now c.in_ok-waiting.waiting.items
    (subst IsGraph c.g.view_is c.g.invariant) c.requires (λ i. Fits-lt-pow (c.type_inv.source i))
    all.0 all.1)

pub returns : goal.returns
returns c = finish c.args.g.now c.args.source.now c.loop-a.masks.items c.loop-a.waiting.items c.loop-a.invariant (search rules)
