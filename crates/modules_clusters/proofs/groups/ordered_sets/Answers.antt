use Rattle.std.proofs.Common.{ℕ, count_ones, subst, rules}
use Rattle.std.proofs.lemmas.Fn.{always_returns_same}
use Rattle.std.specs.declared.cmp.Reverse.{Reverse}
use Rattle.std.specs.List.Sorted.{IsStableBy}
use Rattle.modules_clusters.proofs.lemmas.Sets.{has_more, sorted_sets}
use Rattle.modules_clusters.proofs.groups.ordered_sets.Goals as goal

abbrev by_count : ℕ → Reverse ℕ
by_count set = record { 0 = count_ones set }

pub returns-clause-in_order : goal.returns-clause-in_order
returns-clause-in_order c =
    sorted_sets c.args.holds.now c.sort_by_key.new.self.items
    (c.in_ok-sort_by_key.ensures.sorted by_count (always_returns_same _ _ _ (λ a r q k. search rules)))
    (subst (λ xs. IsStableBy has_more xs c.sort_by_key.new.self.items) c.in_ok-sets.ensures
    (c.in_ok-sort_by_key.ensures.stable by_count (always_returns_same _ _ _ (λ a r q k. search rules))))
