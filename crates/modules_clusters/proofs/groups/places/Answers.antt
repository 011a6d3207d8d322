use Rattle.std.proofs.Common.{◌≡◌, ℕ, List, ◌∷◌, [], ◌++◌, get_or, ap₂, sym, ◌∙◌}
use Rattle.std.proofs.lemmas.List.{map_more}
use Rattle.modules_clusters.specs.Classes.{place_of}
use Rattle.modules_clusters.proofs.lemmas.Sets.{different_sets}
use Rattle.modules_clusters.proofs.groups.places.Goals as goal

pub ranks-requires-clause-different : goal.ranks-requires-clause-different
ranks-requires-clause-different c = different_sets c.args.holds.now c.args.sets.now c.requires.in_order

pub loop-set-preserved : goal.loop-set-preserved
loop-set-preserved c =
    let ranked = c.in_ok-ranks.ensures (get_or c.args.holds.now c.loop-set.set-index 0) in
    let place : c.unwrap_or.result ≡ place_of c.args.sets.now (get_or c.args.holds.now c.loop-set.set-index 0) = cc in
    c.in_ok-push.ensures.items ∙ ap₂ (λ (front : List ℕ) (last : ℕ). front ++ last ∷ []) c.loop-set.invariant place
    ∙ sym (map_more (place_of c.args.sets.now) c.args.holds.now c.loop-set.set-index 0 c.loop-set-test.true)
