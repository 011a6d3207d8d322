use Rattle.std.proofs.Common.{◌≡◌, ◌+◌, ◌-◌, ℕ, [], ◌∷◌, ◌++◌, List, get_or, map, sym, ap, ap₂, ◌∙◌, append_assoc, arith}
use Rattle.std.specs.List.{range_with_len}
use Rattle.std.proofs.lemmas.List.FromFn.{map-range_with_len_more}
use Rattle.modules_certificate.specs.declared.certificate.Difference.{Difference}
use Rattle.modules_certificate.specs.Sound.{difference_of, least_difference}
use Rattle.modules_certificate.proofs.making.push_differences.Goals as goal

-- one place more
more : (of : ℕ → Difference) (old now next : List Difference) (a second : ℕ) (d : Difference) →
    now ≡ old ++ map of (range_with_len a (second - a)) →
    next ≡ now ++ d ∷ [] → d ≡ of second → a + (second - a) ≡ second → next ≡ old ++ map of (range_with_len a (second + 1 - a))
more of old now next a second d before is same low =
    is ∙ ap₂ (λ (xs : List Difference) (e : Difference). xs ++ e ∷ []) before same
    ∙ append_assoc old (map of (range_with_len a (second - a))) (of second ∷ [])
    ∙ ap (λ (xs : List Difference). old ++ xs) (sym (map-range_with_len_more of a (second - a) second low)
    ∙ ap (λ n. map of (range_with_len a n)) (let e : second - a + 1 ≡ second + 1 - a = omega arith in e))

pub loop-second-preserved : goal.loop-second-preserved
loop-second-preserved c =
    more (difference_of c.args.needs.now c.args.representatives.now c.args.first) c.args.differ.now.items c.loop-second.differ.items _
    (c.args.first + 1) c.loop-second.second _
    c.loop-second.invariant c.in_ok-push.ensures.items (ap (λ
    (b : ℕ). record { first = c.args.first; second = c.loop-second.second; bit = b })
    (c.least_bit.ensures ∙ ap₂ (λ a b. least_difference (get_or c.args.needs.now a 0)
    (get_or c.args.needs.now b 0)) c.from.ensures c.from-in-loop-second.ensures)) (omega arith)
