-- The group of a needed node comes before, or is the same: more functions hold it, or the same.
use Rattle.std.specs.Prelude.{◌≡◌, ◌⊎◌, ℕ, zero, suc, ◌+◌, ◌-◌, ◌*◌, ◌/◌, ◌%◌, ◌^◌, ◌<◌, ◌≤◌, ◌==◌, List, [], ◌∷◌, ◌++◌, length, slice_index, count_ones, unwrap_or, Contains, Option, Some, None, true, refl}
use Rattle.std.specs.Int.{bit_at}
use Rattle.std.specs.List.{position_from}
use Rattle.std.specs.Option.{is_some}
use Rattle.std.proofs.Common.{sym, ap, subst, ◌∙◌, arith, inl, inr, get_or}
use Rattle.std.proofs.lemmas.Bool.{cases_lt, eqb-true, false≢true}
use Rattle.std.proofs.lemmas.List.{get_or-map}
use Rattle.std.proofs.lemmas.List.Sorted.{Contains-permutation}
use Rattle.std.proofs.lemmas.Option.{slice_get-get_or}
use Rattle.std.proofs.lemmas.Nat.{ones_le_self, zero_from_ones, ones_cat}
use Rattle.std.proofs.lemmas.Nat.Bits.{bit_at_lowest, bit_at-suc, bit_at-lt}
use Rattle.base_core.specs.Interface.{different}
use Rattle.base_core.proofs.lemmas.Different.{has}
use Rattle.base_graph.specs.NeedsGraph.{NeedsGraph, Needs}
use Rattle.base_graph.specs.Reaching.{Walk, Reaches}
use Rattle.base_graph.proofs.lemmas.Bits.{one-from_set, set-from_one}
use Rattle.modules_clusters.specs.Classes.{place_of}
use Rattle.modules_clusters.specs.Clusters.{ReachesClass}
use Rattle.modules_clusters.specs.Grouping.{ComesBefore, AreGroups}
use Rattle.modules_clusters.specs.NodeGroups.{NodeGroups}
use Rattle.modules_clusters.proofs.lemmas.FirstPlaces.{is_some-position, found-at, has-head, has-tail}
use Rattle.modules_profile.proofs.lemmas.Members.{in-none, in-cases, in-at}
use Rattle.modules_profile.proofs.lemmas.MaskBits.{in-different}
use Rattle.right_relation.specs.StandingLaws.{NeededGroupIsEarlier}

-- ---- A number that has all bits of another has more, or is the same

one-bit : (k : ℕ) → k < 2 → count_ones k ≡ k
one-bit zero h = omega (arith, ones_le_self 0)
one-bit (suc zero) h = by (count_ones 1) refl
  where
    by : (n : ℕ) → count_ones 1 ≡ n → count_ones 1 ≡ 1
    by zero e = absurd (let wrong : 1 ≡ 0 = zero_from_ones 1 e in omega (arith, wrong))
    by (suc n) e = omega (arith, e, ones_le_self 1)
one-bit (suc (suc k)) h = absurd (omega arith)

ones-of : (n : ℕ) → count_ones n ≡ count_ones (n / 2) + n % 2
ones-of n =
    ap count_ones whole ∙ ones_cat 1 (n / 2) (n % 2) (omega arith) ∙ ap (λ k. count_ones (n / 2) + k) (one-bit (n % 2) (omega arith))
  where
    whole : n ≡ n / 2 * 2 ^ 1 + n % 2
    whole = omega arith

more-or-same : (d a b : ℕ) → a ≤ d → b ≤ d → ((k : ℕ) → bit_at b k ≤ bit_at a k) → (count_ones b < count_ones a) ⊎ (a ≡ b)
more-or-same zero a b low less covers = inr (omega arith)
more-or-same (suc d) a b low less covers =
    by (more-or-same d (a / 2) (b / 2) (omega arith) (omega arith) (λ k.
    let c = covers (suc k) in let p = bit_at-suc a k in let q = bit_at-suc b k in omega (arith, c, p, q))) (cases_lt (b % 2) (a % 2))
  where
    lowest : b % 2 ≤ a % 2
    lowest = let c = covers 0 in let p = bit_at_lowest a in let q = bit_at_lowest b in omega (arith, c, p, q)

    by : (count_ones (b / 2) < count_ones (a / 2)) ⊎ (a / 2 ≡ b / 2) → (b % 2 < a % 2) ⊎ (a % 2 ≤ b % 2) →
        (count_ones b < count_ones a) ⊎ (a ≡ b)
    by (inl more) first = inl (omega (arith, more, lowest, ones-of a, ones-of b))
    by (inr same) (inl more) = inl (omega (arith, ap count_ones same, more, ones-of a, ones-of b))
    by (inr same) (inr most) = inr (omega (arith, same, most, lowest))

-- ---- The set of a node is at its group

has-in : (xs : List ℕ) (x : ℕ) → Contains xs x → has xs x ≡ true
has-in [] x h = absurd (in-none x h)
has-in (y ∷ ys) x h = elim (in-cases y x ys h) [
  | inl same ↦ subst (λ z. has (y ∷ ys) z ≡ true) same (has-head ys y)
  | inr more ↦ has-tail ys y x (has-in ys x more)
]

placed : (xs : List ℕ) (x : ℕ) → Contains xs x → (place_of xs x < length xs) × (get_or xs (place_of xs x) 0 ≡ x)
placed xs x h = by (position_from (λ y. y == x) 0 xs) refl
  where
    by : (o : Option ℕ) → position_from (λ y. y == x) 0 xs ≡ o → (unwrap_or o 0 < length xs) × (get_or xs (unwrap_or o 0) 0 ≡ x)
    by None e = absurd (false≢true (sym (ap is_some e) ∙ is_some-position (λ y. y == x) 0 xs ∙ has-in xs x h))
    by (Some k) e =
        let f = found-at (λ y. y == x) 0 xs k e in
        let here : k ≡ k - 0 = omega arith in
        (let below = f.1 in omega (arith, below), ap (λ i. get_or xs i 0) here ∙ eqb-true (get_or xs (k - 0) 0) x f.2)

in-index : (xs : List ℕ) (a : ℕ) → a < length xs → Contains xs (get_or xs a 0)
in-index xs a below = in-at xs a (get_or xs a 0) (slice_get-get_or xs a 0 below)

module _ (holds : List ℕ) (groups : NodeGroups) (are : AreGroups holds groups) where
  stands : (a : ℕ) → a < length holds →
      (slice_index groups.of a < length groups.holds) × (slice_index groups.holds (slice_index groups.of a) ≡ slice_index holds a)
  stands a below =
      let set = get_or holds a 0 in
      let group : get_or groups.of a 0 ≡ place_of groups.holds set =
      ap (λ (of : List ℕ). get_or of a 0) are.of ∙ get_or-map (place_of groups.holds) holds a 0 0 below in
      subst (λ k. (k < length groups.holds) × (get_or groups.holds k 0 ≡ set)) (sym group)
      (placed groups.holds set (Contains-permutation (different holds) groups.holds set are.sets
      (in-different holds set (in-index holds a below))))

-- ---- What reaches with a node, the needed node reaches

longer : (g : NeedsGraph) (o b a : ℕ) (path : List ℕ) → Walk g o path b → Needs g b a → Walk g o (path ++ b ∷ []) a
longer g o b a [] walk needs = (walk, needs)
longer g o b a (c ∷ path) walk needs = (walk.0, longer g c b a path walk.1 needs)

reaches-too : (g : NeedsGraph) (o b a : ℕ) → Needs g b a → Reaches g b o → Reaches g a o
reaches-too g o b a needs (inl same) = inr ([], subst (λ x. Needs g x a) same needs)
reaches-too g o b a needs (inr (path, walk)) = inr (path ++ b ∷ [], longer g o b a path walk needs)

pub needed_group_is_earlier : NeededGroupIsEarlier
needed_group_is_earlier g outputs class clusters groups a b are grouped in_a in_b needs =
    by (cases_lt (slice_index groups.of b) (slice_index groups.of a))
  where
    set : ℕ → ℕ
    set x = slice_index clusters x

    covers : (c : ℕ) → bit_at (set b) c ≤ bit_at (set a) c
    covers c = bits (bit_at (set b) c) refl
      where
        too : ReachesClass g outputs class b c → ReachesClass g outputs class a c
        too (i, below, is, reaches) = (i, below, is, reaches-too g (slice_index outputs i) b a needs reaches)

        bits : (n : ℕ) → bit_at (set b) c ≡ n → n ≤ bit_at (set a) c
        bits zero e = omega arith
        bits (suc zero) e =
            let one = one-from_set (set a) c ((are.bits a c in_a).1 (too ((are.bits b c in_b).0 (set-from_one (set b) c e)))) in
            omega (arith, one)
        bits (suc (suc n)) e = absurd (let low = bit_at-lt (set b) c in omega (arith, low, e))

    at : (x : ℕ) → x < g.n → (slice_index groups.of x < length groups.holds) × (slice_index groups.holds (slice_index groups.of x) ≡ set x)
    at x below = stands clusters groups grouped x (let long = are.one_each in omega (arith, long, below))

    by : (slice_index groups.of b < slice_index groups.of a) ⊎ (slice_index groups.of a ≤ slice_index groups.of b) →
        slice_index groups.of a ≤ slice_index groups.of b
    by (inr earlier) = earlier
    by (inl later) =
        absurd (compared (more-or-same (set a + set b) (set a) (set b) (omega arith) (omega arith) covers)
        (grouped.in_order (slice_index groups.of b) (slice_index groups.of a) later (at a in_a).0))
      where
        counts : (x : ℕ) → x < g.n → count_ones (slice_index groups.holds (slice_index groups.of x)) ≡ count_ones (set x)
        counts x below = ap count_ones (at x below).1

        places : (x : ℕ) → x < g.n → place_of clusters (slice_index groups.holds (slice_index groups.of x)) ≡ place_of clusters (set x)
        places x below = ap (place_of clusters) (at x below).1

        compared : (count_ones (set b) < count_ones (set a)) ⊎ (set a ≡ set b) →
            ComesBefore clusters (slice_index groups.holds (slice_index groups.of b)) (slice_index groups.holds (slice_index groups.of a)) →
            ⊥
        compared (inl more) (inl fewer) = omega (arith, more, fewer, counts a in_a, counts b in_b)
        compared (inl more) (inr (same, first)) = omega (arith, more, same, counts a in_a, counts b in_b)
        compared (inr equal) (inl fewer) = omega (arith, ap count_ones equal, fewer, counts a in_a, counts b in_b)
        compared (inr equal) (inr (same, first)) = omega (arith, ap (place_of clusters) equal, first, places a in_a, places b in_b)
