-- Walks in a graph that is turned round, and the classes of the outputs that a node is.
use Rattle.std.proofs.Common.{◌≡◌, ℕ, ◌+◌, ◌*◌, ◌%◌, ◌^◌, ◌<◌, List, [], ◌∷◌, ◌++◌, map, length, get_or, set, All, bit_or, IsBitSet, refl, sym, ap, subst, ◌∙◌, arith, inl, inr, replicate, length-set, get_or-set_same, get_or-set_other}
use Rattle.std.specs.Int.{bit_at, w64}
use Rattle.std.specs.List.{AllByRecursion}
use Rattle.std.proofs.lemmas.Bool.{cases_eq}
use Rattle.std.proofs.lemmas.Nat.{bit_set_by_shift}
use Rattle.std.proofs.lemmas.Nat.Bits.{shr_and_one, bit_at_set_same, bit_at_set_other, bit_at-zero}
use Rattle.std.proofs.lemmas.List.{get_or-map, length-map, get_or_default, get_or-replicate, length-replicate}
use Rattle.base_graph.specs.NeedsGraph.{NeedsGraph, Needs}
use Rattle.base_graph.specs.Reaching.{Walk, Reaches}
use Rattle.base_graph.specs.Masks.{AreMasks, ReachesWithBit}
use Rattle.modules_clusters.specs.ClassBits.{turned, IsOutputOf, AreClassBits}
use Rattle.modules_clusters.specs.Clusters.{ReachesClass, AreClusters}

-- ---- A graph turned round

pub turned-inside : (n : ℕ) (edges : List (ℕ × ℕ)) → AllByRecursion (λ (edge : ℕ × ℕ). (edge.0 < n) × (edge.1 < n)) edges →
    AllByRecursion (λ (edge : ℕ × ℕ). (edge.0 < n) × (edge.1 < n)) (map (λ (edge : ℕ × ℕ). (edge.1, edge.0)) edges)
turned-inside n [] all = tt
turned-inside n (edge ∷ edges) all = ((all.0.1, all.0.0), turned-inside n edges all.1)

turned-needs : (g : NeedsGraph) (a b : ℕ) → Needs g b a → Needs (turned g) a b
turned-needs g a b (k, below, is) = (
  k,
  (let e : length (turned g).edges ≡ length g.edges = length-map g.edges (λ (edge : ℕ × ℕ). (edge.1, edge.0)) in omega arith),
  get_or-map (λ (edge : ℕ × ℕ). (edge.1, edge.0)) g.edges k (a, b) (b, a) below ∙ ap (λ (edge : ℕ × ℕ). (edge.1, edge.0)) is,
)

turned-back : (g : NeedsGraph) (a b : ℕ) → Needs (turned g) b a → Needs g a b
turned-back g a b (k, below, is) = (
  k,
  inside,
  get_or_default g.edges k (b, a) (b, a) inside
      ∙ ap (λ (edge : ℕ × ℕ). (edge.1, edge.0))
      (sym (get_or-map (λ (edge : ℕ × ℕ). (edge.1, edge.0)) g.edges k (b, a) (a, b) inside) ∙ is),
)
  where
    inside : k < length g.edges
    inside = let e : length (turned g).edges ≡ length g.edges = length-map g.edges (λ (edge : ℕ × ℕ). (edge.1, edge.0)) in omega arith

module _ (g h : NeedsGraph) (turn : (a b : ℕ) → Needs g b a → Needs h a b) where
  walk-on : (b : ℕ) (path : List ℕ) (c a : ℕ) → Walk h b path c → Needs h c a → Walk h b (path ++ c ∷ []) a
  walk-on b [] c a first last = (first, last)
  walk-on b (d ∷ path) c a walk last = (walk.0, walk-on d path c a walk.1 last)

  walk-back : (b : ℕ) (path : List ℕ) (a : ℕ) → Walk g b path a → (back : List ℕ) × Walk h a back b
  walk-back b [] a needs = ([], turn a b needs)
  walk-back b (c ∷ path) a walk = let rest = walk-back c path a walk.1 in (rest.0 ++ c ∷ [], walk-on a rest.0 c b rest.1 (turn c b walk.0))

  reaches-back : (a b : ℕ) → Reaches g a b → Reaches h b a
  reaches-back a b (inl same) = inl (sym same)
  reaches-back a b (inr (path, walk)) = inr (walk-back b path a walk)

-- ---- Clusters by masks

module _ (g : NeedsGraph) (outputs class bits clusters : List ℕ) (inside : All (λ o. o < g.n) outputs)
    (are_bits : AreClassBits g.n outputs class (length outputs) bits)
    (are_masks : AreMasks (turned g) bits clusters) where
  to-class : (a c : ℕ) → ReachesWithBit (turned g) bits a c → ReachesClass g outputs class a c
  to-class a c (o, below, reach, bit) = let (i, low, output, of) = (are_bits.at_node o c below).0 bit in
      (i, low, of, subst (Reaches g a) (sym output) (reaches-back (turned g) g (turned-back g) o a reach))

  from-class : (a c : ℕ) → ReachesClass g outputs class a c → ReachesWithBit (turned g) bits a c
  from-class a c (i, low, of, reach) = let below : get_or outputs i 0 < g.n = inside i 0 low in (
    get_or outputs i 0,
    below,
    reaches-back g (turned g) (turned-needs g) a (get_or outputs i 0) reach,
    (are_bits.at_node (get_or outputs i 0) c below).1 (i, low, refl, of),
  )

  pub are_clusters : AreClusters g outputs class clusters
  are_clusters = record {
    one_each = are_masks.len;
    bits = λ a c below. let masks = are_masks.bits a c below in
        (λ set. to-class a c (masks.0 set), λ reach. masks.1 (from-class a c reach));
  }

-- ---- The bits of one output more

one_at : (n k : ℕ) → IsBitSet n k → bit_at n k ≡ 1
one_at n k set = sym (shr_and_one n k) ∙ (bit_set_by_shift n k).1 set

set_at : (n k : ℕ) → bit_at n k ≡ 1 → IsBitSet n k
set_at n k one = (bit_set_by_shift n k).0 (shr_and_one n k ∙ one)

pub no_bits : (n : ℕ) (outputs class : List ℕ) → AreClassBits n outputs class 0 (replicate n 0)
no_bits n outputs class = record {
  len = length-replicate n 0;
  at_node =
      λ a c below. (
        λ set. absurd (let e = one_at 0 c (subst (λ m. IsBitSet m c) (get_or-replicate n a 0 0 below) set) in
            let z = bit_at-zero c in omega arith),
        λ (i, low, output, of). absurd (omega arith),
      );
}

module _ (n : ℕ) (outputs class bits : List ℕ) (i mask : ℕ) (within : get_or outputs i 0 < n)
    (few : get_or class i 0 < 64) (read : mask ≡ get_or bits (get_or outputs i 0) 0)
    (so_far : AreClassBits n outputs class i bits) where
  abbrev pub o : ℕ
  o = get_or outputs i 0

  abbrev pub c : ℕ
  c = get_or class i 0

  abbrev pub more : ℕ
  more = bit_or mask (1 * 2 ^ c % 2 ^ 64)

  len : o < length bits
  len = let e = so_far.len in omega arith

  own : get_or (set bits o more) o 0 ≡ more
  own = get_or-set_same bits o more 0 len

  one_more : (a k : ℕ) → IsOutputOf outputs class i a k → IsOutputOf outputs class (i + 1) a k
  one_more a k (j, low, output, of) = (j, omega arith, output, of)

  from-bit : (a k : ℕ) → a < n → IsBitSet (get_or (set bits o more) a 0) k → IsOutputOf outputs class (i + 1) a k
  from-bit a k below here_set = elim (cases_eq a o) [
    | inl here ↦ elim (cases_eq k c) [
      | inl new ↦ (i, omega arith, sym here, sym new)
      | inr old ↦
          let in_more : IsBitSet more k = subst (λ m. IsBitSet m k) (ap (λ b. get_or (set bits o more) b 0) here ∙ own) here_set in
          let in_mask : IsBitSet mask k = set_at mask k (sym (bit_at_set_other w64 mask c few k old) ∙ one_at more k in_more) in
          one_more a k ((so_far.at_node a k below).0 (subst (λ m. IsBitSet m k) (read ∙ ap (λ b. get_or bits b 0) (sym here)) in_mask))
    ]
    | inr there ↦ one_more a k ((so_far.at_node a k below).0 (subst (λ m. IsBitSet m k) (get_or-set_other bits o a more 0 there) here_set))
  ]

  kept : (k : ℕ) → IsBitSet mask k → IsBitSet more k
  kept k set = elim (cases_eq k c) [
    | inl new ↦ subst (λ j. IsBitSet more j) (sym new) (set_at more c (bit_at_set_same w64 mask c few))
    | inr old ↦ set_at more k (bit_at_set_other w64 mask c few k old ∙ one_at mask k set)
  ]

  to-old : (a k : ℕ) → a < n → IsOutputOf outputs class i a k → IsBitSet (get_or (set bits o more) a 0) k
  to-old a k below given = let had : IsBitSet (get_or bits a 0) k = (so_far.at_node a k below).1 given in elim (cases_eq a o) [
    | inl here ↦ subst (λ m. IsBitSet m k) (sym (ap (λ b. get_or (set bits o more) b 0) here ∙ own))
        (kept k (subst (λ m. IsBitSet m k) (ap (λ b. get_or bits b 0) here ∙ sym read) had))
    | inr there ↦ subst (λ m. IsBitSet m k) (sym (get_or-set_other bits o a more 0 there)) had
  ]

  to-bit : (a k : ℕ) → a < n → IsOutputOf outputs class (i + 1) a k → IsBitSet (get_or (set bits o more) a 0) k
  to-bit a k below (j, low, output, of) = elim (cases_eq j i) [
    | inl last ↦
        let here : a ≡ o = sym output ∙ ap (λ i. get_or outputs i 0) last in
        let new : k ≡ c = sym of ∙ ap (λ i. get_or class i 0) last in
        subst (λ m. IsBitSet m k) (sym (ap (λ b. get_or (set bits o more) b 0) here ∙ own))
        (subst (λ j. IsBitSet more j) (sym new) (set_at more c (bit_at_set_same w64 mask c few)))
    | inr earlier ↦ to-old a k below (j, omega arith, output, of)
  ]

  pub bits-more : AreClassBits n outputs class (i + 1) (set bits o more)
  bits-more = record {
    len = length-set bits o more ∙ so_far.len;
    at_node = λ a k below. (from-bit a k below, to-bit a k below);
  }
