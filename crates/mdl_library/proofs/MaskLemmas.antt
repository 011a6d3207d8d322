-- A node needs itself where an edge leads to it from a node that it reaches.
use Rattle.std.proofs.Common.{◌≡◌, refl, sym, ◌∙◌, ap, subst, ℕ, zero, suc, ◌<◌, inl, inr, Bool, true, false, true≢false, not, ◌&&◌, eqb, List, [], ◌∷◌, slice_index, slice_set, replicate, Contains, bit_and, IsBitSet, get_or-set_other, get_or-set_same, arith}
use Rattle.std.specs.List.{list_any}
use Rattle.std.proofs.lemmas.Bool.{eqb-true, eq-eqb, cases_eq}
use Rattle.std.proofs.lemmas.List.{length-replicate}
use Rattle.std.proofs.lemmas.List.Elements.{All-contains, All-from_recursion}
use Rattle.base_graph.specs.NeedsGraph.{NeedsGraph, IsGraph, Needs}
use Rattle.base_graph.specs.Reaching.{Walk, Reaches}
use Rattle.base_graph.specs.Masks.{AreMasks}
use Rattle.mdl_library.specs.References.{needs_itself}
use Rattle.mdl_library.specs.HeldGraph.{marks}
use Rattle.mdl_library.proofs.SelfNeeds.{any_at, any_there, itself_from_walk, walk_from_itself}

and-parts : (a b : Bool) → (a && b) ≡ true → (a ≡ true) × (b ≡ true)
and-parts true true e = (refl, refl)
and-parts true false e = absurd (true≢false (sym e))
and-parts false b e = absurd (true≢false (sym e))

and-both : (a b : Bool) → a ≡ true → b ≡ true → (a && b) ≡ true
and-both true true e f = refl
and-both true false e f = f
and-both false b e f = e

both-same : (a b : Bool) → (a ≡ true → b ≡ true) → (b ≡ true → a ≡ true) → a ≡ b
both-same true b f g = sym (f refl)
both-same false true f g = absurd (true≢false (sym (g refl)))
both-same false false f g = refl

-- a bit that is set by its test
set-bit : (m : ℕ) → not (eqb (bit_and m 1) 0) ≡ true → IsBitSet m 0
set-bit m e none = true≢false (sym e ∙ ap not (eq-eqb (bit_and m 1) 0 none))

bit-set : (m : ℕ) → IsBitSet m 0 → not (eqb (bit_and m 1) 0) ≡ true
bit-set m set = by_test (eqb (bit_and m 1) 0) refl
  where
    by_test : (t : Bool) → eqb (bit_and m 1) 0 ≡ t → not t ≡ true
    by_test true e = absurd (set (eqb-true (bit_and m 1) 0 e))
    by_test false e = refl

-- an edge's ends
pub edge_inside : (g : NeedsGraph) → IsGraph g → (edge : ℕ × ℕ) → Contains g.edges edge → edge.0 < g.n
edge_inside g inside edge c =
    (All-contains (λ (e : ℕ × ℕ). (e.0 < g.n) × (e.1 < g.n)) g.edges edge
    (All-from_recursion (λ (e : ℕ × ℕ). (e.0 < g.n) × (e.1 < g.n)) g.edges inside) c).0

module _ (g : NeedsGraph) (inside : IsGraph g) (k : ℕ) (below : k < g.n) (source masks : List ℕ)
    (only : (a : ℕ) → IsBitSet (slice_index source a) 0 → a ≡ k) (own : IsBitSet (slice_index source k) 0)
    (are : AreMasks g source masks) where
  to-walk : (edge : ℕ × ℕ) → Contains g.edges edge → edge.1 ≡ k → Reaches g k edge.0 → (path : List ℕ) × Walk g k path k
  to-walk edge c to (inl same) =
      ([], subst (λ (e : ℕ × ℕ). Contains g.edges e) (λ i. (sym same i, to i)) c)
  to-walk edge c to (inr (path, walk)) =
      (edge.0 ∷ path, (subst (λ (e : ℕ × ℕ). Contains g.edges e) (λ i. (edge.0, to i)) c, walk))

  from-marks : list_any (marks masks k) g.edges ≡ true → needs_itself g k ≡ true
  from-marks e =
      let found = any_there (marks masks k) g.edges e in
      let edge = found.0 in
      let parts = and-parts (eqb edge.1 k) (not (eqb (bit_and (slice_index masks edge.0) 1) 0)) found.2 in
      let at = (are.bits edge.0 0 (edge_inside g inside edge found.1)).0 (set-bit (slice_index masks edge.0) parts.1) in
      let walk = to-walk edge found.1 (eqb-true edge.1 k parts.0) (subst (λ a. Reaches g a edge.0) (only at.0 at.3) at.2) in
      itself_from_walk g k inside walk.0 walk.1

  marked : (a : ℕ) → Needs g k a → Reaches g k a → list_any (marks masks k) g.edges ≡ true
  marked a needs reaches =
      any_at (marks masks k) g.edges (a, k) needs
      (and-both (eqb k k) (not (eqb (bit_and (slice_index masks a) 1) 0)) (eq-eqb k k refl)
      (bit-set (slice_index masks a) ((are.bits a 0 (edge_inside g inside (a, k) needs)).1 (k, below, reaches, own))))

  to-marks : (path : List ℕ) → Walk g k path k → list_any (marks masks k) g.edges ≡ true
  to-marks [] w = marked k w (inl refl)
  to-marks (a ∷ path) w = marked a w.0 (inr (path, w.1))

  pub marks_are_needs : list_any (marks masks k) g.edges ≡ needs_itself g k
  marks_are_needs =
      both-same (list_any (marks masks k) g.edges) (needs_itself g k) from-marks
      (λ e. let walk = walk_from_itself g k e in to-marks walk.0 walk.1)

-- ---- One marked node

none-marked : (n a : ℕ) → slice_index (replicate n 0) a ≡ 0
none-marked zero a = refl
none-marked (suc n) zero = refl
none-marked (suc n) (suc a) = none-marked n a

pub only_marked : (n k a : ℕ) → IsBitSet (slice_index (slice_set (replicate n 0) k 1) a) 0 → a ≡ k
only_marked n k a set = elim (cases_eq a k) [
  | inl same ↦ same
  | inr other ↦ absurd (set (ap (λ m. bit_and m 1) (get_or-set_other (replicate n 0) k a 1 0 other ∙ none-marked n a)))
]

pub own_marked : (n k : ℕ) → k < n → IsBitSet (slice_index (slice_set (replicate n 0) k 1) k) 0
own_marked n k h none =
    let e : slice_index (slice_set (replicate n 0) k 1) k ≡ 1 =
    get_or-set_same (replicate n 0) k 1 0 (subst (λ m. k < m) (sym (length-replicate n 0)) h) in
    let f : bit_and 1 1 ≡ 0 = ap (λ m. bit_and m 1) (sym e) ∙ none in omega (arith, f)
