-- Instances with the values of names of low rank alone, and ticks whose names have an order.
use Rattle.std.specs.Prelude.{◌≡◌, ℕ, suc, ◌+◌, ◌≤◌, max, ℤ, Bool, true, false, if◌then◌else◌, nat_lt, List, [], ◌∷◌, Option, None, refl}
use Rattle.std.proofs.Common.{ap, ap₂, arith}
use Rattle.std.proofs.lemmas.Bool.{lt-ltb}
use Rattle.lustre_flows.specs.Instances.{Instance, Instances, instance, no_calls, more_calls}
use Rattle.lustre_flows.specs.FlowLaws.{Ranks, ValueStays, ValuesStay, Stays, AllStay, values_where, below, all_below}
use Rattle.lustre_settling.proofs.lemmas.Order.{value-stays-self}

-- ---- What is below a rank stays

values-where-stay : (test : ℕ → Bool) (k : ℕ) (vs : List (Option ℤ)) → ValuesStay (values_where test k vs) vs
values-where-stay test k [] = tt
values-where-stay test k (v ∷ vs) = (by (test k), values-where-stay test (k + 1) vs)
  where
    by : (t : Bool) → ValueStays (if t then v else None) v
    by true = value-stays-self v
    by false = tt

mutual
  pub below-stays : (ranks : Ranks) (n : ℕ) (i : Instance) → Stays (below ranks n i) i
  below-stays ranks n (instance vs cs) = (values-where-stay (λ k. nat_lt (ranks [] k) n) 0 vs, all-below-stay ranks n 0 cs)

  all-below-stay : (ranks : Ranks) (n place : ℕ) (cs : Instances) → AllStay (all_below ranks n place cs) cs
  all-below-stay ranks n place no_calls = tt
  all-below-stay ranks n place (more_calls c cs) =
      (below-stays (λ path. ranks (place ∷ path)) n c, all-below-stay ranks n (place + 1) cs)

-- ---- Names have finitely many ranks

abbrev top_value : (ℕ → ℕ) → ℕ → List (Option ℤ) → ℕ
top_value rank k [] = 0
top_value rank k (v ∷ vs) = max (suc (rank k)) (top_value rank (k + 1) vs)

values-below-top : (rank : ℕ → ℕ) (n k : ℕ) (vs : List (Option ℤ)) → top_value rank k vs ≤ n →
    values_where (λ j. nat_lt (rank j) n) k vs ≡ vs
values-below-top rank n k [] top = refl
values-below-top rank n k (v ∷ vs) top =
    ap₂ {C = List (Option ℤ)} (λ x xs. x ∷ xs) (ap (λ t. if t then v else None) (lt-ltb (rank k) n (omega arith)))
    (values-below-top rank n (k + 1) vs (omega arith))

abbrev mutual
  top : Ranks → Instance → ℕ
  top ranks (instance vs cs) = max (top_value (ranks []) 0 vs) (all_top ranks 0 cs)

  all_top : Ranks → ℕ → Instances → ℕ
  all_top ranks place no_calls = 0
  all_top ranks place (more_calls c cs) = max (top (λ path. ranks (place ∷ path)) c) (all_top ranks (place + 1) cs)

mutual
  below-top : (ranks : Ranks) (n : ℕ) (i : Instance) → top ranks i ≤ n → below ranks n i ≡ i
  below-top ranks n (instance vs cs) high =
      ap₂ instance (values-below-top (ranks []) n 0 vs (omega arith)) (all-below-top ranks n 0 cs (omega arith))

  all-below-top : (ranks : Ranks) (n place : ℕ) (cs : Instances) → all_top ranks place cs ≤ n → all_below ranks n place cs ≡ cs
  all-below-top ranks n place no_calls high = refl
  all-below-top ranks n place (more_calls c cs) high =
      ap₂ more_calls (below-top (λ path. ranks (place ∷ path)) n c (omega arith)) (all-below-top ranks n (place + 1) cs (omega arith))

-- below some rank there is all of an instance
pub all-ranked : (ranks : Ranks) (i : Instance) → (n : ℕ) × (below ranks n i ≡ i)
all-ranked ranks i = (top ranks i, below-top ranks (top ranks i) i (omega arith))
