-- What a tick leaves is, without its values, an instance where no name has a value yet.
use Rattle.std.proofs.Common.{◌≡◌, refl, ap, ap₂, ◌∙◌, ℕ, zero, suc, ◌+◌, nat_lt, List, [], ◌∷◌, ◌++◌, length, replicate, slice_index_or, Option, None, ℤ}
use Rattle.std.specs.List.{AllByRecursion}
use Rattle.lustre_syntax.specs.Tree.{EquationTree, set, call, NodeTree, FileTree}
use Rattle.lustre_flows.specs.Instances.{by_node, Instance, Instances, instance, no_calls, more_calls, no_instance, fresh_calls, fresh}
use Rattle.lustre_flows.specs.Ticks.{last_place, fresh_root}
use Rattle.lustre_flows.specs.FlowLaws.{Ranks, ValuesStay, Stays, AllStay, values_where, below, all_below}
use Rattle.lustre_rows.proofs.lemmas.Lists.{all-after}

abbrev no_ranks : Ranks
no_ranks path k = 0

-- ---- Of one form

none-same : (k : ℕ) (us vs : List (Option ℤ)) → ValuesStay us vs →
    values_where (λ j. nat_lt 0 0) k vs ≡ values_where (λ j. nat_lt 0 0) k us
none-same k [] [] stay = refl
none-same k [] (v ∷ vs) stay = absurd stay
none-same k (u ∷ us) [] stay = absurd stay
none-same k (u ∷ us) (v ∷ vs) stay = ap {B = List (Option ℤ)} (λ xs. None ∷ xs) (none-same (k + 1) us vs stay.1)

mutual
  below-same : (i j : Instance) → Stays i j → below no_ranks 0 j ≡ below no_ranks 0 i
  below-same (instance us bs) (instance vs cs) stay = ap₂ instance (none-same 0 us vs stay.0) (all-below-same 0 bs cs stay.1)

  all-below-same : (place : ℕ) (bs cs : Instances) → AllStay bs cs → all_below no_ranks 0 place cs ≡ all_below no_ranks 0 place bs
  all-below-same place no_calls no_calls stay = refl
  all-below-same place no_calls (more_calls c cs) stay = absurd stay
  all-below-same place (more_calls b bs) no_calls stay = absurd stay
  all-below-same place (more_calls b bs) (more_calls c cs) stay =
      ap₂ more_calls (below-same b c stay.0) (all-below-same (place + 1) bs cs stay.1)

-- ---- Fresh ones

abbrev IsFresh : Instance → Type 0
IsFresh i = below no_ranks 0 i ≡ i

none-there : (n k : ℕ) → values_where (λ j. nat_lt 0 0) k (replicate n None) ≡ replicate n None
none-there zero k = refl
none-there (suc n) k = ap {B = List (Option ℤ)} (λ xs. None ∷ xs) (none-there n (k + 1))

fresh-at : (earlier : List Instance) (k : ℕ) → AllByRecursion IsFresh earlier → IsFresh (slice_index_or earlier k no_instance)
fresh-at [] k all = refl
fresh-at (i ∷ is) zero all = all.0
fresh-at (i ∷ is) (suc k) all = fresh-at is k all.1

calls-fresh : (earlier : List Instance) (es : List EquationTree) (place : ℕ) → AllByRecursion IsFresh earlier →
    all_below no_ranks 0 place (fresh_calls earlier es) ≡ fresh_calls earlier es
calls-fresh earlier [] place all = refl
calls-fresh earlier (set line given value ∷ es) place all = calls-fresh earlier es place all
calls-fresh earlier (call line given callee values ∷ es) place all =
    ap₂ more_calls (fresh-at earlier callee all) (calls-fresh earlier es (place + 1) all)

fresh-is : (earlier : List Instance) (n : NodeTree) → AllByRecursion IsFresh earlier → IsFresh (fresh earlier n)
fresh-is earlier n all = ap₂ instance (none-there (length n.names) 0) (calls-fresh earlier n.equations 0 all)

all-fresh : (earlier : List Instance) (ns : List NodeTree) → AllByRecursion IsFresh earlier →
    AllByRecursion IsFresh (by_node fresh earlier ns)
all-fresh earlier [] all = all
all-fresh earlier (n ∷ ns) all =
    all-fresh (earlier ++ fresh earlier n ∷ []) ns
    (all-after IsFresh earlier (fresh earlier n ∷ []) all (fresh-is earlier n all, tt))

pub form-is : (f : FileTree) (left : Instance) → Stays (fresh_root f) left → below (λ path k. 0) 0 left ≡ fresh_root f
form-is f left stay =
    below-same (fresh_root f) left stay
    ∙ fresh-at (by_node fresh [] f.nodes) (last_place f) (all-fresh [] f.nodes tt)
