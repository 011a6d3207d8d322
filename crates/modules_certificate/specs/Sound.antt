-- Which certificates are sound, and the one that is made for outputs with given needs. A need is a
-- set of inputs: a number whose bit k says that input k is a member.
use Rattle.std.specs.Prelude.{◌≡◌, ℕ, zero, suc, ◌+◌, ◌<◌, ◌≤◌, ◌⊎◌, ◌==◌, not, List, [], ◌++◌, map, filter, length, take, slice_index, All, IsBitSet, bit_xor}
use Rattle.std.specs.Int.{trailing_zeros, w64}
use Rattle.std.specs.List.{list_any, range_with_len}
use Rattle.base_core.specs.Interface.{Interface, IsInterface, IsExact, output_functions}
use Rattle.modules_certificate.specs.PlainCertificate.{PlainCertificate}
use Rattle.modules_certificate.specs.declared.certificate.Difference.{Difference}

-- a place with each of so many that follow it
abbrev pub pairs_with : ℕ → ℕ → List (ℕ × ℕ)
pairs_with first others = map (λ second. (first, second)) (range_with_len (first + 1) others)

-- all pairs of so many places from one on, by the first and then by the second
abbrev pub pairs_from : ℕ → ℕ → List (ℕ × ℕ)
pairs_from first zero = []
pairs_from first (suc others) = pairs_with first others ++ pairs_from (first + 1) others

-- all pairs of so many places
abbrev pub pairs_below : ℕ → List (ℕ × ℕ)
pairs_below count = pairs_from 0 count

-- the two places of a difference
abbrev pub positions : Difference → ℕ × ℕ
positions d = (d.first, d.second)

-- input k is a member of just one of two sets
abbrev pub IsInJustOne : ℕ → ℕ → ℕ → Type 0
IsInJustOne x y k = (IsBitSet x k × (IsBitSet y k → ⊥)) ⊎ ((IsBitSet x k → ⊥) × IsBitSet y k)

-- the need of the output at a place in a list of outputs
abbrev pub need_at : List ℕ → List ℕ → ℕ → ℕ
need_at needs representatives place = slice_index needs (slice_index representatives place)

-- the bit of a difference is in just one of both needs
abbrev pub IsDifference : List ℕ → List ℕ → Difference → Type 0
IsDifference needs representatives d =
    IsInJustOne (need_at needs representatives d.first) (need_at needs representatives d.second)
    d.bit

-- A certificate is sound where the representatives are outputs, the differences stand for all pairs
-- of their places in order, and each bit lies in just one of the two needs.
pub record IsSound (needs : List ℕ) (c : PlainCertificate) : Type 0 where
  pub outputs : All (λ o. o < length needs) c.representatives
  pub pairs : map positions c.differ ≡ pairs_below (length c.representatives)
  pub bits : All (IsDifference needs c.representatives) c.differ

-- where a certificate is sound, every exact interface has at least as many output functions as it
-- has representatives
abbrev pub CertifiedAreLeast : Type 0
CertifiedAreLeast =
    (needs : List ℕ) (c : PlainCertificate) (interface : Interface) → IsSound needs c →
    IsInterface interface → IsExact interface needs →
    length c.representatives ≤ output_functions interface

-- ---- The certificate that is made

-- the outputs whose need is that of no output before
abbrev pub first_outputs : List ℕ → List ℕ
first_outputs needs =
    filter (λ o. not (list_any (λ n. n == slice_index needs o) (take o needs)))
    (range_with_len 0 (length needs))

-- no lesser bit lies in just one of both needs
abbrev pub IsLeastDifference : List ℕ → List ℕ → Difference → Type 0
IsLeastDifference needs representatives d =
    (k : ℕ) → k < d.bit →
    IsInJustOne (need_at needs representatives d.first) (need_at needs representatives d.second)
    k → ⊥

-- the least output of each class of equal needs, and the least bit for each pair
pub record IsCertificateFor (needs : List ℕ) (c : PlainCertificate) : Type 0 where
  pub representatives : c.representatives ≡ first_outputs needs
  pub sound : IsSound needs c
  pub least : All (IsLeastDifference needs c.representatives) c.differ

-- ---- The same by a rule

-- the least bit in which two sets differ: how many zeros are below the lowest one of what lies in
-- just one of them
abbrev pub least_difference : ℕ → ℕ → ℕ
least_difference x y = trailing_zeros w64 (bit_xor x y)

-- the difference of the outputs at two places
abbrev pub difference_of : List ℕ → List ℕ → ℕ → ℕ → Difference
difference_of needs representatives first second = record {
  first = first;
  second = second;
  bit =
      least_difference (need_at needs representatives first) (need_at needs representatives second);
}

-- those of a place from each of so many that follow it
abbrev pub differences_with : List ℕ → List ℕ → ℕ → ℕ → List Difference
differences_with needs representatives first others =
    map (difference_of needs representatives first) (range_with_len (first + 1) others)

-- those of so many places from one on
abbrev pub differences_from : List ℕ → List ℕ → ℕ → ℕ → List Difference
differences_from needs representatives first zero = []
differences_from needs representatives first (suc others) =
    differences_with needs representatives first others ++ differences_from needs representatives
    (first + 1) others
