-- The differences that are made: they stand for all pairs, and their bits are the least ones.
use Rattle.std.proofs.Common.{◌≡◌, ℕ, zero, suc, ◌+◌, ◌^◌, ◌<◌, List, ◌∷◌, ◌++◌, length, get_or, map, All, bit_xor, refl, sym, ap, ap₂, subst, ◌∙◌, arith}
use Rattle.std.specs.List.{range_with_len}
use Rattle.std.proofs.lemmas.List.{map-append}
use Rattle.std.proofs.lemmas.List.Elements.{All-append, All-nil}
use Rattle.std.proofs.lemmas.List.FromFn.{length-map-range_with_len, get_or-map-range_with_len}
use Rattle.std.proofs.lemmas.Nat.{xor_lt}
use Rattle.modules_certificate.specs.declared.certificate.Difference.{Difference}
use Rattle.modules_certificate.specs.Sound.{IsCertificateFor, IsDifference, IsLeastDifference, difference_of, differences_from, first_outputs, need_at, pairs_from, positions}
use Rattle.modules_certificate.proofs.Bits.{least-in_just_one, none-less}
use Rattle.modules_certificate.proofs.Chosen.{all-outputs, apart, output}

module _ (needs representatives : List ℕ) where
  own-positions : (first a n : ℕ) → map positions (map (difference_of needs representatives first) (range_with_len a n)) ≡ map (λ
      (second : ℕ). (first, second)) (range_with_len a n)
  own-positions first a zero = refl
  own-positions first a (suc n) = ap (λ (pairs : List (ℕ × ℕ)). (first, a) ∷ pairs) (own-positions first (a + 1) n)

  pub all-positions : (first n : ℕ) → map positions (differences_from needs representatives first n) ≡ pairs_from first n
  all-positions first zero = refl
  all-positions first (suc n) =
      map-append positions (map (difference_of needs representatives first) (range_with_len (first + 1) n))
      (differences_from needs representatives (first + 1) n)
      ∙ ap₂ (λ (xs ys : List (ℕ × ℕ)). xs ++ ys) (own-positions first (first + 1) n) (all-positions (first + 1) n)

  -- what holds of the difference of each two places holds of each of them
  pub all-differences : (P : Difference → Type 0) (first n : ℕ) →
      ((i j : ℕ) → i < j → j < first + n → P (difference_of needs representatives i j)) →
      All P (differences_from needs representatives first n)
  all-differences P first zero each = All-nil P
  all-differences P first (suc n) each = All-append P
      (map (difference_of needs representatives first) (range_with_len (first + 1) n))
      (differences_from needs representatives (first + 1) n)
      (λ k d within.
      let len : length (map (difference_of needs representatives first) (range_with_len
      (first + 1) n)) ≡ n = length-map-range_with_len (difference_of needs representatives first) (first + 1) n in
      let low : k < n = omega arith in
      subst P (sym (get_or-map-range_with_len (difference_of needs representatives first) (first + 1) n k (first + 1 + k) d low refl))
      (each first (first + 1 + k) (omega arith) (omega arith)))
      (all-differences P (first + 1) n (λ i j before within. each i j before (omega arith)))

module _ (needs : List ℕ) (fits : All (λ n. n < 2 ^ 64) needs) where
  abbrev places : List ℕ
  places = first_outputs needs

  differ-fit : (i j : ℕ) → i < length places → j < length places → bit_xor (need_at needs places i) (need_at needs places j) < 2 ^ 64
  differ-fit i j low high = xor_lt 64 (need_at needs places i) (need_at needs places j)
      (fits (get_or places i 0) 0 (output needs i low)) (fits (get_or places j 0) 0 (output needs j high))

  pub made : IsCertificateFor needs (record {
    representatives = first_outputs needs;
    differ = differences_from needs
        (first_outputs needs) 0 (length (first_outputs needs));
  })
  made = record {
    representatives = refl;
    sound = record {
      outputs = all-outputs needs;
      pairs = all-positions needs places 0 (length places);
      bits = all-differences needs places (IsDifference needs places) 0 (length places) (λ i j before within. least-in_just_one
          (need_at needs places i) (need_at needs places j) (apart needs i j before (omega arith)) (differ-fit i j (omega arith)
          (omega arith)));
    };
    least = all-differences needs places (IsLeastDifference needs places) 0 (length places) (λ i j before within. none-less
        (need_at needs places i) (need_at needs places j) (apart needs i j before (omega arith)) (differ-fit i j (omega arith)
        (omega arith)));
  }
