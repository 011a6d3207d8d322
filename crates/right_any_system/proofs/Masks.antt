-- A number whose bits are the answers to questions.
use Rattle.std.specs.Prelude.{◌≡◌, ◌↔◌, ℕ, ◌+◌, ◌^◌, ◌<◌, Bool, List, map, length, slice_get, IsBitSet, Some}
use Rattle.std.specs.List.{range_with_len}
use Rattle.std.proofs.Common.{arith, ap, subst, ◌∙◌}
use Rattle.std.proofs.lemmas.List.{length-map}
use Rattle.std.proofs.lemmas.List.FromFn.{length-range_with_len}
use Rattle.modules_profile.specs.Functions.{mask_of}
use Rattle.modules_profile.proofs.lemmas.Masks.{mask-bound}
use Rattle.modules_profile.proofs.lemmas.MaskBits.{set-has, has-set, holds-has, has-holds, index-at, index-holds}
use Rattle.modules_profile.proofs.lemmas.Members.{at-range, range-at}
use Rattle.right_any_system.proofs.Decided.{Decided, answer, answer-true, true-answer}

-- bit k is set where k is below n and P holds of it
abbrev pub AnswersBits : (ℕ → Type 0) → ℕ → ℕ → Type 0
AnswersBits P n mask = (mask < 2 ^ n) × ((k : ℕ) → IsBitSet mask k ↔ ((k < n) × P k))

module _ (P : ℕ → Type 0) (each : (k : ℕ) → Decided (P k)) (n : ℕ) where
  abbrev bits : List Bool
  bits = map (λ k. answer (each k)) (range_with_len 0 n)

  long : length bits ≡ n
  long = length-map (range_with_len 0 n) (λ k. answer (each k)) ∙ length-range_with_len 0 n

  to : (k : ℕ) → IsBitSet (mask_of bits) k → (k < n) × P k
  to k set =
      let found = index-holds (λ i. answer (each i)) (range_with_len 0 n) k (has-holds bits k (set-has (mask_of bits) k set)) in
      let place = range-at 0 n k found.0 found.1 in
      let same : found.0 ≡ k = (let e = place.1 in omega arith) in
      (place.0, subst P same (true-answer (each found.0) found.2))

  from : (k : ℕ) → k < n → P k → IsBitSet (mask_of bits) k
  from k below p =
      let same : 0 + k ≡ k = omega arith in
      let at : slice_get (range_with_len 0 n) k ≡ Some k = at-range 0 n k below ∙ ap Some same in
      has-set (mask_of bits) k (holds-has bits k (index-at (λ i. answer (each i)) (range_with_len 0 n) k k at
      ∙ answer-true (each k) p))

  pub mask-there : (mask : ℕ) × AnswersBits P n mask
  mask-there = (mask_of bits, (subst (λ m. mask_of bits < 2 ^ m) long (mask-bound bits), λ k. (to k, λ h. from k h.0 h.1)))
