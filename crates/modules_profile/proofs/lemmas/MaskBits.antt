-- The bits of a mask that is made from tests, and the different members of a list.
use Rattle.std.specs.Prelude.{◌≡◌, ◌⊎◌, ℕ, zero, suc, ◌+◌, ◌*◌, ◌/◌, ◌%◌, ◌^◌, Bool, true, false, not, ◌==◌, cond, eqb, List, [], ◌∷◌, map, filter, slice_get, slice_index_or, bit_and, Contains, IsBitSet, Some, refl}
use Rattle.std.specs.Int.{bit_at}
use Rattle.std.proofs.Common.{sym, ap, subst, ◌∙◌, arith, inl, inr, true≢false}
use Rattle.std.proofs.lemmas.Bool.{eq-eqb, ne_eqb}
use Rattle.std.proofs.lemmas.Bool.Decides.{eqb_tells}
use Rattle.std.proofs.lemmas.Nat.Bits.{bit_at-zero, bit_at-suc, bit_at_lowest}
use Rattle.base_graph.proofs.lemmas.Bits.{one-from_set, set-from_one}
use Rattle.base_core.specs.Interface.{different}
use Rattle.modules_profile.specs.Functions.{mask_of}
use Rattle.base_core.specs.Ports.{has_bit}
use Rattle.modules_profile.proofs.lemmas.Members.{in-first, in-rest, in-cases, in-filter}

pub set-has : (n k : ℕ) → IsBitSet n k → has_bit n k ≡ true
set-has n k set = ap not (ne_eqb (bit_and n (2 ^ k)) 0 set)

pub has-set : (n k : ℕ) → has_bit n k ≡ true → IsBitSet n k
has-set n k has none = true≢false (sym has ∙ ap not (eq-eqb (bit_and n (2 ^ k)) 0 none))

bit-of-mask : (bits : List Bool) (k : ℕ) → bit_at (mask_of bits) k ≡ cond (slice_index_or bits k false) 1 0
bit-of-mask [] k = bit_at-zero k
bit-of-mask (true ∷ bits) zero = bit_at_lowest (1 + 2 * mask_of bits) ∙ (let odd : (1 + 2 * mask_of bits) % 2 ≡ 1 = omega arith in odd)
bit-of-mask (false ∷ bits) zero = bit_at_lowest (2 * mask_of bits) ∙ (let even : (2 * mask_of bits) % 2 ≡ 0 = omega arith in even)
bit-of-mask (true ∷ bits) (suc k) =
    bit_at-suc (1 + 2 * mask_of bits) k ∙ ap (λ m. bit_at m k)
    (let half : (1 + 2 * mask_of bits) / 2 ≡ mask_of bits = omega arith in half) ∙ bit-of-mask bits k
bit-of-mask (false ∷ bits) (suc k) =
    bit_at-suc (2 * mask_of bits) k ∙ ap (λ m. bit_at m k) (let half : 2 * mask_of bits / 2 ≡ mask_of bits = omega arith in half)
    ∙ bit-of-mask bits k

-- a bit of the mask is set where the test at its place holds
pub holds-has : (bits : List Bool) (k : ℕ) → slice_index_or bits k false ≡ true → has_bit (mask_of bits) k ≡ true
holds-has bits k holds = set-has (mask_of bits) k (set-from_one (mask_of bits) k (bit-of-mask bits k ∙ ap (λ t. cond t 1 0) holds))

pub has-holds : (bits : List Bool) (k : ℕ) → has_bit (mask_of bits) k ≡ true → slice_index_or bits k false ≡ true
has-holds bits k has = by (slice_index_or bits k false) refl
  where
    by : (t : Bool) → slice_index_or bits k false ≡ t → t ≡ true
    by true e = refl
    by false e =
        let one : bit_at (mask_of bits) k ≡ 1 = one-from_set (mask_of bits) k (has-set (mask_of bits) k has) in
        let none : bit_at (mask_of bits) k ≡ 0 = bit-of-mask bits k ∙ ap (λ t. cond t 1 0) e in
        absurd (omega arith)

-- a test of what is at a place
pub index-at : (f : ℕ → Bool) (xs : List ℕ) (k x : ℕ) → slice_get xs k ≡ Some x → slice_index_or (map f xs) k false ≡ f x
index-at f [] k x e = absurd (let wrong : ⊥ = cc e in wrong)
index-at f (y ∷ ys) zero x e = let same : y ≡ x = cc e in ap f same
index-at f (y ∷ ys) (suc k) x e = index-at f ys k x e

pub index-holds : (f : ℕ → Bool) (xs : List ℕ) (k : ℕ) → slice_index_or (map f xs) k false ≡ true →
    (x : ℕ) × (slice_get xs k ≡ Some x) × (f x ≡ true)
index-holds f [] k h = absurd (true≢false (sym h))
index-holds f (y ∷ ys) zero h = (y, refl, h)
index-holds f (y ∷ ys) (suc k) h = index-holds f ys k h

-- a member is among the different ones
pub in-different : (xs : List ℕ) (x : ℕ) → Contains xs x → Contains (different xs) x
in-different [] x h = h
in-different (y ∷ ys) x h = elim (in-cases y x ys h) [
  | inl same ↦ subst (Contains (different (y ∷ ys))) same (in-first y (filter (λ z. not (z == y)) (different ys)))
  | inr more ↦ by (eqb_tells x y) (in-different ys x more)
]
  where
    by : ((eqb x y ≡ true) × (x ≡ y)) ⊎ ((eqb x y ≡ false) × (x ≡ y → ⊥)) → Contains (different ys) x → Contains (different (y ∷ ys)) x
    by (inl (is, same)) later = subst (Contains (different (y ∷ ys))) (sym same) (in-first y (filter (λ z. not (z == y)) (different ys)))
    by (inr (is, other)) later = in-rest y x (filter (λ z. not (z == y)) (different ys))
        (in-filter (λ z. not (z == y)) (different ys) x later (ap not is))
