-- An exact interface has an output function for each different need.
use Rattle.std.proofs.Common.{◌≡◌, refl, sym, ◌∙◌, subst, ℕ, zero, suc, ◌*◌, ◌^◌, ◌<◌, ◌≤◌, ◌↔◌, Bool, true, false, ◌||◌, cond, true≢false, List, [], ◌∷◌, length, slice_index, IsBitSet, ◌==◌, arith, pow_pos, zero-le, suc-le-suc}
use Rattle.std.specs.List.{list_any}
use Rattle.std.specs.Int.{bit_at}
use Rattle.std.proofs.lemmas.Bool.{eqb-true, eqb-false}
use Rattle.std.proofs.lemmas.Nat.Bits.{same_from_bits, and_pow, bit_at-lt}
use Rattle.base_core.specs.Interface.{Interface, IsExact, ShownToNeed, NeedsAreLeast}
use Rattle.base_core.proofs.LastPlaces.{at_last, as_many}

-- ---- Sets that have the same members

same_bit : (x y p : ℕ) → x < 2 → y < 2 → 0 < p → (¬ (x * p ≡ 0) → ¬ (y * p ≡ 0)) → (¬ (y * p ≡ 0) → ¬ (x * p ≡ 0)) → x ≡ y
same_bit zero zero p h k q f g = refl
same_bit zero (suc zero) p h k q f g = absurd (g (λ e. omega (arith, e, q)) (omega arith))
same_bit zero (suc (suc y)) p h k q f g = absurd (omega (arith, k))
same_bit (suc zero) zero p h k q f g = absurd (f (λ e. omega (arith, e, q)) (omega arith))
same_bit (suc zero) (suc zero) p h k q f g = refl
same_bit (suc zero) (suc (suc y)) p h k q f g = absurd (omega (arith, k))
same_bit (suc (suc x)) y p h k q f g = absurd (omega (arith, h))

same_set : (a b : ℕ) → ((k : ℕ) → IsBitSet a k ↔ IsBitSet b k) → a ≡ b
same_set a b h = same_from_bits a b (λ k. same_bit (bit_at a k) (bit_at b k) (2 ^ k) (bit_at-lt a k) (bit_at-lt b k) (pow_pos k)
    (λ f e. (h k).0 (λ z. f (sym (and_pow a k) ∙ z)) (and_pow b k ∙ e))
    (λ f e. (h k).1 (λ z. f (sym (and_pow b k) ∙ z)) (and_pow a k ∙ e)))

-- ---- Members of a list

found : (x : ℕ) (xs : List ℕ) → list_any (λ y. y == x) xs ≡ true → (j : ℕ) × (j < length xs) × (slice_index xs j ≡ x)
found x [] e = absurd (true≢false (sym e))
found x (y ∷ ys) e = by_test (found x ys) (y == x) refl e
  where
    by_test : (list_any (λ z. z == x) ys ≡ true → (j : ℕ) × (j < length ys) × (slice_index ys j ≡ x)) →
        (t : Bool) → (y == x) ≡ t → (t || list_any (λ z. z == x) ys) ≡ true → (j : ℕ) × (j < length (y ∷ ys)) × (slice_index (y ∷ ys) j ≡ x)
    by_test more true f g = (0, omega arith, eqb-true y x f)
    by_test more false f g = let r = more g in (suc r.0, suc-le-suc r.1, r.2)

missed : (x : ℕ) (xs : List ℕ) (j : ℕ) → j < length xs → slice_index xs j ≡ x → list_any (λ y. y == x) xs ≡ false → ⊥
missed x [] j h e f = omega (arith, h)
missed x (y ∷ ys) zero h e f = by_test (y == x) refl f
  where
    by_test : (t : Bool) → (y == x) ≡ t → (t || list_any (λ z. z == x) ys) ≡ false → ⊥
    by_test true g k = true≢false k
    by_test false g k = eqb-false y x g e
missed x (y ∷ ys) (suc j) h e f = by_test (missed x ys j (omega (arith, h)) e) (y == x) f
  where
    by_test : (list_any (λ z. z == x) ys ≡ false → ⊥) → (t : Bool) → (t || list_any (λ z. z == x) ys) ≡ false → ⊥
    by_test more true k = true≢false k
    by_test more false k = more k

-- ---- Fewer values than arguments

-- equal numbers of the first list are beside equal ones of the second
Follows : List ℕ → List ℕ → Type 0
Follows gs ns = (i j : ℕ) → i < length gs → j < length gs → slice_index gs i ≡ slice_index gs j → slice_index ns i ≡ slice_index ns j

fewer : (gs ns : List ℕ) → length gs ≡ length ns → Follows gs ns → length (at_last ns) ≤ length (at_last gs)
unfolding Follows
fewer [] [] e f = zero-le
fewer [] (n ∷ ns) e f = absurd (omega (arith, e))
fewer (g ∷ gs) [] e f = absurd (omega (arith, e))
fewer (g ∷ gs) (n ∷ ns) e f =
    by_tests (fewer gs ns (omega (arith, e)) (λ i j h k. f (suc i) (suc j) (suc-le-suc h) (suc-le-suc k)))
    (list_any (λ y. y == n) ns) (list_any (λ y. y == g) gs) refl refl
  where
    long : length gs ≡ length ns
    long = omega (arith, e)

    by_tests : length (at_last ns) ≤ length (at_last gs) → (s t : Bool) → list_any (λ y. y == n) ns ≡ s → list_any (λ y. y == g) gs ≡ t →
        length (cond s (at_last ns) (n ∷ at_last ns)) ≤ length (cond t (at_last gs) (g ∷ at_last gs))
    by_tests rest true true a b = rest
    by_tests rest true false a b = omega (arith, rest)
    by_tests rest false true a b =
        let r = found g gs b in
        absurd (missed n ns r.0 (omega (arith, r.1, long)) (f (suc r.0) 0 (suc-le-suc r.1) (omega arith) r.2) a)
    by_tests rest false false a b = suc-le-suc rest

-- ---- Exact interfaces

follows : (interface : Interface) (needs : List ℕ) → IsExact interface needs → Follows interface.gives needs
unfolding Follows
follows interface needs e i j h k s =
    same_set (slice_index needs i) (slice_index needs j) (λ b.
    let x = e.exact i b (omega (arith, h, e.outputs)) in
    let y = e.exact j b (omega (arith, k, e.outputs)) in
    let to = subst (λ g. ShownToNeed interface g b) s in
    let from = subst (λ g. ShownToNeed interface g b) (sym s) in
    (λ m. y.0 (to (x.1 m)), λ m. x.0 (from (y.1 m))))

pub needs_are_least : NeedsAreLeast
needs_are_least interface needs is exact =
    let most : length (at_last needs) ≤ length (at_last interface.gives) =
    fewer interface.gives needs exact.outputs (follows interface needs exact) in
    omega (arith, most, as_many needs, as_many interface.gives)
