-- One draw more, and one subsystem more.
use Rattle.std.proofs.Common.{◌≡◌, ℕ, zero, suc, ◌+◌, ◌-◌, ◌<◌, List, [], ◌∷◌, ◌++◌, refl, sym, ap, ◌∙◌, append-nil, append_assoc, arith}
use Rattle.std.specs.Prelude.{flat_map}
use Rattle.std.specs.List.{range_with_len}
use Rattle.std.proofs.lemmas.Grind.{flat_map-append}
use Rattle.tool_generator.specs.Draws.{draw, state_after}

pub draws-more : (start n : ℕ) → state_after start (n + 1) ≡ draw (state_after start n)
draws-more start n = ap (state_after start) (let e : n + 1 ≡ suc n = omega arith in e)

-- three draws more
pub three-more : (start before state : ℕ) → state ≡ state_after start before →
    (draw state ≡ state_after start (before + 1)) × (draw (draw state) ≡ state_after start (before + 2)) × (draw (draw
    (draw state)) ≡ state_after start (before + 3))
three-more start before state e = (one, two, three)
  where
    one : draw state ≡ state_after start (before + 1)
    one = ap draw e ∙ sym (draws-more start before)

    two : draw (draw state) ≡ state_after start (before + 2)
    two = ap (λ n. draw (draw n)) e ∙ ap draw (sym (draws-more start before)) ∙ sym (draws-more start (before + 1))
        ∙ ap (state_after start) (let s : before + 1 + 1 ≡ before + 2 = omega arith in s)

    three : draw (draw (draw state)) ≡ state_after start (before + 3)
    three = ap (λ n. draw (draw (draw n))) e ∙ ap (λ n. draw (draw n)) (sym (draws-more start before))
        ∙ ap draw (sym (draws-more start (before + 1)))
        ∙ sym (draws-more start (before + 1 + 1)) ∙ ap (state_after start) (let s : before + 1 + 1 + 1 ≡ before + 3 = omega arith in s)

range-more : (a n j : ℕ) → a + n ≡ j → range_with_len a (suc n) ≡ range_with_len a n ++ j ∷ []
range-more a zero j e = ap (λ k. k ∷ []) (let same : a ≡ j = omega arith in same)
range-more a (suc n) j e = ap (λ ks. a ∷ ks) (range-more (a + 1) n j (omega arith))

-- the pieces of the numbers from 1 up to one more
pub pieces-more : (f : ℕ → List ℕ) (k n : ℕ) → n + 1 ≡ k → flat_map f (range_with_len 1 (suc n)) ≡ flat_map f (range_with_len 1 n) ++ f k
pieces-more f k n e = ap (flat_map f) (range-more 1 n k (omega arith)) ∙ flat_map-append f (range_with_len 1 n) (k ∷ [])
    ∙ ap (λ (bytes : List ℕ). flat_map f (range_with_len 1 n) ++ bytes) (append-nil (f k))

-- the text of a loop over them, one turn later
pub text-more : (f : ℕ → List ℕ) (old now next : List ℕ) (k : ℕ) → 0 < k → now ≡ old ++ flat_map f (range_with_len 1 (k - 1)) →
    next ≡ now ++ f k →
    next ≡ old ++ flat_map f (range_with_len 1 (k + 1 - 1))
text-more f old now next k some before is =
    is ∙ ap (λ (bytes : List ℕ). bytes ++ f k) before ∙ append_assoc old (flat_map f (range_with_len 1 (k - 1))) (f k)
    ∙ ap (λ (bytes : List ℕ). old ++ bytes) (sym (pieces-more f k (k - 1) (omega arith))
    ∙ ap (λ n. flat_map f (range_with_len 1 n)) (let e : suc (k - 1) ≡ k + 1 - 1 = omega arith in e))

-- the text of a loop from 0 on that began with none
pub pieces_after : (f : ℕ → List ℕ) (now next : List ℕ) (k : ℕ) → now ≡ flat_map f (range_with_len 1 k) → next ≡ now ++ f (k + 1) →
    next ≡ flat_map f (range_with_len 1 (k + 1))
pieces_after f now next k before is =
    is ∙ ap (λ (bytes : List ℕ). bytes ++ f (k + 1)) before ∙ sym (pieces-more f (k + 1) k refl)
    ∙ ap (λ n. flat_map f (range_with_len 1 n)) (let e : suc k ≡ k + 1 = omega arith in e)
