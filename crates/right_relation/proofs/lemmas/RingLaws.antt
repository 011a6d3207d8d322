-- A ring holds what it should: fresh, emptied, and moved.
use Rattle.std.specs.Prelude.{◌≡◌, ◌≢◌, refl, ℕ, zero, suc, ◌+◌, ◌-◌, ◌*◌, ◌/◌, ◌%◌, ◌<◌, ◌≤◌, Bool, true, false, nat_lt, if◌then◌else◌, List, [], ◌∷◌, ◌++◌, map, length, replicate, slice_index_or, ℤ, pos}
use Rattle.std.specs.List.{range_with_len}
use Rattle.std.proofs.Common.{sym, ap, ap₂, ◌∙◌, arith}
use Rattle.std.proofs.lemmas.Bool.{lt-ltb, le-ltb, ltb-true, ltb-false}
use Rattle.std.proofs.Math.Nat.{mod-eq_of_lt, mod-lt, mod-add-div, mod-add-mod, add-mod_right}
use Rattle.diagram_meaning.specs.Run.{moved_on}
use Rattle.c_semantics.specs.Cells.{set_item}
use Rattle.right_relation.specs.Rings.{Ring, ring_item, ring_list, begun_ring, emptied_ring, moved_ring, BegunIsRing, EmptiedIsRing, MovedIsRing}

-- ---- Lists by points

same_map : (f g : ℕ → ℤ) (a b n : ℕ) → ((k : ℕ) → k < n → f (a + k) ≡ g (b + k)) → map f (range_with_len a n) ≡ map g (range_with_len b n)
same_map f g a b zero h = refl
same_map f g a b (suc n) h =
    ap₂ ◌∷◌ (ap f (omega arith) ∙ h 0 (omega arith) ∙ ap g (omega arith))
    (same_map f g (a + 1) (b + 1) n (λ k below. ap f (omega arith) ∙ h (suc k) (omega arith) ∙ ap g (omega arith)))

all_start : (start : ℤ) (a n : ℕ) → map (λ k. start) (range_with_len a n) ≡ replicate n start
all_start start a zero = refl
all_start start a (suc n) = ap (λ xs. start ∷ xs) (all_start start (a + 1) n)

last_apart : (f : ℕ → ℤ) (a n : ℕ) → map f (range_with_len a (suc n)) ≡ map f (range_with_len a n) ++ f (a + n) ∷ []
last_apart f a zero = ap (λ k. f k ∷ []) (omega arith)
last_apart f a (suc n) = ap (λ xs. f a ∷ xs) (last_apart f (a + 1) n ∙ ap (λ k. map f (range_with_len (a + 1) n) ++ f k ∷ []) (omega arith))

length_is : (n : ℕ) (x : ℤ) → length (replicate n x) ≡ n
length_is zero x = refl
length_is (suc n) x = ap suc (length_is n x)

-- ---- One item replaced

set_length : (xs : List ℤ) (i : ℕ) (v : ℤ) → length (set_item xs i v) ≡ length xs
set_length [] i v = refl
set_length (x ∷ xs) zero v = refl
set_length (x ∷ xs) (suc i) v = ap suc (set_length xs i v)

set_there : (xs : List ℤ) (i : ℕ) (v d : ℤ) → i < length xs → slice_index_or (set_item xs i v) i d ≡ v
set_there [] i v d below = absurd (omega arith)
set_there (x ∷ xs) zero v d below = refl
set_there (x ∷ xs) (suc i) v d below = set_there xs i v d (omega arith)

set_elsewhere : (xs : List ℤ) (i j : ℕ) (v d : ℤ) → j ≢ i → slice_index_or (set_item xs i v) j d ≡ slice_index_or xs j d
set_elsewhere [] i j v d apart = refl
set_elsewhere (x ∷ xs) zero zero v d apart = absurd (apart refl)
set_elsewhere (x ∷ xs) zero (suc j) v d apart = refl
set_elsewhere (x ∷ xs) (suc i) zero v d apart = refl
set_elsewhere (x ∷ xs) (suc i) (suc j) v d apart = set_elsewhere xs i j v d (λ e. apart (ap suc e))

-- ---- Items of a ring

item_start : (n : ℕ) (start : ℤ) (ring : Ring) (k : ℕ) → k < n - ring.taken → ring_item n start ring k ≡ start
item_start n start ring k below =
    ap (λ b. if b then start else slice_index_or ring.items ((ring.place + k) % n) (pos 0)) (lt-ltb k (n - ring.taken) below)

item_taken : (n : ℕ) (start : ℤ) (ring : Ring) (k : ℕ) → n - ring.taken ≤ k →
    ring_item n start ring k ≡ slice_index_or ring.items ((ring.place + k) % n) (pos 0)
item_taken n start ring k above =
    ap (λ b. if b then start else slice_index_or ring.items ((ring.place + k) % n) (pos 0)) (le-ltb k (n - ring.taken) above)

none_taken : (n : ℕ) (start : ℤ) (ring : Ring) → ring.taken ≡ 0 → replicate n start ≡ ring_list n start ring
none_taken n start ring none =
    sym (same_map (ring_item n start ring) (λ k. start) 0 0 n (λ k below. item_start n start ring (0 + k) (omega arith))
    ∙ all_start start 0 n)

pub begun_is_ring : BegunIsRing
begun_is_ring n start items some long =
    record { place = some; taken = omega arith; long = long; holds = none_taken n start (begun_ring items) refl }

pub emptied_is_ring : EmptiedIsRing
emptied_is_ring n start ring memory h =
    let place = h.place in
    record { place = omega arith; taken = omega arith; long = h.long; holds = none_taken n start (emptied_ring ring) refl }

-- ---- A step of the ring

no_multiple : (q n j : ℕ) → n * q ≡ j → 0 < j → j < n → ⊥
no_multiple zero n j e some below = omega arith
no_multiple (suc q) n j e some below = let more : n * suc q ≡ n + n * q = omega arith in omega arith

-- no place less than n further is the same
moves_away : (n p j : ℕ) → p < n → 0 < j → j < n → (p + j) % n ≢ p
moves_away n p j inside some below e = no_multiple ((p + j) / n) n j (let whole = mod-add-div (p + j) n in omega arith) some below

-- how many are taken then
one_fewer : (n taken : ℕ) → taken ≤ n → n - (if nat_lt taken n then taken + 1 else taken) ≡ (n - taken) - 1
one_fewer n taken within = by (nat_lt taken n) refl
  where
    by : (b : Bool) → nat_lt taken n ≡ b → n - (if b then taken + 1 else taken) ≡ (n - taken) - 1
    by true is = omega arith
    by false is = let full = ltb-false taken n is in omega arith

taken_within : (n taken : ℕ) → taken ≤ n → (if nat_lt taken n then taken + 1 else taken) ≤ n
taken_within n taken within = by (nat_lt taken n) refl
  where
    by : (b : Bool) → nat_lt taken n ≡ b → (if b then taken + 1 else taken) ≤ n
    by true is = let room = ltb-true taken n is in omega arith
    by false is = within

module _ (m : ℕ) (start v : ℤ) (ring : Ring) (place : ring.place < suc m) (within : ring.taken ≤ suc m)
    (long : length ring.items ≡ suc m) where
  abbrev moved : Ring
  moved = moved_ring (suc m) ring v

  at_place : (k : ℕ) → (moved.place + k) % suc m ≡ (ring.place + (1 + k)) % suc m
  at_place k = mod-add-mod (ring.place + 1) (suc m) k ∙ ap (λ i. i % suc m) (omega arith)

  point : (k : ℕ) → k < m → ring_item (suc m) start ring (1 + k) ≡ ring_item (suc m) start moved (0 + k)
  point k below = by (nat_lt (1 + k) (suc m - ring.taken)) refl
    where
      by : (b : Bool) → nat_lt (1 + k) (suc m - ring.taken) ≡ b →
          ring_item (suc m) start ring (1 + k) ≡ ring_item (suc m) start moved (0 + k)
      by true is =
          let early = ltb-true (1 + k) (suc m - ring.taken) is in
          let fewer = one_fewer (suc m) ring.taken within in
          item_start (suc m) start ring (1 + k) early ∙ sym (item_start (suc m) start moved (0 + k) (omega arith))
      by false is =
          let late = ltb-false (1 + k) (suc m - ring.taken) is in
          let fewer = one_fewer (suc m) ring.taken within in
          item_taken (suc m) start ring (1 + k) late
          ∙ sym (item_taken (suc m) start moved (0 + k) (omega arith)
          ∙ ap (λ i. slice_index_or moved.items i (pos 0)) (ap (λ i. (moved.place + i) % suc m) (omega arith)
          ∙ at_place k)
          ∙ set_elsewhere ring.items ring.place ((ring.place + (1 + k)) % suc m) v (pos 0)
          (moves_away (suc m) ring.place (1 + k) place (omega arith) (omega arith)))

  newest : ring_item (suc m) start moved (0 + m) ≡ v
  newest =
      let fewer = one_fewer (suc m) ring.taken within in
      item_taken (suc m) start moved (0 + m) (omega arith)
      ∙ ap (λ i. slice_index_or moved.items i (pos 0)) (ap (λ i. (moved.place + i) % suc m) (omega arith) ∙ at_place m
      ∙ ap (λ i. i % suc m) (omega arith) ∙ add-mod_right ring.place (suc m) ∙ mod-eq_of_lt place)
      ∙ set_there ring.items ring.place v (pos 0) (omega arith)

  holds : moved_on (ring_list (suc m) start ring) v ≡ ring_list (suc m) start moved
  holds =
      ap₂ (λ xs y. xs ++ y ∷ []) (same_map (ring_item (suc m) start ring) (ring_item (suc m) start moved) (0 + 1) 0 m
      (λ k below. ap (ring_item (suc m) start ring) (omega arith) ∙ point k below)) (sym newest)
      ∙ sym (last_apart (ring_item (suc m) start moved) 0 m)

pub moved_is_ring : MovedIsRing
moved_is_ring zero start v ring memory h = absurd (let place = h.place in omega arith)
moved_is_ring (suc m) start v ring memory h = record {
  place = mod-lt (ring.place + 1) (omega arith);
  taken = taken_within (suc m) ring.taken h.taken;
  long = set_length ring.items ring.place v ∙ h.long;
  holds = ap (λ xs. moved_on xs v) h.holds ∙ holds m start v ring h.place h.taken h.long;
}
