-- Arrays among the numbers of an instance.
use Rattle.std.proofs.Common.{◌≡◌, refl, sym, ◌∙◌, ap, ℕ, zero, suc, ◌+◌, ◌<◌, ◌≤◌, ℤ, pos, List, [], ◌∷◌, ◌++◌, length, arith, take, drop, replicate, zero-add}
use Rattle.std.proofs.Math.ListN.{set}
use Rattle.std.proofs.lemmas.List.{length-replicate, take-append-drop}
use Rattle.c_syntax.specs.declared.fault.Stuck.{Stuck}
use Rattle.c_semantics.specs.Cells.{set_item}
use Rattle.c_semantics.specs.Values.{Answer, gives, sticks, and_then, index_in}
use Rattle.base_core.specs.Numbers.{int_at}
use Rattle.c_interpreter.specs.Reads.{place_in}
use Rattle.c_interpreter.specs.States.{filled_items}
use Rattle.c_interpreter.proofs.Evaluations.{and_then_gives, and_then_sticks}

-- ---- numbers written over an array's own
pub items_length : (zs vs : List ℤ) → length (filled_items zs vs) ≡ length zs
items_length [] vs = refl
items_length (z ∷ zs) [] = refl
items_length (z ∷ zs) (v ∷ vs) = omega (arith, items_length zs vs)

pub items_take : (zs vs : List ℤ) → filled_items zs (take (length zs) vs) ≡ filled_items zs vs
items_take [] vs = refl
items_take (z ∷ zs) [] = refl
items_take (z ∷ zs) (v ∷ vs) = ap (λ r. v ∷ r) (items_take zs vs)

pub items_part : (zs vs : List ℤ) → length zs ≤ length vs → filled_items zs vs ≡ take (length zs) vs
items_part [] vs h = refl
items_part (z ∷ zs) [] h = absurd (omega (arith, h))
items_part (z ∷ zs) (v ∷ vs) h = ap (λ r. v ∷ r) (items_part zs vs (omega (arith, h)))

pub items_whole : (zs vs : List ℤ) → length vs ≡ length zs → filled_items zs vs ≡ vs
items_whole [] [] h = refl
items_whole [] (v ∷ vs) h = absurd (omega (arith, h))
items_whole (z ∷ zs) [] h = absurd (omega (arith, h))
items_whole (z ∷ zs) (v ∷ vs) h = ap (λ r. v ∷ r) (items_whole zs vs (omega (arith, h)))

zero_at : (count i : ℕ) → int_at (replicate count (pos 0)) i ≡ pos 0
zero_at zero i = refl
zero_at (suc count) zero = refl
zero_at (suc count) (suc i) = zero_at count i

-- an item is one of the numbers
pub item_is : (count i : ℕ) (vs : List ℤ) → i < count → int_at (filled_items (replicate count (pos 0)) vs) i ≡ int_at vs i
item_is zero i vs h = absurd (omega (arith, h))
item_is (suc count) zero [] h = refl
item_is (suc count) (suc i) [] h = zero_at count i
item_is (suc count) zero (v ∷ vs) h = refl
item_is (suc count) (suc i) (v ∷ vs) h = item_is count i vs (omega (arith, h))

-- ---- one of the numbers replaced
pub set_length : (xs : List ℤ) (i : ℕ) (v : ℤ) → length (set_item xs i v) ≡ length xs
set_length [] i v = refl
set_length (x ∷ xs) zero v = refl
set_length (x ∷ xs) (suc i) v = omega (arith, set_length xs i v)

set_front : (count i : ℕ) (s : List ℤ) (v : ℤ) → count ≤ length s → i < count → set_item (take count s) i v ++ drop count s ≡ set s i v
set_front zero i s v fits h = absurd (omega (arith, h))
set_front (suc count) i [] v fits h = absurd (omega (arith, fits))
set_front (suc count) zero (x ∷ s) v fits h = ap (λ r. v ∷ r) (take-append-drop count s)
set_front (suc count) (suc i) (x ∷ s) v fits h = ap (λ r. x ∷ r) (set_front count i s v (omega (arith, fits)) (omega (arith, h)))

-- an item replaced among the numbers of an instance
pub set_inside : (at count i : ℕ) (s : List ℤ) (v : ℤ) → at + count ≤ length s → i < count →
    take at s ++ (set_item (take count (drop at s)) i v ++ drop (at + count) s) ≡ set s (at + i) v
set_inside zero count i s v fits h =
    (λ k. set_item (take count s) i v ++ drop (zero-add count k) s) ∙ set_front count i s v (omega (arith, fits)) h
    ∙ ap (λ k. set s k v) (sym (zero-add i))
set_inside (suc at) count i [] v fits h = absurd (omega (arith, fits))
set_inside (suc at) count i (x ∷ s) v fits h =
    let far : suc at + count ≡ suc (at + count) = omega arith in
    let there : suc at + i ≡ suc (at + i) = omega arith in
    (λ k. x ∷ (take at s ++ (set_item (take count (drop at s)) i v ++ drop (far k) (x ∷ s))))
    ∙ ap (λ r. x ∷ r) (set_inside at count i s v (omega (arith, fits)) h) ∙ (λ k. set (x ∷ s) (sym there k) v)

-- ---- indices
-- the place of an index in an array of a known length
pub index_is : (line count : ℕ) (xs : List ℤ) (i : ℤ) (steps : ℕ) → length xs ≡ count →
    index_in line xs i steps ≡ place_in line count i steps
index_is line count xs i steps many = ap (λ n. place_in line n i steps) many

-- an item that is read
pub item_gives : (line count at place steps : ℕ) (xs numbers : List ℤ) (index v : ℤ) →
    xs ≡ filled_items (replicate count (pos 0)) (drop at numbers) →
    gives place steps ≡ place_in line count index steps → place < count → v ≡ int_at (drop at numbers) place →
    gives v steps ≡ and_then (index_in line xs index steps) (λ i n. gives (int_at xs i) n)
item_gives line count at place steps xs numbers index v same found inside is =
    let many : length xs ≡ count =
    ap length same ∙ items_length (replicate count (pos 0)) (drop at numbers) ∙ length-replicate count (pos 0) in
    let read : v ≡ int_at xs place = is ∙ sym (item_is count place (drop at numbers) inside) ∙ ap (λ ys. int_at ys place) (sym same) in
    ap (λ w. gives w steps) read
    ∙ sym (and_then_gives (index_in line xs index steps) place steps (λ i n. gives (int_at xs i) n) (found
    ∙ sym (index_is line count xs index steps many)))

pub item_sticks : (line count at steps : ℕ) (xs numbers : List ℤ) (index : ℤ) (place : Stuck) →
    xs ≡ filled_items (replicate count (pos 0)) (drop at numbers) → sticks place ≡ place_in line count index steps →
    sticks place ≡ and_then (index_in line xs index steps) (λ i n. gives (int_at xs i) n)
item_sticks line count at steps xs numbers index place same found =
    let many : length xs ≡ count =
    ap length same ∙ items_length (replicate count (pos 0)) (drop at numbers) ∙ length-replicate count (pos 0) in
    sym (and_then_sticks (index_in line xs index steps) place (λ i n. gives (int_at xs i) n) (found
    ∙ sym (index_is line count xs index steps many)))

-- an index that is looked at, after its own evaluation
pub index_gives : (line count place steps : ℕ) (xs : List ℤ) (a : Answer ℤ) (index : ℤ) → length xs ≡ count →
    gives index steps ≡ a → gives place steps ≡ place_in line count index steps →
    gives place steps ≡ and_then a (index_in line xs)
index_gives line count place steps xs a index many given found =
    found ∙ sym (index_is line count xs index steps many) ∙ sym (and_then_gives a index steps (index_in line xs) given)

pub index_sticks : (line count steps : ℕ) (xs : List ℤ) (a : Answer ℤ) (index : ℤ) (at : Stuck) → length xs ≡ count →
    gives index steps ≡ a → sticks at ≡ place_in line count index steps → sticks at ≡ and_then a (index_in line xs)
index_sticks line count steps xs a index at many given found =
    found ∙ sym (index_is line count xs index steps many) ∙ sym (and_then_gives a index steps (index_in line xs) given)
