-- One item of a list that is set, and flags that are set one after another.
use Rattle.std.specs.Prelude.{◌≡◌, ℕ, zero, suc, ◌<◌, ◌==◌, ◌||◌, Bool, true, false, List, [], ◌∷◌, ◌++◌, length, replicate, slice_index_or}
use Rattle.std.specs.List.{slice_set}
use Rattle.std.proofs.Common.{cond, refl, sym, ap, ◌∙◌, arith}
use Rattle.std.proofs.Math.ListN.{length-set}
use Rattle.std.proofs.lemmas.Bool.Decides.{nat_tests}
use Rattle.std.proofs.lemmas.List.{length-replicate, get_or-replicate}
use Rattle.emit_pruned.specs.Needed.{has_number}
use Rattle.emit_pruned.specs.Marks.{marked, flag_at, flags_of}

-- ---- One item

apart-numbers : (j k : ℕ) → (suc j == suc k) ≡ (j == k)
apart-numbers j k = by (j == k) refl
  where
    by : (b : Bool) → (j == k) ≡ b → (suc j == suc k) ≡ b
    by true e = grind (arith, nat_tests)
    by false e = grind (arith, nat_tests)

pub set-at : {A : Type 0} (xs : List A) (j k : ℕ) (y d : A) → k < length xs →
    slice_index_or (slice_set xs j y) k d ≡ cond (j == k) y (slice_index_or xs k d)
set-at [] j k y d inside = absurd (omega (arith, inside))
set-at (x ∷ xs) zero zero y d inside = refl
set-at (x ∷ xs) zero (suc k) y d inside =
    ap (λ b. cond b y (slice_index_or xs k d)) (let e : false ≡ (0 == suc k) = grind (arith, nat_tests) in e)
set-at (x ∷ xs) (suc j) zero y d inside = ap (λ b. cond b y x) (let e : false ≡ (suc j == 0) = grind (arith, nat_tests) in e)
set-at (x ∷ xs) (suc j) (suc k) y d inside =
    set-at xs j k y d (omega (arith, inside)) ∙ ap (λ b. cond b y (slice_index_or xs k d)) (sym (apart-numbers j k))

-- ---- Flags

pub marked_append : (flags : List Bool) (ks js : List ℕ) → marked flags (ks ++ js) ≡ marked (marked flags ks) js
marked_append flags [] js = refl
marked_append flags (k ∷ ks) js = marked_append (slice_set flags k true) ks js

marked-length : (ks : List ℕ) (flags : List Bool) → length (marked flags ks) ≡ length flags
marked-length [] flags = refl
marked-length (k ∷ ks) flags = marked-length ks (slice_set flags k true) ∙ length-set flags k true

pub flags-length : (n : ℕ) (ks : List ℕ) → length (flags_of n ks) ≡ n
flags-length n ks = marked-length ks (replicate n false) ∙ length-replicate {A = Bool} n false

marked-flag : (ks : List ℕ) (flags : List Bool) (k : ℕ) → k < length flags →
    flag_at (marked flags ks) k ≡ (flag_at flags k || has_number ks k)
marked-flag [] flags k inside = last (flag_at flags k)
  where
    last : (b : Bool) → b ≡ (b || false)
    last true = refl
    last false = refl
marked-flag (j ∷ ks) flags k inside =
    marked-flag ks (slice_set flags j true) k (let same = length-set flags j true in omega (arith, same, inside))
    ∙ ap (λ b. b || has_number ks k) (set-at flags j k true false inside) ∙ swapped (j == k) (flag_at flags k) (has_number ks k)
  where
    swapped : (a b c : Bool) → (cond a true b || c) ≡ (b || (a || c))
    swapped true true c = refl
    swapped true false c = refl
    swapped false true c = refl
    swapped false false c = refl

pub flags-inside : (n : ℕ) (ks : List ℕ) (k : ℕ) → k < n → flag_at (flags_of n ks) k ≡ has_number ks k
flags-inside n ks k inside =
    marked-flag ks (replicate n false) k (let long = length-replicate {A = Bool} n false in omega (arith, long, inside))
    ∙ ap (λ b. b || has_number ks k) (get_or-replicate n k false false inside)
