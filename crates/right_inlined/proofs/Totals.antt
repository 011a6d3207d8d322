-- What procedures have in all, where those that don't stay are counted where they are called.
use Rattle.std.specs.Prelude.{◌≡◌, ℕ, suc, ◌+◌, ◌*◌, ◌<◌, ◌≤◌, ◌==◌, Bool, true, false, not, ◌||◌, if◌then◌else◌, cond, List, [], ◌∷◌, ◌++◌, map, filter, flat_map, length, sum_by, count_by, Some, slice_get}
use Rattle.std.specs.List.{AllByRecursion}
use Rattle.std.proofs.Common.{refl, sym, ap, ap₂, subst, ◌∙◌, arith}
use Rattle.std.proofs.lemmas.Bool.Decides.{nat_tests}
use Rattle.std.proofs.lemmas.List.Sums.{sum_by-cons, sum_by-append}
use Rattle.c_syntax.specs.Tree.{ProcedureTree, ProgramTree}
use Rattle.c_semantics.specs.Machine.{is_interface}
use Rattle.emit_pruned.specs.Needed.{has_number}
use Rattle.emit_inlined.specs.Inlined.{procedure_at, helpers_in, inlined_helpers, stays, kept_from, inlined_procedure, inlined}
use Rattle.emit_inlined.proofs.lemmas.CallCounts.{count_of, counted-all, counted-there, inlined-there, inlined-is}
use Rattle.emit_inlined.proofs.lemmas.Staying.{procedure-at}

-- ---- Sums by position

-- a sum over the items of a list with their positions, from n on
sum_at : {A : Type 0} → (ℕ → A → ℕ) → ℕ → List A → ℕ
sum_at f n [] = 0
sum_at f n (x ∷ xs) = f n x + sum_at f (suc n) xs

module _ {A : Type 0} where
  -- sums of what is the same at each position
  same-at : (f g : ℕ → A → ℕ) (n : ℕ) (xs : List A) → ((k : ℕ) (x : A) → slice_get xs k ≡ Some x → f (n + k) x ≡ g (n + k) x) →
      sum_at f n xs ≡ sum_at g n xs
  unfolding sum_at
  same-at f g n [] same = refl
  same-at f g n (x ∷ xs) same =
      let here : n + 0 ≡ n = omega arith in
      ap₂ ◌+◌ (subst (λ k. f k x ≡ g k x) here (same 0 x refl))
      (same-at f g (suc n) xs
      (λ k y there. let next : n + suc k ≡ suc n + k = omega arith in subst (λ j. f j y ≡ g j y) next (same (suc k) y there)))

  both-at : (f g : ℕ → A → ℕ) (n : ℕ) (xs : List A) → sum_at (λ k x. f k x + g k x) n xs ≡ sum_at f n xs + sum_at g n xs
  unfolding sum_at
  both-at f g n [] = refl
  both-at f g n (x ∷ xs) = let rest = both-at f g (suc n) xs in omega (arith, rest)

  plain-at : (f : A → ℕ) (n : ℕ) (xs : List A) → sum_by f xs ≡ sum_at (λ k x. f x) n xs
  unfolding sum_at
  plain-at f n [] = refl
  plain-at f n (x ∷ xs) = sum_by-cons f x xs ∙ ap (λ m. f x + m) (plain-at f (suc n) xs)

  nothing-at : (f : ℕ → A → ℕ) (n : ℕ) (xs : List A) → ((k : ℕ) (x : A) → f k x ≡ 0) → sum_at f n xs ≡ 0
  unfolding sum_at
  nothing-at f n [] none = refl
  nothing-at f n (x ∷ xs) none = let here = none n x in let rest = nothing-at f (suc n) xs none in omega (arith, here, rest)

-- a number at one position alone
alone-at : {A : Type 0} (w : ℕ → ℕ) (j n : ℕ) (xs : List A) → n ≤ j → j < n + length xs →
    sum_at (λ k x. cond (j == k) 1 0 * w k) n xs ≡ w j
unfolding sum_at
alone-at w j n [] low high = absurd (omega (arith, low, high))
alone-at {A} w j n (x ∷ xs) low high = by (j == n) refl (alone-at w j (suc n) xs)
  where
    by : (b : Bool) → (j == n) ≡ b →
        (suc n ≤ j → j < suc n + length xs → sum_at (λ k (y : A). cond (j == k) 1 0 * w k) (suc n) xs ≡ w j) →
        cond b 1 0 * w n + sum_at (λ k (y : A). cond (j == k) 1 0 * w k) (suc n) xs ≡ w j
    by true e next =
        let here : j ≡ n = grind (arith, nat_tests) in
        let rest : sum_at (λ k (y : A). cond (j == k) 1 0 * w k) (suc n) xs ≡ 0 = later (suc n) xs (omega (arith, here)) in
        let same = ap w here in omega (arith, rest, same)
      where
        later : (i : ℕ) (ys : List A) → j < i → sum_at (λ k (y : A). cond (j == k) 1 0 * w k) i ys ≡ 0
        later i [] past = refl
        later i (y ∷ ys) past =
            let other : (j == i) ≡ false = grind (arith, nat_tests) in
            let here : cond (j == i) 1 0 * w i ≡ 0 = ap (λ b. cond b 1 0 * w i) other ∙ omega arith in
            let rest = later (suc i) ys (omega (arith, past)) in omega (arith, here, rest)
    by false e next =
        let past : suc n ≤ j = grind (arith, nat_tests) in
        let rest = next past (omega (arith, high)) in omega (arith, rest)

-- a sum over numbers that are positions, by how often each is there
counted-sum : {A : Type 0} (w : ℕ → ℕ) (xs : List A) (ks : List ℕ) → AllByRecursion (λ k. k < length xs) ks →
    sum_by w ks ≡ sum_at (λ k x. count_of k ks * w k) 0 xs
counted-sum w xs [] inside = sym (nothing-at (λ k x. 0 * w k) 0 xs (λ k x. omega arith))
counted-sum w xs (j ∷ ks) inside =
    sum_by-cons w j ks
    ∙ ap₂ ◌+◌ (sym (alone-at w j 0 xs (omega arith) (let below = inside.0 in omega (arith, below)))) (counted-sum w xs ks inside.1)
    ∙ sym (both-at (λ k x. cond (j == k) 1 0 * w k) (λ k x. count_of k ks * w k) 0 xs)
    ∙ same-at (λ k x. cond (j == k) 1 0 * w k + count_of k ks * w k) (λ k x. count_of k (j ∷ ks) * w k) 0 xs
    (λ k x there. sym (ap (λ c. c * w (0 + k)) (sum_by-cons (λ i. cond (i == 0 + k) 1 0) j ks) ∙ omega arith))

-- ---- What stays, and what doesn't

module _ (keeps : ℕ → Bool) where
  abbrev kept_part : {A : Type 0} → (A → ℕ) → ℕ → A → ℕ
  kept_part f k x = if keeps k then f x else 0

  abbrev dropped_part : {A : Type 0} → (A → ℕ) → ℕ → A → ℕ
  dropped_part f k x = if keeps k then 0 else f x

  two-parts : {A : Type 0} (f : A → ℕ) (n : ℕ) (xs : List A) →
      sum_by f xs ≡ sum_at (kept_part f) n xs + sum_at (dropped_part f) n xs
  two-parts f n xs =
      plain-at f n xs
      ∙ same-at (λ k x. f x) (λ k x. kept_part f k x + dropped_part f k x) n xs (λ k x there. by (keeps (n + k)) (f x))
      ∙ both-at (kept_part f) (dropped_part f) n xs
    where
      by : (b : Bool) (m : ℕ) → m ≡ (if b then m else 0) + (if b then 0 else m)
      by true m = omega arith
      by false m = omega arith

  kept-sum : {A : Type 0} (f : A → ℕ) (n : ℕ) (xs : List A) → sum_by f (kept_from keeps n xs) ≡ sum_at (kept_part f) n xs
  unfolding sum_at
  kept-sum f n [] = refl
  kept-sum {A} f n (x ∷ xs) = by (keeps n) (kept-sum f (suc n) xs)
    where
      by : (b : Bool) → sum_by f (kept_from keeps (suc n) xs) ≡ sum_at (kept_part f) (suc n) xs →
          sum_by f ((if b then x ∷ [] else []) ++ kept_from keeps (suc n) xs) ≡ (if b then f x else 0) + sum_at (kept_part f) (suc n) xs
      by true rest = sum_by-cons f x (kept_from keeps (suc n) xs) ∙ ap (λ m. f x + m) rest
      by false rest = rest ∙ omega arith

-- ---- Lists of lists

pub nothing : {A : Type 0} (f : A → ℕ) (xs : List A) → ((x : A) → f x ≡ 0) → sum_by f xs ≡ 0
nothing f [] none = refl
nothing f (x ∷ xs) none = sum_by-cons f x xs ∙ (let here = none x in let rest = nothing f xs none in omega (arith, here, rest))

sum-flat : {A B : Type 0} (f : A → List B) (w : B → ℕ) (xs : List A) → sum_by w (flat_map f xs) ≡ sum_by (λ x. sum_by w (f x)) xs
sum-flat f w [] = refl
sum-flat f w (x ∷ xs) =
    sum_by-append w (f x) (flat_map f xs) ∙ ap (λ m. sum_by w (f x) + m) (sum-flat f w xs)
    ∙ sym (sum_by-cons (λ y. sum_by w (f y)) x xs)

pub sum-map : {A B : Type 0} (f : A → B) (w : B → ℕ) (xs : List A) → sum_by w (map f xs) ≡ sum_by (λ x. w (f x)) xs
sum-map f w [] = refl
sum-map f w (x ∷ xs) =
    sum_by-cons w (f x) (map f xs) ∙ ap (λ m. w (f x) + m) (sum-map f w xs) ∙ sym (sum_by-cons (λ y. w (f y)) x xs)

pub sum-filter : {A : Type 0} (test : A → Bool) (w : A → ℕ) (xs : List A) →
    sum_by w (filter test xs) ≡ sum_by (λ x. if test x then w x else 0) xs
sum-filter test w [] = refl
sum-filter {A} test w (x ∷ xs) =
    by (test x) (sum-filter test w xs) ∙ sym (sum_by-cons (λ y. if test y then w y else 0) x xs)
  where
    by : (b : Bool) → sum_by w (filter test xs) ≡ sum_by (λ y. if test y then w y else 0) xs →
        sum_by w (cond b (x ∷ filter test xs) (filter test xs)) ≡ (if b then w x else 0) + sum_by (λ y. if test y then w y else 0) xs
    by true rest = sum_by-cons w x (filter test xs) ∙ ap (λ m. w x + m) rest
    by false rest = rest ∙ omega arith

-- how many pass in lists, one for each item
pub count-flat : {A B : Type 0} (f : A → List B) (test : B → Bool) (xs : List A) →
    count_by test (flat_map f xs) ≡ sum_by (λ x. count_by test (f x)) xs
count-flat f test xs = sum-flat f (λ y. cond (test y) 1 0) xs

-- ---- Procedures

module _ (p : ProgramTree) where
  -- the helpers whose bodies go into a procedure
  abbrev pub helpers_of : ProcedureTree → List ℕ
  helpers_of x = if is_interface x.name then helpers_in p x.body else []

  -- a helper whose body goes where it is called goes to one place
  once : (k : ℕ) → stays p k ≡ false → count_of k (inlined_helpers p) ≡ 1
  once k dropped =
      let calls = (inlined-is p k dropped).once in
      let sum = counted-all k p p.procedures in
      let there = counted-there k (inlined_helpers p) (inlined-there p k dropped) in omega (arith, calls, sum, there)

  -- and what stays to none
  never : (k : ℕ) → stays p k ≡ true → count_of k (inlined_helpers p) ≡ 0
  never k kept = none (inlined_helpers p) (apart (has_number (inlined_helpers p) k) kept)
    where
      apart : (b : Bool) → not b ≡ true → b ≡ false
      apart true e = absurd (let wrong : ⊥ = cc e in wrong)
      apart false e = refl

      none : (ks : List ℕ) → has_number ks k ≡ false → count_of k ks ≡ 0
      none [] e = refl
      none (j ∷ ks) e = sum_by-cons (λ i. cond (i == k) 1 0) j ks ∙ by (j == k) e (none ks)
        where
          by : (b : Bool) → (b || has_number ks k) ≡ false → (has_number ks k ≡ false → count_of k ks ≡ 0) →
              cond b 1 0 + count_of k ks ≡ 0
          by true h next = absurd (let wrong : ⊥ = cc h in wrong)
          by false h next = let rest = next h in omega (arith, rest)

  -- a helper's weight is added where its body goes: all together is as before
  pub total : (v w : ProcedureTree → ℕ) →
      ((k : ℕ) (x : ProcedureTree) → slice_get p.procedures k ≡ Some x → stays p k ≡ true →
      v (inlined_procedure p x) ≡ w x + sum_by (λ j. w (procedure_at p j)) (helpers_of x)) →
      AllByRecursion (λ k. k < length p.procedures) (inlined_helpers p) → sum_by v (inlined p).procedures ≡ sum_by w p.procedures
  total v w each inside =
      sum-map (inlined_procedure p) v (kept_from (stays p) 0 p.procedures) ∙ kept-sum (stays p) moved 0 p.procedures
      ∙ same-at (kept_part (stays p) moved) (λ k x. kept_part (stays p) w k x + added x) 0 p.procedures
      (λ k x there. at (0 + k) x (subst (λ j. slice_get p.procedures j ≡ Some x) (zero-add-is k) there) (stays p (0 + k)) refl)
      ∙ both-at (kept_part (stays p) w) (λ k x. added x) 0 p.procedures
      ∙ ap (λ n. sum_at (kept_part (stays p) w) 0 p.procedures + n)
      (sym (plain-at added 0 p.procedures) ∙ sym (sum-flat helpers_of weight p.procedures)
      ∙ counted-sum weight p.procedures (inlined_helpers p) inside
      ∙ same-at (λ k x. count_of k (inlined_helpers p) * weight k) (dropped_part (stays p) w) 0 p.procedures
      (λ k x there. left (0 + k) x (subst (λ j. slice_get p.procedures j ≡ Some x) (zero-add-is k) there) (stays p (0 + k)) refl))
      ∙ sym (two-parts (stays p) w 0 p.procedures)
    where
      zero-add-is : (k : ℕ) → k ≡ 0 + k
      zero-add-is k = omega arith

      moved : ProcedureTree → ℕ
      moved x = v (inlined_procedure p x)

      weight : ℕ → ℕ
      weight j = w (procedure_at p j)

      added : ProcedureTree → ℕ
      added x = sum_by weight (helpers_of x)

      -- what doesn't stay is no procedure that contains bodies
      none-added : (k : ℕ) (x : ProcedureTree) → slice_get p.procedures k ≡ Some x → stays p k ≡ false → added x ≡ 0
      none-added k x there dropped =
          ap (λ b. sum_by weight (if b then helpers_in p x.body else []))
          (ap (λ (y : ProcedureTree). is_interface y.name) (sym (procedure-at p k x there)) ∙ (inlined-is p k dropped).unlogged)

      at : (k : ℕ) (x : ProcedureTree) → slice_get p.procedures k ≡ Some x → (b : Bool) → stays p k ≡ b →
          (if b then moved x else 0) ≡ (if b then w x else 0) + added x
      at k x there true keep = each k x there keep
      at k x there false dropped = sym (ap (λ n. 0 + n) (none-added k x there dropped))

      left : (k : ℕ) (x : ProcedureTree) → slice_get p.procedures k ≡ Some x → (b : Bool) → stays p k ≡ b →
          count_of k (inlined_helpers p) * weight k ≡ (if b then 0 else w x)
      left k x there true keep = ap (λ n. n * weight k) (never k keep) ∙ (let none : 0 * weight k ≡ 0 = omega arith in none)
      left k x there false dropped =
          ap (λ n. n * weight k) (once k dropped) ∙ (let one : 1 * weight k ≡ weight k = omega arith in one)
          ∙ ap w (procedure-at p k x there)
