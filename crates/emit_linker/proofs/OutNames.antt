-- The names of output functions, one after another.
use Rattle.std.proofs.Common.{◌≡◌, refl, sym, ◌∙◌, ap, subst, ℕ, zero, suc, ◌+◌, ◌<◌, Bool, true, false, cond, ◌||◌, List, [], ◌∷◌, ◌++◌, length, map, Some, arith}
use Rattle.std.specs.List.{prefix_len, range_with_len, list_any, position_from}
use Rattle.std.specs.Option.{is_some}
use Rattle.std.proofs.lemmas.List.{map-append}
use Rattle.emit_shape.specs.SystemTree.{SystemTree}
use Rattle.emit_shape.specs.Assembled.{has_procedure, numbered_name, out_names}
use Rattle.emit_row_facts.proofs.lemmas.Steps.{range-more}

-- so many numbers from 1 on pass
abbrev pub Pass : (ℕ → Bool) → ℕ → Type 0
Pass p count = (k : ℕ) → k < count → p (k + 1) ≡ true

prefix-at : (p : ℕ → Bool) (first n i : ℕ) → i < n → ((k m : ℕ) → k < i → m ≡ first + k → p m ≡ true) →
    ((m : ℕ) → m ≡ first + i → p m ≡ false) → prefix_len p (range_with_len first n) ≡ i
prefix-at p first zero i within before here = absurd (omega (arith, within))
prefix-at p first (suc n) zero within before here =
    ap (λ b. cond b (1 + prefix_len p (range_with_len (first + 1) n)) 0) (here first (omega arith))
prefix-at p first (suc n) (suc i) within before here =
    ap (λ b. cond b (1 + prefix_len p (range_with_len (first + 1) n)) 0) (before 0 first (omega arith) (omega arith))
    ∙ ap (λ k. 1 + k) (prefix-at p (first + 1) n i (omega (arith, within))
    (λ k m low at. before (suc k) m (omega (arith, low)) (omega (arith, at))) (λ m at. here m (omega (arith, at)))) ∙ omega arith

prefix-all : (p : ℕ → Bool) (first n : ℕ) → ((k m : ℕ) → k < n → m ≡ first + k → p m ≡ true) → prefix_len p (range_with_len first n) ≡ n
prefix-all p first zero before = refl
prefix-all p first (suc n) before =
    ap (λ b. cond b (1 + prefix_len p (range_with_len (first + 1) n)) 0) (before 0 first (omega arith) (omega arith))
    ∙ ap (λ k. 1 + k) (prefix-all p (first + 1) n (λ k m low at. before (suc k) m (omega (arith, low)) (omega (arith, at)))) ∙ omega arith

passes : (p : ℕ → Bool) (i : ℕ) → Pass p i → (k m : ℕ) → k < i → m ≡ 1 + k → p m ≡ true
passes p i before k m low at = let same : k + 1 ≡ m = omega (arith, at) in subst (λ n. p n ≡ true) same (before k low)

-- whether a code has a function
abbrev pub has_out : SystemTree → ℕ → Bool
has_out c j = has_procedure c (numbered_name c j)

-- the names end before one that is missing
pub names-stop : (c : SystemTree) (i : ℕ) → i < length c.procedures → Pass (has_out c) i → has_out c (i + 1) ≡ false →
    map (numbered_name c) (range_with_len 1 i) ≡ out_names c
names-stop c i within before here =
    ap (λ n. map (numbered_name c) (range_with_len 1 n))
    (sym (prefix-at (has_out c) 1 (length c.procedures) i within (passes (has_out c) i before)
    (λ m at. let same : i + 1 ≡ m = omega (arith, at) in subst (λ n. has_out c n ≡ false) same here)))

-- all procedures are output functions
pub names-all : (c : SystemTree) (i : ℕ) → length c.procedures ≡ i → Pass (has_out c) i →
    map (numbered_name c) (range_with_len 1 i) ≡ out_names c
names-all c i all before =
    ap (λ n. map (numbered_name c) (range_with_len 1 n))
    (sym all ∙ sym (prefix-all (has_out c) 1 (length c.procedures)
    (passes (has_out c) (length c.procedures) (subst (Pass (has_out c)) (sym all) before))))

-- one more name
pub names-push : (c : SystemTree) (i : ℕ) (name : List ℕ) (done new : List (List ℕ)) → new ≡ done ++ name ∷ [] →
    done ≡ map (numbered_name c) (range_with_len 1 i) → name ≡ numbered_name c (i + 1) →
    new ≡ map (numbered_name c) (range_with_len 1 (i + 1))
names-push c i name done new pushed before is =
    pushed ∙ (λ j. before j ++ is j ∷ []) ∙ sym (map-append (numbered_name c) (range_with_len 1 i) ((i + 1) ∷ []))
    ∙ ap (map (numbered_name c)) (sym (range-more 1 i (i + 1) (omega arith)))

-- a member that passes has a place
pub any-place : {A : Type 0} (test : A → Bool) (n : ℕ) (xs : List A) → is_some (position_from test n xs) ≡ list_any test xs
any-place test n [] = refl
any-place test n (x ∷ xs) = by (test x) (any-place test (n + 1) xs)
  where
    by : (b : Bool) → is_some (position_from test (n + 1) xs) ≡ list_any test xs →
        is_some (cond b (Some n) (position_from test (n + 1) xs)) ≡ (b || list_any test xs)
    by true later = refl
    by false later = later
