-- The outputs, one after another.
use Rattle.std.proofs.Common.{◌≡◌, refl, sym, ◌∙◌, ap, subst, ℕ, zero, suc, ◌+◌, ◌<◌, Bool, true, false, cond, List, [], ◌∷◌, ◌++◌, length, map, arith}
use Rattle.std.specs.List.{prefix_len}
use Rattle.std.proofs.lemmas.List.{map-append}
use Rattle.c_syntax.specs.Outputs.{has_name, output_name, numbers_from, output_names}

-- so many numbers from 1 on pass
abbrev pub Pass : (ℕ → Bool) → ℕ → Type 0
Pass p count = (k : ℕ) → k < count → p (k + 1) ≡ true

prefix-at : (p : ℕ → Bool) (first n i : ℕ) → i < n → ((k m : ℕ) → k < i → m ≡ first + k → p m ≡ true) →
    ((m : ℕ) → m ≡ first + i → p m ≡ false) → prefix_len p (numbers_from first n) ≡ i
prefix-at p first zero i within before here = absurd (omega (arith, within))
prefix-at p first (suc n) zero within before here =
    ap (λ b. cond b (1 + prefix_len p (numbers_from (first + 1) n)) 0) (here first (omega arith))
prefix-at p first (suc n) (suc i) within before here =
    ap (λ b. cond b (1 + prefix_len p (numbers_from (first + 1) n)) 0) (before 0 first (omega arith) (omega arith))
    ∙ ap (λ k. 1 + k)
    (prefix-at p (first + 1) n i (omega (arith, within))
    (λ k m low at. before (suc k) m (omega (arith, low)) (omega (arith, at))) (λ m at. here m (omega (arith, at))))
    ∙ omega arith

prefix-all : (p : ℕ → Bool) (first n : ℕ) → ((k m : ℕ) → k < n → m ≡ first + k → p m ≡ true) → prefix_len p (numbers_from first n) ≡ n
prefix-all p first zero before = refl
prefix-all p first (suc n) before =
    ap (λ b. cond b (1 + prefix_len p (numbers_from (first + 1) n)) 0) (before 0 first (omega arith) (omega arith))
    ∙ ap (λ k. 1 + k)
    (prefix-all p (first + 1) n (λ k m low at. before (suc k) m (omega (arith, low)) (omega (arith, at))))
    ∙ omega arith

passes : (p : ℕ → Bool) (i : ℕ) → Pass p i → (k m : ℕ) → k < i → m ≡ 1 + k → p m ≡ true
passes p i before k m low at = let same : k + 1 ≡ m = omega (arith, at) in subst (λ n. p n ≡ true) same (before k low)

-- the outputs end before one that is missing
pub outputs-stop : (names : List (List ℕ)) (i : ℕ) → i < length names → Pass (λ k. has_name names (output_name k)) i →
    has_name names (output_name (i + 1)) ≡ false → map output_name (numbers_from 1 i) ≡ output_names names
outputs-stop names i within before here =
    ap (λ n. map output_name (numbers_from 1 n))
    (sym (prefix-at (λ k. has_name names (output_name k)) 1 (length names) i within
    (passes (λ k. has_name names (output_name k)) i before) (λ m at. let same : i + 1 ≡ m = omega (arith, at) in
    subst (λ n. has_name names (output_name n) ≡ false) same here)))

-- all names are outputs
pub outputs-all : (names : List (List ℕ)) (i : ℕ) → length names ≡ i → Pass (λ k. has_name names (output_name k)) i →
    map output_name (numbers_from 1 i) ≡ output_names names
outputs-all names i all before =
    ap (λ n. map output_name (numbers_from 1 n)) (sym all
    ∙ sym (prefix-all (λ k. has_name names (output_name k)) 1 (length names)
    (passes (λ k. has_name names (output_name k)) (length names)
    (subst (λ n. Pass (λ k. has_name names (output_name k)) n) (sym all) before))))

numbers-push : (first n m : ℕ) → m ≡ first + n → numbers_from first n ++ m ∷ [] ≡ numbers_from first (suc n)
numbers-push first zero m at = ap (λ k. k ∷ []) (omega (arith, at))
numbers-push first (suc n) m at = ap (λ ks. first ∷ ks) (numbers-push (first + 1) n m (omega (arith, at)))

-- one more output
pub outputs-push : (i : ℕ) (name : List ℕ) → name ≡ output_name (i + 1) → map output_name (numbers_from 1 i) ++ name
    ∷ [] ≡ map output_name (numbers_from 1 (i + 1))
outputs-push i name is =
    let place : i + 1 ≡ 1 + i = omega arith in
    let next : suc i ≡ i + 1 = omega arith in
    ap (λ n. map output_name (numbers_from 1 i) ++ n ∷ []) is ∙ sym (map-append output_name (numbers_from 1 i) ((i + 1) ∷ []))
    ∙ ap (map output_name) (numbers-push 1 i (i + 1) place) ∙ ap (λ n. map output_name (numbers_from 1 n)) next
