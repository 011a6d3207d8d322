-- Calls of functions and of updates are logged by their names, and others are not.
use Rattle.std.specs.Prelude.{◌≡◌, ℕ, ◌+◌, ◌%◌, ◌<◌, ◌^◌, Bool, true, false, ◌&&◌, if◌then◌else◌, cond, nat_eq, nat_lt, List, [], ◌∷◌, ◌++◌, drop, reverse, length, Option, codes, decimal, refl}
use Rattle.std.specs.Char.{is_ascii_digit}
use Rattle.std.specs.List.{prefix_len, list_all, starts_with}
use Rattle.std.proofs.Common.{sym, ap, ◌∙◌, arith, true≢false, lt-ltb}
use Rattle.std.proofs.lemmas.Bool.{le-leb, and_from, and_parts, eqb-true}
use Rattle.std.proofs.lemmas.Fmt.{decimal_by_steps, decimal_nonempty}
use Rattle.std.proofs.lemmas.List.{reverse-append, length-reverse, drop_at}
use Rattle.modules_profile.specs.Systems.{system_name}
use Rattle.c_semantics.specs.Machine.{is_interface, trailing_digits, ends_with_number}
use Rattle.c_syntax.specs.Names.{ends_with}
use Rattle.emit_shape.specs.Names.{out_name, update_name, start_name, reset_name, group_name}
use Rattle.right_system_ticks.proofs.Tests.{not-true}

-- ---- Decimals end texts with digits

all-append : {A : Type 0} (t : A → Bool) (xs ys : List A) → list_all t (xs ++ ys) ≡ (list_all t xs && list_all t ys)
all-append t [] ys = refl
all-append t (x ∷ xs) ys = by (t x) (all-append t xs ys)
  where
    by : (b : Bool) → list_all t (xs ++ ys) ≡ (list_all t xs && list_all t ys) → (b && list_all t (xs ++ ys))
        ≡ ((b && list_all t xs) && list_all t ys)
    by true e = e
    by false e = refl

digit-is : (n : ℕ) → n < 10 → is_ascii_digit (48 + n) ≡ true
digit-is n h = and_from _ _ (le-leb 48 (48 + n) (omega arith)) (le-leb (48 + n) 57 (omega arith))

decimal-digits : (n : ℕ) → n < 2 ^ 64 → list_all is_ascii_digit (decimal n) ≡ true
decimal-digits n h = decimal_by_steps (λ n ds. list_all is_ascii_digit ds ≡ true)
    (λ n h. and_from _ _ (digit-is n h) refl)
    (λ n ds h e. all-append is_ascii_digit ds ((48 + n % 10) ∷ []) ∙ and_from _ _ e
    (and_from _ _ (digit-is (n % 10) (omega arith)) refl)) n h

digits-first : {A : Type 0} (t : A → Bool) (xs ys : List A) → list_all t xs ≡ true → prefix_len t (xs ++ ys) ≡ length xs + prefix_len t ys
digits-first t [] ys e = omega arith
digits-first t (x ∷ xs) ys e =
    let parts = and_parts _ _ e in
    ap (λ b. cond b (1 + prefix_len t (xs ++ ys)) 0) parts.0 ∙ ap (λ n. 1 + n) (digits-first t xs ys parts.1) ∙ omega arith

all-reverse : {A : Type 0} (t : A → Bool) (xs : List A) → list_all t xs ≡ true → list_all t (reverse xs) ≡ true
all-reverse t [] e = refl
all-reverse t (x ∷ xs) e =
    let parts = and_parts _ _ e in
    ap (list_all t) (reverse-append (x ∷ []) xs) ∙ all-append t (reverse xs) (x ∷ []) ∙ and_from _ _ (all-reverse t xs parts.1)
    (and_from _ _ parts.0 refl)

-- a text that ends with a number
module _ (front : List ℕ) (n : ℕ) (few : n < 2 ^ 64) (none : prefix_len is_ascii_digit (reverse front) ≡ 0) where
  back : List ℕ
  back = reverse (decimal n)

  split : reverse (front ++ decimal n) ≡ reverse (decimal n) ++ reverse front
  split = reverse-append front (decimal n)

  digits : list_all is_ascii_digit (reverse (decimal n)) ≡ true
  digits = all-reverse is_ascii_digit (decimal n) (decimal-digits n few)

  count : trailing_digits (front ++ decimal n) ≡ length (reverse (decimal n))
  count =
      ap (prefix_len is_ascii_digit) split ∙ digits-first is_ascii_digit (reverse (decimal n)) (reverse front) digits
      ∙ ap (λ k. length (reverse (decimal n)) + k) none ∙ omega arith

  some : 0 < length (reverse (decimal n))
  some = let long = decimal_nonempty n few in let e = length-reverse (decimal n) in omega (arith, long, e)

  -- what comes before the number decides
  pub number-ends : (end : List ℕ) → ends_with_number (front ++ decimal n) end ≡ starts_with nat_eq (reverse front) (reverse end)
  number-ends end =
      ap (λ k. nat_lt 0 k && starts_with nat_eq (drop k (reverse (front ++ decimal n))) (reverse end)) count
      ∙ ap (λ b. b && starts_with nat_eq (drop (length (reverse (decimal n))) (reverse (front ++ decimal n))) (reverse end))
      (lt-ltb 0 (length (reverse (decimal n))) some)
      ∙ ap (λ l. starts_with nat_eq (drop (length (reverse (decimal n))) l) (reverse end)) split
      ∙ ap (λ l. starts_with nat_eq l (reverse end)) (drop_at (reverse (decimal n)) (reverse front) (length (reverse (decimal n))) refl)

  -- it ends with no letter
  pub no-update : ends_with (front ++ decimal n) (codes "_update") ≡ false
  no-update =
      ap (λ l. starts_with nat_eq l (reverse (codes "_update"))) split
      ∙ by (reverse (decimal n)) digits some
    where
      by : (ds : List ℕ) → list_all is_ascii_digit ds ≡ true → 0 < length ds →
          starts_with nat_eq (ds ++ reverse front) (reverse (codes "_update")) ≡ false
      by [] all long = absurd (omega (arith, long))
      by (d ∷ ds) all long =
          let parts = and_parts _ _ all in
          ap (λ b. b && starts_with nat_eq (ds ++ reverse front) (116 ∷ 97 ∷ 100 ∷ 112 ∷ 117 ∷ 95 ∷ []))
          (not-true (nat_eq 101 d) (λ h. true≢false (sym parts.0 ∙ ap is_ascii_digit (sym (eqb-true 101 d h)))))

-- ---- The names of procedures

pub out-logged : (row : Option ℕ) (j : ℕ) → j < 2 ^ 64 → is_interface (out_name row j) ≡ true
out-logged row j few =
    let front = system_name row ++ codes "_out" in
    let before : reverse front ≡ reverse (codes "_out") ++ reverse (system_name row) = reverse-append (system_name row) (codes "_out") in
    let none : prefix_len is_ascii_digit (reverse front) ≡ 0 = ap (prefix_len is_ascii_digit) before in
    either (ends_with (out_name row j) (codes "_update")) (ends_with_number (out_name row j) (codes "_out"))
    (number-ends front j few none (codes "_out") ∙ ap (λ l. starts_with nat_eq l (reverse (codes "_out"))) before)
  where
    either : (a b : Bool) → b ≡ true → (if a then true else b) ≡ true
    either true b e = refl
    either false b e = e

pub group-unlogged : (row : Option ℕ) (g : ℕ) → g < 2 ^ 64 → is_interface (group_name row g) ≡ false
group-unlogged row g few =
    let front = system_name row ++ codes "_g" in
    let before : reverse front ≡ reverse (codes "_g") ++ reverse (system_name row) = reverse-append (system_name row) (codes "_g") in
    let none : prefix_len is_ascii_digit (reverse front) ≡ 0 = ap (prefix_len is_ascii_digit) before in
    ap (λ b. if b then true else ends_with_number (group_name row g) (codes "_out")) (no-update front g few none)
    ∙ number-ends front g few none (codes "_out") ∙ ap (λ l. starts_with nat_eq l (reverse (codes "_out"))) before

pub update-logged : (row : Option ℕ) → is_interface (update_name row) ≡ true
update-logged row = rw (reverse-append (system_name row) (codes "_update")) refl

pub start-unlogged : (row : Option ℕ) → is_interface (start_name row) ≡ false
start-unlogged row = rw (reverse-append (system_name row) (codes "_start")) refl

pub reset-unlogged : (row : Option ℕ) → is_interface (reset_name row) ≡ false
reset-unlogged row = rw (reverse-append (system_name row) (codes "_reset")) refl
