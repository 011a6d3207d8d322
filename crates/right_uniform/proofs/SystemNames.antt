-- The name of a procedure of a system is the system's and an end that says whether its calls are logged.
use Rattle.std.specs.Prelude.{◌≡◌, ℕ, zero, suc, ◌+◌, ◌/◌, ◌%◌, ◌<◌, ◌==◌, Bool, true, false, ◌&&◌, if◌then◌else◌, cond, nat_eq, nat_lt, List, [], ◌∷◌, ◌++◌, drop, reverse, length, Option, codes, decimal}
use Rattle.std.specs.Char.{is_ascii_digit}
use Rattle.std.specs.Fmt.{digits, digits_onto, digit_glyph}
use Rattle.std.specs.List.{prefix_len, list_all, starts_with}
use Rattle.std.proofs.Common.{refl, sym, ap, ◌∙◌, arith, true≢false, lt-ltb}
use Rattle.std.proofs.lemmas.Bool.{le-leb, and_from, and_parts, eqb-true}
use Rattle.std.proofs.lemmas.List.{append_assoc, reverse-append, length-reverse, drop_at}
use Rattle.modules_profile.specs.Systems.{system_name}
use Rattle.c_semantics.specs.Machine.{is_interface, trailing_digits, ends_with_number}
use Rattle.c_syntax.specs.Names.{ends_with}
use Rattle.emit_shape.specs.Names.{out_name, update_name, start_name, reset_name, group_name}

-- ---- Numbers

digit-is : (n : ℕ) → n < 10 → is_ascii_digit (digit_glyph false n) ≡ true
digit-is n small =
    ap (λ b. is_ascii_digit (if b then 48 + n else 87 + n)) (lt-ltb n 10 small)
    ∙ and_from _ _ (le-leb 48 (48 + n) (omega (arith, small))) (le-leb (48 + n) 57 (omega (arith, small)))

-- digits before digits, and one at least
abbrev AreDigits : List ℕ → Type 0
AreDigits ds = (list_all is_ascii_digit ds ≡ true) × (0 < length ds)

one-digit : (n : ℕ) (later : List ℕ) → list_all is_ascii_digit later ≡ true → AreDigits (digit_glyph false (n % 10) ∷ later)
one-digit n later all = (
  and_from (is_ascii_digit (digit_glyph false (n % 10))) (list_all is_ascii_digit later) (digit-is (n % 10) (omega arith)) all,
  omega arith,
)

onto-digits : (k n : ℕ) (later : List ℕ) → list_all is_ascii_digit later ≡ true → AreDigits (digits_onto (suc k) 10 false n later)
onto-digits zero n later all = by (n / 10 == 0)
  where
    by : (b : Bool) → AreDigits (if b then digit_glyph false (n % 10) ∷ later else digit_glyph false (n % 10) ∷ later)
    by true = one-digit n later all
    by false = one-digit n later all
onto-digits (suc k) n later all =
    by (n / 10 == 0) (onto-digits k (n / 10) (digit_glyph false (n % 10) ∷ later) (one-digit n later all).0)
  where
    by : (b : Bool) → AreDigits (digits_onto (suc k) 10 false (n / 10) (digit_glyph false (n % 10) ∷ later)) →
        AreDigits (if b then digit_glyph false (n % 10) ∷ later
        else digits_onto (suc k) 10 false (n / 10) (digit_glyph false (n % 10) ∷ later))
    by true rest = one-digit n later all
    by false rest = rest

decimal-digits : (n : ℕ) → AreDigits (decimal n)
unfolding digits
decimal-digits n = onto-digits 63 n [] refl

all-append : {A : Type 0} (t : A → Bool) (xs ys : List A) → list_all t (xs ++ ys) ≡ (list_all t xs && list_all t ys)
all-append t [] ys = refl
all-append t (x ∷ xs) ys = by (t x) (all-append t xs ys)
  where
    by : (b : Bool) → list_all t (xs ++ ys) ≡ (list_all t xs && list_all t ys) → (b && list_all t (xs ++ ys))
        ≡ ((b && list_all t xs) && list_all t ys)
    by true e = e
    by false e = refl

all-reverse : {A : Type 0} (t : A → Bool) (xs : List A) → list_all t xs ≡ true → list_all t (reverse xs) ≡ true
all-reverse t [] e = refl
all-reverse t (x ∷ xs) e =
    let parts = and_parts _ _ e in
    ap (list_all t) (reverse-append (x ∷ []) xs) ∙ all-append t (reverse xs) (x ∷ [])
    ∙ and_from _ _ (all-reverse t xs parts.1) (and_from _ _ parts.0 refl)

digits-first : {A : Type 0} (t : A → Bool) (xs ys : List A) → list_all t xs ≡ true → prefix_len t (xs ++ ys) ≡ length xs + prefix_len t ys
digits-first t [] ys e = omega arith
digits-first t (x ∷ xs) ys e =
    let parts = and_parts _ _ e in
    ap (λ b. cond b (1 + prefix_len t (xs ++ ys)) 0) parts.0 ∙ ap (λ n. 1 + n) (digits-first t xs ys parts.1) ∙ omega arith

-- a name that ends with a number
module _ (front : List ℕ) (n : ℕ) (none : prefix_len is_ascii_digit (reverse front) ≡ 0) where
  split : reverse (front ++ decimal n) ≡ reverse (decimal n) ++ reverse front
  split = reverse-append front (decimal n)

  back-digits : list_all is_ascii_digit (reverse (decimal n)) ≡ true
  back-digits = all-reverse is_ascii_digit (decimal n) (decimal-digits n).0

  count : trailing_digits (front ++ decimal n) ≡ length (reverse (decimal n))
  count =
      ap (prefix_len is_ascii_digit) split ∙ digits-first is_ascii_digit (reverse (decimal n)) (reverse front) back-digits
      ∙ ap (λ k. length (reverse (decimal n)) + k) none ∙ omega arith

  some : 0 < length (reverse (decimal n))
  some = let long = (decimal-digits n).1 in let e = length-reverse (decimal n) in omega (arith, long, e)

  -- what is before the number decides
  number-ends : (end : List ℕ) → ends_with_number (front ++ decimal n) end ≡ starts_with nat_eq (reverse front) (reverse end)
  number-ends end =
      ap (λ k. nat_lt 0 k && starts_with nat_eq (drop k (reverse (front ++ decimal n))) (reverse end)) count
      ∙ ap (λ b. b && starts_with nat_eq (drop (length (reverse (decimal n))) (reverse (front ++ decimal n))) (reverse end))
      (lt-ltb 0 (length (reverse (decimal n))) some)
      ∙ ap (λ l. starts_with nat_eq (drop (length (reverse (decimal n))) l) (reverse end)) split
      ∙ ap (λ l. starts_with nat_eq l (reverse end)) (drop_at (reverse (decimal n)) (reverse front) (length (reverse (decimal n))) refl)

  -- it ends with no letter
  no-update : ends_with (front ++ decimal n) (codes "_update") ≡ false
  no-update =
      ap (λ l. starts_with nat_eq l (reverse (codes "_update"))) split
      ∙ by (reverse (decimal n)) back-digits some
    where
      false-unless : (b : Bool) → (b ≡ true → ⊥) → b ≡ false
      false-unless true never = absurd (never refl)
      false-unless false never = refl

      by : (ds : List ℕ) → list_all is_ascii_digit ds ≡ true → 0 < length ds →
          starts_with nat_eq (ds ++ reverse front) (reverse (codes "_update")) ≡ false
      by [] all long = absurd (omega (arith, long))
      by (d ∷ ds) all long =
          let parts = and_parts _ _ all in
          ap (λ b. b && starts_with nat_eq (ds ++ reverse front) (116 ∷ 97 ∷ 100 ∷ 112 ∷ 117 ∷ 95 ∷ []))
          (false-unless (nat_eq 101 d) (λ h. true≢false (sym parts.0 ∙ ap is_ascii_digit (sym (eqb-true 101 d h)))))

-- ---- The names of a system's procedures

-- a name is the system's and this end, with which calls of any system's are logged or not
pub record HasEnd (s : Option ℕ) (name : List ℕ) : Type 0 where
  pub end : List ℕ
  pub named : name ≡ system_name s ++ end
  pub logged : Bool
  pub each : (other : Option ℕ) → is_interface (system_name other ++ end) ≡ logged

-- a number after a word
numbered : (s : Option ℕ) (word : List ℕ) (n : ℕ) → system_name s ++ word ++ decimal n ≡ system_name s ++ (word ++ decimal n)
numbered s word n = append_assoc (system_name s) word (decimal n)

pub out-end : (s : Option ℕ) (j : ℕ) → HasEnd s (out_name s j)
out-end s j = record { end = codes "_out" ++ decimal j; named = numbered s (codes "_out") j; logged = true; each = each }
  where
    either : (a b : Bool) → b ≡ true → (if a then true else b) ≡ true
    either true b e = refl
    either false b e = e

    each : (other : Option ℕ) → is_interface (system_name other ++ (codes "_out" ++ decimal j)) ≡ true
    each other =
        let front = system_name other ++ codes "_out" in
        let before : reverse front ≡ reverse (codes "_out") ++ reverse (system_name other) =
        reverse-append (system_name other) (codes "_out") in
        let none : prefix_len is_ascii_digit (reverse front) ≡ 0 = ap (prefix_len is_ascii_digit) before in
        ap is_interface (sym (numbered other (codes "_out") j))
        ∙ either (ends_with (out_name other j) (codes "_update")) (ends_with_number (out_name other j) (codes "_out"))
        (number-ends front j none (codes "_out") ∙ ap (λ l. starts_with nat_eq l (reverse (codes "_out"))) before)

pub group-end : (s : Option ℕ) (g : ℕ) → HasEnd s (group_name s g)
group-end s g = record { end = codes "_g" ++ decimal g; named = numbered s (codes "_g") g; logged = false; each = each }
  where
    each : (other : Option ℕ) → is_interface (system_name other ++ (codes "_g" ++ decimal g)) ≡ false
    each other =
        let front = system_name other ++ codes "_g" in
        let before : reverse front ≡ reverse (codes "_g") ++ reverse (system_name other) =
        reverse-append (system_name other) (codes "_g") in
        let none : prefix_len is_ascii_digit (reverse front) ≡ 0 = ap (prefix_len is_ascii_digit) before in
        ap is_interface (sym (numbered other (codes "_g") g))
        ∙ ap (λ b. if b then true else ends_with_number (group_name other g) (codes "_out")) (no-update front g none)
        ∙ number-ends front g none (codes "_out") ∙ ap (λ l. starts_with nat_eq l (reverse (codes "_out"))) before

pub update-end : (s : Option ℕ) → HasEnd s (update_name s)
update-end s = record {
  end = codes "_update";
  named = refl;
  logged = true;
  each = λ other. rw (reverse-append (system_name other) (codes "_update")) refl;
}

pub start-end : (s : Option ℕ) → HasEnd s (start_name s)
start-end s = record {
  end = codes "_start";
  named = refl;
  logged = false;
  each = λ other. rw (reverse-append (system_name other) (codes "_start")) refl;
}

pub reset-end : (s : Option ℕ) → HasEnd s (reset_name s)
reset-end s = record {
  end = codes "_reset";
  named = refl;
  logged = false;
  each = λ other. rw (reverse-append (system_name other) (codes "_reset")) refl;
}
