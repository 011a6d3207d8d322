-- Each number of at most 63 bits that is written in decimal is a literal.
use Rattle.std.proofs.Common.{◌≡◌, refl, sym, ◌∙◌, ap, ℕ, zero, suc, ◌+◌, ◌-◌, ◌*◌, ◌/◌, ◌%◌, ◌^◌, ◌<◌, ◌≤◌, List, [], ◌∷◌, ◌++◌, Bool, true, false, not, ◌&&◌, ◌||◌, ◌==◌, nat_le, nat_lt, decimal, codes, bytes_eq, arith}
use Rattle.std.specs.List.{list_all}
use Rattle.std.specs.Char.{is_ascii_digit}
use Rattle.std.proofs.lemmas.Fmt.{decimal_by_steps, decimal_digit}
use Rattle.std.proofs.lemmas.Bool.{le-leb, leb-true, eqb-true}
use Rattle.std.proofs.lemmas.Slice.Eq.{bytes_eq-Decides}
use Rattle.c_grammar.specs.Prefix.{digits_value, is_literal}
use Rattle.c_grammar.proofs.lemmas.PrefixLaws.{LiteralsAgree}

value-append : (n d : ℕ) (ds : List ℕ) → digits_value n (ds ++ d ∷ []) ≡ 10 * digits_value n ds + (d - 48)
value-append n d [] = refl
value-append n d (c ∷ ds) = value-append (10 * n + (c - 48)) d ds

pub and_both : (a b : Bool) → a ≡ true → b ≡ true → (a && b) ≡ true
and_both true b e d = d
and_both false b e d = e

pub and_first : (a b : Bool) → (a && b) ≡ true → a ≡ true
and_first true b e = refl
and_first false b e = e

pub and_second : (a b : Bool) → (a && b) ≡ true → b ≡ true
and_second true b e = e
and_second false b e = cc

all-append : (d : ℕ) (ds : List ℕ) → list_all is_ascii_digit ds ≡ true → is_ascii_digit d ≡ true →
    list_all is_ascii_digit (ds ++ d ∷ []) ≡ true
all-append d [] h k = and_both (is_ascii_digit d) true k refl
all-append d (c ∷ ds) h k =
    and_both (is_ascii_digit c) (list_all is_ascii_digit (ds ++ d ∷ []))
    (and_first (is_ascii_digit c) (list_all is_ascii_digit ds) h)
    (all-append d ds (and_second (is_ascii_digit c) (list_all is_ascii_digit ds) h) k)

digit-true : (n : ℕ) → n < 10 → is_ascii_digit (48 + n) ≡ true
digit-true n h =
    and_both (nat_le 48 (48 + n)) (nat_le (48 + n) 57) (le-leb 48 (48 + n) (omega arith))
    (le-leb (48 + n) 57 (omega (arith, h)))

-- no digit 0 is first
pub no_zero : List ℕ → Bool
no_zero [] = false
no_zero (d ∷ ds) = not (d == 48)

pub record IsNumeralOf (n : ℕ) (ds : List ℕ) : Type 0 where
  pub all : list_all is_ascii_digit ds ≡ true
  pub value : digits_value 0 ds ≡ n
  pub first : 0 < n → no_zero ds ≡ true

not-eq : (a b : ℕ) → b < a → not (a == b) ≡ true
not-eq a b h = by (a == b) refl
  where
    by : (c : Bool) → (a == b) ≡ c → not c ≡ true
    by true e = absurd (omega (arith, h, eqb-true a b e))
    by false e = refl

one : (n : ℕ) → n < 10 → IsNumeralOf n ((48 + n) ∷ [])
unfolding no_zero
one n h =
    record {
      all = and_both (is_ascii_digit (48 + n)) true (digit-true n h) refl;
      value = omega arith;
      first = λ some. not-eq (48 + n) 48 (omega (arith, some));
    }

no_zero-append : (ds es : List ℕ) → no_zero ds ≡ true → no_zero (ds ++ es) ≡ true
unfolding no_zero
no_zero-append [] es h = cc
no_zero-append (d ∷ ds) es h = h

more : (n : ℕ) (ds : List ℕ) → 10 ≤ n → IsNumeralOf (n / 10) ds → IsNumeralOf n (ds ++ (48 + n % 10) ∷ [])
more n ds h k = record {
  all = all-append (48 + n % 10) ds k.all (digit-true (n % 10) (omega arith));
  value = value-append 0 (48 + n % 10) ds ∙ ap (λ v. 10 * v + (48 + n % 10 - 48)) k.value ∙ omega arith;
  first = λ some. no_zero-append ds ((48 + n % 10) ∷ []) (k.first (omega (arith, h)));
}

pub numeral : (n : ℕ) → n < 2 ^ 64 → IsNumeralOf n (decimal n)
numeral = decimal_by_steps IsNumeralOf one more

pub or_first : (a b : Bool) → a ≡ true → (a || b) ≡ true
or_first true b e = refl
or_first false b e = cc

pub or_second : (a b : Bool) → b ≡ true → (a || b) ≡ true
or_second true b e = refl
or_second false b e = e

zero_or : (n d : ℕ) (ds : List ℕ) → (d ∷ ds) ≡ decimal n → IsNumeralOf n (d ∷ ds) → (bytes_eq (d ∷ ds) (codes "0") || not (d == 48)) ≡ true
unfolding no_zero
zero_or zero d ds e k =
    or_first (bytes_eq (d ∷ ds) (codes "0")) (not (d == 48))
    ((bytes_eq-Decides (d ∷ ds) (codes "0")).1 (e ∙ decimal_digit 0 (omega arith)))
zero_or (suc n) d ds e k = or_second (bytes_eq (d ∷ ds) (codes "0")) (not (d == 48)) (k.first (omega arith))

literal : (n : ℕ) (ds : List ℕ) → n < 2 ^ 63 → ds ≡ decimal n → IsNumeralOf n ds → is_literal ds ≡ true
literal n [] small e k = nothing (e ∙ ap decimal (sym k.value) ∙ decimal_digit 0 (omega arith))
  where
    nothing : ◌≡◌ {A = List ℕ} [] (48 ∷ []) → false ≡ true
    nothing d = cc
literal n (d ∷ ds) small e k =
    and_both (list_all is_ascii_digit (d ∷ ds) && (bytes_eq (d ∷ ds) (codes "0") || not (d == 48)))
    (nat_lt (digits_value 0 (d ∷ ds)) (2 ^ 63))
    (and_both (list_all is_ascii_digit (d ∷ ds)) (bytes_eq (d ∷ ds) (codes "0") || not (d == 48)) k.all
    (zero_or n d ds e k)) (ap (λ v. nat_lt v (2 ^ 63)) k.value ∙ le-leb (suc n) (2 ^ 63) small)

-- what the grammar takes as a literal, the needs take as one
pub literals-agree : LiteralsAgree
literals-agree v h =
    let small : v < 2 ^ 63 = leb-true (suc v) (2 ^ 63) h in
    literal v (decimal v) small refl (numeral v (omega (arith, small)))
