-- What a procedure's name begins with, up to the line below, is the name of its struct.
use Rattle.std.specs.Prelude.{◌≡◌, ℕ, zero, suc, ◌+◌, ◌/◌, ◌%◌, ◌<◌, Bool, true, false, not, ◌==◌, if◌then◌else◌, List, [], ◌∷◌, Option, Some, None, decimal, refl}
use Rattle.std.specs.List.{list_all}
use Rattle.std.specs.Fmt.{digits, digits_onto, digit_glyph}
use Rattle.std.proofs.Common.{ap, ◌∙◌, arith, lt-ltb}
use Rattle.std.proofs.lemmas.Bool.{and_from, ne_eqb}
use Rattle.modules_profile.specs.Systems.{system_name}

-- a byte other than the line below
abbrev pub is_plain : ℕ → Bool
is_plain b = not (b == 95)

digit-plain : (n : ℕ) → n < 10 → is_plain (digit_glyph false n) ≡ true
digit-plain n small =
    ap (λ b. is_plain (if b then 48 + n else 87 + n)) (lt-ltb n 10 small) ∙ ap not (ne_eqb (48 + n) 95 (λ same. omega arith))

onto-plain : (k n : ℕ) (later : List ℕ) → list_all is_plain later ≡ true → list_all is_plain (digits_onto k 10 false n later) ≡ true
onto-plain zero n later plain = plain
onto-plain (suc k) n later plain = by (n / 10 == 0) (onto-plain k (n / 10) (digit_glyph false (n % 10) ∷ later) more)
  where
    more : list_all is_plain (digit_glyph false (n % 10) ∷ later) ≡ true
    more = and_from (is_plain (digit_glyph false (n % 10))) (list_all is_plain later) (digit-plain (n % 10) (omega arith)) plain

    by : (b : Bool) → list_all is_plain (digits_onto k 10 false (n / 10) (digit_glyph false (n % 10) ∷ later)) ≡ true →
        list_all is_plain (if b then digit_glyph false (n % 10) ∷ later
        else digits_onto k 10 false (n / 10) (digit_glyph false (n % 10) ∷ later)) ≡ true
    by true rest = more
    by false rest = rest

decimal-plain : (n : ℕ) → list_all is_plain (decimal n) ≡ true
unfolding digits
decimal-plain n = onto-plain 64 n [] refl

pub system-plain : (s : Option ℕ) → list_all is_plain (system_name s) ≡ true
system-plain None = refl
system-plain (Some e) = decimal-plain e
