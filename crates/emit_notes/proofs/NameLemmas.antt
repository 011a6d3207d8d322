-- What the names of the fields of rows stand for.
use Rattle.std.proofs.Common.{◌≡◌, refl, ◌∙◌, ap, ℕ, suc, ◌^◌, ◌<◌, true, false, List, [], ◌∷◌, length, arith, codes}
use Rattle.std.specs.Prelude.{◌&&◌, ◌==◌, nat_le, not, min, bytes_eq, if◌then◌else◌, decimal}
use Rattle.std.specs.Char.{is_ascii_digit}
use Rattle.std.specs.Str.Parse.{AllDigits}
use Rattle.std.proofs.lemmas.Bool.{le-leb, leb-true, and_from, and_parts}
use Rattle.std.proofs.lemmas.Bool.Decides.{nat_tests}
use Rattle.std.proofs.lemmas.Fmt.{decimal_is_IsNumeral}
use Rattle.std.proofs.lemmas.Str.Parse.{digit_from_value}
use Rattle.base_numerals.specs.Literals.{is_numeral, are_digits}
use Rattle.emit_shape.specs.Names.{value_name, memory_name, place_name, taken_name, child_name}
use Rattle.emit_notes.specs.declared.name_uses.NameUse.TheVariants.{Value, Memory, OldestPlace, SampleCount, System, Tick, Other}
use Rattle.emit_notes.specs.NameUses.{numbered_use, number_of, use_after, use_of}

-- ---- Numbers

all-digits : (ds : List ℕ) → AllDigits 10 ds → are_digits ds ≡ true
all-digits [] d = refl
all-digits (c ∷ cs) d =
    let r = digit_from_value c d.0 in
    and_from _ _ (and_from _ _ (le-leb 48 c (omega (arith, r))) (le-leb c 57 (omega (arith, r)))) (all-digits cs d.1)

numeral-is : (ds : List ℕ) → 0 < length ds → AllDigits 10 ds → is_numeral ds ≡ true
numeral-is [] some d = absurd (omega (arith, some))
numeral-is (c ∷ cs) some d =
    and_from (not (length (c ∷ cs) == 0)) (are_digits (c ∷ cs))
    (ap not (let e : (suc (length cs) == 0) ≡ false = grind (arith, nat_tests) in e)) (all-digits (c ∷ cs) d)

numeral : (n : ℕ) → n < 2 ^ 64 → is_numeral (decimal n) ≡ true
numeral n low = let d = decimal_is_IsNumeral n low in numeral-is (decimal n) d.0.0 d.0.1

number : (n : ℕ) → n < 2 ^ 64 → number_of (decimal n) ≡ n
number n low =
    ap (λ v. min v 18446744073709551615) (decimal_is_IsNumeral n low).1
    ∙ (let e : min n 18446744073709551615 ≡ n = omega arith in e)

lettered : (letter n : ℕ) → n < 2 ^ 64 → use_after letter (decimal n) ≡ numbered_use letter n
lettered letter n low =
    ap (λ b. if b then numbered_use letter (number_of (decimal n)) else Other) (numeral n low) ∙ ap (numbered_use letter) (number n low)

-- ---- Fields

pub value-used : (r : ℕ) → r < 2 ^ 64 → use_of (value_name r) ≡ Value r
value-used r low = lettered 118 r low

pub memory-used : (r : ℕ) → r < 2 ^ 64 → use_of (memory_name r) ≡ Memory r
memory-used r low = lettered 109 r low

pub place-used : (r : ℕ) → r < 2 ^ 64 → use_of (place_name r) ≡ OldestPlace r
place-used r low = lettered 112 r low

pub system-used : (r : ℕ) → r < 2 ^ 64 → use_of (child_name r) ≡ System r
system-used r low = lettered 115 r low

digit-no_letter : (d : ℕ) → is_ascii_digit d ≡ true → (d == 111) ≡ false
digit-no_letter d h =
    let low = leb-true d 57 (and_parts (nat_le 48 d) (nat_le d 57) h).1 in
    let e : (d == 111) ≡ false = grind (arith, nat_tests, low) in e

-- digits after `n` don't make it `now`
no-word : (ds : List ℕ) → is_numeral ds ≡ true → bytes_eq ds (codes "ow") ≡ false
no-word [] h = refl
no-word (d ∷ ds) h =
    let all = (and_parts (not (length (d ∷ ds) == 0)) (are_digits (d ∷ ds)) h).1 in
    ap (λ b. b && bytes_eq ds (codes "w")) (digit-no_letter d (and_parts (is_ascii_digit d) (are_digits ds) all).0)

pub count-used : (r : ℕ) → r < 2 ^ 64 → use_of (taken_name r) ≡ SampleCount r
count-used r low =
    ap (λ b. if b then Tick else use_after 110 (decimal r)) (no-word (decimal r) (numeral r low)) ∙ lettered 110 r low
