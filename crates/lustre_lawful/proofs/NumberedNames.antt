-- Classes of names by their first letters, and names that tell the numbers in them.
use Rattle.std.specs.Prelude.{◌≡◌, ℕ, zero, suc, ◌^◌, ◌<◌, Bool, true, false, ◌==◌, nat_eq, List, [], ◌∷◌, ◌++◌, length, codes, decimal}
use Rattle.std.specs.List.{list_any}
use Rattle.std.proofs.Common.{refl, sym, ◌∙◌, ap, subst, arith, length-append}
use Rattle.std.proofs.lemmas.Fmt.{decimal_injective, decimal_nonempty}
use Rattle.std.proofs.lemmas.List.{append_cancel_left}
use Rattle.emit_shape.specs.Names.{value_name}
use Rattle.lustre_system.specs.Names.{sample_name, part_name}
use Rattle.lustre_lawful.proofs.Texts.{first_byte, number_text, number-alone}

-- ---- Classes of texts

-- the first letters of inputs: of `now`, `on`, `off`, `u` with a number, `ctl` and `trg`
abbrev pub is_input_text : List ℕ → Bool
is_input_text x = list_any (nat_eq (first_byte x)) (codes "nouct")

abbrev pub begins : ℕ → List ℕ → Bool
begins letter x = first_byte x == letter

-- no digit comes after the first letter
abbrev pub is_empty : List ℕ → Bool
is_empty [] = true
is_empty (d ∷ ds) = false

abbrev pub is_bare : List ℕ → Bool
is_bare x = is_empty (number_text x)

-- ---- Numbers in names

pub value-injective : (j k : ℕ) → j < 2 ^ 64 → k < 2 ^ 64 → value_name j ≡ value_name k → j ≡ k
value-injective j k low high same =
    decimal_injective j k low high (sym (number-alone 118 j low) ∙ ap number_text same ∙ number-alone 118 k high)

after-bar : (front : List ℕ) (j k : ℕ) → j < 2 ^ 64 → k < 2 ^ 64 → front ++ decimal j ≡ front ++ decimal k → j ≡ k
after-bar front j k low high same = decimal_injective j k low high (append_cancel_left front (decimal j) (decimal k) same)

longer : (front more : List ℕ) → front ≡ (front ++ 95 ∷ []) ++ more → ⊥
longer front more same =
    let one = length-append (front ++ 95 ∷ []) more in
    let two = length-append front (95 ∷ []) in
    let both = ap length same in omega (arith, one, two, both)

pub sample-injective : (b j k : ℕ) → j < 2 ^ 64 → k < 2 ^ 64 → sample_name b j ≡ sample_name b k → j ≡ k
sample-injective b zero zero low high same = refl
sample-injective b zero (suc k) low high same = absurd (longer (109 ∷ decimal b) (decimal (suc k)) same)
sample-injective b (suc j) zero low high same = absurd (longer (109 ∷ decimal b) (decimal (suc j)) (sym same))
sample-injective b (suc j) (suc k) low high same = after-bar (109 ∷ decimal b ++ 95 ∷ []) (suc j) (suc k) low high same

pub part-injective : (b j k : ℕ) → j < 2 ^ 64 → k < 2 ^ 64 → part_name b j ≡ part_name b k → j ≡ k
part-injective b j k low high same = after-bar (113 ∷ decimal b ++ 95 ∷ []) j k low high same

pub not-bare : (x : List ℕ) (n : ℕ) → n < 2 ^ 64 → number_text x ≡ decimal n → is_bare x ≡ false
not-bare x n small is = by (number_text x) (subst (λ ds. 0 < length ds) (sym is) (decimal_nonempty n small))
  where
    by : (ds : List ℕ) → 0 < length ds → is_empty ds ≡ false
    by [] some = absurd (omega (arith, some))
    by (d ∷ ds) some = refl
