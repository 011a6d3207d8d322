-- Two parameters have one name just where they are for the same.
use Rattle.std.proofs.Common.{◌≡◌, ◌≢◌, ℕ, ◌<◌, ◌^◌, Bool, true, false, eqb, List, [], ◌∷◌, bytes_eq, decimal, refl, sym, ap, ◌∙◌, inl, inr}
use Rattle.std.specs.Cmp.Lexicographic.{same_text, other_text}
use Rattle.std.proofs.lemmas.List.{append_cancel_left}
use Rattle.std.proofs.lemmas.Bool.Decides.{eqb_tells}
use Rattle.std.proofs.lemmas.Fmt.{decimal_injective}
use Rattle.emit_shape.specs.Names.{input_name}

bytes-same : (a b : List ℕ) → a ≡ b → bytes_eq a b ≡ true
bytes-same a b e = by (bytes_eq a b) refl
  where
    by : (t : Bool) → bytes_eq a b ≡ t → t ≡ true
    by true q = refl
    by false q = absurd (other_text a b (sym q) e)

bytes-apart : (a b : List ℕ) → a ≢ b → bytes_eq a b ≡ false
bytes-apart a b apart = by (bytes_eq a b) refl
  where
    by : (t : Bool) → bytes_eq a b ≡ t → t ≡ false
    by true q = absurd (apart (same_text a b (sym q)))
    by false q = refl

pub inputs-same : (j k : ℕ) → j < 2 ^ 64 → k < 2 ^ 64 → bytes_eq (input_name j) (input_name k) ≡ eqb j k
inputs-same j k low high = elim (eqb_tells j k) [
  | inl same ↦ bytes-same (input_name j) (input_name k) (ap input_name same.1) ∙ sym same.0
  | inr apart ↦
      bytes-apart (input_name j) (input_name k)
      (λ e. apart.1 (decimal_injective j k low high (append_cancel_left (117 ∷ []) (decimal j) (decimal k) e)))
      ∙ sym apart.0
]
