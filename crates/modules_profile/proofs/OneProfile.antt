-- A system has one profile, and one list of headers of its children.
use Rattle.std.specs.Prelude.{◌≡◌, ℕ, zero, suc, ◌-◌, ◌/◌, ◌%◌, ◌^◌, ◌<◌, List, [], ◌∷◌, map, Contains, IsBitSet, Option, ◌↔◌}
use Rattle.std.specs.List.{AllZip}
use Rattle.std.specs.Int.{bit_at}
use Rattle.std.proofs.Common.{refl, sym, ap, ap₂, subst, ◌∙◌, arith}
use native.Mathlib.Decide.{ℕ_discrete}
use Rattle.std.proofs.lemmas.Nat.Bits.{bit_at-lt, bit_at-suc, bit_at_lowest}
use Rattle.base_core.specs.declared.Port.{Port}
use Rattle.base_graph.proofs.lemmas.Bits.{one-from_set, set-from_one}
use Rattle.diagram_meaning.specs.Diagram.{Diagram}
use Rattle.diagram_meaning.specs.Rows.{outports_of}
use Rattle.diagram_meaning.specs.Needs.{TrueNeeds, IsMaskOf}
use Rattle.modules_profile.specs.Functions.{functions_for, IsProfileOf}
use Rattle.modules_profile.specs.SystemHeader.{SystemHeader}
use Rattle.modules_profile.specs.Headers.{header_of}
use Rattle.modules_profile.specs.NodeFacts.{ProfilesAreOne, HeadersAreOne}

-- numbers with the same bits are one
bits_equal : (w m n : ℕ) → m < 2 ^ w → n < 2 ^ w → ((k : ℕ) → k < w → bit_at m k ≡ bit_at n k) → m ≡ n
bits_equal zero m n low other same = omega arith
bits_equal (suc w) m n low other same =
    let half : m / 2 ≡ n / 2 =
    bits_equal w (m / 2) (n / 2) (omega arith) (omega arith) (λ k below. sym (bit_at-suc m k)
    ∙ same (suc k) (omega arith) ∙ bit_at-suc n k) in
    let lowest : m % 2 ≡ n % 2 = sym (bit_at_lowest m) ∙ same 0 (omega arith) ∙ bit_at_lowest n in
    omega (arith, half, lowest)

same_bit : (m n k : ℕ) → (IsBitSet m k → IsBitSet n k) → (IsBitSet n k → IsBitSet m k) → bit_at m k ≡ bit_at n k
same_bit m n k to from = by (bit_at m k) (bit_at n k) refl refl
  where
    by : (r q : ℕ) → bit_at m k ≡ r → bit_at n k ≡ q → bit_at m k ≡ bit_at n k
    by zero zero e f = e ∙ sym f
    by (suc zero) (suc zero) e f = e ∙ sym f
    by zero (suc zero) e f = let one : bit_at m k ≡ 1 = one-from_set m k (from (set-from_one n k f)) in one ∙ sym f
    by (suc zero) zero e f = let one : bit_at n k ≡ 1 = one-from_set n k (to (set-from_one m k e)) in e ∙ sym one
    by (suc (suc r)) q e f = absurd (let low = bit_at-lt m k in omega (arith, low, e))
    by zero (suc (suc q)) e f = absurd (let low = bit_at-lt n k in omega (arith, low, f))
    by (suc zero) (suc (suc q)) e f = absurd (let low = bit_at-lt n k in omega (arith, low, f))

one_mask : (inputs : Port → Type 0) (m n : ℕ) → IsMaskOf inputs m → IsMaskOf inputs n → m ≡ n
one_mask inputs m n a b = bits_equal 34 m n a.bounded b.bounded same
  where
    through : {P : Type 0} (k : ℕ) → IsBitSet m k ↔ P → IsBitSet n k ↔ P → bit_at m k ≡ bit_at n k
    through k p q = same_bit m n k (λ set. q.1 (p.0 set)) (λ set. p.1 (q.0 set))

    same : (k : ℕ) → k < 34 → bit_at m k ≡ bit_at n k
    same k below = elim (ℕ_discrete 33 k) [
      | yes last ↦ subst (λ i. bit_at m i ≡ bit_at n i) last (through 33 a.trigger b.trigger)
      | no early ↦ elim (ℕ_discrete 32 k) [
        | yes control ↦ subst (λ i. bit_at m i ≡ bit_at n i) control (through 32 a.enable b.enable)
        | no number ↦ let place : suc k - 1 ≡ k = omega arith in
            subst (λ i. bit_at m i ≡ bit_at n i) place
            (through (suc k - 1) (a.number (suc k) (omega arith) (omega arith))
            (b.number (suc k) (omega arith) (omega arith)))
      ]
    ]

pub one_needs : (d : Diagram) (s : Option ℕ) (outputs ms ns : List ℕ) →
    AllZip (λ o mask. IsMaskOf (TrueNeeds d s o) mask) outputs ms →
    AllZip (λ o mask. IsMaskOf (TrueNeeds d s o) mask) outputs ns → ms ≡ ns
one_needs d s [] [] [] a b = refl
one_needs d s [] [] (n ∷ ns) a b = absurd b
one_needs d s [] (m ∷ ms) ns a b = absurd a
one_needs d s (o ∷ outputs) [] ns a b = absurd a
one_needs d s (o ∷ outputs) (m ∷ ms) [] a b = absurd b
one_needs d s (o ∷ outputs) (m ∷ ms) (n ∷ ns) a b = ap₂ ◌∷◌ (one_mask (TrueNeeds d s o) m n a.0 b.0) (one_needs d s outputs ms ns a.1 b.1)

pub profiles_are_one : ProfilesAreOne
profiles_are_one d s p q a b =
    ap₂ (λ row functions. record { row = row; functions = functions }) (a.row ∙ sym b.row)
    (a.functions ∙ ap functions_for (one_needs d s (outports_of d.rows s) a.needs b.needs a.are_needs b.are_needs) ∙ sym b.functions)

abbrev IsHeader : Diagram → SystemHeader → Type 0
IsHeader d h = (h ≡ header_of d h.row h.profile) × IsProfileOf d h.row h.profile

one_header : (d : Diagram) (h g : SystemHeader) → IsHeader d h → IsHeader d g → h.row ≡ g.row → h ≡ g
one_header d h g a b same =
    a.0 ∙ ap₂ (header_of d) same
    (profiles_are_one d g.row h.profile g.profile (subst (λ (s : Option ℕ). IsProfileOf d s h.profile) same a.1)
    b.1) ∙ sym b.0

abbrev first_row : List (Option ℕ) → Option ℕ → Option ℕ
first_row [] other = other
first_row (row ∷ rows) other = row

abbrev later_rows : List (Option ℕ) → List (Option ℕ)
later_rows [] = []
later_rows (row ∷ rows) = rows

one_list : (d : Diagram) (hs gs : List SystemHeader) → ((h : SystemHeader) → Contains hs h → IsHeader d h) →
    ((h : SystemHeader) → Contains gs h → IsHeader d h) → map (λ h. h.row) hs ≡ map (λ h. h.row) gs → hs ≡ gs
one_list d [] [] a b rows = refl
one_list d [] (g ∷ gs) a b rows = absurd (let wrong : ⊥ = cc rows in wrong)
one_list d (h ∷ hs) [] a b rows = absurd (let wrong : ⊥ = cc rows in wrong)
one_list d (h ∷ hs) (g ∷ gs) a b rows =
    ap₂ ◌∷◌ (one_header d h g (a h (0, omega arith, refl)) (b g (0, omega arith, refl)) (ap (λ xs. first_row xs h.row) rows))
    (one_list d hs gs (λ x c. a x (suc c.0, omega (arith, c.1), c.2)) (λ x c. b x (suc c.0, omega (arith, c.1), c.2)) (ap later_rows rows))

pub headers_are_one : HeadersAreOne
headers_are_one d s headers others a b = one_list d headers others a.each b.each (a.rows ∙ sym b.rows)
