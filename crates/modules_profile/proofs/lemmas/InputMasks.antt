-- Masks of inputs and controls, and the bits of own Inports.
use Rattle.std.specs.Prelude.{◌≡◌, ℕ, zero, suc, ◌+◌, ◌-◌, ◌*◌, ◌/◌, ◌%◌, ◌^◌, ◌<◌, ◌≤◌, IsTrue, List, [], ◌∷◌, ◌++◌, length, get_or, take, IsBitSet, ◌↔◌, refl}
use Rattle.std.specs.List.{AllZip}
use Rattle.std.proofs.Common.{arith, sym, ap, subst, ◌∙◌, inl, inr, length-append, true≢false}
use Rattle.std.proofs.Math.Nat.{div-eq_of_lt-le, pow-suc}
use Rattle.std.proofs.lemmas.Bool.{cases_lt}
use Rattle.std.proofs.lemmas.List.{get_or-append_right, get_or_append_left, take_more}
use Rattle.std.proofs.lemmas.List.Elements.{AllZip-push}
use Rattle.std.proofs.lemmas.Nat.{pow_apart}
use Rattle.std.specs.Int.Bits.{bit_or, and_zero_l}
use Rattle.base_core.specs.declared.Control.{Control}
use Rattle.base_core.specs.declared.Control.TheVariants.{Plain, Enabled, Triggered, Both}
use Rattle.base_graph.proofs.lemmas.Bits.{set-from_one, or-left, or-right, or-cases}
use Rattle.diagram_meaning.specs.Rows.{is_enabled, is_triggered}
use Rattle.diagram_meaning.specs.Needs.{IsMaskOf}
use Rattle.modules_profile.specs.declared.local.LocalRow.{LocalRow}
use Rattle.base_core.specs.Ports.{control_ports, ports_mask}
use Rattle.modules_profile.specs.NodeInputs.{inputs_of, IsInportAt, AreInputBits}

-- ---- Bits of own Inports

pub no-bit : (k : ℕ) → IsBitSet 0 k → ⊥
no-bit k set = set (and_zero_l (2 ^ k))

pub bits-none : (rows : List LocalRow) → AreInputBits rows 0 []
bits-none rows = record { len = refl; bits = λ a k below. absurd (omega arith) }

pub bits-more : (rows : List LocalRow) (n m x : ℕ) (xs : List ℕ) → m ≡ n + 1 →
    ((k : ℕ) → IsBitSet x k ↔ ((k < 32) × IsInportAt rows n (suc k))) → AreInputBits rows n xs →
    AreInputBits rows m (xs ++ x ∷ [])
bits-more rows n m x xs e bit are = record {
  len = let l = are.len in length-append xs (x ∷ []) ∙ omega arith;
  bits = λ a k below. elim (cases_lt a n) [
    | inl before ↦
        let at : get_or (xs ++ x ∷ []) a 0 ≡ get_or xs a 0 = get_or_append_left xs (x ∷ []) 0 a (let l = are.len in omega arith) in
        subst (λ y. IsBitSet y k ↔ ((k < 32) × IsInportAt rows a (suc k))) (sym at) (are.bits a k before)
    | inr last ↦
        let same : n ≡ a = omega arith in
        let at : get_or (xs ++ x ∷ []) n 0 ≡ x = get_or-append_right xs (x ∷ []) n n 0 are.len (omega arith)
        ∙ ap (λ q. get_or (x ∷ []) q 0) (let z : n - n ≡ 0 = omega arith in z) in
        subst (λ q. IsBitSet (get_or (xs ++ x ∷ []) q 0) k ↔ ((k < 32) × IsInportAt rows q (suc k))) same
        (subst (λ y. IsBitSet y k ↔ ((k < 32) × IsInportAt rows n (suc k))) (sym at) (bit k))
  ];
}

-- ---- A number without high bits is low

no-high : (m j : ℕ) → m < 2 ^ suc j → (IsBitSet m j → ⊥) → m < 2 ^ j
no-high m j below none = elim (cases_lt m (2 ^ j)) [
  | inl low ↦ low
  | inr high ↦
      let twice : 2 ^ suc j ≡ 2 ^ j * 2 = pow-suc 2 j in
      let one : m / 2 ^ j ≡ 1 = div-eq_of_lt-le {k = 1} (2 ^ j) {m = m} (omega (arith, high)) (omega (arith, below, twice)) in
      absurd (none (set-from_one m j (ap (λ q. q % 2) one)))
]

all-low : (n m : ℕ) → m < 2 ^ (34 + n) → ((k : ℕ) → 34 ≤ k → IsBitSet m k → ⊥) → m < 2 ^ 34
all-low zero m below none = below
all-low (suc n) m below none =
    let e : 34 + suc n ≡ suc (34 + n) = omega arith in
    all-low n m (no-high m (34 + n) (subst (λ q. m < 2 ^ q) e below) (none (34 + n) (omega arith))) none

-- ---- The bits of the controls

one-bit : (i k : ℕ) → IsBitSet (2 ^ i) k → k ≡ i
one-bit i k set = elim (cases_lt i k) [
  | inl high ↦ absurd (set (pow_apart i k (λ e. omega (arith, e, high))))
  | inr low ↦ elim (cases_lt k i) [ inl less ↦ absurd (set (pow_apart i k (λ e. omega (arith, e, less)))) | inr more ↦ omega arith ]
]

control-bits : (c : Control) (k : ℕ) → IsBitSet (ports_mask (control_ports c)) k → (32 ≤ k) × (k < 34)
control-bits Plain k set = absurd (no-bit k set)
control-bits (Enabled reset) k set = let e : k ≡ 32 = one-bit 32 k set in (omega arith, omega arith)
control-bits (Triggered edge) k set = let e : k ≡ 33 = one-bit 33 k set in (omega arith, omega arith)
control-bits (Both reset edge) k set = elim (or-cases (2 ^ 32) (2 ^ 33) k set) [
  | inl enable ↦ let e : k ≡ 32 = one-bit 32 k enable in (omega arith, omega arith)
  | inr trigger ↦ let e : k ≡ 33 = one-bit 33 k trigger in (omega arith, omega arith)
]

control-enable : (c : Control) → IsBitSet (ports_mask (control_ports c)) 32 ↔ IsTrue (is_enabled c)
control-enable Plain = (λ b. absurd (b refl), λ t. absurd (true≢false (sym t)))
control-enable (Enabled reset) = (λ b. refl, λ t e. let no : 2 ^ 32 ≡ 0 = e in omega arith)
control-enable (Triggered edge) = (λ b. absurd (b refl), λ t. absurd (true≢false (sym t)))
control-enable (Both reset edge) = (λ b. refl, λ t e. let no : 2 ^ 32 ≡ 0 = e in omega arith)

control-trigger : (c : Control) → IsBitSet (ports_mask (control_ports c)) 33 ↔ IsTrue (is_triggered c)
control-trigger Plain = (λ b. absurd (b refl), λ t. absurd (true≢false (sym t)))
control-trigger (Enabled reset) = (λ b. absurd (b refl), λ t. absurd (true≢false (sym t)))
control-trigger (Triggered edge) = (λ b. refl, λ t e. let no : 2 ^ 33 ≡ 0 = e in omega arith)
control-trigger (Both reset edge) = (λ b. refl, λ t e. let no : 2 ^ 33 ≡ 0 = e in omega arith)

-- ---- Inputs by number with the controls

pub mask-with : (numbers : ℕ → Type 0) (control : Control) (m : ℕ) →
    ((k : ℕ) → IsBitSet m k ↔ ((k < 32) × numbers (suc k))) → bit_or m (ports_mask (control_ports control)) < 2 ^ 64 →
    IsMaskOf (inputs_of numbers control) (bit_or m (ports_mask (control_ports control)))
mask-with numbers control m bits fits = record {
  bounded =
      all-low 30 (bit_or m (ports_mask (control_ports control))) fits
      (λ k high bit. elim (or-cases m (ports_mask (control_ports control)) k bit) [
        | inl own ↦ let low = ((bits k).0 own).0 in omega (arith, low, high)
        | inr theirs ↦ let low = (control-bits control k theirs).1 in omega (arith, low, high)
      ]);
  number = λ k above most.
      let same : suc (k - 1) ≡ k = omega arith in (
        λ bit. elim (or-cases m (ports_mask (control_ports control)) (k - 1) bit) [
          | inl own ↦ subst numbers same ((bits (k - 1)).0 own).1
          | inr theirs ↦ absurd (let high = (control-bits control (k - 1) theirs).0 in omega (arith, high, above, most))
        ],
        λ t. or-left m (ports_mask (control_ports control)) (k - 1)
            ((bits (k - 1)).1 ((let q = most in omega arith), subst numbers (sym same) t)),
      );
  enable = (
    λ bit. elim (or-cases m (ports_mask (control_ports control)) 32 bit) [
      | inl own ↦ absurd (let low = ((bits 32).0 own).0 in omega (arith, low))
      | inr theirs ↦ (control-enable control).0 theirs
    ],
    λ t. or-right m (ports_mask (control_ports control)) 32 ((control-enable control).1 t),
  );
  trigger = (
    λ bit. elim (or-cases m (ports_mask (control_ports control)) 33 bit) [
      | inl own ↦ absurd (let low = ((bits 33).0 own).0 in omega (arith, low))
      | inr theirs ↦ (control-trigger control).0 theirs
    ],
    λ t. or-right m (ports_mask (control_ports control)) 33 ((control-trigger control).1 t),
  );
}

-- ---- Masks at some places

abbrev pub AreMasksAt : List ℕ → ℕ → List ℕ → List ℕ → Type 0
AreMasksAt reached control places masks = AllZip (λ b mask. (mask ≡ bit_or (get_or reached b 0) control) × (mask < 2 ^ 64)) places masks

pub masks-more : (reached : List ℕ) (control : ℕ) (places masks more : List ℕ) (i : ℕ) → i < length places →
    ((b : ℕ) → bit_or (get_or reached b 0) control < 2 ^ 64) →
    more ≡ masks ++ bit_or (get_or reached (get_or places i 0) 0) control ∷ [] →
    AreMasksAt reached control (take i places) masks → AreMasksAt reached control (take (i + 1) places) more
masks-more reached control places masks more i inside fits e h =
    let mask : ℕ = bit_or (get_or reached (get_or places i 0) 0) control in
    subst (AreMasksAt reached control (take (i + 1) places)) (sym e)
    (subst (λ l. AreMasksAt reached control l (masks ++ mask ∷ [])) (sym (take_more places i 0 inside))
    (AllZip-push (λ b mask. (mask ≡ bit_or (get_or reached b 0) control) × (mask < 2 ^ 64)) (take i places) masks
    (get_or places i 0) mask h (refl, fits (get_or places i 0))))
