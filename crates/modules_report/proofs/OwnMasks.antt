-- A set of inputs of a system, as a number, is that of those of its ports which are members.
use Rattle.std.proofs.Common.{◌≡◌, ◌⊎◌, ◌↔◌, ℕ, zero, suc, ◌+◌, ◌-◌, ◌*◌, ◌%◌, ◌^◌, ◌<◌, ◌≤◌, IsTrue, Bool, true, false, cond, List, [], ◌∷◌, ◌++◌, map, filter, bit_and, sym, ap, ap₂, subst, ◌∙◌, arith, inl, inr}
use Rattle.std.specs.Prelude.{sum}
use Rattle.std.specs.Int.{bit_at, IsBitSet}
use Rattle.std.specs.List.{range_with_len}
use Rattle.std.proofs.lemmas.Bool.{cases_eq, false≢true}
use Rattle.std.proofs.lemmas.List.{map-append}
use Rattle.std.proofs.lemmas.List.Elements.{filter-append}
use Rattle.std.proofs.lemmas.List.Sums.{sum_by-append}
use Rattle.std.proofs.lemmas.Nat.{mod-pow-add, pow_pos}
use Rattle.std.proofs.lemmas.Nat.Bits.{and_pow, bit_at-lt}
use Rattle.std.proofs.Math.Nat.{mod-eq_of_lt}
use Rattle.base_core.specs.declared.Control.{Control}
use Rattle.base_core.specs.declared.Control.TheVariants.{Plain, Enabled, Triggered, Both}
use Rattle.base_core.specs.declared.Port.{Port}
use Rattle.base_core.specs.declared.Port.TheVariants.{Number, Enable, Trigger}
use Rattle.diagram_meaning.specs.Rows.{is_enabled, is_triggered}
use Rattle.base_core.specs.Ports.{bit_of, control_ports, has_bit, ports_in, ports_mask}
use Rattle.modules_report.proofs.SameNeeds.{set-bit}

range-more : (a n j : ℕ) → a + n ≡ j → range_with_len a (suc n) ≡ range_with_len a n ++ j ∷ []
range-more a zero j e = ap (λ k. k ∷ []) (let same : a ≡ j = omega arith in same)
range-more a (suc n) j e = ap (λ ks. a ∷ ks) (range-more (a + 1) n j (omega arith))

module _ (mask : ℕ) where
  is-one : (k : ℕ) → (bit_at mask k ≡ 1) ⊎ (bit_at mask k ≡ 0)
  is-one k = elim (cases_eq (bit_at mask k) 1) [
    | inl one ↦ inl one
    | inr other ↦ inr (let most = bit_at-lt mask k in omega (arith, most, other))
  ]

  unset : (k : ℕ) → (IsBitSet mask k → ⊥) → bit_at mask k ≡ 0
  unset k not_set = elim (is-one k) [
    | inl one ↦
        absurd (not_set (λ none. (let p = pow_pos k in let e : bit_and mask (2 ^ k) ≡ 1 * 2 ^ k = and_pow mask k
        ∙ ap (λ b. b * 2 ^ k) one in
        omega (arith, p, e, none))))
    | inr zero_bit ↦ zero_bit
  ]

  abbrev pub weight : List Port → ℕ
  weight ps = ports_mask (ports_in mask ps)

  one-port : (p : Port) (t : Bool) → has_bit mask (bit_of p) ≡ t → bit_at mask (bit_of p) ≡ cond t 1 0 →
      sum (map (λ q. 2 ^ bit_of q) (filter (λ q. has_bit mask (bit_of q)) (p ∷ []))) ≡ bit_at mask (bit_of p) * 2 ^ bit_of p
  one-port p true is bit =
      ap (λ (t : Bool). sum (map (λ q. 2 ^ bit_of q) (cond t (p ∷ []) []))) is
      ∙ (let e : 0 + 2 ^ bit_of p ≡ 1 * 2 ^ bit_of p = omega arith in e) ∙ ap (λ b. b * 2 ^ bit_of p) (sym bit)
  one-port p false is bit =
      ap (λ (t : Bool). sum (map (λ q. 2 ^ bit_of q) (cond t (p ∷ []) []))) is
      ∙ (let e : 0 ≡ 0 * 2 ^ bit_of p = omega arith in e) ∙ ap (λ b. b * 2 ^ bit_of p) (sym bit)

  weight-one : (p : Port) → weight (p ∷ []) ≡ bit_at mask (bit_of p) * 2 ^ bit_of p
  weight-one p = elim (is-one (bit_of p)) [
    | inl one ↦ one-port p true (set-bit mask (bit_of p) true one) one
    | inr none ↦ one-port p false (set-bit mask (bit_of p) false none) none
  ]

  pub weight-append : (ps qs : List Port) → weight (ps ++ qs) ≡ weight ps + weight qs
  weight-append ps qs =
      ap ports_mask (filter-append (λ q. has_bit mask (bit_of q)) ps qs)
      ∙ ap sum (map-append (λ q. 2 ^ bit_of q) (ports_in mask ps) (ports_in mask qs))
      ∙ sum_by-append (λ x. x) (map (λ q. 2 ^ bit_of q) (ports_in mask ps)) (map (λ q. 2 ^ bit_of q) (ports_in mask qs))

  pub weight-numbers : (n : ℕ) → weight (map Number (range_with_len 1 n)) ≡ mask % 2 ^ n
  weight-numbers zero = omega arith
  weight-numbers (suc n) =
      ap (λ (ks : List ℕ). weight (map Number ks)) (range-more 1 n (suc n) (omega arith))
      ∙ ap weight (map-append Number (range_with_len 1 n) (suc n ∷ []))
      ∙ weight-append (map Number (range_with_len 1 n)) (Number (suc n) ∷ [])
      ∙ ap₂ (λ x y. x + y) (weight-numbers n) (weight-one (Number (suc n))
      ∙ ap (λ k. bit_at mask k * 2 ^ k) (let e : suc n - 1 ≡ n = omega arith in e))
      ∙ (let more = mod-pow-add mask 1 n in let e : 1 + n ≡ suc n = omega arith in
      add-swap (mask % 2 ^ n) (bit_at mask n * 2 ^ n) ∙ sym more
      ∙ ap (λ k. mask % 2 ^ k) e)
    where
      add-swap : (x y : ℕ) → x + y ≡ y + x
      add-swap x y = omega arith

  -- no bit from n on up to n + k
  gap : (n k : ℕ) → ((j : ℕ) → n ≤ j → j < n + k → bit_at mask j ≡ 0) → mask % 2 ^ (n + k) ≡ mask % 2 ^ n
  gap n zero none = ap (λ m. mask % 2 ^ m) (let e : n + 0 ≡ n = omega arith in e)
  gap n (suc k) none =
      ap (λ m. mask % 2 ^ m) (let e : n + suc k ≡ 1 + (n + k) = omega arith in e) ∙ mod-pow-add mask 1 (n + k)
      ∙ ap (λ b. b * 2 ^ (n + k) + mask % 2 ^ (n + k)) (none (n + k) (omega arith) (omega arith))
      ∙ (let e : 0 * 2 ^ (n + k) + mask % 2 ^ (n + k) ≡ mask % 2 ^ (n + k) = omega arith in e)
      ∙ gap n k (λ j low high. none j low (omega (arith, high)))

  whole : mask < 2 ^ 34 → mask ≡ bit_at mask 33 * 2 ^ 33 + (bit_at mask 32 * 2 ^ 32 + mask % 2 ^ 32)
  whole small = sym (mod-eq_of_lt small) ∙ mod-pow-add mask 1 33 ∙ ap (λ x. bit_at mask 33 * 2 ^ 33 + x) (mod-pow-add mask 1 32)

  -- the weight of the numbered ports
  numbered : (inputs : ℕ) → inputs ≤ 32 → ((k : ℕ) → inputs < k → k ≤ 32 → IsBitSet mask (k - 1) → ⊥) →
      weight (map Number (range_with_len 1 inputs)) ≡ mask % 2 ^ 32
  numbered inputs few none =
      weight-numbers inputs
      ∙ sym (gap inputs (32 - inputs) (λ j low high. unset j (λ set. none (suc j) (omega (arith, low)) (omega
      (arith, high, few)) (subst (IsBitSet mask) (let e : j ≡ suc j - 1 = omega arith in e) set))))
      ∙ ap (λ m. mask % 2 ^ m) (let e : inputs + (32 - inputs) ≡ 32 = omega (arith, few) in e)

  controlled : (control : Control) → (IsBitSet mask 32 ↔ IsTrue (is_enabled control)) → (IsBitSet mask 33 ↔ IsTrue (is_triggered control)) →
      weight (control_ports control) ≡ bit_at mask 33 * 2 ^ 33 + bit_at mask 32 * 2 ^ 32
  controlled Plain enable trigger =
      sym (ap₂ (λ x y. x * 2 ^ 33 + y * 2 ^ 32) (unset 33 (λ set. false≢true (trigger.0 set)))
      (unset 32 (λ set. false≢true (enable.0 set))))
  controlled (Enabled reset) enable trigger =
      weight-one Enable ∙ (let e : bit_at mask 32 * 2 ^ 32 ≡ 0 * 2 ^ 33 + bit_at mask 32 * 2 ^ 32 = omega arith in e)
      ∙ sym (ap (λ x. x * 2 ^ 33 + bit_at mask 32 * 2 ^ 32) (unset 33 (λ set. false≢true (trigger.0 set))))
  controlled (Triggered edge) enable trigger =
      weight-one Trigger ∙ (let e : bit_at mask 33 * 2 ^ 33 ≡ bit_at mask 33 * 2 ^ 33 + 0 * 2 ^ 32 = omega arith in e)
      ∙ sym (ap (λ x. bit_at mask 33 * 2 ^ 33 + x * 2 ^ 32) (unset 32 (λ set. false≢true (enable.0 set))))
  controlled (Both reset edge) enable trigger =
      weight-append (Enable ∷ []) (Trigger ∷ []) ∙ ap₂ (λ x y. x + y) (weight-one Enable) (weight-one Trigger)
      ∙ (let e : bit_at mask 32 * 2 ^ 32 + bit_at mask 33 * 2 ^ 33 ≡ bit_at mask 33 * 2 ^ 33 + bit_at mask 32 * 2 ^ 32 = omega arith in e)

  pub own-mask : mask < 2 ^ 34 → (inputs : ℕ) → inputs ≤ 32 → ((k : ℕ) → inputs < k → k ≤ 32 → IsBitSet mask (k - 1) → ⊥) →
      (control : Control) → (IsBitSet mask 32 ↔ IsTrue (is_enabled control)) → (IsBitSet mask 33 ↔ IsTrue (is_triggered control)) →
      ports_mask (ports_in mask (map Number (range_with_len 1 inputs) ++ control_ports control)) ≡ mask
  own-mask small inputs few none control enable trigger =
      weight-append (map Number (range_with_len 1 inputs)) (control_ports control)
      ∙ ap₂ (λ x y. x + y) (numbered inputs few none) (controlled control enable trigger)
      ∙ (let all = whole small in let e : mask % 2 ^ 32 + (bit_at mask 33 * 2 ^ 33 + bit_at mask 32 * 2 ^ 32)
      ≡ bit_at mask 33 * 2 ^ 33 + (bit_at mask 32 * 2 ^ 32 + mask % 2 ^ 32) = omega arith in e)
      ∙ sym (whole small)
