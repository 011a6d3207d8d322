-- The least of more and more numbers.
use Rattle.std.specs.Prelude.{◌≡◌, ℕ, suc, ◌<◌, min, Option, Some, None, ◌⊎◌, refl}
use Rattle.std.proofs.Common.{arith, sym, ap, subst, ◌∙◌, inl, inr}
use Rattle.diagram_needs.specs.Least.{IsLeastOf, lesser_of}
use Rattle.diagram_needs.proofs.Comparing.{le-or-above}

-- c is the key of one of the first i places that pass the test
abbrev pub IsAmong : (test : ℕ → Type 0) (key : ℕ → ℕ) (i c : ℕ) → Type 0
IsAmong test key i c = (e : ℕ) × (e < i) × test e × (c ≡ key e)

module _ (test : ℕ → Type 0) (key : ℕ → ℕ) where
  pub least-init : IsLeastOf (IsAmong test key 0) None
  least-init = λ b h. absurd (let l = h.1 in omega arith)

  last-or : (i c : ℕ) → IsAmong test key (suc i) c → IsAmong test key i c ⊎ (test i × (c ≡ key i))
  last-or i c h = elim (le-or-above i h.0) [
    | inl up ↦ let same : h.0 ≡ i = (let l = h.1 in omega arith) in inr (subst test same h.2, h.3 ∙ ap key same)
    | inr down ↦ inl (h.0, down, h.2, h.3)
  ]

  further : (i c : ℕ) → IsAmong test key i c → IsAmong test key (suc i) c
  further i c h = (h.0, (let l = h.1 in omega arith), h.2, h.3)

  pub least-pass : (i : ℕ) (found : Option ℕ) → (test i → ⊥) → IsLeastOf (IsAmong test key i) found →
      IsLeastOf (IsAmong test key (suc i)) found
  least-pass i None fails h = λ b m. elim (last-or i b m) [ inl before ↦ h b before | inr now ↦ fails now.0 ]
  least-pass i (Some a) fails h =
      (further i a h.0, λ b m. elim (last-or i b m) [ inl before ↦ h.1 b before | inr now ↦ absurd (fails now.0) ])

  pub least-take : (i : ℕ) (found : Option ℕ) → test i → IsLeastOf (IsAmong test key i) found →
      IsLeastOf (IsAmong test key (suc i)) (Some (lesser_of found (key i)))
  least-take i None passes h = (
    (i, omega arith, passes, refl),
    λ b m. elim (last-or i b m) [ inl before ↦ absurd (h b before) | inr now ↦ let e = now.1 in omega arith ],
  )
  least-take i (Some a) passes h = (
    elim (le-or-above a (key i)) [
      | inl low ↦ let e : min a (key i) ≡ a = omega arith in subst (λ n. IsAmong test key (suc i) n) (sym e) (further i a h.0)
      | inr high ↦ (i, omega arith, passes, omega arith)
    ],
    λ b m. elim (last-or i b m) [ inl before ↦ let l = h.1 b before in omega arith | inr now ↦ let e = now.1 in omega arith ],
  )

-- the same numbers have the same least
pub least-same : (p q : ℕ → Type 0) (found : Option ℕ) → ((b : ℕ) → p b → q b) → ((b : ℕ) → q b → p b) →
    IsLeastOf p found → IsLeastOf q found
least-same p q None to from h = λ b m. h b (from b m)
least-same p q (Some a) to from h = (to a h.0, λ b m. h.1 b (from b m))
