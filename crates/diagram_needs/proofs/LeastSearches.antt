-- The least number of which something holds, by a search that ends.
use Rattle.std.specs.Prelude.{ℕ, zero, suc, ◌<◌, Option, Some, None, ◌⊎◌, refl}
use Rattle.std.proofs.Common.{sym, subst, inl, inr}
use Rattle.diagram_needs.specs.Least.{IsLeastOf, lesser_of}
use Rattle.diagram_needs.proofs.LeastSteps.{IsAmong, least-init, least-pass, least-take, least-same}

-- p holds or fails
abbrev pub Decided : Type 0 → Type 0
Decided p = (p → ⊥) ⊎ p

module _ (p : ℕ → Type 0) (decide : (b : ℕ) → Decided (p b)) where
  least-among : (i : ℕ) → (found : Option ℕ) × IsLeastOf (IsAmong p (λ b. b) i) found
  least-among zero = (None, least-init p (λ b. b))
  least-among (suc i) = let before = least-among i in elim (decide i) [
    | inl fails ↦ (before.0, least-pass p (λ b. b) i before.0 fails before.1)
    | inr passes ↦ (Some (lesser_of before.0 i), least-take p (λ b. b) i before.0 passes before.1)
  ]

  -- where it holds of none from n on, the least is found
  pub least-found : (n : ℕ) → ((b : ℕ) → p b → b < n) → (found : Option ℕ) × IsLeastOf p found
  least-found n below =
      let among = least-among n in
      (among.0, least-same (IsAmong p (λ b. b) n) p among.0 (λ b m. subst p (sym m.3) m.2) (λ b h. (b, below b h, h, refl)) among.1)
