-- Without a loop it is decided whether a row reaches another.
use Rattle.std.specs.Prelude.{◌≡◌, ◌⊎◌, ℕ, zero, suc, List, [], ◌∷◌, Contains, refl}
use Rattle.std.proofs.Common.{subst, inl, inr}
use Rattle.std.proofs.lemmas.Bool.{cases_eq}
use Rattle.diagram_meaning.specs.Walk.{Walk, Reaches}
use Rattle.diagram_meaning.proofs.lemmas.Walks.{Within}
use Rattle.right_any_system.proofs.Decided.{Decided, any-decided}

module _ (needs : ℕ → List ℕ) (z : ℕ) where
  -- a row reaches z by one that it needs
  abbrev Through : ℕ → Type 0
  Through b = (c : ℕ) × Contains (needs b) c × Reaches needs c z

  through : (b : ℕ) → Through b → (path : List ℕ) × Walk needs b path z
  through b (c, need, inl same) = ([], subst (Contains (needs b)) same need)
  through b (c, need, inr (path, walk)) = (c ∷ path, (need, walk))

  by-one : (b : ℕ) (path : List ℕ) → Walk needs b path z → Through b
  by-one b [] need = (z, need, inl refl)
  by-one b (c ∷ path) walk = (c, walk.0, inr (path, walk.1))

  pub reaches-decided : (n b : ℕ) → Within needs n b → Decided (Reaches needs b z)
  reaches-decided zero b short = absurd short
  reaches-decided (suc n) b short =
      by (cases_eq b z) (any-decided (λ c. Reaches needs c z) (needs b) (λ c m. reaches-decided n c (short c m)))
    where
      by : (b ≡ z) ⊎ (b ≡ z → ⊥) → Decided (Through b) → Decided (Reaches needs b z)
      by (inl same) later = inl (inl same)
      by (inr other) (inl way) = inl (inr (through b way))
      by (inr other) (inr none) = inr (λ r. elim r [ inl same ↦ other same | inr walk ↦ none (by-one b walk.0 walk.1) ])
