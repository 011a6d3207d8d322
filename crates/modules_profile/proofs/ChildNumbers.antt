-- Members with different numbers: each is found by its own.
use Rattle.std.specs.Prelude.{◌≡◌, ℕ, suc, true, cond, List, [], ◌∷◌, map, find, Contains, Option, Some, None, refl}
use Rattle.std.proofs.Common.{sym, ap, subst, ◌∙◌, arith, inl, inr, true≢false}
use Rattle.std.proofs.lemmas.Bool.{eq-eqb, eqb-true, ne_eqb}
use Rattle.modules_clusters.specs.Grouping.{AreDifferent}
use Rattle.diagram_meaning.specs.Rows.{is_system}
use Rattle.modules_profile.proofs.lemmas.Members.{in-none, in-cases, at-in, number-of}
use Rattle.modules_profile.proofs.lemmas.LawfulSteps.{differ-at}

-- a system that is that of row e
pub system-is : (s : Option ℕ) (e : ℕ) → is_system s e ≡ true → s ≡ Some e
system-is None e is = absurd (true≢false (sym is))
system-is (Some f) e is = ap Some (eqb-true f e is)

module _ {A : Type 0} (number : A → Option ℕ) where
  -- a member is found by its number
  pub found-numbered : (xs : List A) (ns : List ℕ) (x : A) (n : ℕ) → map number xs ≡ map Some ns → AreDifferent ns →
      Contains xs x → number x ≡ Some n → find (λ y. is_system (number y) n) xs ≡ Some x
  found-numbered [] ns x n are differ h is = absurd (in-none x h)
  found-numbered (y ∷ xs) [] x n are differ h is = absurd (let wrong : ⊥ = cc are in wrong)
  found-numbered (y ∷ xs) (m ∷ ns) x n are differ h is = elim (in-cases y x xs h) [
    | inl same ↦
        ap (λ t. cond t (Some y) (find (λ z. is_system (number z) n) xs))
        (ap (λ o. is_system o n) (ap number same ∙ is) ∙ eq-eqb n n refl) ∙ ap Some same
    | inr later ↦
        let first : number y ≡ Some m = cc are in
        let rest : map number xs ≡ map Some ns = cc are in
        let own = number-of number xs ns x rest later in
        let which : own.0 ≡ n = (let e : Some own.0 ≡ Some n = sym own.2 ∙ is in cc e) in
        let other : m ≡ n → ⊥ = λ e.
        let at = at-in ns n (subst (Contains ns) which own.1) in
        let one : 0 ≡ suc at.0 = differ-at (m ∷ ns) 0 (suc at.0) n differ (ap Some e) at.1 in omega (arith, one)
        in
        ap (λ t. cond t (Some y) (find (λ z. is_system (number z) n) xs)) (ap (λ o. is_system o n) first ∙ ne_eqb m n other)
        ∙ found-numbered xs ns x n rest (λ i j less below. differ (suc i) (suc j) (omega arith) (omega arith)) later is
  ]
