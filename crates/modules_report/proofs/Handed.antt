-- A stop that is handed on.
use Rattle.std.proofs.Common.{◌≡◌, ℕ, sym, subst}
use Rattle.std.specs.Prelude.{IfErr, IsErrAnd, Result, Ok, Err}
use Rattle.modules_report.specs.Guesses.{IsLeft}
use Rattle.modules_report.specs.Stops.{OfLeft}
use Rattle.modules_report.specs.declared.stop.Stop.{Stop}
use Rattle.modules_report.specs.declared.stop.Stop.TheVariants.{Left, Memory}

left-more : (s : Stop) (P Q : ℕ → Type 0) → ((left : ℕ) → P left → Q left) → OfLeft s P → OfLeft s Q
left-more (Left n) P Q more h = more n h
left-more Memory P Q more h = tt

not-left : (s : Stop) (Q : ℕ → Type 0) → (IsLeft s → ⊥) → OfLeft s Q
not-left (Left n) Q never = absurd (never tt)
not-left Memory Q never = tt

pub handed : {X : Type 0} (r : Result X Stop) (s : Stop) (P Q : ℕ → Type 0) → IsErrAnd r (λ given. given ≡ s) →
    ((left : ℕ) → P left → Q left) → OfLeft s P → IfErr r (λ stop. OfLeft stop Q)
handed (Ok x) s P Q is more h = tt
handed (Err e) s P Q is more h = subst (λ (t : Stop). OfLeft t Q) (sym is) (left-more s P Q more h)

pub never-left : {X : Type 0} (r : Result X Stop) (s : Stop) (Q : ℕ → Type 0) → IsErrAnd r (λ given. given ≡ s) → (IsLeft s → ⊥) →
    IfErr r (λ stop. OfLeft stop Q)
never-left (Ok x) s Q is never = tt
never-left (Err e) s Q is never = subst (λ (t : Stop). OfLeft t Q) (sym is) (not-left s Q never)
