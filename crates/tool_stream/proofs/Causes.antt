-- Counts of errors, and results that hand an error on.
use Rattle.std.proofs.Common.{◌≡◌, ap, sym, subst, ℕ}
use Rattle.std.specs.Prelude.{Result, Err}
use Rattle.base_host.specs.Faults.{HasCauseOf}

-- a call before which the count stayed, and whose error is handed on
pub cause_handed : {T U E : Type 0} (error : E) (before between now : ℕ) (result : Result T E) (fault : E) → result ≡ Err fault →
    between ≡ before → HasCauseOf {T = U} error between now (Err fault) → HasCauseOf error before now result
cause_handed {T} {U} {E} error before between now result fault is same cause =
    subst (λ (r : Result T E). HasCauseOf error before now r) (sym is)
    (subst (λ n. HasCauseOf {T = T} error n now (Err fault)) same
    (record {
      later = cause.later;
      failed = λ e. cause.failed (let one : fault ≡ error = cc in ap (λ f. Err f) one);
      calm = λ other. cause.calm (λ e. let one : fault ≡ error = cc in other (ap (λ f. Err f) one));
    }))
