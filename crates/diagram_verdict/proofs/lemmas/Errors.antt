-- Errors of results.
use Rattle.std.specs.Prelude.{IfErr, Result, Ok, Err}
use Rattle.std.specs.Result.{IsErrAnd}

-- what holds of the error that is there
pub error-is : {X E : Type 0} (P Q : E → Type 0) → ((e : E) → P e → Q e) → (r : Result X E) → IsErrAnd r P → IfErr r Q
error-is P Q f (Ok x) h = tt
error-is P Q f (Err e) h = f e h
