-- Results one after another: the first error ends them.
use Rattle.std.specs.Prelude.{Result, Ok, Err}

infixl 20 ◌>>=◌
infixl 20 ◌>>◌
-- goes on with the result, unless there is an error
abbrev pub ◌>>=◌ : {A B E : Type 0} → Result A E → (A → Result B E) → Result B E
(Ok result >>= go) = go result
(Err fault >>= go) = Err fault

-- goes on if there is no error
abbrev pub ◌>>◌ : {A B E : Type 0} → Result A E → Result B E → Result B E
(Ok result >> next) = next
(Err fault >> next) = Err fault
