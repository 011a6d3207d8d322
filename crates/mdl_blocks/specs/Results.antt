-- Results in memory as plain ones.
use Rattle.std.specs.Prelude.{◌≡◌, Result}
use Rattle.std.specs.Result.{result_map_both}

-- a result in memory gives this value as a plain one, or this error
abbrev pub Gives : {A B E : Type 0} → (A → B) → Result A E → Result B E → Type 0
Gives plain result meaning = result_map_both plain (λ fault. fault) result ≡ meaning
