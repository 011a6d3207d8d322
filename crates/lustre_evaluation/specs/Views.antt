-- What expressions see.
use Rattle.std.specs.Prelude.{Bool, true, false, List, ℤ, map, Option, Some, None}

-- the values of the tick before, none at the first
abbrev pub before_by : (begun : Bool) → List ℤ → Option (List (Option ℤ))
before_by false numbers = None
before_by true numbers = Some (map Some numbers)
