-- What the outputs of a system need, by its functions.
use Rattle.std.specs.Prelude.{ℕ, if◌then◌else◌, List, [], ◌∷◌}
use Rattle.modules_profile.specs.declared.Function.{Function}
use Rattle.base_core.specs.Ports.{has_bit}

-- the inputs of the first function that gives output k + 1, and none where no function does
abbrev pub need_of : List Function → ℕ → ℕ
need_of [] k = 0
need_of (f ∷ functions) k = if has_bit f.outputs k then f.inputs else need_of functions k
