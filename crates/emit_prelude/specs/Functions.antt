-- The eight pure functions, each by its name, its parameters and what it returns.
use Rattle.std.specs.Prelude.{ℕ, List, [], ◌∷◌, codes}
use Rattle.c_syntax.specs.Tree.{ExprTree, PureTree}
use Rattle.emit_prelude.specs.Bodies.{function_with, rounding_params, floor_body, ceiling_body, zero_body, nearest_body, away_body, even_body, clamp_body, wrap_body}
use Rattle.emit_prelude.specs.declared.function.Function.{Function}
use Rattle.emit_prelude.specs.declared.function.Function.TheVariants.{Floor, Ceiling, Zero, Nearest, Away, Even, Clamp, Wrap}

abbrev pub name_of : Function → List ℕ
name_of Floor = codes "round_floor"
name_of Ceiling = codes "round_ceiling"
name_of Zero = codes "round_zero"
name_of Nearest = codes "round_nearest"
name_of Away = codes "round_away"
name_of Even = codes "round_even"
name_of Clamp = codes "clamp"
name_of Wrap = codes "wrap"

abbrev pub params_of : Function → List (List ℕ)
params_of Clamp = codes "v" ∷ codes "lo" ∷ codes "hi" ∷ []
params_of Wrap = codes "v" ∷ codes "lo" ∷ codes "n" ∷ []
params_of _ = rounding_params

abbrev pub body_of : Function → ExprTree
body_of Floor = floor_body
body_of Ceiling = ceiling_body
body_of Zero = zero_body
body_of Nearest = nearest_body
body_of Away = away_body
body_of Even = even_body
body_of Clamp = clamp_body
body_of Wrap = wrap_body

abbrev pub tree_of : Function → PureTree
tree_of f = function_with (name_of f) (params_of f) (body_of f)
