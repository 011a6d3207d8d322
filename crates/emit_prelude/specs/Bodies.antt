-- What the eight pure functions return, as plain trees. In the six that round, v is the first
-- parameter and d the second, a positive number; `/` and `%` take no numbers that don't fit.
use Rattle.std.specs.Prelude.{ℕ, List, [], ◌∷◌, codes, pos}
use Rattle.base_core.specs.declared.Compare.TheVariants.{Eq, Ne, Lt, Le, Ge, Gt}
use Rattle.c_syntax.specs.declared.BinOp.TheVariants.{Add, Sub, Div, Rem}
use Rattle.c_syntax.specs.declared.Leaf.TheVariants.{Param}
use Rattle.c_syntax.specs.Tree.{ExprTree, literal, neg, read, binary, pick, CondTree, compare, both, either, PureTree}

-- a parameter
-- parameter k
abbrev pub argument : ℕ → ExprTree
argument k = read (Param k)

-- v / d
abbrev pub quotient : ExprTree
quotient = binary Div (argument 0) (argument 1)

-- v % d
abbrev pub rest : ExprTree
rest = binary Rem (argument 0) (argument 1)

-- d / 2
abbrev pub half : ExprTree
half = binary Div (argument 1) (literal (pos 2))

-- -(d / 2)
abbrev pub minus_half : ExprTree
minus_half = neg half

-- one above the quotient
abbrev pub one_above : ExprTree
one_above = binary Add quotient (literal (pos 1))

-- one below the quotient
abbrev pub one_below : ExprTree
one_below = binary Sub quotient (literal (pos 1))

-- the quotient, one lower where it was cut from below 0
abbrev pub floor_body : ExprTree
floor_body = pick (compare Lt rest (literal (pos 0))) one_below quotient

-- the quotient, one higher where it was cut from above 0
abbrev pub ceiling_body : ExprTree
ceiling_body = pick (compare Gt rest (literal (pos 0))) one_above quotient

-- the quotient, which is cut toward 0
abbrev pub zero_body : ExprTree
zero_body = quotient

-- one above where the first test holds, else one below where the second one does
abbrev pub nearer : CondTree → CondTree → ExprTree
nearer up down = pick up one_above (pick down one_below quotient)

-- the nearest, ties up
abbrev pub nearest_body : ExprTree
nearest_body = nearer (compare Ge rest half) (compare Lt rest minus_half)

-- the nearest, ties away from 0
abbrev pub away_body : ExprTree
away_body = nearer (compare Ge rest half) (compare Le rest minus_half)

-- the quotient is odd
abbrev pub is_odd : CondTree
is_odd = compare Ne (binary Rem quotient (literal (pos 2))) (literal (pos 0))

-- more than half above the quotient, or half above an odd one
abbrev pub nearer_above : CondTree
nearer_above = either (compare Gt rest half) (both (compare Eq rest half) is_odd)

-- more than half below the quotient, or half below an odd one
abbrev pub nearer_below : CondTree
nearer_below = either (compare Lt rest minus_half) (both (compare Eq rest minus_half) is_odd)

-- the nearest, ties to even
abbrev pub even_body : ExprTree
even_body = nearer nearer_above nearer_below

-- v in lo to hi
abbrev pub clamp_body : ExprTree
clamp_body =
    pick (compare Lt (argument 0) (argument 1)) (argument 1)
    (pick (compare Gt (argument 0) (argument 2)) (argument 2) (argument 0))

-- (v - lo) % n
abbrev pub offset_rest : ExprTree
offset_rest = binary Rem (binary Sub (argument 0) (argument 1)) (argument 2)

-- v in lo to lo + n - 1
abbrev pub wrap_body : ExprTree
wrap_body =
    pick (compare Lt offset_rest (literal (pos 0)))
    (binary Add (binary Add offset_rest (argument 2)) (argument 1))
    (binary Add offset_rest (argument 1))

-- a pure function; which line its text is on is left to the printer
abbrev pub function_with : List ℕ → List (List ℕ) → ExprTree → PureTree
function_with name params body = record { name = name; params = params; body = body; line = 0 }

-- a number and its divisor
abbrev pub rounding_params : List (List ℕ)
rounding_params = codes "v" ∷ codes "d" ∷ []

-- the eight functions
abbrev pub function_trees : List PureTree
function_trees =
    function_with (codes "round_floor") rounding_params floor_body
    ∷ function_with (codes "round_ceiling") rounding_params ceiling_body
    ∷ function_with (codes "round_zero") rounding_params zero_body
    ∷ function_with (codes "round_nearest") rounding_params nearest_body
    ∷ function_with (codes "round_away") rounding_params away_body
    ∷ function_with (codes "round_even") rounding_params even_body
    ∷ function_with (codes "clamp") (codes "v" ∷ codes "lo" ∷ codes "hi" ∷ []) clamp_body
    ∷ function_with (codes "wrap") (codes "v" ∷ codes "lo" ∷ codes "n" ∷ []) wrap_body
    ∷ []
