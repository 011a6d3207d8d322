-- What the eight pure functions of the emitted code are for.
use Rattle.std.specs.Prelude.{◌≡◌, ℕ, ◌+◌, ◌-◌, ◌^◌, ◌<◌, ◌≤◌, List, [], ◌∷◌, ◌++◌, map, Contains, codes, ℤ, pos, neg_ℤ, ◌+ℤ◌, ◌-ℤ◌, ◌≤ℤ◌, int_lt, unsigned_abs, if◌then◌else◌}
use Rattle.std.specs.List.{AllByRecursion}
use Rattle.std.specs.Int.{int_rem_euclid}
use Rattle.base_fixed_point.specs.declared.Case.{Case}
use Rattle.base_fixed_point.specs.declared.FixType.{FixType}
use Rattle.base_fixed_point.specs.declared.Over.{Over}
use Rattle.base_fixed_point.specs.declared.Over.TheVariants.{Saturate, Wrap}
use Rattle.base_fixed_point.specs.declared.Round.{Round}
use Rattle.base_fixed_point.specs.declared.Round.TheVariants.{Ceiling, Convergent, Floor, Nearest, Zero}
use Rattle.base_fixed_point.specs.declared.Round.TheVariants as round
use Rattle.base_fixed_point.specs.Rounding.{rounded}
use Rattle.base_fixed_point.specs.Conversion.{conv, all_cases, least_of, greatest_of}
use Rattle.c_syntax.specs.Tree.{PureTree}
use Rattle.c_semantics.specs.Values.{gives, and_then, Function, function_at, functions_of, step_limit}
use Rattle.c_syntax.specs.Lawful.{AreDistinct, pure_names, ArePures}
use Rattle.c_syntax.specs.Limits.{PureFits}
use Rattle.emit_prelude.specs.Bodies.{rounding_params}

-- the names of the functions, in order
abbrev pub names : List (List ℕ)
names =
    codes "round_floor" ∷ codes "round_ceiling" ∷ codes "round_zero" ∷ codes "round_nearest"
    ∷ codes "round_away"
    ∷ codes "round_even" ∷ codes "clamp" ∷ codes "wrap" ∷ []

-- the parameters of each: those that round take a number and its divisor
abbrev pub params : List (List (List ℕ))
params =
    rounding_params ∷ rounding_params ∷ rounding_params ∷ rounding_params ∷ rounding_params
    ∷ rounding_params
    ∷ (codes "v" ∷ codes "lo" ∷ codes "hi" ∷ []) ∷ (codes "v" ∷ codes "lo" ∷ codes "n" ∷ []) ∷ []

-- the position of the function of a rounding rule
abbrev pub rounding_position : Round → ℕ
rounding_position Floor = 0
rounding_position Ceiling = 1
rounding_position Zero = 2
rounding_position Nearest = 3
rounding_position round.Round = 4
rounding_position Convergent = 5

-- the function divides by 2 ^ k and rounds by the rule, in one step
abbrev pub Rounds : Round → Function → Type 0
Rounds r f =
    (v : ℤ) (k steps : ℕ) → 1 ≤ k → k ≤ 62 → unsigned_abs v ≤ 2 ^ 62 → steps < step_limit →
    f (v ∷ pos (2 ^ k) ∷ []) steps ≡ gives (rounded r v (2 ^ k)) (steps + 1)

-- the function gives the nearer end of a range for a number outside it, in one step
abbrev pub Clamps : Function → Type 0
Clamps f =
    (v lo hi : ℤ) (steps : ℕ) → steps < step_limit →
    f (v ∷ lo ∷ hi ∷ []) steps ≡ gives (if int_lt v lo then lo else if int_lt hi v then hi else v)
    (steps + 1)

-- the function gives the number from lo on that differs from v by a multiple of 2 ^ w, and by less
-- than that from lo, in one step
abbrev pub Wraps : Function → Type 0
Wraps f =
    (v lo : ℤ) (w steps : ℕ) → 1 ≤ w → w ≤ 32 → neg_ℤ (pos (2 ^ 31)) ≤ℤ lo → lo ≤ℤ pos 0 →
    unsigned_abs v ≤ 2 ^ 62 → steps < step_limit →
    f (v ∷ lo ∷ pos (2 ^ w) ∷ []) steps
    ≡ gives (lo +ℤ int_rem_euclid (v -ℤ lo) (pos (2 ^ w))) (steps + 1)

-- a whole number brought into a type by the function of an overflow rule
abbrev pub cast_call : List Function → Over → FixType → Function
cast_call fs Saturate t vs = function_at fs 6 (vs ++ least_of t ∷ greatest_of t ∷ [])
cast_call fs Wrap t vs = function_at fs 7 (vs ++ least_of t ∷ pos (2 ^ t.bits) ∷ [])

-- for this case a number with more bits after the point than a type has is converted by two
-- functions, in two steps
abbrev pub Converts : List Function → Case → Type 0
Converts fs case =
    (t : FixType) (v : ℤ) (f steps : ℕ) → t.signed ≡ case.signed → 1 ≤ f - t.frac →
    f - t.frac ≤ 62 → unsigned_abs v ≤ 2 ^ 62 → steps + 1 < step_limit →
    and_then (function_at fs (rounding_position case.round) (v ∷ pos (2 ^ (f - t.frac)) ∷ []) steps)
    (λ q count. cast_call fs case.over t (q ∷ []) count)
    ≡ gives (conv v f t case.round case.over) (steps + 2)

-- the eight functions, lawful one after another and within the limits, of which none calls another:
-- each call is one step
pub record IsPrelude (ps : List PureTree) : Type 0 where
  pub named : pure_names ps ≡ names
  pub with_params : map (λ p. p.params) ps ≡ params
  pub distinct : AreDistinct (pure_names ps)
  pub lawful : ArePures [] ps
  pub fits : AllByRecursion PureFits ps
  pub rounds : (r : Round) → Rounds r (function_at (functions_of [] ps) (rounding_position r))
  pub clamps : Clamps (function_at (functions_of [] ps) 6)
  pub wraps : Wraps (function_at (functions_of [] ps) 7)
  pub converts : (case : Case) → Contains all_cases case → Converts (functions_of [] ps) case

-- a whole number is rounded to itself by every rule
abbrev pub WholeNumbersStay : Type 0
WholeNumbersStay = (r : Round) (v : ℤ) → rounded r v 1 ≡ v
