-- The words that parameters of blocks may be, and the numbers that they write.
use Rattle.std.specs.Prelude.{ℕ, ◌==◌, Bool, true, false, ◌&&◌, nat_le, if◌then◌else◌, List, [], ◌∷◌, Option, Some, None, option_and_then, ℤ, pos, negsuc, bytes_eq, codes}
use Rattle.std.specs.Option.{option_map_or}
use Rattle.std.specs.Result.{result_ok}
use Rattle.base_core.specs.declared.Edge.{Edge}
use Rattle.base_core.specs.declared.Edge.TheVariants.{Rising, Falling, Either}
use Rattle.base_core.specs.declared.Compare.{Compare}
use Rattle.base_core.specs.declared.Compare.TheVariants as compare
use Rattle.base_numerals.specs.Literals.{Ratio}
use Rattle.base_fixed_point.specs.declared.Round.{Round}
use Rattle.base_fixed_point.specs.declared.Round.TheVariants as round
use Rattle.base_fixed_point.specs.declared.Over.{Over}
use Rattle.base_fixed_point.specs.declared.Over.TheVariants.{Saturate, Wrap}
use Rattle.base_fixed_point.specs.Rounding.{nearest}
use Rattle.base_fixed_point.specs.Conversion.{fits_32}
use Rattle.diagram_blocks.specs.declared.Logic.{Logic}
use Rattle.diagram_blocks.specs.declared.Logic.TheVariants as logic
use Rattle.diagram_blocks.specs.declared.Criterion.{Criterion}
use Rattle.diagram_blocks.specs.declared.Criterion.TheVariants.{Ge, Gt, NotZero}
use Rattle.mdl_params.specs.Forms.{number_form}

-- ---- Numbers

-- the number that a text writes, if it writes one
abbrev pub number_in : List ℕ → Option Ratio
number_in text = result_ok (number_form text)

-- a fraction as a whole number that isn't below 0
abbrev pub whole_ratio : ℤ → ℕ → Option ℕ
whole_ratio (pos n) den = if den == 1 then Some n else None
whole_ratio (negsuc n) den = None

-- the whole number, not below 0, that a text writes, if it writes one
abbrev pub whole_number : List ℕ → Option ℕ
whole_number text = option_and_then (λ (r : Ratio). whole_ratio r.num r.den) (number_in text)

-- the same of a number from 1 up to a greatest one
abbrev pub number_up_to : ℕ → List ℕ → Option ℕ
number_up_to most text =
    option_and_then (λ n. if nat_le 1 n && nat_le n most then Some n else None) (whole_number text)

-- how many samples a delay remembers, by the text of its length: 1 to 65,535
abbrev pub samples_in : List ℕ → Option ℕ
samples_in text = number_up_to 65_535 text

-- whether a fraction is -1
abbrev pub is_minus_one : ℤ → ℕ → Bool
is_minus_one (pos n) den = false
is_minus_one (negsuc n) den = n == 0 && den == 1

-- whether a text is the number -1
abbrev pub writes_minus_one : List ℕ → Bool
writes_minus_one text =
    option_map_or (λ (r : Ratio). is_minus_one r.num r.den) (number_in text) false

-- the factor of a gain: a number whose nearest whole one fits 32 bits with a sign
abbrev pub factor_in : List ℕ → Option Ratio
factor_in text =
    option_and_then (λ (r : Ratio). if fits_32 (nearest r.num r.den) then Some r else None)
    (number_in text)

-- an initial output: a number, or `[]`, which is 0
abbrev pub initial_output_in : List ℕ → Option Ratio
initial_output_in text =
    if bytes_eq text (codes "[]") then Some (record { num = pos 0; den = 1 }) else number_in text

-- ---- Words, each beside its meaning

-- how a result is rounded
abbrev pub rounds : List (List ℕ × Round)
rounds =
    (codes "Ceiling", round.Ceiling) ∷ (codes "Convergent", round.Convergent)
    ∷ (codes "Floor", round.Floor)
    ∷ (codes "Nearest", round.Nearest) ∷ (codes "Round", round.Round) ∷ (codes "Zero", round.Zero)
    ∷ []

-- what becomes of a result that doesn't fit
abbrev pub overs : List (List ℕ × Over)
overs = (codes "on", Saturate) ∷ (codes "off", Wrap) ∷ []

-- the change of a wire that triggers
abbrev pub edges : List (List ℕ × Edge)
edges = (codes "rising", Rising) ∷ (codes "falling", Falling) ∷ (codes "either", Either) ∷ []

-- whether states or outputs are reset
abbrev pub resets : List (List ℕ × Bool)
resets = (codes "held", false) ∷ (codes "reset", true) ∷ []

-- whether the time of a rate transition's output is inherited
abbrev pub inheritances : List (List ℕ × Bool)
inheritances = (codes "Specify", false) ∷ (codes "Inherit", true) ∷ []

-- how two inputs are compared
abbrev pub comparisons : List (List ℕ × Compare)
comparisons =
    (codes "==", compare.Eq) ∷ (codes "~=", compare.Ne) ∷ (codes "<", compare.Lt)
    ∷ (codes "<=", compare.Le)
    ∷ (codes ">=", compare.Ge) ∷ (codes ">", compare.Gt) ∷ []

-- the operators over truth values
abbrev pub logics : List (List ℕ × Logic)
logics =
    (codes "AND", logic.And) ∷ (codes "OR", logic.Or) ∷ (codes "NAND", logic.Nand)
    ∷ (codes "NOR", logic.Nor)
    ∷ (codes "XOR", logic.Xor) ∷ (codes "NXOR", logic.Nxor) ∷ (codes "NOT", logic.Not) ∷ []

-- when a switch passes its first input
abbrev pub criteria : List (List ℕ × Criterion)
criteria =
    (codes "u2 >= Threshold", Ge) ∷ (codes "u2 > Threshold", Gt) ∷ (codes "u2 ~= 0", NotZero) ∷ []
