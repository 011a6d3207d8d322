-- The expression for a row's value, over the leaves of its inputs and an expression for its memory:
-- what `rhs` says, in C.
use Rattle.std.specs.Prelude.{ℕ, suc, ◌-◌, ◌^◌, Bool, true, false, ◌==◌, nat_le, if◌then◌else◌, List, [], ◌∷◌, map, take, slice_get, get_or, Option, Some, None, ℤ, pos, neg_ℤ, int_lt, int_le}
use Rattle.std.specs.Option.{option_and_then, option_map_or}
use Rattle.std.specs.Int.{bit_at}
use Rattle.base_core.specs.declared.Compare.TheVariants.{Eq, Ne, Ge as AtLeast, Gt as Above}
use Rattle.base_fixed_point.specs.declared.FixType.{FixType}
use Rattle.base_fixed_point.specs.declared.Over.{Over}
use Rattle.base_fixed_point.specs.declared.Over.TheVariants.{Saturate, Wrap}
use Rattle.base_fixed_point.specs.Conversion.{least_of, greatest_of}
use Rattle.diagram_blocks.specs.declared.How.{How}
use Rattle.diagram_blocks.specs.declared.Logic.{Logic}
use Rattle.diagram_blocks.specs.declared.Logic.TheVariants.{And, Or, Nand, Nor, Xor, Nxor, Not}
use Rattle.diagram_blocks.specs.declared.Criterion.{Criterion}
use Rattle.diagram_blocks.specs.declared.Criterion.TheVariants.{Ge, Gt, NotZero}
use Rattle.diagram_blocks.specs.declared.Op.{Op}
use Rattle.diagram_blocks.specs.declared.Op.TheVariants.{Copy, Value, Delay, Line, Gain, Sum, Product, Switch, Relational, Logic as Logical, Convert, Nothing}
use Rattle.diagram_blocks.specs.Value.{greatest_in}
use Rattle.c_syntax.specs.declared.BinOp.TheVariants.{Add, Mul}
use Rattle.c_syntax.specs.declared.Leaf.{Leaf}
use Rattle.c_syntax.specs.Tree.{ExprTree, literal, neg, read, binary, pick, pure, CondTree, compare, both, either, negated, exprs_of_list}
use Rattle.emit_prelude.specs.Rules.{rounding_position}
use Rattle.emit_row_code.specs.declared.ranges.Range.{Range}
use Rattle.emit_row_code.specs.Balanced.{balanced}
use Rattle.emit_row_code.specs.Ranges.{just, input_range, gain_range, sum_range, product_range, surely_holds}

-- a number as it is written
abbrev pub written : ℤ → ExprTree
written v = if int_lt v (pos 0) then neg (literal (neg_ℤ v)) else literal v

abbrev pub nought : ExprTree
nought = literal (pos 0)

-- 2 ^ k
abbrev pub power : ℕ → ExprTree
power k = literal (pos (2 ^ k))

-- 1 where a test holds, else 0
abbrev pub truth : CondTree → ExprTree
truth test = pick test (literal (pos 1)) nought

-- ---- Conversion

-- e with f bits after the point in the finer unit of F bits
abbrev pub aligned : ExprTree → ℕ → ℕ → ExprTree
aligned e f F = if f == F then e else binary Mul e (power (F - f))

-- e with f bits after the point as a whole number of units of g bits: rounded by a call where these
-- are coarser
abbrev pub rounded_code : ExprTree → ℕ → ℕ → How → ExprTree
rounded_code e f g how =
    if nat_le f g then aligned e f g
    else pure (rounding_position how.round) (exprs_of_list (e ∷ power (f - g) ∷ []))

-- a whole number brought into a type
abbrev pub cast : Over → FixType → ExprTree → ExprTree
cast Saturate t e = pure 6 (exprs_of_list (e ∷ written (least_of t) ∷ written (greatest_of t) ∷ []))
cast Wrap t e = pure 7 (exprs_of_list (e ∷ written (least_of t) ∷ power t.bits ∷ []))

-- e, of a range and with f bits after the point, converted into a type: without a cast where that
-- surely holds the range
abbrev pub converted : ExprTree → ℕ → Option Range → FixType → How → ExprTree
converted e f range to how =
    let whole = rounded_code e f to.frac how in if surely_holds to f range then whole
    else cast how.over to whole

-- ---- Sums and products

abbrev pub signed : Bool → ExprTree → ExprTree
signed minus e = if minus then neg e else e

-- the terms of a sum in units of F bits, from input i + 1 on; bit i of minus subtracts input i + 1
abbrev pub term_codes : ℕ → ℕ → ℕ → List ℕ → List Leaf → List ExprTree
term_codes minus F i [] leaves = []
term_codes minus F i (f ∷ fs) [] = []
term_codes minus F i (f ∷ fs) (l ∷ leaves) =
    signed (bit_at minus i == 1) (aligned (read l) f F) ∷ term_codes minus F (suc i) fs leaves

abbrev pub sum_code : ℕ → ℕ → List ℕ → List Leaf → ExprTree
sum_code minus F fs leaves = balanced (binary Add) nought (term_codes minus F 0 fs leaves)

abbrev pub product_code : List Leaf → ExprTree
product_code leaves = balanced (binary Mul) (literal (pos 1)) (map read leaves)

-- ---- Truth

abbrev pub is_true_code : ExprTree → CondTree
is_true_code e = compare Ne e nought

-- just one of two tests holds
abbrev pub differ : CondTree → CondTree → CondTree
differ a b = compare Ne (truth a) (truth b)

-- tests that always hold, and never
abbrev pub always : CondTree
always = compare Eq nought nought

abbrev pub never : CondTree
never = compare Ne nought nought

-- all of these tests hold, some of them does, an odd number does
abbrev pub all_hold : List CondTree → CondTree
all_hold = balanced both always

abbrev pub some_holds : List CondTree → CondTree
some_holds = balanced either never

abbrev pub odd_hold : List CondTree → CondTree
odd_hold = balanced differ never

abbrev pub logic_code : Logic → List CondTree → CondTree
logic_code And cs = all_hold cs
logic_code Or cs = some_holds cs
logic_code Nand cs = negated (all_hold cs)
logic_code Nor cs = negated (some_holds cs)
logic_code Xor cs = odd_hold cs
logic_code Nxor cs = negated (odd_hold cs)
logic_code Not cs = negated (some_holds cs)

-- which inputs of a logical operator are true
abbrev pub truths : List Leaf → List CondTree
truths leaves = map (λ l. is_true_code (read l)) leaves

-- whether a switch passes its first input
abbrev pub passes_code : Criterion → ExprTree → ℤ → CondTree
passes_code Ge e threshold = compare AtLeast e (written threshold)
passes_code Gt e threshold = compare Above e (written threshold)
passes_code NotZero e threshold = is_true_code e

-- whether it does for each number of a range alike
abbrev pub passes_all : Criterion → ℤ → Range → Option Bool
passes_all Ge threshold range =
    if int_le threshold range.least then Some true else if int_lt range.greatest threshold
    then Some false else None
passes_all Gt threshold range =
    if int_lt threshold range.least then Some true else if int_le range.greatest threshold
    then Some false else None
passes_all NotZero threshold range = None

-- one of two expressions, by a test where it isn't known which
abbrev pub either_code : Option Bool → CondTree → ExprTree → ExprTree → ExprTree
either_code None test a b = pick test a b
either_code (Some true) test a b = a
either_code (Some false) test a b = b

-- ---- Operations

-- input i + 1; a place past the inputs, which no lawful row reads, counts as 0
abbrev pub input_code : List Leaf → ℕ → ExprTree
input_code leaves i = option_map_or read (slice_get leaves i) nought

-- input i + 1 with f bits after the point converted into a type
abbrev pub converted_input : List Leaf → List FixType → ℕ → ℕ → FixType → How → ExprTree
converted_input leaves types i f to how =
    converted (input_code leaves i) f (input_range types i) to how

-- the inputs have these types, as far as they are known; the last expression stands for what the
-- row remembers, which only delays read
abbrev pub rhs_code : Op → List Leaf → List FixType → ExprTree → ExprTree
rhs_code Copy leaves types memory = input_code leaves 0
rhs_code (Value v) leaves types memory = written v
rhs_code (Delay initial) leaves types memory = memory
rhs_code (Line length start) leaves types memory = memory
rhs_code (Gain m frac to how) leaves types memory =
    converted (binary Mul (input_code leaves 0) (written m)) frac (gain_range m types) to how
rhs_code (Sum count minus fracs to how) leaves types memory =
    let fs = take count fracs in let F = greatest_in fs in
    converted (sum_code minus F fs leaves) F (sum_range minus F 0 fs types (just (pos 0))) to how
rhs_code (Product count frac to how) leaves types memory =
    converted (product_code leaves) frac (product_range count types) to how
rhs_code (Switch criterion threshold fracs to how) leaves types memory =
    either_code (option_and_then (passes_all criterion threshold) (input_range types 1))
    (passes_code criterion (input_code leaves 1) threshold)
    (converted_input leaves types 0 (get_or fracs 0 0) to how)
    (converted_input leaves types 2 (get_or fracs 1 0) to how)
rhs_code (Relational how fracs) leaves types memory =
    let F = greatest_in fracs in
    truth (compare how (aligned (input_code leaves 0) (get_or fracs 0 0) F)
    (aligned (input_code leaves 1) (get_or fracs 1 0) F))
rhs_code (Logical op count) leaves types memory = truth (logic_code op (truths leaves))
rhs_code (Convert frac to how) leaves types memory = converted_input leaves types 0 frac to how
rhs_code Nothing leaves types memory = nought
