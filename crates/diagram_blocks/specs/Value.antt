-- What a row computes from the values of its inputs and the first of what it remembers.
use Rattle.std.specs.Prelude.{ℕ, suc, ◌-◌, ◌^◌, max, Bool, true, false, not, ◌==◌, if◌then◌else◌, List, [], ◌∷◌, take, map, fold, get_or, ℤ, pos, ◌+ℤ◌, ◌*ℤ◌, neg_ℤ, int_lt, int_le}
use Rattle.std.specs.Ordering.{int_eq}
use Rattle.std.specs.Int.{bit_at}
use Rattle.std.specs.List.{list_all, list_any}
use Rattle.base_core.specs.declared.Compare.{Compare}
use Rattle.base_core.specs.declared.Compare.TheVariants.{Eq, Ne, Lt, Le, Ge as AtLeast, Gt as Above}
use Rattle.base_fixed_point.specs.declared.FixType.{FixType}
use Rattle.diagram_blocks.specs.declared.kind.How.{How}
use Rattle.diagram_blocks.specs.declared.kind.Logic.{Logic}
use Rattle.diagram_blocks.specs.declared.kind.Logic.TheVariants.{And, Or, Nand, Nor, Xor, Nxor, Not}
use Rattle.diagram_blocks.specs.declared.kind.Criterion.{Criterion}
use Rattle.diagram_blocks.specs.declared.kind.Criterion.TheVariants.{Ge, Gt, NotZero}
use Rattle.diagram_blocks.specs.declared.op.Op.{Op}
use Rattle.diagram_blocks.specs.declared.op.Op.TheVariants.{Copy, Value, Delay, Line, Gain, Sum, Product, Switch, Relational, Logic as Logical, Convert, Nothing}
use Rattle.base_fixed_point.specs.Conversion.{conv, over_units}

-- the number v of f fraction bits, brought into a type as the block says
abbrev pub conversion : ℤ → ℕ → FixType → How → ℤ
conversion v f to how = conv v f to how.round how.over

-- the greatest number of a list, 0 where there is none
abbrev pub greatest_in : List ℕ → ℕ
greatest_in = fold max 0

-- a term of a sum with its sign
abbrev pub signed_term : Bool → ℤ → ℤ
signed_term minus v = if minus then neg_ℤ v else v

-- the exact sum in units of 2^-F, of the inputs from input i + 1 on; bit i of minus subtracts input
-- i + 1
abbrev pub exact_sum : ℕ → ℕ → ℕ → List ℕ → List ℤ → ℤ
exact_sum minus F i fs [] = pos 0
exact_sum minus F i [] (v ∷ vs) = pos 0
exact_sum minus F i (f ∷ fs) (v ∷ vs) =
    signed_term (bit_at minus i == 1) (over_units v f F) +ℤ exact_sum minus F (suc i) fs vs

-- the exact product
abbrev pub exact_product : List ℤ → ℤ
exact_product = fold ◌*ℤ◌ (pos 1)

-- whether two exact numbers in one unit compare so
abbrev pub compares : Compare → ℤ → ℤ → Bool
compares Eq u v = int_eq u v
compares Ne u v = not (int_eq u v)
compares Lt u v = int_lt u v
compares Le u v = int_le u v
compares AtLeast u v = int_le v u
compares Above u v = int_lt v u

-- a number is true where it isn't 0
abbrev pub is_true : ℤ → Bool
is_true v = not (int_eq v (pos 0))

-- whether a switch passes its first input
abbrev pub passes : Criterion → ℤ → ℤ → Bool
passes Ge u threshold = int_le threshold u
passes Gt u threshold = int_lt threshold u
passes NotZero u threshold = is_true u

-- whether just one of two truth values is true
abbrev pub xor : Bool → Bool → Bool
xor false b = b
xor true b = not b

-- whether an odd number of them is true
abbrev pub odd_trues : List Bool → Bool
odd_trues = fold xor false

-- a logical operator over truth values; exclusive or is true for an odd number of true ones
abbrev pub logic_of : Logic → List Bool → Bool
logic_of And bs = list_all (λ b. b) bs
logic_of Or bs = list_any (λ b. b) bs
logic_of Nand bs = not (list_all (λ b. b) bs)
logic_of Nor bs = not (list_any (λ b. b) bs)
logic_of Xor bs = odd_trues bs
logic_of Nxor bs = not (odd_trues bs)
logic_of Not bs = not (list_any (λ b. b) bs)

-- 1 for true, 0 for false
abbrev pub number_of_bool : Bool → ℤ
number_of_bool true = pos 1
number_of_bool false = pos 0

-- input i + 1; a place past the inputs, which no lawful row reads, counts as 0
abbrev pub input : List ℤ → ℕ → ℤ
input vs i = get_or vs i (pos 0)

-- the value of a row from the values of its inputs and the first of what it remembers
abbrev pub rhs : Op → List ℤ → ℤ → ℤ
rhs Copy vs memory = input vs 0
rhs (Value v) vs memory = v
rhs (Delay initial) vs memory = memory
rhs (Line length start) vs memory = memory
rhs (Gain m frac to how) vs memory = conversion (input vs 0 *ℤ m) frac to how
rhs (Sum count minus fracs to how) vs memory =
    let F = greatest_in (take count fracs) in
    conversion (exact_sum minus F 0 (take count fracs) vs) F to how
rhs (Product count frac to how) vs memory = conversion (exact_product (take count vs)) frac to how
rhs (Switch criterion threshold fracs to how) vs memory =
    if passes criterion (input vs 1) threshold
    then conversion (input vs 0) (get_or fracs 0 0) to how
    else conversion (input vs 2) (get_or fracs 1 0) to how
rhs (Relational compare fracs) vs memory =
    let F = greatest_in fracs in
    number_of_bool (compares compare (over_units (input vs 0) (get_or fracs 0 0) F)
    (over_units (input vs 1) (get_or fracs 1 0) F))
rhs (Logical op count) vs memory = number_of_bool (logic_of op (map is_true (take count vs)))
rhs (Convert frac to how) vs memory = conversion (input vs 0) frac to how
rhs Nothing vs memory = pos 0

-- whether the value at a tick is made from the inputs of the same tick
abbrev pub feeds_through : Op → Bool
feeds_through (Delay initial) = false
feeds_through (Line length start) = false
feeds_through _ = true
