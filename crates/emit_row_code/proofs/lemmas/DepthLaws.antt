-- How deep the expressions of rows are.
use Rattle.std.proofs.Common.{ℕ, zero, suc, ◌+◌, ◌-◌, ◌≤◌, ◌==◌, nat_le, Bool, true, false, if◌then◌else◌, List, [], ◌∷◌, take, map, get_or, ℤ, pos, neg_ℤ, int_lt, arith}
use Rattle.std.specs.Int.{bit_at}
use Rattle.std.specs.List.{AllByRecursion}
use Rattle.base_fixed_point.specs.declared.FixType.{FixType}
use Rattle.base_fixed_point.specs.declared.Over.{Over}
use Rattle.base_fixed_point.specs.declared.Over.TheVariants.{Saturate, Wrap}
use Rattle.base_fixed_point.specs.Conversion.{least_of, greatest_of}
use Rattle.diagram_blocks.specs.declared.Criterion.{Criterion}
use Rattle.diagram_blocks.specs.declared.Criterion.TheVariants.{Ge, Gt, NotZero}
use Rattle.diagram_blocks.specs.declared.How.{How}
use Rattle.diagram_blocks.specs.declared.Logic.{Logic}
use Rattle.diagram_blocks.specs.declared.Logic.TheVariants.{And, Or, Nand, Nor, Xor, Nxor, Not}
use Rattle.diagram_blocks.specs.declared.Op.TheVariants.{Copy, Value, Delay, Line, Gain, Sum, Product, Switch, Relational, Logic as Logical, Convert, Nothing}
use Rattle.diagram_blocks.specs.Value.{greatest_in}
use Rattle.c_syntax.specs.declared.BinOp.TheVariants.{Add, Mul}
use Rattle.c_syntax.specs.declared.Leaf.{Leaf}
use Rattle.c_syntax.specs.Tree.{ExprTree, CondTree, literal, neg, read, binary, pure, both, either, exprs_of_list}
use Rattle.c_syntax.specs.Limits.{expr_depth, cond_depth}
use Rattle.emit_prelude.specs.Rules.{rounding_position}
use Rattle.emit_row_code.specs.RowCode.{written, nought, power, aligned, rounded_code, cast, converted, signed, term_codes, sum_code, product_code, differ, always, never, all_hold, some_holds, odd_hold, truths, logic_code, passes_code, passes_all, either_code, input_code, converted_input}
use Rattle.std.specs.Prelude.{Option, Some, None}
use Rattle.std.specs.Option.{option_and_then}
use Rattle.emit_row_code.specs.declared.ranges.Range.{Range}
use Rattle.emit_row_code.specs.Ranges.{just, input_range, gain_range, sum_range, product_range, surely_holds}
use Rattle.emit_row_code.specs.Laws.{RowsAreShallow}
use Rattle.emit_row_code.proofs.lemmas.BalancedLaws.{balanced_size}

pub written_depth : (v : ℤ) → expr_depth (written v) ≤ 2
written_depth v = by (int_lt v (pos 0))
  where
    by : (b : Bool) → expr_depth (if b then neg (literal (neg_ℤ v)) else literal v) ≤ 2
    by true = omega arith
    by false = omega arith

input_depth : (leaves : List Leaf) (i : ℕ) → expr_depth (input_code leaves i) ≤ 1
input_depth [] i = omega arith
input_depth (l ∷ leaves) zero = omega arith
input_depth (l ∷ leaves) (suc i) = input_depth leaves i

aligned_depth : (e : ExprTree) (f F d : ℕ) → expr_depth e ≤ d → 1 ≤ d → expr_depth (aligned e f F) ≤ d + 1
aligned_depth e f F d h some = by (f == F)
  where
    by : (b : Bool) → expr_depth (if b then e else binary Mul e (power (F - f))) ≤ d + 1
    by true = omega (arith, h)
    by false = omega (arith, h, some)

rounded_depth : (e : ExprTree) (f g : ℕ) (how : How) (d : ℕ) → expr_depth e ≤ d → 1 ≤ d → expr_depth (rounded_code e f g how) ≤ d + 1
rounded_depth e f g how d h some = by (nat_le f g)
  where
    by : (b : Bool) →
        expr_depth (if b then aligned e f g
        else pure (rounding_position how.round) (exprs_of_list (e ∷ power (f - g) ∷ []))) ≤ d + 1
    by true = aligned_depth e f g d h some
    by false = omega (arith, h, some)

cast_depth : (over : Over) (t : FixType) (e : ExprTree) (d : ℕ) → expr_depth e ≤ d → 2 ≤ d → expr_depth (cast over t e) ≤ d + 1
cast_depth Saturate t e d h some = let low = written_depth (least_of t) in let high = written_depth (greatest_of t) in
    omega (arith, h, some, low, high)
cast_depth Wrap t e d h some = let low = written_depth (least_of t) in omega (arith, h, some, low)

converted_depth : (e : ExprTree) (f : ℕ) (range : Option Range) (to : FixType) (how : How) (d : ℕ) → expr_depth e ≤ d → 1 ≤ d →
    expr_depth (converted e f range to how) ≤ d + 1 + 1
converted_depth e f range to how d h some = by (surely_holds to f range)
  where
    whole : expr_depth (rounded_code e f to.frac how) ≤ d + 1
    whole = rounded_depth e f to.frac how d h some

    by : (held : Bool) →
        expr_depth (if held then rounded_code e f to.frac how else cast how.over to (rounded_code e f to.frac how)) ≤ d + 1 + 1
    by true = omega (arith, whole)
    by false = cast_depth how.over to (rounded_code e f to.frac how) (d + 1) whole (omega (arith, some))

signed_depth : (minus : Bool) (e : ExprTree) (d : ℕ) → expr_depth e ≤ d → expr_depth (signed minus e) ≤ d + 1
signed_depth true e d h = omega (arith, h)
signed_depth false e d h = omega (arith, h)

terms_depth : (minus F i : ℕ) (fs : List ℕ) (leaves : List Leaf) → AllByRecursion (λ e. expr_depth e ≤ 3) (term_codes minus F i fs leaves)
terms_depth minus F i [] leaves = tt
terms_depth minus F i (f ∷ fs) [] = tt
terms_depth minus F i (f ∷ fs) (l ∷ leaves) = (
  signed_depth (bit_at minus i == 1) (aligned (read l) f F) 2
      (aligned_depth (read l) f F 1 (omega arith) (omega arith)),
  terms_depth minus F (suc i) fs leaves,
)

sum_depth : (minus F : ℕ) (fs : List ℕ) (leaves : List Leaf) → expr_depth (sum_code minus F fs leaves) ≤ 7
sum_depth minus F fs leaves =
    balanced_size (binary Add) expr_depth 1 (λ a b d some p q. omega (arith, some, p, q)) 3 nought
    (term_codes minus F 0 fs leaves) (omega arith) (omega arith) (terms_depth minus F 0 fs leaves)

reads_depth : (leaves : List Leaf) → AllByRecursion (λ e. expr_depth e ≤ 1) (map read leaves)
reads_depth [] = tt
reads_depth (l ∷ leaves) = (omega arith, reads_depth leaves)

product_depth : (leaves : List Leaf) → expr_depth (product_code leaves) ≤ 5
product_depth leaves =
    balanced_size (binary Mul) expr_depth 1 (λ a b d some p q. omega (arith, some, p, q)) 1 (literal (pos 1))
    (map read leaves) (omega arith) (omega arith) (reads_depth leaves)

truths_depth : (leaves : List Leaf) → AllByRecursion (λ t. cond_depth t ≤ 2) (truths leaves)
truths_depth [] = tt
truths_depth (l ∷ leaves) = (omega arith, truths_depth leaves)

all_depth : (leaves : List Leaf) → cond_depth (all_hold (truths leaves)) ≤ 6
all_depth leaves =
    balanced_size both cond_depth 1 (λ a b d some p q. omega (arith, some, p, q)) 2 always (truths leaves) (omega arith)
    (omega arith) (truths_depth leaves)

some_depth : (leaves : List Leaf) → cond_depth (some_holds (truths leaves)) ≤ 6
some_depth leaves =
    balanced_size either cond_depth 1 (λ a b d some p q. omega (arith, some, p, q)) 2 never (truths leaves)
    (omega arith) (omega arith) (truths_depth leaves)

odd_depth : (leaves : List Leaf) → cond_depth (odd_hold (truths leaves)) ≤ 10
odd_depth leaves =
    balanced_size differ cond_depth 2 (λ a b d some p q. omega (arith, some, p, q)) 2 never (truths leaves)
    (omega arith) (omega arith) (truths_depth leaves)

logic_depth : (op : Logic) (leaves : List Leaf) → cond_depth (logic_code op (truths leaves)) ≤ 11
logic_depth And leaves = let h = all_depth leaves in omega (arith, h)
logic_depth Or leaves = let h = some_depth leaves in omega (arith, h)
logic_depth Nand leaves = let h = all_depth leaves in omega (arith, h)
logic_depth Nor leaves = let h = some_depth leaves in omega (arith, h)
logic_depth Xor leaves = let h = odd_depth leaves in omega (arith, h)
logic_depth Nxor leaves = let h = odd_depth leaves in omega (arith, h)
logic_depth Not leaves = let h = some_depth leaves in omega (arith, h)

passes_depth : (criterion : Criterion) (leaves : List Leaf) (threshold : ℤ) →
    cond_depth (passes_code criterion (input_code leaves 1) threshold) ≤ 3
passes_depth Ge leaves threshold = let h = input_depth leaves 1 in let k = written_depth threshold in omega (arith, h, k)
passes_depth Gt leaves threshold = let h = input_depth leaves 1 in let k = written_depth threshold in omega (arith, h, k)
passes_depth NotZero leaves threshold = let h = input_depth leaves 1 in omega (arith, h)

converted_input_depth : (leaves : List Leaf) (types : List FixType) (i f : ℕ) (to : FixType) (how : How) →
    expr_depth (converted_input leaves types i f to how) ≤ 3
converted_input_depth leaves types i f to how =
    let h = converted_depth (input_code leaves i) f (input_range types i) to how 1 (input_depth leaves i) (omega arith) in omega (arith, h)

either_depth : (first : Option Bool) (test : CondTree) (a b : ExprTree) (d : ℕ) → cond_depth test ≤ d → expr_depth a ≤ d →
    expr_depth b ≤ d → expr_depth (either_code first test a b) ≤ d + 1
either_depth None test a b d h p q = omega (arith, h, p, q)
either_depth (Some true) test a b d h p q = omega (arith, p)
either_depth (Some false) test a b d h p q = omega (arith, q)

pub rows_are_shallow : RowsAreShallow
rows_are_shallow Copy leaves types memory = let h = input_depth leaves 0 in omega (arith, h)
rows_are_shallow (Value v) leaves types memory = let h = written_depth v in omega (arith, h)
rows_are_shallow (Delay initial) leaves types memory = omega arith
rows_are_shallow (Line samples start) leaves types memory = omega arith
rows_are_shallow (Gain m frac to how) leaves types memory =
    let h = input_depth leaves 0 in let k = written_depth m in
    let whole = converted_depth (binary Mul (input_code leaves 0) (written m)) frac (gain_range m types) to how 3
    (omega (arith, h, k)) (omega arith) in
    omega (arith, whole)
rows_are_shallow (Sum count minus fracs to how) leaves types memory =
    let fs = take count fracs in
    let range = sum_range minus (greatest_in fs) 0 fs types (just (pos 0)) in
    let whole = converted_depth (sum_code minus (greatest_in fs) fs leaves) (greatest_in fs) range to how 7
    (sum_depth minus (greatest_in fs) fs leaves) (omega arith) in
    omega (arith, whole)
rows_are_shallow (Product count frac to how) leaves types memory =
    let whole = converted_depth (product_code leaves) frac (product_range count types) to how 5 (product_depth leaves) (omega arith) in
    omega (arith, whole)
rows_are_shallow (Switch criterion threshold fracs to how) leaves types memory =
    let test = passes_depth criterion leaves threshold in
    let first = converted_input_depth leaves types 0 (get_or fracs 0 0) to how in
    let third = converted_input_depth leaves types 2 (get_or fracs 1 0) to how in
    let whole = either_depth (option_and_then (passes_all criterion threshold) (input_range types 1))
    (passes_code criterion (input_code leaves 1) threshold) (converted_input leaves types 0 (get_or fracs 0 0) to how)
    (converted_input leaves types 2 (get_or fracs 1 0) to how) 3 test first third in
    omega (arith, whole)
rows_are_shallow (Relational how fracs) leaves types memory =
    let left = aligned_depth (input_code leaves 0) (get_or fracs 0 0) (greatest_in fracs) 1 (input_depth leaves 0) (omega arith) in
    let right = aligned_depth (input_code leaves 1) (get_or fracs 1 0) (greatest_in fracs) 1 (input_depth leaves 1) (omega arith) in
    omega (arith, left, right)
rows_are_shallow (Logical o count) leaves types memory = let h = logic_depth o leaves in omega (arith, h)
rows_are_shallow (Convert frac to how) leaves types memory =
    let whole = converted_input_depth leaves types 0 frac to how in
    omega (arith, whole)
rows_are_shallow Nothing leaves types memory = omega arith
