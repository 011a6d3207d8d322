-- The expressions of rows read the leaves that are given.
use Rattle.std.proofs.Common.{refl, ℕ, zero, suc, ◌-◌, ◌==◌, nat_le, Bool, true, false, if◌then◌else◌, List, [], ◌∷◌, ◌++◌, take, map, get_or, ℤ, pos, neg_ℤ, int_lt, arith}
use Rattle.std.specs.Prelude.{Contains, Option, Some, None}
use Rattle.std.specs.Option.{option_and_then}
use Rattle.std.specs.Int.{bit_at}
use Rattle.std.specs.List.{AllByRecursion}
use Rattle.base_fixed_point.specs.declared.FixType.{FixType}
use Rattle.base_fixed_point.specs.declared.Over.{Over}
use Rattle.base_fixed_point.specs.declared.Over.TheVariants.{Saturate, Wrap}
use Rattle.base_fixed_point.specs.Conversion.{least_of, greatest_of}
use Rattle.diagram_blocks.specs.declared.Criterion.{Criterion}
use Rattle.diagram_blocks.specs.declared.Criterion.TheVariants.{Ge, Gt, NotZero}
use Rattle.diagram_blocks.specs.declared.How.{How}
use Rattle.diagram_blocks.specs.declared.Logic.{Logic}
use Rattle.diagram_blocks.specs.declared.Logic.TheVariants.{And, Or, Nand, Nor, Xor, Nxor, Not}
use Rattle.diagram_blocks.specs.declared.Op.{Op}
use Rattle.diagram_blocks.specs.declared.Op.TheVariants.{Copy, Value, Delay, Line, Gain, Sum, Product, Switch, Relational, Logic as Logical, Convert, Nothing}
use Rattle.diagram_blocks.specs.Value.{greatest_in}
use Rattle.c_syntax.specs.declared.BinOp.TheVariants.{Add, Mul}
use Rattle.c_syntax.specs.declared.Leaf.{Leaf}
use Rattle.c_syntax.specs.declared.Leaf.TheVariants.{Own}
use Rattle.c_syntax.specs.Tree.{ExprTree, ExprTrees, CondTree, literal, neg, read, binary, pick, pure, item, no_exprs, more_exprs, compare, both, either, negated, exprs_of_list}
use Rattle.emit_prelude.specs.Rules.{rounding_position}
use Rattle.emit_row_code.specs.RowCode.{written, nought, power, aligned, rounded_code, cast, converted, signed, term_codes, sum_code, product_code, differ, always, never, all_hold, some_holds, odd_hold, truths, logic_code, passes_code, passes_all, either_code, input_code, converted_input, rhs_code}
use Rattle.emit_row_code.specs.declared.ranges.Range.{Range}
use Rattle.emit_row_code.specs.Ranges.{just, input_range, gain_range, sum_range, product_range, surely_holds}
use Rattle.emit_row_code.specs.Reading.{ReadsOnly, AllReadOnly, TestsOnly}
use Rattle.emit_row_code.specs.Laws.{RowsReadTheirLeaves}
use Rattle.emit_row_code.proofs.lemmas.BalancedLaws.{balanced_all}

module _ (IsGiven : Leaf → Type 0) where
  abbrev Only : ExprTree → Type 0
  Only e = ReadsOnly IsGiven e

  written_reads : (v : ℤ) → Only (written v)
  written_reads v = by (int_lt v (pos 0))
    where
      by : (b : Bool) → Only (if b then neg (literal (neg_ℤ v)) else literal v)
      by true = tt
      by false = tt

  aligned_reads : (e : ExprTree) (f F : ℕ) → Only e → Only (aligned e f F)
  aligned_reads e f F h = by (f == F)
    where
      by : (b : Bool) → Only (if b then e else binary Mul e (power (F - f)))
      by true = h
      by false = (h, tt)

  rounded_reads : (e : ExprTree) (f g : ℕ) (how : How) → Only e → Only (rounded_code e f g how)
  rounded_reads e f g how h = by (nat_le f g)
    where
      by : (b : Bool) → Only (if b then aligned e f g else pure (rounding_position how.round) (exprs_of_list (e ∷ power (f - g) ∷ [])))
      by true = aligned_reads e f g h
      by false = (h, (tt, tt))

  cast_reads : (over : Over) (t : FixType) (e : ExprTree) → Only e → Only (cast over t e)
  cast_reads Saturate t e h = (h, (written_reads (least_of t), (written_reads (greatest_of t), tt)))
  cast_reads Wrap t e h = (h, (written_reads (least_of t), (tt, tt)))

  converted_reads : (e : ExprTree) (f : ℕ) (range : Option Range) (to : FixType) (how : How) → Only e → Only (converted e f range to how)
  converted_reads e f range to how h = by (surely_holds to f range)
    where
      whole : Only (rounded_code e f to.frac how)
      whole = rounded_reads e f to.frac how h

      by : (held : Bool) → Only (if held then rounded_code e f to.frac how else cast how.over to (rounded_code e f to.frac how))
      by true = whole
      by false = cast_reads how.over to (rounded_code e f to.frac how) whole

  either_reads : (first : Option Bool) (test : CondTree) (a b : ExprTree) → TestsOnly IsGiven test → Only a → Only b →
      Only (either_code first test a b)
  either_reads None test a b h p q = (h, p, q)
  either_reads (Some true) test a b h p q = p
  either_reads (Some false) test a b h p q = q

  signed_reads : (minus : Bool) (e : ExprTree) → Only e → Only (signed minus e)
  signed_reads true e h = h
  signed_reads false e h = h

  module _ (leaves : List Leaf) (given : AllByRecursion IsGiven leaves) where
    input_reads : (i : ℕ) → Only (input_code leaves i)
    input_reads i = by leaves i given
      where
        by : (ls : List Leaf) (i : ℕ) → AllByRecursion IsGiven ls → Only (input_code ls i)
        by [] i h = tt
        by (l ∷ ls) zero h = h.0
        by (l ∷ ls) (suc i) h = by ls i h.1

    sum_reads : (minus F : ℕ) (fs : List ℕ) → Only (sum_code minus F fs leaves)
    sum_reads minus F fs =
        balanced_all (binary Add) Only (λ a b p q. (p, q)) nought (term_codes minus F 0 fs leaves) tt
        (by 0 fs leaves given)
      where
        by : (i : ℕ) (fs : List ℕ) (ls : List Leaf) → AllByRecursion IsGiven ls → AllByRecursion Only (term_codes minus F i fs ls)
        by i [] ls h = tt
        by i (f ∷ fs) [] h = tt
        by i (f ∷ fs) (l ∷ ls) h = (
          signed_reads (bit_at minus i == 1) (aligned (read l) f F) (aligned_reads (read l) f F h.0),
          by (suc i) fs ls h.1,
        )

    product_reads : Only (product_code leaves)
    product_reads = balanced_all (binary Mul) Only (λ a b p q. (p, q)) (literal (pos 1)) (map read leaves) tt (by leaves given)
      where
        by : (ls : List Leaf) → AllByRecursion IsGiven ls → AllByRecursion Only (map read ls)
        by [] h = tt
        by (l ∷ ls) h = (h.0, by ls h.1)

    truths_read : AllByRecursion (TestsOnly IsGiven) (truths leaves)
    truths_read = by leaves given
      where
        by : (ls : List Leaf) → AllByRecursion IsGiven ls → AllByRecursion (TestsOnly IsGiven) (truths ls)
        by [] h = tt
        by (l ∷ ls) h = ((h.0, tt), by ls h.1)

    all_read : TestsOnly IsGiven (all_hold (truths leaves))
    all_read = balanced_all both (TestsOnly IsGiven) (λ a b p q. (p, q)) always (truths leaves) (tt, tt) truths_read

    some_read : TestsOnly IsGiven (some_holds (truths leaves))
    some_read = balanced_all either (TestsOnly IsGiven) (λ a b p q. (p, q)) never (truths leaves) (tt, tt) truths_read

    odd_read : TestsOnly IsGiven (odd_hold (truths leaves))
    odd_read = balanced_all differ (TestsOnly IsGiven) (λ a b p q. ((p, tt, tt), (q, tt, tt))) never (truths leaves) (tt, tt) truths_read

    logic_reads : (op : Logic) → TestsOnly IsGiven (logic_code op (truths leaves))
    logic_reads And = all_read
    logic_reads Or = some_read
    logic_reads Nand = all_read
    logic_reads Nor = some_read
    logic_reads Xor = odd_read
    logic_reads Nxor = odd_read
    logic_reads Not = some_read

    passes_read : (criterion : Criterion) (threshold : ℤ) → TestsOnly IsGiven (passes_code criterion (input_code leaves 1) threshold)
    passes_read Ge threshold = (input_reads 1, written_reads threshold)
    passes_read Gt threshold = (input_reads 1, written_reads threshold)
    passes_read NotZero threshold = (input_reads 1, tt)

    converted_input_reads : (types : List FixType) (i f : ℕ) (to : FixType) (how : How) → Only (converted_input leaves types i f to how)
    converted_input_reads types i f to how = converted_reads (input_code leaves i) f (input_range types i) to how (input_reads i)

    row_reads : (op : Op) (types : List FixType) (memory : ExprTree) → Only memory → Only (rhs_code op leaves types memory)
    row_reads Copy types memory known = input_reads 0
    row_reads (Value v) types memory known = written_reads v
    row_reads (Delay initial) types memory known = known
    row_reads (Line samples start) types memory known = known
    row_reads (Gain m frac to how) types memory known =
        converted_reads (binary Mul (input_code leaves 0) (written m)) frac (gain_range m types) to how (input_reads 0, written_reads m)
    row_reads (Sum count minus fracs to how) types memory known =
        let fs = take count fracs in
        converted_reads (sum_code minus (greatest_in fs) fs leaves) (greatest_in fs)
        (sum_range minus (greatest_in fs) 0 fs types (just (pos 0))) to how (sum_reads minus (greatest_in fs) fs)
    row_reads (Product count frac to how) types memory known =
        converted_reads (product_code leaves) frac (product_range count types) to how product_reads
    row_reads (Switch criterion threshold fracs to how) types memory known =
        either_reads (option_and_then (passes_all criterion threshold) (input_range types 1))
        (passes_code criterion (input_code leaves 1) threshold) (converted_input leaves types 0 (get_or fracs 0 0) to how)
        (converted_input leaves types 2 (get_or fracs 1 0) to how) (passes_read criterion threshold)
        (converted_input_reads types 0 (get_or fracs 0 0) to how) (converted_input_reads types 2 (get_or fracs 1 0) to how)
    row_reads (Relational how fracs) types memory known = (
      (
        aligned_reads (input_code leaves 0) (get_or fracs 0 0) (greatest_in fracs) (input_reads 0),
        aligned_reads (input_code leaves 1) (get_or fracs 1 0) (greatest_in fracs) (input_reads 1),
      ),
      tt,
      tt,
    )
    row_reads (Logical o count) types memory known = (logic_reads o, tt, tt)
    row_reads (Convert frac to how) types memory known = converted_input_reads types 0 frac to how
    row_reads Nothing types memory known = tt

-- ---- What is given

all_map : {A : Type 0} (P Q : A → Type 0) → ((x : A) → P x → Q x) → (xs : List A) → AllByRecursion P xs → AllByRecursion Q xs
all_map P Q f [] h = tt
all_map P Q f (x ∷ xs) h = (f x h.0, all_map P Q f xs h.1)

contains_behind : {A : Type 0} (y : A) (xs : List A) (x : A) → Contains xs x → Contains (y ∷ xs) x
contains_behind y xs x h = (suc h.0, omega (arith, h.1), h.2)

all_contained : {A : Type 0} (xs ys : List A) → AllByRecursion (Contains (xs ++ ys)) xs
all_contained [] ys = tt
all_contained (x ∷ xs) ys = (
  (0, omega arith, refl),
  all_map (Contains (xs ++ ys)) (Contains (x ∷ (xs ++ ys))) (contains_behind x (xs ++ ys)) xs
      (all_contained xs ys),
)

behind : {A : Type 0} (xs ys : List A) (y : A) → Contains ys y → Contains (xs ++ ys) y
behind [] ys y h = h
behind (x ∷ xs) ys y h = contains_behind x (xs ++ ys) y (behind xs ys y h)

-- what is read of few leaves is read of more
module _ (P Q : Leaf → Type 0) (more : (l : Leaf) → P l → Q l) where
  mutual
    reads_more : (e : ExprTree) → ReadsOnly P e → ReadsOnly Q e
    reads_more (literal v) h = tt
    reads_more (neg e) h = reads_more e h
    reads_more (read l) h = more l h
    reads_more (binary op a b) h = (reads_more a h.0, reads_more b h.1)
    reads_more (pick test a b) h = (tests_more test h.0, reads_more a h.1, reads_more b h.2)
    reads_more (pure k es) h = all_more es h
    reads_more (item f index) h = (more (Own f) h.0, reads_more index h.1)

    all_more : (es : ExprTrees) → AllReadOnly P es → AllReadOnly Q es
    all_more no_exprs h = tt
    all_more (more_exprs e es) h = (reads_more e h.0, all_more es h.1)

    tests_more : (t : CondTree) → TestsOnly P t → TestsOnly Q t
    tests_more (compare how a b) h = (reads_more a h.0, reads_more b h.1)
    tests_more (both a b) h = (tests_more a h.0, tests_more b h.1)
    tests_more (either a b) h = (tests_more a h.0, tests_more b h.1)
    tests_more (negated a) h = tests_more a h

pub rows_read_their_leaves : RowsReadTheirLeaves
rows_read_their_leaves op leaves others types memory h =
    row_reads (Contains (leaves ++ others)) leaves (all_contained leaves others) op types memory
    (reads_more (Contains others) (Contains (leaves ++ others)) (behind leaves others) memory h)
