-- The items of arrays that the expression of a row reads are those that the expression for its memory reads.
use Rattle.std.specs.Prelude.{ℕ, zero, suc, ◌-◌, Bool, true, false, ◌==◌, nat_le, if◌then◌else◌, List, [], ◌∷◌, ◌++◌, map, take, get_or, Option, Some, None, ℤ, pos, neg_ℤ, int_lt, ⊤}
use Rattle.std.specs.Option.{option_and_then}
use Rattle.std.specs.Int.{bit_at}
use Rattle.std.specs.List.{AllByRecursion}
use Rattle.base_fixed_point.specs.declared.FixType.{FixType}
use Rattle.base_fixed_point.specs.declared.Over.{Over}
use Rattle.base_fixed_point.specs.declared.Over.TheVariants.{Saturate, Wrap}
use Rattle.base_fixed_point.specs.Conversion.{least_of, greatest_of}
use Rattle.diagram_blocks.specs.declared.Criterion.{Criterion}
use Rattle.diagram_blocks.specs.declared.Criterion.TheVariants.{Ge, Gt, NotZero}
use Rattle.diagram_blocks.specs.declared.How.{How}
use Rattle.diagram_blocks.specs.declared.Logic.{Logic}
use Rattle.diagram_blocks.specs.declared.Logic.TheVariants.{And, Or, Nand, Nor, Xor, Nxor, Not}
use Rattle.diagram_blocks.specs.declared.Op.{Op}
use Rattle.diagram_blocks.specs.declared.Op.TheVariants.{Copy, Value, Delay, Line, Gain, Sum, Product, Switch, Relational, Logic as Logical, Convert, Nothing}
use Rattle.diagram_blocks.specs.Value.{greatest_in}
use Rattle.c_syntax.specs.declared.BinOp.TheVariants.{Add, Mul}
use Rattle.c_syntax.specs.declared.Leaf.{Leaf}
use Rattle.c_syntax.specs.Tree.{ExprTree, ExprTrees, CondTree, literal, neg, read, binary, pick, pure, item, no_exprs, more_exprs, compare, both, either, negated, exprs_of_list}
use Rattle.emit_prelude.specs.Rules.{rounding_position}
use Rattle.emit_row_code.specs.RowCode.{written, nought, power, aligned, rounded_code, cast, signed, term_codes, sum_code, product_code, differ, always, never, all_hold, some_holds, odd_hold, truths, logic_code, passes_code, passes_all, either_code, input_code, converted_input, rhs_code}
use Rattle.emit_row_code.specs.Ranges.{just, input_range, gain_range, sum_range, product_range, surely_holds}
use Rattle.emit_row_code.specs.Balanced.{pairs, first_or, balanced}
use Rattle.emit_shape.specs.Reads.{IndexSite, expr_indices, exprs_indices, cond_indices}
use Rattle.right_system_shape.proofs.AllOf.{all-append}

-- each item that an expression reads, in tests and indices too, is one of these
module _ (IsItem : IndexSite → Type 0) where
  abbrev mutual
    pub ItemsOnly : ExprTree → Type 0
    ItemsOnly (literal value) = ⊤
    ItemsOnly (neg e) = ItemsOnly e
    ItemsOnly (read leaf) = ⊤
    ItemsOnly (binary op a b) = ItemsOnly a × ItemsOnly b
    ItemsOnly (pick test a b) = TestItems test × ItemsOnly a × ItemsOnly b
    ItemsOnly (pure function values) = AllItems values
    ItemsOnly (item field index) = IsItem (record { field = field; index = index }) × ItemsOnly index

    pub AllItems : ExprTrees → Type 0
    AllItems no_exprs = ⊤
    AllItems (more_exprs e es) = ItemsOnly e × AllItems es

    pub TestItems : CondTree → Type 0
    TestItems (compare how a b) = ItemsOnly a × ItemsOnly b
    TestItems (both a b) = TestItems a × TestItems b
    TestItems (either a b) = TestItems a × TestItems b
    TestItems (negated a) = TestItems a

  mutual
    pub expr-items : (e : ExprTree) → ItemsOnly e → AllByRecursion IsItem (expr_indices e)
    expr-items (literal value) h = tt
    expr-items (neg e) h = expr-items e h
    expr-items (read leaf) h = tt
    expr-items (binary op a b) h = all-append IsItem (expr_indices a) (expr_indices b) (expr-items a h.0) (expr-items b h.1)
    expr-items (pick test a b) h =
        all-append IsItem (cond_indices test ++ expr_indices a) (expr_indices b)
        (all-append IsItem (cond_indices test) (expr_indices a) (cond-items test h.0) (expr-items a h.1)) (expr-items b h.2)
    expr-items (pure function values) h = exprs-items values h
    expr-items (item field index) h = (h.0, expr-items index h.1)

    exprs-items : (es : ExprTrees) → AllItems es → AllByRecursion IsItem (exprs_indices es)
    exprs-items no_exprs h = tt
    exprs-items (more_exprs e es) h = all-append IsItem (expr_indices e) (exprs_indices es) (expr-items e h.0) (exprs-items es h.1)

    cond-items : (t : CondTree) → TestItems t → AllByRecursion IsItem (cond_indices t)
    cond-items (compare how a b) h = all-append IsItem (expr_indices a) (expr_indices b) (expr-items a h.0) (expr-items b h.1)
    cond-items (both a b) h = all-append IsItem (cond_indices a) (cond_indices b) (cond-items a h.0) (cond-items b h.1)
    cond-items (either a b) h = all-append IsItem (cond_indices a) (cond_indices b) (cond-items a h.0) (cond-items b h.1)
    cond-items (negated a) h = cond-items a h

-- ---- Parts that are balanced

module _ {E : Type 0} (join : E → E → E) (P : E → Type 0) (joins : (a b : E) → P a → P b → P (join a b)) where
  pairs-all : (es : List E) → AllByRecursion P es → AllByRecursion P (pairs join es)
  pairs-all [] h = tt
  pairs-all (e ∷ []) h = h
  pairs-all (e ∷ d ∷ es) h = (joins e d h.0 h.1.0, pairs-all es h.1.1)

  first-all : (none : E) (es : List E) → P none → AllByRecursion P es → P (first_or none es)
  first-all none [] p h = p
  first-all none (e ∷ es) p h = h.0

  balanced-all : (none : E) (es : List E) → P none → AllByRecursion P es → P (balanced join none es)
  balanced-all none es p h =
      first-all none (pairs join (pairs join (pairs join (pairs join es)))) p
      (pairs-all (pairs join (pairs join (pairs join es)))
      (pairs-all (pairs join (pairs join es)) (pairs-all (pairs join es) (pairs-all es h))))

-- ---- Rows

module _ (IsItem : IndexSite → Type 0) where
  abbrev Only : ExprTree → Type 0
  Only e = ItemsOnly IsItem e

  written-items : (v : ℤ) → Only (written v)
  written-items v = by (int_lt v (pos 0))
    where
      by : (b : Bool) → Only (if b then neg (literal (neg_ℤ v)) else literal v)
      by true = tt
      by false = tt

  aligned-items : (e : ExprTree) (f F : ℕ) → Only e → Only (aligned e f F)
  aligned-items e f F h = by (f == F)
    where
      by : (b : Bool) → Only (if b then e else binary Mul e (power (F - f)))
      by true = h
      by false = (h, tt)

  rounded-items : (e : ExprTree) (f g : ℕ) (how : How) → Only e → Only (rounded_code e f g how)
  rounded-items e f g how h = by (nat_le f g)
    where
      by : (b : Bool) → Only (if b then aligned e f g else pure (rounding_position how.round) (exprs_of_list (e ∷ power (f - g) ∷ [])))
      by true = aligned-items e f g h
      by false = (h, (tt, tt))

  cast-items : (over : Over) (t : FixType) (e : ExprTree) → Only e → Only (cast over t e)
  cast-items Saturate t e h = (h, (written-items (least_of t), (written-items (greatest_of t), tt)))
  cast-items Wrap t e h = (h, (written-items (least_of t), (tt, tt)))

  -- with a cast or without
  converted-items : (held : Bool) (e : ExprTree) (f : ℕ) (to : FixType) (how : How) → Only e →
      Only (if held then rounded_code e f to.frac how else cast how.over to (rounded_code e f to.frac how))
  converted-items true e f to how h = rounded-items e f to.frac how h
  converted-items false e f to how h = cast-items how.over to (rounded_code e f to.frac how) (rounded-items e f to.frac how h)

  either-items : (first : Option Bool) (test : CondTree) (a b : ExprTree) → TestItems IsItem test → Only a → Only b →
      Only (either_code first test a b)
  either-items None test a b h p q = (h, p, q)
  either-items (Some true) test a b h p q = p
  either-items (Some false) test a b h p q = q

  signed-items : (minus : Bool) (e : ExprTree) → Only e → Only (signed minus e)
  signed-items true e h = h
  signed-items false e h = h

  input-items : (leaves : List Leaf) (i : ℕ) → Only (input_code leaves i)
  input-items [] i = tt
  input-items (l ∷ ls) zero = tt
  input-items (l ∷ ls) (suc i) = input-items ls i

  term-items : (minus F i : ℕ) (fs : List ℕ) (ls : List Leaf) → AllByRecursion Only (term_codes minus F i fs ls)
  term-items minus F i [] ls = tt
  term-items minus F i (f ∷ fs) [] = tt
  term-items minus F i (f ∷ fs) (l ∷ ls) = (
    signed-items (bit_at minus i == 1) (aligned (read l) f F) (aligned-items (read l) f F tt),
    term-items minus F (suc i) fs ls,
  )

  sum-items : (minus F : ℕ) (fs : List ℕ) (leaves : List Leaf) → Only (sum_code minus F fs leaves)
  sum-items minus F fs leaves = balanced-all (binary Add) Only (λ a b p q. (p, q)) nought (term_codes minus F 0 fs leaves) tt
      (term-items minus F 0 fs leaves)

  reads-items : (ls : List Leaf) → AllByRecursion Only (map read ls)
  reads-items [] = tt
  reads-items (l ∷ ls) = (tt, reads-items ls)

  product-items : (leaves : List Leaf) → Only (product_code leaves)
  product-items leaves = balanced-all (binary Mul) Only (λ a b p q. (p, q)) (literal (pos 1)) (map read leaves) tt (reads-items leaves)

  truths-items : (ls : List Leaf) → AllByRecursion (TestItems IsItem) (truths ls)
  truths-items [] = tt
  truths-items (l ∷ ls) = ((tt, tt), truths-items ls)

  all-items : (ls : List Leaf) → TestItems IsItem (all_hold (truths ls))
  all-items ls = balanced-all both (TestItems IsItem) (λ a b p q. (p, q)) always (truths ls) (tt, tt) (truths-items ls)

  some-items : (ls : List Leaf) → TestItems IsItem (some_holds (truths ls))
  some-items ls = balanced-all either (TestItems IsItem) (λ a b p q. (p, q)) never (truths ls) (tt, tt) (truths-items ls)

  odd-items : (ls : List Leaf) → TestItems IsItem (odd_hold (truths ls))
  odd-items ls = balanced-all differ (TestItems IsItem) (λ a b p q. ((p, tt, tt), (q, tt, tt))) never (truths ls) (tt, tt) (truths-items ls)

  logic-items : (op : Logic) (ls : List Leaf) → TestItems IsItem (logic_code op (truths ls))
  logic-items And ls = all-items ls
  logic-items Or ls = some-items ls
  logic-items Nand ls = all-items ls
  logic-items Nor ls = some-items ls
  logic-items Xor ls = odd-items ls
  logic-items Nxor ls = odd-items ls
  logic-items Not ls = some-items ls

  module _ (leaves : List Leaf) where
    passes-items : (criterion : Criterion) (threshold : ℤ) → TestItems IsItem (passes_code criterion (input_code leaves 1) threshold)
    passes-items Ge threshold = (input-items leaves 1, written-items threshold)
    passes-items Gt threshold = (input-items leaves 1, written-items threshold)
    passes-items NotZero threshold = (input-items leaves 1, tt)

    converted-input-items : (types : List FixType) (i f : ℕ) (to : FixType) (how : How) → Only (converted_input leaves types i f to how)
    converted-input-items types i f to how = converted-items (surely_holds to f (input_range types i)) (input_code leaves i) f to how
        (input-items leaves i)

    pub row-items : (op : Op) (types : List FixType) (memory : ExprTree) → Only memory → Only (rhs_code op leaves types memory)
    row-items Copy types memory known = input-items leaves 0
    row-items (Value v) types memory known = written-items v
    row-items (Delay initial) types memory known = known
    row-items (Line samples start) types memory known = known
    row-items (Gain m frac to how) types memory known =
        converted-items (surely_holds to frac (gain_range m types)) (binary Mul (input_code leaves 0) (written m)) frac to how
        (input-items leaves 0, written-items m)
    row-items (Sum count minus fracs to how) types memory known =
        let fs = take count fracs in
        converted-items (surely_holds to (greatest_in fs) (sum_range minus (greatest_in fs) 0 fs types (just (pos 0))))
        (sum_code minus (greatest_in fs) fs leaves) (greatest_in fs) to how (sum-items minus (greatest_in fs) fs leaves)
    row-items (Product count frac to how) types memory known =
        converted-items (surely_holds to frac (product_range count types)) (product_code leaves) frac to how (product-items leaves)
    row-items (Switch criterion threshold fracs to how) types memory known =
        either-items (option_and_then (passes_all criterion threshold) (input_range types 1))
        (passes_code criterion (input_code leaves 1) threshold) (converted_input leaves types 0 (get_or fracs 0 0) to how)
        (converted_input leaves types 2 (get_or fracs 1 0) to how) (passes-items criterion threshold)
        (converted-input-items types 0 (get_or fracs 0 0) to how) (converted-input-items types 2 (get_or fracs 1 0) to how)
    row-items (Relational how fracs) types memory known = (
      (
        aligned-items (input_code leaves 0) (get_or fracs 0 0) (greatest_in fracs) (input-items leaves 0),
        aligned-items (input_code leaves 1) (get_or fracs 1 0) (greatest_in fracs) (input-items leaves 1),
      ),
      tt,
      tt,
    )
    row-items (Logical o count) types memory known = (logic-items o leaves, tt, tt)
    row-items (Convert frac to how) types memory known = converted-input-items types 0 frac to how
    row-items Nothing types memory known = tt
