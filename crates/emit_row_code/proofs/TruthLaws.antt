-- Tests of truth hold where the operators do.
use Rattle.std.proofs.Common.{◌≡◌, refl, sym, ap, ◌∙◌, subst, ℕ, suc, ◌≤◌, ◌≤ℤ◌, Bool, true, false, ◌&&◌, ◌||◌, cond, if◌then◌else◌, List, [], ◌∷◌, length, map, fold, ℤ, pos, unsigned_abs, int_le, int_lt, ◌<◌, ◌^◌, arith}
use Rattle.std.specs.Prelude.{Option, Some, None, unwrap_or}
use Rattle.std.specs.Option.{option_and_then}
use Rattle.std.proofs.lemmas.Int.{ints}
use Rattle.std.proofs.lemmas.Option.{none-some}
use Rattle.std.specs.List.{AllZip, list_all, list_any}
use Rattle.base_core.specs.declared.Compare.{Compare}
use Rattle.base_core.specs.declared.Compare.TheVariants.{Eq, Ne, Ge as AtLeast, Gt as Above}
use Rattle.diagram_blocks.specs.declared.Criterion.{Criterion}
use Rattle.diagram_blocks.specs.declared.Criterion.TheVariants.{Ge, Gt, NotZero}
use Rattle.diagram_blocks.specs.declared.Logic.{Logic}
use Rattle.diagram_blocks.specs.declared.Logic.TheVariants.{And, Or, Nand, Nor, Xor, Nxor, Not}
use Rattle.diagram_blocks.specs.Value as value
use Rattle.diagram_blocks.specs.Value.{is_true, xor, odd_trues, logic_of, number_of_bool, passes}
use Rattle.c_syntax.specs.declared.Leaf.{Leaf}
use Rattle.c_syntax.specs.Tree.{ExprTree, CondTree, literal, read, both, either}
use Rattle.c_semantics.specs.Values as c
use Rattle.c_semantics.specs.Values.{Function, Reads}
use Rattle.c_semantics.specs.EvaluationLaws.{Gives, Holds}
use Rattle.c_semantics.proofs.lemmas.WithoutSteps.{gives_literal, gives_read, gives_pick, holds_compare, holds_both, holds_either, holds_negated}
use Rattle.emit_row_code.specs.RowCode.{nought, truth, truths, is_true_code, differ, always, never, all_hold, some_holds, odd_hold, logic_code, passes_code, passes_all, written}
use Rattle.emit_row_code.specs.declared.ranges.Range.{Range}
use Rattle.emit_row_code.proofs.lemmas.RangeLaws.{InRange}
use Rattle.emit_row_code.proofs.lemmas.BalancedLaws.{balanced_related, balanced_total, total}
use Rattle.emit_row_code.proofs.lemmas.WrittenNumbers.{gives_written}

-- comparisons of C are those of blocks
pub same_compare : (how : Compare) (x y : ℤ) → c.compares how x y ≡ value.compares how x y
same_compare Eq x y = refl
same_compare _ x y = refl

-- ---- Truth values

and_assoc : (p q r : Bool) → ((p && q) && r) ≡ (p && (q && r))
and_assoc true q r = refl
and_assoc false q r = refl

and_true : (p : Bool) → (p && true) ≡ p
and_true true = refl
and_true false = refl

or_assoc : (p q r : Bool) → ((p || q) || r) ≡ (p || (q || r))
or_assoc true q r = refl
or_assoc false q r = refl

or_false : (p : Bool) → (p || false) ≡ p
or_false true = refl
or_false false = refl

xor_assoc : (p q r : Bool) → xor (xor p q) r ≡ xor p (xor q r)
xor_assoc false q r = refl
xor_assoc true false r = refl
xor_assoc true true false = refl
xor_assoc true true true = refl

xor_false : (p : Bool) → xor p false ≡ p
xor_false true = refl
xor_false false = refl

all_total : (bs : List Bool) → total ◌&&◌ true bs ≡ list_all (λ b. b) bs
all_total [] = refl
all_total (b ∷ bs) = ap (λ r. b && r) (all_total bs)

any_total : (bs : List Bool) → total ◌||◌ false bs ≡ list_any (λ b. b) bs
any_total [] = refl
any_total (b ∷ bs) = ap (λ r. b || r) (any_total bs)

odd_from : (bs : List Bool) (p : Bool) → xor p (total xor false bs) ≡ fold xor p bs
odd_from [] p = xor_false p
odd_from (b ∷ bs) p = sym (xor_assoc p b (total xor false bs)) ∙ odd_from bs (xor p b)

odd_total : (bs : List Bool) → total xor false bs ≡ odd_trues bs
odd_total bs = odd_from bs false

differ_is_xor : (p q : Bool) → c.compares Ne (cond p (pos 1) (pos 0)) (cond q (pos 1) (pos 0)) ≡ xor p q
differ_is_xor true true = refl
differ_is_xor true false = refl
differ_is_xor false true = refl
differ_is_xor false false = refl

pub bit_is : (p : Bool) → cond p (pos 1) (pos 0) ≡ number_of_bool p
bit_is true = refl
bit_is false = refl

-- ---- Numbers of a range

some_is : (b c : Bool) → Some b ≡ Some c → b ≡ c
some_is b c e = ap (λ o. unwrap_or o b) e

at_least : (threshold low v : ℤ) → int_le threshold low ≡ true → low ≤ℤ v → int_le threshold v ≡ true
at_least threshold low v e h = grind (arith, ints)

not_least : (threshold high v : ℤ) → int_lt high threshold ≡ true → v ≤ℤ high → int_le threshold v ≡ false
not_least threshold high v e h = grind (arith, ints)

above : (threshold low v : ℤ) → int_lt threshold low ≡ true → low ≤ℤ v → int_lt threshold v ≡ true
above threshold low v e h = grind (arith, ints)

not_above : (threshold high v : ℤ) → int_le high threshold ≡ true → v ≤ℤ high → int_lt threshold v ≡ false
not_above threshold high v e h = grind (arith, ints)

-- ---- Tests

module _ (functions : List Function) (reads : Reads) (line : ℕ) where
  abbrev Has : CondTree → Bool → Type 0
  Has t b = Holds functions reads line t b

  gives_nought : Gives functions reads line nought (pos 0)
  gives_nought = gives_literal functions reads line (pos 0)

  gives_one : Gives functions reads line (literal (pos 1)) (pos 1)
  gives_one = gives_literal functions reads line (pos 1)

  always_holds : Has always true
  always_holds = holds_compare functions reads line Eq nought nought (pos 0) (pos 0) gives_nought gives_nought

  never_holds : Has never false
  never_holds = holds_compare functions reads line Ne nought nought (pos 0) (pos 0) gives_nought gives_nought

  pub truth_gives : (t : CondTree) (b : Bool) → Has t b → Gives functions reads line (truth t) (number_of_bool b)
  truth_gives t b h =
      subst (Gives functions reads line (truth t)) (bit_is b)
      (gives_pick functions reads line t (literal (pos 1)) nought b (pos 1) (pos 0) h gives_one gives_nought)

  pub is_true_holds : (e : ExprTree) (v : ℤ) → Gives functions reads line e v → Has (is_true_code e) (is_true v)
  is_true_holds e v h = holds_compare functions reads line Ne e nought v (pos 0) h gives_nought

  differ_holds : (s t : CondTree) (p q : Bool) → Has s p → Has t q → Has (differ s t) (xor p q)
  differ_holds s t p q f g =
      subst (Has (differ s t)) (differ_is_xor p q)
      (holds_compare functions reads line Ne (truth s) (truth t) (cond p (pos 1) (pos 0)) (cond q (pos 1) (pos 0))
      (gives_pick functions reads line s (literal (pos 1)) nought p (pos 1) (pos 0) f gives_one gives_nought)
      (gives_pick functions reads line t (literal (pos 1)) nought q (pos 1) (pos 0) g gives_one gives_nought))

  truths_hold : (leaves : List Leaf) → AllZip Has (truths leaves) (map is_true (map reads.leaf leaves))
  truths_hold [] = tt
  truths_hold (l ∷ leaves) = (is_true_holds (read l) (reads.leaf l) (gives_read functions reads line l), truths_hold leaves)

  module _ (tests : List CondTree) (bs : List Bool) (few : length bs ≤ 16) (related : AllZip Has tests bs) where
    all_holds : Has (all_hold tests) (list_all (λ b. b) bs)
    all_holds = subst (Has (all_hold tests)) (balanced_total ◌&&◌ true and_assoc and_true bs few ∙ all_total bs)
        (balanced_related both ◌&&◌ Has (holds_both functions reads line) always true always_holds tests bs related)

    some_hold : Has (some_holds tests) (list_any (λ b. b) bs)
    some_hold = subst (Has (some_holds tests)) (balanced_total ◌||◌ false or_assoc or_false bs few ∙ any_total bs)
        (balanced_related either ◌||◌ Has (holds_either functions reads line) never false never_holds tests bs related)

    odd_holds : Has (odd_hold tests) (odd_trues bs)
    odd_holds = subst (Has (odd_hold tests)) (balanced_total xor false xor_assoc xor_false bs few ∙ odd_total bs)
        (balanced_related differ xor Has differ_holds never false never_holds tests bs related)

    logic_by : (op : Logic) → Has (logic_code op tests) (logic_of op bs)
    logic_by And = all_holds
    logic_by Or = some_hold
    logic_by Nand = holds_negated functions reads line (all_hold tests) (list_all (λ b. b) bs) all_holds
    logic_by Nor = holds_negated functions reads line (some_holds tests) (list_any (λ b. b) bs) some_hold
    logic_by Xor = odd_holds
    logic_by Nxor = holds_negated functions reads line (odd_hold tests) (odd_trues bs) odd_holds
    logic_by Not = holds_negated functions reads line (some_holds tests) (list_any (λ b. b) bs) some_hold

  length_truths : (leaves : List Leaf) → length (map is_true (map reads.leaf leaves)) ≡ length leaves
  length_truths [] = refl
  length_truths (l ∷ leaves) = ap suc (length_truths leaves)

  pub logic_holds : (op : Logic) (leaves : List Leaf) → length leaves ≤ 16 →
      Has (logic_code op (truths leaves)) (logic_of op (map is_true (map reads.leaf leaves)))
  logic_holds op leaves few =
      logic_by (truths leaves) (map is_true (map reads.leaf leaves))
      (subst (λ n. n ≤ 16) (sym (length_truths leaves)) few) (truths_hold leaves) op

  pub passes_holds : (criterion : Criterion) (e : ExprTree) (v threshold : ℤ) → Gives functions reads line e v →
      unsigned_abs threshold < 2 ^ 63 →
      Has (passes_code criterion e threshold) (passes criterion v threshold)
  passes_holds Ge e v threshold h small =
      holds_compare functions reads line AtLeast e (written threshold) v threshold h
      (gives_written functions reads line threshold small)
  passes_holds Gt e v threshold h small =
      holds_compare functions reads line Above e (written threshold) v threshold h
      (gives_written functions reads line threshold small)
  passes_holds NotZero e v threshold h small = is_true_holds e v h

-- what a switch does for each number of a range alike it does for this one
pub passes_alike : (criterion : Criterion) (threshold : ℤ) (range : Option Range) (v : ℤ) → InRange range v → (known : Bool) →
    option_and_then (passes_all criterion threshold) range ≡ Some known → passes criterion v threshold ≡ known
passes_alike criterion threshold None v inside known e = absurd (none-some known e)
passes_alike Ge threshold (Some range) v inside known e =
    by (int_le threshold range.least) (int_lt range.greatest threshold) refl refl e
  where
    by : (b c : Bool) → int_le threshold range.least ≡ b → int_lt range.greatest threshold ≡ c →
        (if b then Some true else if c then Some false else None) ≡ Some known → int_le threshold v ≡ known
    by true c low high e = at_least threshold range.least v low inside.0 ∙ some_is true known e
    by false true low high e = not_least threshold range.greatest v high inside.1 ∙ some_is false known e
    by false false low high e = absurd (none-some known e)
passes_alike Gt threshold (Some range) v inside known e =
    by (int_lt threshold range.least) (int_le range.greatest threshold) refl refl e
  where
    by : (b c : Bool) → int_lt threshold range.least ≡ b → int_le range.greatest threshold ≡ c →
        (if b then Some true else if c then Some false else None) ≡ Some known → int_lt threshold v ≡ known
    by true c low high e = above threshold range.least v low inside.0 ∙ some_is true known e
    by false true low high e = not_above threshold range.greatest v high inside.1 ∙ some_is false known e
    by false false low high e = absurd (none-some known e)
passes_alike NotZero threshold (Some range) v inside known e = absurd (none-some known e)
