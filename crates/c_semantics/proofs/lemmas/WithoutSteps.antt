-- What expressions and conditions give in no step, from what their parts give in none.
use Rattle.std.proofs.Common.{◌≡◌, ◌≢◌, ◌∙◌, ℕ, ◌-◌, ◌^◌, ◌<◌, ◌≤◌, Bool, true, false, not, ◌&&◌, ◌||◌, cond, List, [], ◌∷◌, length, ℤ, pos, neg_ℤ, ◌+ℤ◌, ◌-ℤ◌, ◌*ℤ◌, int_le, unsigned_abs, arith}
use Rattle.std.specs.Prelude.{int_div, int_rem}
use Rattle.std.specs.List.{AllZip}
use Rattle.std.proofs.lemmas.Bool.{and_from}
use Rattle.std.proofs.lemmas.Int.{ints}
use Rattle.base_core.specs.declared.base.Compare.{Compare}
use Rattle.c_syntax.specs.declared.code.BinOp.TheVariants.{Add, Sub, Mul, Div, Rem}
use Rattle.c_syntax.specs.declared.code.Leaf.{Leaf}
use Rattle.c_syntax.specs.Tree.{ExprTree, literal, neg, read, binary, pick, pure, item, exprs_of_list, CondTree, compare, both, either, negated}
use Rattle.c_semantics.specs.Values.{gives, compares, Function, function_at, Reads, eval, eval_all}
use Rattle.base_core.specs.Numbers.{int_at}
use Rattle.c_semantics.specs.EvaluationLaws.{in_64, ComesTo, Operates, Gives, Holds, EvaluatesExpressions, EvaluatesConditions}
use Rattle.c_semantics.proofs.lemmas.EvaluationLaws.{expressions_are_evaluated, conditions_are_evaluated}

-- a number of at most 63 bits beside its sign is an int64_t
pub in_64_small : (x : ℤ) → unsigned_abs x < 2 ^ 63 → in_64 x ≡ true
in_64_small x small = and_from (int_le (neg_ℤ (pos (2 ^ 63))) x) (int_le x (pos (2 ^ 63 - 1))) (grind (arith, ints)) (grind (arith, ints))

some_divisor : (d : ℕ) → 1 ≤ d → pos d ≢ pos 0
some_divisor d some none = omega (arith, ints, some, none)

module _ (functions : List Function) (leaf : Reads) (line : ℕ) where
  abbrev expression : (steps : ℕ) → EvaluatesExpressions functions leaf line steps
  expression = expressions_are_evaluated functions leaf line

  abbrev condition : (steps : ℕ) → EvaluatesConditions functions leaf line steps
  condition = conditions_are_evaluated functions leaf line

  abbrev Is : ExprTree → ℤ → Type 0
  Is e x = Gives functions leaf line e x

  abbrev Has : CondTree → Bool → Type 0
  Has c b = Holds functions leaf line c b

  -- ---- Numbers

  pub gives_literal : (v : ℤ) → Is (literal v) v
  gives_literal v steps = (expression steps).number v

  pub gives_read : (l : Leaf) → Is (read l) (leaf.leaf l)
  gives_read l steps = (expression steps).reading l

  pub gives_neg : (a : ExprTree) (x : ℤ) → Is a x → unsigned_abs (neg_ℤ x) < 2 ^ 63 → Is (neg a) (neg_ℤ x)
  gives_neg a x f small steps = ((expression steps).negative a).negative x steps (f steps) (in_64_small (neg_ℤ x) small)

  operated : (a b : ExprTree) (x y : ℤ) → Is a x → Is b y → (steps : ℕ) → Operates functions leaf line a b steps x y steps
  operated a b x y f g steps = ((expression steps).operator a b).operates x y steps steps (f steps) (g steps)

  pub gives_add : (a b : ExprTree) (x y : ℤ) → Is a x → Is b y → unsigned_abs (x +ℤ y) < 2 ^ 63 → Is (binary Add a b) (x +ℤ y)
  gives_add a b x y f g small steps = (operated a b x y f g steps).sum (in_64_small (x +ℤ y) small)

  pub gives_sub : (a b : ExprTree) (x y : ℤ) → Is a x → Is b y → unsigned_abs (x -ℤ y) < 2 ^ 63 → Is (binary Sub a b) (x -ℤ y)
  gives_sub a b x y f g small steps = (operated a b x y f g steps).difference (in_64_small (x -ℤ y) small)

  pub gives_mul : (a b : ExprTree) (x y : ℤ) → Is a x → Is b y → unsigned_abs (x *ℤ y) < 2 ^ 63 → Is (binary Mul a b) (x *ℤ y)
  gives_mul a b x y f g small steps = (operated a b x y f g steps).product (in_64_small (x *ℤ y) small)

  pub gives_div : (a b : ExprTree) (x : ℤ) (d : ℕ) → Is a x → Is b (pos d) → 1 ≤ d → unsigned_abs (int_div x (pos d)) < 2 ^ 63 →
      Is (binary Div a b) (int_div x (pos d))
  gives_div a b x d f g some small steps =
      (operated a b x (pos d) f g steps).quotient (some_divisor d some) (in_64_small (int_div x (pos d)) small)

  pub gives_rem : (a b : ExprTree) (x : ℤ) (d : ℕ) → Is a x → Is b (pos d) → 1 ≤ d → unsigned_abs (int_div x (pos d)) < 2 ^ 63 →
      Is (binary Rem a b) (int_rem x (pos d))
  gives_rem a b x d f g some small steps =
      (operated a b x (pos d) f g steps).remainder (some_divisor d some) (in_64_small (int_div x (pos d)) small)

  pub gives_pick : (c : CondTree) (a b : ExprTree) (t : Bool) (x y : ℤ) → Has c t → Is a x → Is b y → Is (pick c a b) (cond t x y)
  gives_pick c a b true x y h f g steps = ((expression steps).choice c a b).holds steps (h steps) ∙ f steps
  gives_pick c a b false x y h f g steps = ((expression steps).choice c a b).fails steps (h steps) ∙ g steps

  pub gives_item : (field : ℕ) (index : ExprTree) (i : ℕ) → Is index (pos i) → i < length (leaf.array field) →
      Is (item field index) (int_at (leaf.array field) i)
  gives_item field index i f within steps = ((expression steps).array_item field index).at_place i steps (f steps) within

  -- ---- Conditions

  pub holds_compare : (how : Compare) (a b : ExprTree) (x y : ℤ) → Is a x → Is b y → Has (compare how a b) (compares how x y)
  holds_compare how a b x y f g steps = ((condition steps).comparison how a b).compared x y steps steps (f steps) (g steps)

  pub holds_both : (a b : CondTree) (p q : Bool) → Has a p → Has b q → Has (both a b) (p && q)
  holds_both a b true q f g steps = ((condition steps).joined a b).both_first_holds steps (f steps) ∙ g steps
  holds_both a b false q f g steps = ((condition steps).joined a b).both_first_fails steps (f steps)

  pub holds_either : (a b : CondTree) (p q : Bool) → Has a p → Has b q → Has (either a b) (p || q)
  holds_either a b true q f g steps = ((condition steps).joined a b).either_first_holds steps (f steps)
  holds_either a b false q f g steps = ((condition steps).joined a b).either_first_fails steps (f steps) ∙ g steps

  pub holds_negated : (a : CondTree) (p : Bool) → Has a p → Has (negated a) (not p)
  holds_negated a p f steps = ((condition steps).opposite a).turned p steps (f steps)

  -- ---- Calls

  all_give : (es : List ExprTree) (vs : List ℤ) → AllZip (Gives functions leaf line) es vs → (steps : ℕ) →
      eval_all functions leaf line (exprs_of_list es) steps ≡ gives vs steps
  all_give [] [] h steps = (expression steps).arguments.none
  all_give [] (v ∷ vs) h steps = absurd h
  all_give (e ∷ es) [] h steps = absurd h
  all_give (e ∷ es) (v ∷ vs) h steps =
      (expression steps).arguments.more e (exprs_of_list es) v vs steps steps (h.0 steps) (all_give es vs h.1 steps)

  -- a call whose first argument takes steps of its own, and whose others take none
  pub call_after : (k : ℕ) (e : ExprTree) (es : List ExprTree) (v : ℤ) (vs : List ℤ) → AllZip (Gives functions leaf line) es vs →
      (steps mid : ℕ) → ComesTo functions leaf line e steps v mid →
      eval functions leaf line (pure k (exprs_of_list (e ∷ es))) steps ≡ function_at functions k (v ∷ vs) mid
  call_after k e es v vs h steps mid first =
      ((expression steps).call k (exprs_of_list (e ∷ es))).does (v ∷ vs) mid
      ((expression steps).arguments.more e (exprs_of_list es) v vs mid mid first (all_give es vs h mid))
