-- The eight functions are what they are for.
use Rattle.std.proofs.Common.{◌≡◌, refl, sym, ap, ◌∙◌, subst, ℕ, zero, suc, ◌+◌, ◌-◌, ◌^◌, ◌<◌, ◌≤◌, Bool, true, false, cond, MatchBool, List, [], ◌∷◌, take, slice_index_or, ◌&&◌, ◌||◌, ℤ, pos, neg_ℤ, ◌+ℤ◌, ◌-ℤ◌, ◌*ℤ◌, ◌≤ℤ◌, int_lt, unsigned_abs, arith, rules, pow-suc, pow_pos}
use Rattle.std.specs.Prelude.{int_div, int_rem, int_le}
use Rattle.std.specs.Int.{int_rem_euclid}
use Rattle.std.specs.Ordering.{int_eq}
use Rattle.std.proofs.Math.Pow.{pow_mono}
use Rattle.std.proofs.lemmas.Int.{ints}
use Rattle.base_fixed_point.specs.declared.Case.{Case}
use Rattle.base_fixed_point.specs.declared.FixType.{FixType}
use Rattle.base_fixed_point.specs.declared.Over.{Over}
use Rattle.base_fixed_point.specs.declared.Over.TheVariants.{Saturate, Wrap}
use Rattle.base_fixed_point.specs.declared.Round.{Round}
use Rattle.base_fixed_point.specs.declared.Round.TheVariants.{Ceiling, Convergent, Floor, Nearest, Zero}
use Rattle.base_fixed_point.specs.declared.Round.TheVariants as round
use Rattle.base_fixed_point.specs.Profile.{InProfile}
use Rattle.base_fixed_point.specs.Rounding.{IsFloor, IsCeiling, IsNearest, IsRounded, rounded}
use Rattle.base_fixed_point.proofs.lemmas.RoundingLaws.{rounding_is_one}
use Rattle.base_fixed_point.specs.Conversion.{least_of, greatest_of, over_units, conv, cast_into}
use Rattle.c_syntax.specs.Tree.{PureTree}
use Rattle.c_semantics.specs.Cells.{no_cells}
use Rattle.c_semantics.specs.Values.{gives, Function, function_of, function_at, functions_of, step_limit, reads}
use Rattle.c_semantics.specs.EvaluationLaws.{Gives}
use Rattle.c_semantics.proofs.lemmas.EvaluationLaws.{pure_functions_take_a_step}
use Rattle.emit_prelude.specs.Bodies.{function_with, zero_body, function_trees}
use Rattle.emit_prelude.specs.Rules.{rounding_position, Rounds, Clamps, Wraps, cast_call, Converts, IsPrelude, WholeNumbersStay}
use Rattle.emit_prelude.proofs.Division.{is_odd, by_rest, by_rest_is, quotient-le}
use Rattle.emit_prelude.proofs.BodyValues.{rounding_body, rounding_gives, clamp_gives, wrap_gives}

-- a call takes one step, where its body gives a number
call-gives : (earlier : List Function) (p : PureTree) (values : List ℤ) (x : ℤ) (steps : ℕ) →
    Gives earlier (reads values no_cells) p.line p.body x → steps < step_limit →
    function_of earlier p values steps ≡ gives x (steps + 1)
call-gives earlier p values x steps g h = (pure_functions_take_a_step earlier p values steps).does h ∙ g (steps + 1)

-- ---- Rounding

halves : (k : ℕ) → 2 ^ suc k ≡ 2 ^ k + 2 ^ k
halves k = let e = pow-suc 2 k in omega arith

rounds_by : (rule : Round) (earlier : List Function) (p : PureTree) → p.body ≡ rounding_body rule → Rounds rule (function_of earlier p)
rounds_by rule earlier p e v zero steps low high small h = absurd (omega arith)
rounds_by rule earlier p e v (suc k) steps low high small h =
    call-gives earlier p (v ∷ pos (2 ^ suc k) ∷ []) (rounded rule v (2 ^ suc k)) steps
    (subst (λ body. Gives earlier (reads (v ∷ pos (2 ^ suc k) ∷ []) no_cells) p.line body (rounded rule v (2 ^ suc k))) (sym e)
    (rounding_gives earlier p.line v (2 ^ suc k) (2 ^ k) (halves k) (pow_pos k) small (pow_mono high) rule)) h

-- the functions before position k, and the tree there
abbrev before : ℕ → List Function
before k = functions_of [] (take k function_trees)

abbrev tree_at : ℕ → PureTree
tree_at k = slice_index_or function_trees k (function_with [] [] zero_body)

rounds_all : (rule : Round) → Rounds rule (function_at (functions_of [] function_trees) (rounding_position rule))
rounds_all Floor = rounds_by Floor (before 0) (tree_at 0) refl
rounds_all Ceiling = rounds_by Ceiling (before 1) (tree_at 1) refl
rounds_all Zero = rounds_by Zero (before 2) (tree_at 2) refl
rounds_all Nearest = rounds_by Nearest (before 3) (tree_at 3) refl
rounds_all round.Round = rounds_by round.Round (before 4) (tree_at 4) refl
rounds_all Convergent = rounds_by Convergent (before 5) (tree_at 5) refl

clamps : Clamps (function_at (functions_of [] function_trees) 6)
clamps v lo hi steps h =
    call-gives (before 6) (tree_at 6) (v ∷ lo ∷ hi ∷ []) (cond (int_lt v lo) lo (cond (int_lt hi v) hi v)) steps
    (clamp_gives (before 6) 0 v lo hi) h

wraps : Wraps (function_at (functions_of [] function_trees) 7)
wraps v lo w steps some few low high small h =
    call-gives (before 7) (tree_at 7) (v ∷ lo ∷ pos (2 ^ w) ∷ []) (lo +ℤ int_rem_euclid (v -ℤ lo) (pos (2 ^ w))) steps
    (wrap_gives (before 7) 0 v lo (2 ^ w) (pow_pos w) (pow_mono few) low high small) h

-- ---- Conversion

near-le : (b c : Bool) (q : ℤ) (n : ℕ) → unsigned_abs q ≤ n →
    (unsigned_abs (cond b (q -ℤ pos 1) q) ≤ n + 1) × (unsigned_abs (cond b (q +ℤ pos 1) q) ≤ n + 1)
    × (unsigned_abs (cond b (q +ℤ pos 1) (cond c (q -ℤ pos 1) q)) ≤ n + 1)
near-le true c q n h = (omega (arith, ints, h), omega (arith, ints, h), omega (arith, ints, h))
near-le false true q n h = (omega (arith, h), omega (arith, h), omega (arith, ints, h))
near-le false false q n h = (omega (arith, h), omega (arith, h), omega (arith, h))

by_rest-le : (rule : Round) (q r : ℤ) (h n : ℕ) → unsigned_abs q ≤ n → unsigned_abs (by_rest rule q r h) ≤ n + 1
by_rest-le Floor q r h n l = (near-le (int_lt r (pos 0)) true q n l).0
by_rest-le Ceiling q r h n l = (near-le (int_lt (pos 0) r) true q n l).1
by_rest-le Zero q r h n l = omega (arith, l)
by_rest-le Nearest q r h n l = (near-le (int_le (pos h) r) (int_lt r (neg_ℤ (pos h))) q n l).2
by_rest-le round.Round q r h n l = (near-le (int_le (pos h) r) (int_le r (neg_ℤ (pos h))) q n l).2
by_rest-le Convergent q r h n l =
    (near-le (int_lt (pos h) r || (int_eq r (pos h) && is_odd q))
    (int_lt r (neg_ℤ (pos h)) || (int_eq r (neg_ℤ (pos h)) && is_odd q)) q n l).2

-- rounding at a power of two leaves a number within the magnitude
rounded-le : (rule : Round) (v : ℤ) (k : ℕ) → 1 ≤ k → unsigned_abs v ≤ 2 ^ 62 → unsigned_abs (rounded rule v (2 ^ k)) ≤ 2 ^ 62
rounded-le rule v zero some small = absurd (omega arith)
rounded-le rule v (suc k) some small =
    let q = int_div v (pos (2 ^ suc k)) in
    let r = int_rem v (pos (2 ^ suc k)) in
    let half = quotient-le v (2 ^ suc k) (2 ^ k) (halves k) (pow_pos k) in
    let least : unsigned_abs q ≤ 2 ^ 61 = omega (arith, half, small) in
    let bound = by_rest-le rule q r (2 ^ k) (2 ^ 61) least in
    let same = by_rest_is rule v (2 ^ suc k) (2 ^ k) (halves k) (pow_pos k) in
    omega (arith, bound, ap unsigned_abs same)

low_by : (signed : Bool) (bits frac : ℕ) → InProfile signed bits frac →
    neg_ℤ (pos (2 ^ 31)) ≤ℤ cond signed (neg_ℤ (pos (2 ^ (bits - 1)))) (pos 0)
low_by true bits frac p = let few : bits - 1 ≤ 31 = omega (arith, p.1) in let power : 2 ^ (bits - 1) ≤ 2 ^ 31 =
    pow_mono few in omega (arith, ints, power)
low_by false bits frac p = omega (arith, ints)

high_by : (signed : Bool) (bits frac : ℕ) → InProfile signed bits frac → cond signed (neg_ℤ (pos (2 ^ (bits - 1)))) (pos 0) ≤ℤ pos 0
high_by true bits frac p = omega (arith, ints)
high_by false bits frac p = omega (arith, ints)

some_bits : (signed : Bool) (bits frac : ℕ) → InProfile signed bits frac → 1 ≤ bits
some_bits true bits frac p = omega (arith, p.0)
some_bits false bits frac p = p.0

casts : (over : Over) (t : FixType) (q : ℤ) (steps : ℕ) → unsigned_abs q ≤ 2 ^ 62 → steps < step_limit →
    cast_call (functions_of [] function_trees) over t (q ∷ []) steps ≡ gives (cast_into over t q) (steps + 1)
casts Saturate t q steps small h = clamps q (least_of t) (greatest_of t) steps h
casts Wrap t q steps small h =
    wraps q (least_of t) t.bits steps (some_bits t.signed t.bits t.frac t.in_profile) t.in_profile.1
    (low_by t.signed t.bits t.frac t.in_profile) (high_by t.signed t.bits t.frac t.in_profile) small h

-- a number with more bits after the point than the type stays as it is
unscaled : (v : ℤ) (f g : ℕ) → 1 ≤ f - g → over_units v f g ≡ v
unscaled v f g h = let none : g - f ≡ 0 = omega (arith, h) in ap (λ k. v *ℤ pos (2 ^ k)) none ∙ omega (arith, ints)

converts : (case : Case) → Converts (functions_of [] function_trees) case
converts case t v f steps signed some few small h =
    let fs = functions_of [] function_trees in
    let k = f - t.frac in
    let q = rounded case.round v (2 ^ k) in
    let first = rounds_all case.round v k steps some few small (omega (arith, h)) in
    let second = casts case.over t q (steps + 1) (rounded-le case.round v k some small) h in
    let units : cast_into case.over t q ≡ conv v f t case.round case.over =
    ap (λ n. cast_into case.over t (rounded case.round n (2 ^ k))) (sym (unscaled v f t.frac some)) in
    let two : steps + 1 + 1 ≡ steps + 2 = omega arith in
    rw first (second ∙ ap (λ x. gives x (steps + 1 + 1)) units ∙ ap (gives (conv v f t case.round case.over)) two)

-- ---- All of it

pub prelude_is : IsPrelude function_trees
prelude_is = record {
  named = refl;
  with_params = refl;
  distinct = search rules;
  lawful = search rules;
  fits = search rules;
  rounds = rounds_all;
  clamps = clamps;
  wraps = wraps;
  converts = λ case among. converts case;
}

-- ---- Whole numbers

times_one : (v : ℤ) → v *ℤ pos 1 ≡ v
times_one v = omega (arith, ints)

pub whole_numbers_stay : WholeNumbersStay
whole_numbers_stay r v = sym ((rounding_is_one r v 1 (omega arith)).1 v (by r))
  where
    floor : IsFloor v 1 v
    floor = let e = times_one v in let f = times_one (v +ℤ pos 1) in (omega (arith, ints, e), omega (arith, ints, f))

    ceiling : IsCeiling v 1 v
    ceiling = let e = times_one v in let f = times_one (v -ℤ pos 1) in (omega (arith, ints, f), omega (arith, ints, e))

    near : (x : ℤ) → IsNearest x 1 x
    near x = let e = times_one (pos 2 *ℤ x) in let f = times_one (pos 2 *ℤ (x +ℤ pos 1)) in (omega (arith, ints, e), omega (arith, ints, f))

    either_way : {P Q : Type 0} → (b : Bool) → P → Q → MatchBool b P Q
    either_way true p q = p
    either_way false p q = q

    by : (r : Round) → IsRounded r v 1 v
    by Floor = floor
    by Ceiling = ceiling
    by Zero = either_way (int_le (pos 0) v) floor ceiling
    by Nearest = near v
    by round.Round = either_way (int_le (pos 0) v) (near v) (near (neg_ℤ v))
    by Convergent = let e = times_one (pos 2 *ℤ v) in (omega (arith, ints, e), λ g. absurd (omega (arith, ints, e, g)))
