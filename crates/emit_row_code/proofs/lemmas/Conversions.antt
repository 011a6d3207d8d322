-- What the expression of a conversion gives.
use Rattle.std.proofs.Common.{◌≡◌, refl, sym, ap, ◌∙◌, subst, ℕ, ◌+◌, ◌-◌, ◌^◌, ◌<◌, ◌≤◌, ◌==◌, nat_le, Bool, true, false, cond, if◌then◌else◌, List, [], ◌∷◌, ℤ, pos, neg_ℤ, ◌*ℤ◌, ◌≤ℤ◌, ◌+ℤ◌, ◌-ℤ◌, ◌*◌, zero, suc, int_lt, unsigned_abs, arith, pow_pos}
use Rattle.std.specs.Prelude.{Contains}
use Rattle.std.specs.Int.{int_rem_euclid}
use Rattle.std.proofs.Math.Nat.{le-mul_of_pos_right, mod-eq_of_lt, pow-suc}
use Rattle.std.proofs.Math.Pow.{pow_mono}
use Rattle.std.proofs.lemmas.Bool.Decides.{nat_tests}
use Rattle.std.proofs.lemmas.Int.{ints, unsigned_abs-mul}
use Rattle.base_fixed_point.specs.declared.Case.{Case}
use Rattle.base_fixed_point.specs.declared.FixType.{FixType}
use Rattle.base_fixed_point.specs.declared.Over.{Over}
use Rattle.base_fixed_point.specs.declared.Over.TheVariants.{Saturate, Wrap}
use Rattle.base_fixed_point.specs.declared.Round.{Round}
use Rattle.base_fixed_point.specs.declared.Round.TheVariants.{Ceiling, Convergent, Floor, Nearest, Zero}
use Rattle.base_fixed_point.specs.declared.Round.TheVariants as round
use Rattle.base_fixed_point.specs.Profile.{InProfile}
use Rattle.base_fixed_point.specs.Rounding.{rounded, RoundingIsOne}
use Rattle.base_fixed_point.specs.Conversion.{InType, least_of, greatest_of, cast_into, over_units, under_units, all_cases}
use Rattle.diagram_blocks.specs.declared.How.{How}
use Rattle.diagram_blocks.specs.Value.{conversion}
use Rattle.diagram_blocks.specs.Laws.{ConversionFits}
use Rattle.c_syntax.specs.declared.BinOp.TheVariants.{Mul}
use Rattle.c_syntax.specs.Tree.{ExprTree, binary, pure, exprs_of_list, PureTree}
use Rattle.c_semantics.specs.Values.{gives, Function, Reads, function_at, functions_of, eval, step_limit}
use Rattle.c_semantics.specs.EvaluationLaws.{Gives}
use Rattle.c_semantics.proofs.lemmas.WithoutSteps.{gives_literal, gives_mul, call_after}
use Rattle.emit_prelude.specs.Rules.{IsPrelude, WholeNumbersStay, rounding_position, cast_call}
use Rattle.std.specs.Prelude.{Option}
use Rattle.emit_row_code.specs.declared.ranges.Range.{Range}
use Rattle.emit_row_code.specs.Ranges.{surely_holds}
use Rattle.emit_row_code.specs.RowCode.{aligned, cast, converted, power, written}
use Rattle.emit_row_code.specs.Computed.{conversion_returns}
use Rattle.emit_row_code.proofs.lemmas.WrittenNumbers.{gives_written}
use Rattle.emit_row_code.proofs.lemmas.RangeLaws.{InRange, held_is_in}

-- ---- Numbers of types

small_by : (signed : Bool) (bits frac : ℕ) → InProfile signed bits frac → (v : ℤ) →
    cond signed (neg_ℤ (pos (2 ^ (bits - 1)))) (pos 0) ≤ℤ v →
    v ≤ℤ cond signed (pos (2 ^ (bits - 1) - 1)) (pos (2 ^ bits - 1)) → unsigned_abs v ≤ 2 ^ 32
small_by true bits frac p v low high =
    let few : bits - 1 ≤ 32 = omega (arith, p.1) in
    let power : 2 ^ (bits - 1) ≤ 2 ^ 32 = pow_mono few in
    omega (arith, ints, power, low, high)
small_by false bits frac p v low high =
    let few : bits ≤ 32 = p.1 in
    let power : 2 ^ bits ≤ 2 ^ 32 = pow_mono few in
    omega (arith, ints, power, low, high)

-- a number of a type has 32 bits at most
pub in_type_small : (t : FixType) (v : ℤ) → InType t v → unsigned_abs v < 2 ^ 63
in_type_small t v h = let small = small_by t.signed t.bits t.frac t.in_profile v h.0 h.1 in omega (arith, small)

ends_by : (signed : Bool) (bits frac : ℕ) → InProfile signed bits frac →
    (neg_ℤ (pos (2 ^ 31)) ≤ℤ cond signed (neg_ℤ (pos (2 ^ (bits - 1)))) (pos 0))
    × (cond signed (neg_ℤ (pos (2 ^ (bits - 1)))) (pos 0) ≤ℤ pos 0)
    × (pos 0 ≤ℤ cond signed (pos (2 ^ (bits - 1) - 1)) (pos (2 ^ bits - 1)))
    × (cond signed (pos (2 ^ (bits - 1) - 1)) (pos (2 ^ bits - 1)) ≤ℤ pos (2 ^ 32)) × (1 ≤ bits)
ends_by true bits frac p =
    let few : bits - 1 ≤ 31 = omega (arith, p.1) in
    let power : 2 ^ (bits - 1) ≤ 2 ^ 31 = pow_mono few in
    (omega (arith, ints, power), omega (arith, ints), omega (arith, ints), omega (arith, ints, power), omega (arith, p.0))
ends_by false bits frac p =
    let few : bits ≤ 32 = p.1 in
    let power : 2 ^ bits ≤ 2 ^ 32 = pow_mono few in
    (omega (arith, ints), omega (arith, ints), omega (arith, ints), omega (arith, ints, power), p.0)

pub least_small : (t : FixType) → unsigned_abs (least_of t) < 2 ^ 63
least_small t = let ends = ends_by t.signed t.bits t.frac t.in_profile in omega (arith, ints, ends.0, ends.1)

pub greatest_small : (t : FixType) → unsigned_abs (greatest_of t) < 2 ^ 63
greatest_small t = let ends = ends_by t.signed t.bits t.frac t.in_profile in omega (arith, ints, ends.2, ends.3)

-- ---- Numbers that a type holds

-- the ends of a type
abbrev least_by : (signed : Bool) (bits : ℕ) → ℤ
least_by signed bits = cond signed (neg_ℤ (pos (2 ^ (bits - 1)))) (pos 0)

abbrev greatest_by : (signed : Bool) (bits : ℕ) → ℤ
greatest_by signed bits = cond signed (pos (2 ^ (bits - 1) - 1)) (pos (2 ^ bits - 1))

-- a number of a type is brought into it as it is
wrap_by : (signed : Bool) (bits : ℕ) → 1 ≤ bits → (q : ℤ) → least_by signed bits ≤ℤ q → q ≤ℤ greatest_by signed bits →
    (a : ℕ) × (a < 2 ^ bits) × (q -ℤ least_by signed bits ≡ pos a)
wrap_by true (suc b) some q low high =
    let one_less : suc b - 1 ≡ b = omega arith in
    let low_b : neg_ℤ (pos (2 ^ b)) ≤ℤ q = subst (λ n. neg_ℤ (pos (2 ^ n)) ≤ℤ q) one_less low in
    let high_b : q ≤ℤ pos (2 ^ b - 1) = subst (λ n. q ≤ℤ pos (2 ^ n - 1)) one_less high in
    let twice : 2 ^ suc b ≡ 2 ^ b * 2 = pow-suc 2 b in (
      unsigned_abs (q -ℤ neg_ℤ (pos (2 ^ b))),
      omega (arith, ints, low_b, high_b, twice, pow_pos b),
      ap (λ n. q -ℤ neg_ℤ (pos (2 ^ n))) one_less ∙ (let e : q -ℤ neg_ℤ (pos (2 ^ b))
          ≡ pos (unsigned_abs (q -ℤ neg_ℤ (pos (2 ^ b)))) = omega (arith, ints, low_b) in e),
    )
wrap_by true zero some q low high = absurd (omega (arith, some))
wrap_by false bits some q low high = (unsigned_abs q, omega (arith, ints, low, high, pow_pos bits), omega (arith, ints, low))

stays_in : (over : Over) (t : FixType) (q : ℤ) → InType t q → cast_into over t q ≡ q
stays_in Saturate t q h =
    let not_below : int_lt q (least_of t) ≡ false = grind (arith, ints, h.0) in
    let not_above : int_lt (greatest_of t) q ≡ false = grind (arith, ints, h.1) in
    ap (λ b. if b then least_of t else if int_lt (greatest_of t) q then greatest_of t else q) not_below
    ∙ ap (λ b. if b then greatest_of t else q) not_above
stays_in Wrap t q h =
    let rest = wrap_by t.signed t.bits (ends_by t.signed t.bits t.frac t.in_profile).4 q h.0 h.1 in
    let whole : least_of t +ℤ pos rest.0 ≡ q = omega (arith, ints, rest.2) in
    ap (λ z. least_of t +ℤ int_rem_euclid z (pos (2 ^ t.bits))) rest.2 ∙ ap (λ n. least_of t +ℤ pos n) (mod-eq_of_lt rest.1) ∙ whole

-- ---- Each case of a conversion

every_case : (r : Round) (o : Over) (s : Bool) → Contains all_cases (record { round = r; over = o; signed = s })
every_case Ceiling Saturate false = (0, omega arith, refl)
every_case Ceiling Saturate true = (1, omega arith, refl)
every_case Ceiling Wrap false = (2, omega arith, refl)
every_case Ceiling Wrap true = (3, omega arith, refl)
every_case Convergent Saturate false = (4, omega arith, refl)
every_case Convergent Saturate true = (5, omega arith, refl)
every_case Convergent Wrap false = (6, omega arith, refl)
every_case Convergent Wrap true = (7, omega arith, refl)
every_case Floor Saturate false = (8, omega arith, refl)
every_case Floor Saturate true = (9, omega arith, refl)
every_case Floor Wrap false = (10, omega arith, refl)
every_case Floor Wrap true = (11, omega arith, refl)
every_case Nearest Saturate false = (12, omega arith, refl)
every_case Nearest Saturate true = (13, omega arith, refl)
every_case Nearest Wrap false = (14, omega arith, refl)
every_case Nearest Wrap true = (15, omega arith, refl)
every_case round.Round Saturate false = (16, omega arith, refl)
every_case round.Round Saturate true = (17, omega arith, refl)
every_case round.Round Wrap false = (18, omega arith, refl)
every_case round.Round Wrap true = (19, omega arith, refl)
every_case Zero Saturate false = (20, omega arith, refl)
every_case Zero Saturate true = (21, omega arith, refl)
every_case Zero Wrap false = (22, omega arith, refl)
every_case Zero Wrap true = (23, omega arith, refl)

-- ---- Units

times_one : (v : ℤ) (k : ℕ) → k ≡ 0 → v *ℤ pos (2 ^ k) ≡ v
times_one v k e = ap (λ n. v *ℤ pos (2 ^ n)) e ∙ (let one : v *ℤ pos 1 ≡ v = omega (arith, ints) in one)

same_units : (v : ℤ) (f F : ℕ) → (f == F) ≡ true → v ≡ over_units v f F
same_units v f F e = sym (times_one v (F - f) (grind (arith, nat_tests)))

module _ (functions : List Function) (reads : Reads) (line : ℕ) where
  abbrev Is : ExprTree → ℤ → Type 0
  Is e x = Gives functions reads line e x

  -- a number in a finer unit
  pub aligned_gives : (e : ExprTree) (v : ℤ) (f F : ℕ) → Is e v → unsigned_abs (over_units v f F) ≤ 2 ^ 62 →
      Is (aligned e f F) (over_units v f F)
  aligned_gives e v f F h small = by (f == F) refl
    where
      by : (b : Bool) → (f == F) ≡ b → Is (if b then e else binary Mul e (power (F - f))) (over_units v f F)
      by true same = subst (Is e) (same_units v f F same) h
      by false other = gives_mul functions reads line e (power (F - f)) v (pos (2 ^ (F - f))) h
          (gives_literal functions reads line (pos (2 ^ (F - f)))) (omega (arith, small))

  -- a number that an expression comes to is brought into a type by one call
  cast_after : (over : Over) (t : FixType) (e : ExprTree) (q : ℤ) (steps mid : ℕ) → eval functions reads line e steps ≡ gives q mid →
      eval functions reads line (cast over t e) steps ≡ cast_call functions over t (q ∷ []) mid
  cast_after Saturate t e q steps mid first =
      call_after functions reads line 6 e (written (least_of t) ∷ written (greatest_of t) ∷ []) q (least_of t ∷ greatest_of t ∷ []) (
        gives_written functions reads line (least_of t) (least_small t),
        (gives_written functions reads line (greatest_of t) (greatest_small t), tt),
      ) steps mid first
  cast_after Wrap t e q steps mid first =
      call_after functions reads line 7 e (written (least_of t) ∷ power t.bits ∷ []) q (least_of t ∷ pos (2 ^ t.bits) ∷ []) (
        gives_written functions reads line (least_of t) (least_small t),
        (gives_literal functions reads line (pos (2 ^ t.bits)), tt),
      ) steps mid first

-- ---- Conversions

whole_units : (stay : WholeNumbersStay) (r : Round) (v : ℤ) (f : ℕ) (t : FixType) → f ≤ t.frac →
    over_units v f t.frac ≡ rounded r (over_units v f t.frac) (under_units f t.frac)
whole_units stay r v f t h =
    let none : f - t.frac ≡ 0 = omega (arith, h) in
    sym (ap (λ k. rounded r (v *ℤ pos (2 ^ (t.frac - f))) (2 ^ k)) none ∙ stay r (v *ℤ pos (2 ^ (t.frac - f))))

-- what a type holds is converted into it by rounding alone
held_is : RoundingIsOne → (v : ℤ) (f : ℕ) (range : Option Range) (to : FixType) (how : How) → InRange range v →
    surely_holds to f range ≡ true → rounded how.round (over_units v f to.frac) (under_units f to.frac) ≡ conversion v f to how
held_is one v f range to how inside held =
    sym (stays_in how.over to (rounded how.round (over_units v f to.frac) (under_units f to.frac))
    (held_is_in one how.round v f to range inside held))

module _ (ps : List PureTree) (prelude : IsPrelude ps) (stay : WholeNumbersStay) (one : RoundingIsOne) (reads : Reads) (line : ℕ) where
  abbrev functions : List Function
  functions = functions_of [] ps

  cast_gives : (over : Over) (t : FixType) (q : ℤ) (steps : ℕ) → unsigned_abs q ≤ 2 ^ 62 → steps < step_limit →
      cast_call functions over t (q ∷ []) steps ≡ gives (cast_into over t q) (steps + 1)
  cast_gives Saturate t q steps small h = prelude.clamps q (least_of t) (greatest_of t) steps h
  cast_gives Wrap t q steps small h =
      let ends = ends_by t.signed t.bits t.frac t.in_profile in
      prelude.wraps q (least_of t) t.bits steps ends.4 t.in_profile.1 ends.0 ends.1 small h

  -- the conversion of a number of a range: a call that rounds where the type is coarser, and another that brings into the type
  -- where it may not hold the number
  pub converted_gives : (e : ExprTree) (v : ℤ) (f : ℕ) (range : Option Range) (to : FixType) (how : How) → Gives functions reads line e v →
      ConversionFits (unsigned_abs v) f to → InRange range v → (steps : ℕ) → steps + 2 ≤ step_limit →
      eval functions reads line (converted e f range to how) steps ≡ gives (conversion v f to how) (steps + conversion_returns f range to)
  converted_gives e v f range to how h fits inside steps room = by (nat_le f to.frac) (surely_holds to f range) refl refl
    where
      small : unsigned_abs v ≤ 2 ^ 62
      small = omega (arith, le-mul_of_pos_right (unsigned_abs v) (pow_pos (to.frac - f)), fits.0)

      x : ℤ
      x = over_units v f to.frac

      fit : unsigned_abs x ≤ 2 ^ 62
      fit = omega (arith, unsigned_abs-mul v (pos (2 ^ (to.frac - f))), fits.0)

      up : eval functions reads line (aligned e f to.frac) steps ≡ gives x steps
      up = aligned_gives functions reads line e v f to.frac h fit steps

      position : ℕ
      position = rounding_position how.round

      rounding : ExprTree
      rounding = pure position (exprs_of_list (e ∷ power (f - to.frac) ∷ []))

      down : eval functions reads line rounding steps ≡ function_at functions position (v ∷ pos (2 ^ (f - to.frac)) ∷ []) steps
      down = call_after functions reads line position e (power (f - to.frac) ∷ []) v (pos (2 ^ (f - to.frac)) ∷ [])
          (gives_literal functions reads line (pos (2 ^ (f - to.frac))), tt) steps steps (h steps)

      rounds : to.frac < f → function_at functions position (v ∷ pos (2 ^ (f - to.frac)) ∷ []) steps
          ≡ gives (rounded how.round v (2 ^ (f - to.frac))) (steps + 1)
      rounds lt = prelude.rounds how.round v (f - to.frac) steps (omega (arith, lt)) fits.1 small (omega (arith, room))

      held_up : f ≤ to.frac → surely_holds to f range ≡ true →
          eval functions reads line (aligned e f to.frac) steps ≡ gives (conversion v f to how) (steps + 0)
      held_up le held =
          let same : steps ≡ steps + 0 = omega arith in
          up ∙ ap (λ q. gives q steps) (whole_units stay how.round v f to le ∙ held_is one v f range to how inside held)
          ∙ ap (gives (conversion v f to how)) same

      held_down : to.frac < f → surely_holds to f range ≡ true →
          eval functions reads line rounding steps ≡ gives (conversion v f to how) (steps + 1)
      held_down lt held =
          let none : to.frac - f ≡ 0 = omega (arith, lt) in
          let whole : v ≡ over_units v f to.frac = sym (times_one v (to.frac - f) none) in
          down ∙ rounds lt ∙ ap (λ n. gives (rounded how.round n (under_units f to.frac)) (steps + 1)) whole
          ∙ ap (λ q. gives q (steps + 1)) (held_is one v f range to how inside held)

      finer : f ≤ to.frac → eval functions reads line (cast how.over to (aligned e f to.frac)) steps ≡ gives
          (conversion v f to how) (steps + 1)
      finer le =
          cast_after functions reads line how.over to (aligned e f to.frac) x steps steps up
          ∙ cast_gives how.over to x steps fit (omega (arith, room))
          ∙ ap (λ q. gives (cast_into how.over to q) (steps + 1)) (whole_units stay how.round v f to le)

      coarser : to.frac < f → eval functions reads line (cast how.over to rounding) steps ≡ gives (conversion v f to how) (steps + 2)
      coarser lt =
          let case : Case = record { round = how.round; over = how.over; signed = to.signed } in
          let both = prelude.converts case (every_case how.round how.over to.signed) to v f steps refl (omega (arith, lt)) fits.1 small
          (omega (arith, room)) in
          cast_after functions reads line how.over to rounding (rounded how.round v (2 ^ (f - to.frac))) steps
          (steps + 1) (down ∙ rounds lt)
          ∙ rw (rounds lt) at both

      by : (b held : Bool) → nat_le f to.frac ≡ b → surely_holds to f range ≡ held →
          (let whole = if b then aligned e f to.frac else rounding in
          eval functions reads line (if held then whole else cast how.over to whole) steps)
          ≡ gives (conversion v f to how) (steps + ((if b then 0 else 1) + (if held then 0 else 1)))
      by true true is holds = held_up (grind (arith, nat_tests)) holds
      by true false is holds = finer (grind (arith, nat_tests))
      by false true is holds = held_down (grind (arith, nat_tests)) holds
      by false false is holds = coarser (grind (arith, nat_tests))
