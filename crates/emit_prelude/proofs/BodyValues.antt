-- What the bodies of the eight functions give.
use Rattle.std.proofs.Common.{◌≡◌, refl, ap, ◌∙◌, subst, ℕ, suc, ◌+◌, ◌-◌, ◌/◌, ◌^◌, ◌<◌, ◌≤◌, Bool, true, false, ◌&&◌, ◌||◌, cond, List, [], ◌∷◌, ℤ, pos, neg_ℤ, ◌+ℤ◌, ◌-ℤ◌, ◌*ℤ◌, ◌≤ℤ◌, int_lt, int_le, unsigned_abs, ◌%◌, negsuc, arith, div-add-mod', mod-lt}
use Rattle.std.specs.Prelude.{int_div, int_rem}
use Rattle.std.specs.Ordering.{int_eq}
use Rattle.std.specs.Int.{int_rem_euclid}
use Rattle.base_fixed_point.proofs.lemmas.RoundingLaws.{close}
use Rattle.std.proofs.Math.Nat.{div-mul-le_self, le-mul_of_pos_right}
use Rattle.std.proofs.lemmas.Int.{ints, quot-rem, rem_below}
use Rattle.base_core.specs.declared.Compare.TheVariants.{Eq, Ne, Lt, Le, Ge, Gt}
use Rattle.base_fixed_point.specs.declared.Round.{Round}
use Rattle.base_fixed_point.specs.declared.Round.TheVariants.{Ceiling, Convergent, Floor, Nearest, Zero}
use Rattle.base_fixed_point.specs.declared.Round.TheVariants as round
use Rattle.base_fixed_point.specs.Rounding.{floor_div, rounded}
use Rattle.c_syntax.specs.declared.BinOp.TheVariants.{Add, Sub, Rem}
use Rattle.c_syntax.specs.declared.Leaf.TheVariants.{Param}
use Rattle.c_syntax.specs.Tree.{ExprTree, literal, binary, pick, CondTree, compare, both, either}
use Rattle.c_semantics.specs.Cells.{no_cells}
use Rattle.c_semantics.specs.Values.{Function, Reads, reads}
use Rattle.base_core.specs.Numbers.{int_at}
use Rattle.c_semantics.specs.EvaluationLaws.{Gives, Holds}
use Rattle.c_semantics.proofs.lemmas.WithoutSteps.{gives_literal, gives_read, gives_neg, gives_add, gives_sub, gives_div, gives_rem, gives_pick, holds_compare, holds_both, holds_either}
use Rattle.emit_prelude.specs.Bodies.{argument, quotient, rest, half, minus_half, one_above, one_below, floor_body, ceiling_body, zero_body, nearer, nearest_body, away_body, is_odd, even_body, clamp_body, offset_rest, wrap_body}
use Rattle.emit_prelude.proofs.Division as division
use Rattle.emit_prelude.proofs.Division.{by_rest, by_rest_is, quotient-le}

-- the body of the function of a rounding rule
abbrev pub rounding_body : Round → ExprTree
rounding_body Floor = floor_body
rounding_body Ceiling = ceiling_body
rounding_body Zero = zero_body
rounding_body Nearest = nearest_body
rounding_body round.Round = away_body
rounding_body Convergent = even_body

halved_is : (h : ℕ) → (h + h) / 2 ≡ h
halved_is h = omega arith

-- ---- Rounding

module _ (functions : List Function) (line : ℕ) (v : ℤ) (d h : ℕ) (even : d ≡ h + h) (some : 1 ≤ h)
    (small_v : unsigned_abs v ≤ 2 ^ 62) (small_d : d ≤ 2 ^ 62) where
  abbrev leaf : Reads
  leaf = reads (v ∷ pos d ∷ []) no_cells

  abbrev q : ℤ
  q = int_div v (pos d)

  abbrev r : ℤ
  r = int_rem v (pos d)

  abbrev Is : ExprTree → ℤ → Type 0
  Is e x = Gives functions leaf line e x

  abbrev Has : CondTree → Bool → Type 0
  Has c b = Holds functions leaf line c b

  given : (k : ℕ) → Is (argument k) (int_at (v ∷ pos d ∷ []) k)
  given k = gives_read functions leaf line (Param k)

  number : (x : ℤ) → Is (literal x) x
  number = gives_literal functions leaf line

  above : 1 ≤ d
  above = omega (arith, even, some)

  quotient_small : unsigned_abs q ≤ 2 ^ 61
  quotient_small = omega (arith, quotient-le v d h even some, small_v)

  quotient_is : Is quotient q
  quotient_is = gives_div functions leaf line (argument 0) (argument 1) v d (given 0) (given 1) above (omega (arith, quotient_small))

  rest_is : Is rest r
  rest_is = gives_rem functions leaf line (argument 0) (argument 1) v d (given 0) (given 1) above (omega (arith, quotient_small))

  half_is : Is half (pos h)
  half_is =
      let halves : d / 2 ≡ h = ap (λ k. k / 2) even ∙ halved_is h in
      subst (λ k. Is half (pos k)) halves (gives_div functions leaf line (argument 1) (literal (pos 2)) (pos d) 2 (given 1) (number (pos 2))
      (omega arith) (omega (arith, halves, even, small_d)))

  minus_half_is : Is minus_half (neg_ℤ (pos h))
  minus_half_is = gives_neg functions leaf line half (pos h) half_is (omega (arith, ints, even, small_d))

  above_is : Is one_above (q +ℤ pos 1)
  above_is = gives_add functions leaf line quotient (literal (pos 1)) q (pos 1) quotient_is (number (pos 1))
      (omega (arith, ints, quotient_small))

  below_is : Is one_below (q -ℤ pos 1)
  below_is = gives_sub functions leaf line quotient (literal (pos 1)) q (pos 1) quotient_is (number (pos 1))
      (omega (arith, ints, quotient_small))

  nearer_is : (up down : CondTree) (t u : Bool) → Has up t → Has down u → Is (nearer up down) (cond t (q +ℤ pos 1) (cond u (q -ℤ pos 1) q))
  nearer_is up down t u f g =
      gives_pick functions leaf line up one_above (pick down one_below quotient) t (q +ℤ pos 1) (cond u (q -ℤ pos 1) q) f above_is
      (gives_pick functions leaf line down one_below quotient u (q -ℤ pos 1) q g below_is quotient_is)

  odd_is : Has is_odd (division.is_odd q)
  odd_is = holds_compare functions leaf line Ne (binary Rem quotient (literal (pos 2))) (literal (pos 0)) (int_rem q (pos 2)) (pos 0)
      (gives_rem functions leaf line quotient (literal (pos 2)) q 2 quotient_is (number (pos 2)) (omega arith)
      (omega (arith, quotient-le q 2 1 refl (omega arith), quotient_small)))
      (number (pos 0))

  body_is : (rule : Round) → Is (rounding_body rule) (by_rest rule q r h)
  body_is Floor =
      gives_pick functions leaf line (compare Lt rest (literal (pos 0))) one_below quotient (int_lt r (pos 0)) (q -ℤ pos 1) q
      (holds_compare functions leaf line Lt rest (literal (pos 0)) r (pos 0) rest_is (number (pos 0))) below_is quotient_is
  body_is Ceiling =
      gives_pick functions leaf line (compare Gt rest (literal (pos 0))) one_above quotient (int_lt (pos 0) r) (q +ℤ pos 1) q
      (holds_compare functions leaf line Gt rest (literal (pos 0)) r (pos 0) rest_is (number (pos 0))) above_is quotient_is
  body_is Zero = quotient_is
  body_is Nearest =
      nearer_is (compare Ge rest half) (compare Lt rest minus_half) (int_le (pos h) r) (int_lt r (neg_ℤ (pos h)))
      (holds_compare functions leaf line Ge rest half r (pos h) rest_is half_is)
      (holds_compare functions leaf line Lt rest minus_half r (neg_ℤ (pos h)) rest_is minus_half_is)
  body_is round.Round =
      nearer_is (compare Ge rest half) (compare Le rest minus_half) (int_le (pos h) r) (int_le r (neg_ℤ (pos h)))
      (holds_compare functions leaf line Ge rest half r (pos h) rest_is half_is)
      (holds_compare functions leaf line Le rest minus_half r (neg_ℤ (pos h)) rest_is minus_half_is)
  body_is Convergent =
      nearer_is (either (compare Gt rest half) (both (compare Eq rest half) is_odd))
      (either (compare Lt rest minus_half) (both (compare Eq rest minus_half) is_odd))
      (int_lt (pos h) r || (int_eq r (pos h) && division.is_odd q))
      (int_lt r (neg_ℤ (pos h)) || (int_eq r (neg_ℤ (pos h)) && division.is_odd q))
      (holds_either functions leaf line (compare Gt rest half) (both (compare Eq rest half) is_odd) (int_lt (pos h) r)
      (int_eq r (pos h) && division.is_odd q)
      (holds_compare functions leaf line Gt rest half r (pos h) rest_is half_is)
      (holds_both functions leaf line (compare Eq rest half) is_odd (int_eq r (pos h)) (division.is_odd q)
      (holds_compare functions leaf line Eq rest half r (pos h) rest_is half_is) odd_is))
      (holds_either functions leaf line (compare Lt rest minus_half) (both (compare Eq rest minus_half) is_odd)
      (int_lt r (neg_ℤ (pos h))) (int_eq r (neg_ℤ (pos h)) && division.is_odd q)
      (holds_compare functions leaf line Lt rest minus_half r (neg_ℤ (pos h)) rest_is minus_half_is)
      (holds_both functions leaf line (compare Eq rest minus_half) is_odd (int_eq r (neg_ℤ (pos h))) (division.is_odd q)
      (holds_compare functions leaf line Eq rest minus_half r (neg_ℤ (pos h)) rest_is minus_half_is) odd_is))

  pub rounding_gives : (rule : Round) → Is (rounding_body rule) (rounded rule v d)
  rounding_gives rule = subst (Is (rounding_body rule)) (by_rest_is rule v d h even some) (body_is rule)

-- ---- Ranges

module _ (functions : List Function) (line : ℕ) (v lo third : ℤ) where
  abbrev three : Reads
  three = reads (v ∷ lo ∷ third ∷ []) no_cells

  among : (k : ℕ) → Gives functions three line (argument k) (int_at (v ∷ lo ∷ third ∷ []) k)
  among k = gives_read functions three line (Param k)

  pub clamp_gives : Gives functions three line clamp_body (cond (int_lt v lo) lo (cond (int_lt third v) third v))
  clamp_gives =
      gives_pick functions three line (compare Lt (argument 0) (argument 1)) (argument 1)
      (pick (compare Gt (argument 0) (argument 2)) (argument 2) (argument 0)) (int_lt v lo) lo
      (cond (int_lt third v) third v)
      (holds_compare functions three line Lt (argument 0) (argument 1) v lo (among 0) (among 1)) (among 1)
      (gives_pick functions three line (compare Gt (argument 0) (argument 2)) (argument 2) (argument 0) (int_lt third v) third v
      (holds_compare functions three line Gt (argument 0) (argument 2) v third (among 0) (among 2)) (among 2) (among 0))

-- the rest of a division that is not negative
euclid : (m : ℤ) (n : ℕ) → 1 ≤ n → (e : ℕ) × (e < n) × (m ≡ (floor_div m n *ℤ pos n) +ℤ pos e) × (int_rem_euclid m (pos n) ≡ pos e)
euclid (pos a) n h = (a % n, mod-lt a h, (let s = div-add-mod' a n in omega (arith, ints, s)), refl)
euclid (negsuc a) n h =
    let s = div-add-mod' a n in
    let l = mod-lt a h in
    (n - 1 - a % n, omega (arith, l, h), omega (arith, ints, s, l, h), refl)

-- it is made from the rest with the sign of the number
euclid_is : (m : ℤ) (n : ℕ) → 1 ≤ n → (b : Bool) → int_lt (int_rem m (pos n)) (pos 0) ≡ b →
    cond b (int_rem m (pos n) +ℤ pos n) (int_rem m (pos n)) ≡ int_rem_euclid m (pos n)
euclid_is m n h true e =
    let s = quot-rem m (pos n) in
    let small = rem_below m (pos n) h in
    let (r, below, split, is) = euclid m n h in
    let less = division.one_less (int_div m (pos n)) n in
    let same =
    close (int_div m (pos n) -ℤ pos 1) (floor_div m n) n (omega (arith, ints, s, small, below, split, less, e))
    (omega (arith, ints, s, small, below, split, less, e)) in
    let times = ap (λ k. k *ℤ pos n) same in
    omega (arith, ints, s, split, is, less, times)
euclid_is m n h false e =
    let s = quot-rem m (pos n) in
    let small = rem_below m (pos n) h in
    let (r, below, split, is) = euclid m n h in
    let same =
    close (int_div m (pos n)) (floor_div m n) n (omega (arith, ints, s, small, below, split, e))
    (omega (arith, ints, s, small, below, split, e)) in
    let times = ap (λ k. k *ℤ pos n) same in
    omega (arith, ints, s, split, is, times)

part_of : (a n : ℕ) → 1 ≤ n → a / n ≤ a
part_of a n h = omega (arith, div-mul-le_self a n, le-mul_of_pos_right (a / n) h)

quotient-abs : (m : ℤ) (n : ℕ) → 1 ≤ n → unsigned_abs (int_div m (pos n)) ≤ unsigned_abs m
quotient-abs (pos a) n h = part_of a n h
quotient-abs (negsuc a) n h = omega (arith, ints, division.abs-neg (suc a / n), part_of (suc a) n h)

module _ (functions : List Function) (line : ℕ) (v lo : ℤ) (n : ℕ) (some : 1 ≤ n) (small_n : n ≤ 2 ^ 32)
    (low : neg_ℤ (pos (2 ^ 31)) ≤ℤ lo) (high : lo ≤ℤ pos 0) (small_v : unsigned_abs v ≤ 2 ^ 62) where
  abbrev wrapping : Reads
  wrapping = reads (v ∷ lo ∷ pos n ∷ []) no_cells

  abbrev m : ℤ
  m = v -ℤ lo

  abbrev t : ℤ
  t = int_rem m (pos n)

  part : (k : ℕ) → Gives functions wrapping line (argument k) (int_at (v ∷ lo ∷ pos n ∷ []) k)
  part k = gives_read functions wrapping line (Param k)

  offset_is : Gives functions wrapping line offset_rest t
  offset_is =
      gives_rem functions wrapping line (binary Sub (argument 0) (argument 1)) (argument 2) m n
      (gives_sub functions wrapping line (argument 0) (argument 1) v lo (part 0) (part 1) (omega (arith, ints, low, high, small_v)))
      (part 2) some (let q = quotient-abs m n some in omega (arith, ints, q, low, high, small_v))

  t_small : unsigned_abs t < n
  t_small = rem_below m (pos n) some

  pub wrap_gives : Gives functions wrapping line wrap_body (lo +ℤ int_rem_euclid m (pos n))
  wrap_gives = subst (Gives functions wrapping line wrap_body) same picked
    where
      picked : Gives functions wrapping line wrap_body (cond (int_lt t (pos 0)) ((t +ℤ pos n) +ℤ lo) (t +ℤ lo))
      picked =
          gives_pick functions wrapping line (compare Lt offset_rest (literal (pos 0)))
          (binary Add (binary Add offset_rest (argument 2)) (argument 1)) (binary Add offset_rest (argument 1))
          (int_lt t (pos 0)) ((t +ℤ pos n) +ℤ lo) (t +ℤ lo)
          (holds_compare functions wrapping line Lt offset_rest (literal (pos 0)) t (pos 0) offset_is
          (gives_literal functions wrapping line (pos 0)))
          (gives_add functions wrapping line (binary Add offset_rest (argument 2)) (argument 1) (t +ℤ pos n) lo
          (gives_add functions wrapping line offset_rest (argument 2) t (pos n) offset_is (part 2)
          (let small = t_small in omega (arith, ints, small, small_n)))
          (part 1) (let small = t_small in omega (arith, ints, small, small_n, low, high)))
          (gives_add functions wrapping line offset_rest (argument 1) t lo offset_is (part 1)
          (let small = t_small in omega (arith, ints, small, small_n, low, high)))

      by : (b : Bool) → int_lt t (pos 0) ≡ b → cond b ((t +ℤ pos n) +ℤ lo) (t +ℤ lo) ≡ lo +ℤ cond b (t +ℤ pos n) t
      by true e = omega (arith, ints)
      by false e = omega (arith, ints)

      same : cond (int_lt t (pos 0)) ((t +ℤ pos n) +ℤ lo) (t +ℤ lo) ≡ lo +ℤ int_rem_euclid m (pos n)
      same = by (int_lt t (pos 0)) refl ∙ ap (λ e. lo +ℤ e) (euclid_is m n some (int_lt t (pos 0)) refl)
