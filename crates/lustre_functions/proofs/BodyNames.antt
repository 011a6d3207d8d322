-- The names of the bodies of the eight functions have what these read; and both sides of the tests of `round_even` give truth values.
use Rattle.std.proofs.Common.{◌≡◌, ◌≢◌, refl, ap, ◌∙◌, ℕ, ◌+◌, ◌-◌, ◌^◌, ◌<◌, ◌≤◌, Bool, true, false, not, ◌&&◌, if◌then◌else◌, List, [], ◌∷◌, ◌++◌, codes, Some, None, ℤ, pos, neg_ℤ, int_le, unsigned_abs, arith}
use Rattle.std.specs.Prelude.{int_div, int_rem}
use Rattle.std.specs.Ordering.{int_eq}
use Rattle.std.proofs.lemmas.Bool.{and_parts}
use Rattle.std.proofs.lemmas.Int.{ints, quot-rem, rem_below}
use Rattle.base_core.specs.declared.Compare.{Compare}
use Rattle.base_core.specs.declared.Compare.TheVariants.{Eq, Ne, Lt, Gt}
use Rattle.c_syntax.specs.declared.BinOp.TheVariants.{Rem}
use Rattle.c_syntax.specs.declared.CType.TheVariants.{I64}
use Rattle.c_syntax.specs.declared.Stuck.{Stuck}
use Rattle.c_syntax.specs.declared.Why.TheVariants.{Overflow, ZeroDivisor}
use Rattle.c_syntax.specs.Tree.{ExprTree, literal, binary, CondTree, compare, both}
use Rattle.c_semantics.specs.Cells.{no_cells}
use Rattle.c_semantics.specs.Values.{Answer, Function, Reads, gives, sticks, and_then, compares, within, stuck_at, reads, eval}
use Rattle.c_semantics.specs.EvaluationLaws.{in_64, Gives, Holds}
use Rattle.c_semantics.proofs.lemmas.EvaluationLaws.{expressions_are_evaluated}
use Rattle.c_semantics.proofs.lemmas.WithoutSteps.{in_64_small, gives_literal, holds_compare, holds_both}
use Rattle.emit_prelude.specs.Bodies.{quotient, rest, half, minus_half, one_above, one_below, floor_body, ceiling_body, zero_body, nearest_body, away_body, is_odd, nearer_above, nearer_below, even_body, clamp_body, offset_rest, wrap_body, rounding_params}
use Rattle.lustre_syntax.specs.Named.{place_of}
use Rattle.lustre_system.specs.Functions.{param_name}
use Rattle.lustre_functions.specs.FromCLaws.{BothGive, HasNames, TestHasNames}
use Rattle.lustre_functions.proofs.lemmas.Given.{given-same, given-first, given-if, given-unless}

-- ---- What gives the same from whatever count of steps

abbrev Steady : {A : Type 0} → (ℕ → Answer A) → Type 0
Steady {A = A} f = (steps end other : ℕ) (v : A) → f steps ≡ gives v end → f other ≡ gives v other

given-steady : (v : ℤ) → Steady (λ steps. gives v steps)
given-steady v steps end other w is = ap (λ u. gives u other) (given-same v w steps end is)

within-steady : (line : ℕ) (v : ℤ) → Steady (within I64 Overflow line v)
within-steady line v steps end other w is =
    let (inside, same) = given-if (in_64 v) (gives v steps) (stuck_at line Overflow) w end is in
    ap (λ b. if b then gives v other else sticks (stuck_at line Overflow)) inside ∙ ap (λ u. gives u other) (given-same v w steps end same)

then-steady : {A B : Type 0} (f : ℕ → Answer A) (go : A → ℕ → Answer B) → Steady f → ((x : A) → Steady (go x)) →
    Steady (λ steps. and_then (f steps) go)
then-steady f go first later steps end other v is =
    let (x, mid, here, after) = given-first (f steps) go v end is in
    ap (λ r. and_then r go) (first steps mid other x here) ∙ later x mid end other v after

unless-steady : (b : Bool) (at : Stuck) (f : ℕ → Answer ℤ) → Steady f → Steady (λ steps. if b then sticks at else f steps)
unless-steady true at f steady steps end other v is = absurd (cc)
unless-steady false at f steady steps end other v is = steady steps end other v is

-- ---- Half of a number of 64 bits

magnitude : (q : ℤ) → in_64 q ≡ true → unsigned_abs q ≤ 2 ^ 63
magnitude q inside =
    let parts = and_parts (int_le (neg_ℤ (pos (2 ^ 63))) q) (int_le q (pos (2 ^ 63 - 1))) inside in
    omega (arith, ints, parts.0, parts.1)

halved-small : (q : ℤ) → unsigned_abs q ≤ 2 ^ 63 → unsigned_abs (int_div q (pos 2)) < 2 ^ 63
halved-small q small =
    let split = quot-rem q (pos 2) in
    let below = rem_below q (pos 2) (omega arith) in
    omega (arith, ints, split, below, small)

not_zero : pos 2 ≢ pos 0
not_zero e = omega (arith, ints, e)

-- ---- Of two parameters

module _ (functions : List Function) (line : ℕ) (x y : ℤ) where
  abbrev two : Reads
  two = reads (x ∷ y ∷ []) no_cells

  abbrev number : ExprTree → ℕ → Answer ℤ
  number = eval functions two line

  rest-steady : Steady (number rest)
  rest-steady =
      let go = λ (q : ℤ) (count : ℕ). gives (int_rem x y) count in
      unless-steady (int_eq y (pos 0)) (stuck_at line ZeroDivisor) (λ steps. and_then (within I64 Overflow line (int_div x y) steps) go)
      (then-steady (within I64 Overflow line (int_div x y)) go (within-steady line (int_div x y)) (λ q. given-steady (int_rem x y)))

  half-steady : Steady (number half)
  half-steady = within-steady line (int_div y (pos 2))

  minus_half-steady : Steady (number minus_half)
  minus_half-steady =
      then-steady (number half) (λ v count. within I64 Overflow line (neg_ℤ v) count) half-steady (λ v. within-steady line (neg_ℤ v))

  -- the quotient of which the rest was taken
  quotient-gives : (r : ℤ) (steps end : ℕ) → number rest steps ≡ gives r end →
      (in_64 (int_div x y) ≡ true) × Gives functions two line quotient (int_div x y)
  quotient-gives r steps end is =
      let go = λ (q : ℤ) (count : ℕ). gives (int_rem x y) count in
      let first = within I64 Overflow line (int_div x y) steps in
      let (some, kept) = given-unless (int_eq y (pos 0)) (and_then first go) (stuck_at line ZeroDivisor) r end is in
      let (q, mid, fit, after) = given-first first go r end kept in
      let (inside, same) = given-if (in_64 (int_div x y)) (gives (int_div x y) steps) (stuck_at line Overflow) q mid fit in (
        inside,
        λ n. ap (λ b. if b then sticks (stuck_at line ZeroDivisor) else within I64 Overflow line (int_div x y) n) some
            ∙ ap (λ b. if b then gives (int_div x y) n else sticks (stuck_at line Overflow)) inside,
      )

  -- whether it is odd
  abbrev odd : Bool
  odd = not (int_eq (int_rem (int_div x y) (pos 2)) (pos 0))

  odd-holds : (r : ℤ) (steps end : ℕ) → number rest steps ≡ gives r end → Holds functions two line is_odd odd
  odd-holds r steps end is =
      let q = int_div x y in
      let whole = quotient-gives r steps end is in
      let fits = in_64_small (int_div q (pos 2)) (halved-small q (magnitude q whole.0)) in
      let parity : Gives functions two line (binary Rem quotient (literal (pos 2))) (int_rem q (pos 2)) =
      λ n. (((expressions_are_evaluated functions two line n).operator quotient (literal (pos 2))).operates q (pos 2) n n
      (whole.1 n) refl).remainder not_zero fits in
      holds_compare functions two line Ne (binary Rem quotient (literal (pos 2))) (literal (pos 0)) (int_rem q (pos 2)) (pos 0)
      parity (gives_literal functions two line (pos 0))

  module _ (m : ExprTree) (steady : Steady (number m)) where
    tie-gives : BothGive functions two line (compare Eq rest m) is_odd
    tie-gives steps mid p is =
        let (r, one, at_rest, after) = given-first (number rest steps)
        (λ v count. and_then (number m count) (λ w last. gives (compares Eq v w) last)) p mid is in
        (odd, mid, odd-holds r steps one at_rest mid)

    more-gives : (how : Compare) → BothGive functions two line (compare how rest m) (both (compare Eq rest m) is_odd)
    more-gives how steps mid p is =
        let (r, one, at_rest, after) = given-first (number rest steps)
        (λ v count. and_then (number m count) (λ w last. gives (compares how v w) last)) p mid is in
        let (w, other, at_m, end) = given-first (number m one) (λ w last. gives (compares how r w) last) p mid after in (
          int_eq r w && odd,
          mid,
          holds_both functions two line (compare Eq rest m) is_odd (int_eq r w) odd
              (holds_compare functions two line Eq rest m r w (λ n. rest-steady steps one n r at_rest) (λ n. steady one other n w at_m))
              (odd-holds r steps one at_rest) mid,
        )

  -- ---- Names

  abbrev pub TwoNames : ExprTree → Type 0
  TwoNames =
      HasNames functions two line (Some x ∷ Some y ∷ None ∷ []) (param_name rounding_params) (λ n. [])
      (place_of (codes "v" ∷ codes "d" ∷ codes "r" ∷ [])) 0

  abbrev TwoTestNames : CondTree → Type 0
  TwoTestNames =
      TestHasNames functions two line (Some x ∷ Some y ∷ None ∷ []) (param_name rounding_params) (λ n. [])
      (place_of (codes "v" ∷ codes "d" ∷ codes "r" ∷ [])) 0

  pub quotient-names : TwoNames quotient
  quotient-names = (refl, refl)

  rest-names : TwoNames rest
  rest-names = (refl, refl)

  half-names : TwoNames half
  half-names = (refl, tt)

  minus_half-names : TwoNames minus_half
  minus_half-names = half-names

  above-names : TwoNames one_above
  above-names = (quotient-names, tt)

  below-names : TwoNames one_below
  below-names = (quotient-names, tt)

  odd-names : TwoTestNames is_odd
  odd-names = ((quotient-names, tt), tt)

  nearer_above-names : TwoTestNames nearer_above
  nearer_above-names = (
    (rest-names, half-names),
    ((rest-names, half-names), odd-names, tie-gives half half-steady),
    more-gives half half-steady Gt,
  )

  nearer_below-names : TwoTestNames nearer_below
  nearer_below-names = (
    (rest-names, minus_half-names),
    ((rest-names, minus_half-names), odd-names, tie-gives minus_half minus_half-steady),
    more-gives minus_half minus_half-steady Lt,
  )

  pub floor-names : TwoNames floor_body
  floor-names = ((rest-names, tt), below-names, quotient-names)

  pub ceiling-names : TwoNames ceiling_body
  ceiling-names = ((rest-names, tt), above-names, quotient-names)

  pub zero-names : TwoNames zero_body
  zero-names = quotient-names

  pub nearest-names : TwoNames nearest_body
  nearest-names = ((rest-names, half-names), above-names, ((rest-names, minus_half-names), below-names, quotient-names))

  pub away-names : TwoNames away_body
  away-names = ((rest-names, half-names), above-names, ((rest-names, minus_half-names), below-names, quotient-names))

  pub even-names : TwoNames even_body
  even-names = (nearer_above-names, above-names, (nearer_below-names, below-names, quotient-names))

-- ---- Of three parameters

abbrev pub clamp_params : List (List ℕ)
clamp_params = codes "v" ∷ codes "lo" ∷ codes "hi" ∷ []

abbrev pub wrap_params : List (List ℕ)
wrap_params = codes "v" ∷ codes "lo" ∷ codes "n" ∷ []

module _ (functions : List Function) (line : ℕ) (x y z : ℤ) where
  abbrev pub ThreeNames : List (List ℕ) → ExprTree → Type 0
  ThreeNames params =
      HasNames functions (reads (x ∷ y ∷ z ∷ []) no_cells) line (Some x ∷ Some y ∷ Some z ∷ None ∷ []) (param_name params) (λ n. [])
      (place_of (params ++ codes "r" ∷ [])) 0

  pub clamp-names : ThreeNames clamp_params clamp_body
  clamp-names = ((refl, refl), refl, ((refl, refl), refl, refl))

  offset-names : ThreeNames wrap_params offset_rest
  offset-names = ((refl, refl), refl)

  pub wrap-names : ThreeNames wrap_params wrap_body
  wrap-names = ((offset-names, tt), ((offset-names, refl), refl), (offset-names, refl))
