-- All sets of the inputs of a system, and sets that are none of some.
use Rattle.std.proofs.Common.{◌≡◌, ◌⊎◌, ℕ, zero, suc, ◌+◌, ◌-◌, ◌*◌, ◌%◌, ◌^◌, ◌<◌, ◌≤◌, ◌==◌, ◌||◌, ◌&&◌, eqb, Bool, true, false, cond, List, [], ◌∷◌, ◌++◌, length, refl, sym, ap, ap₂, subst, ◌∙◌, arith, inl, inr}
use Rattle.std.specs.Cmp.{IsEquivalence}
use Rattle.std.specs.Int.{bit_at}
use Rattle.std.specs.List.{AllByRecursion, IsDistinct, range_with_len}
use Rattle.std.proofs.lemmas.Bool.{cases_lt, eq-eqb, eqb-true, false≢true, ne_eqb}
use Rattle.std.proofs.lemmas.List.{length-append}
use Rattle.std.proofs.lemmas.List.Folds.{list_any-append}
use Rattle.std.proofs.lemmas.List.FromFn.{length-range_with_len}
use Rattle.std.proofs.lemmas.Map.Made.{length-le_from_is_member}
use Rattle.std.proofs.lemmas.Nat.{pow-add, pow_pos}
use Rattle.std.proofs.Math.Nat.{add-mul-mod_self_right, mod-eq_of_lt, mod-lt}
use Rattle.std.proofs.Math.Pow.{pow_mono}
use Rattle.base_core.specs.Ports.{has_bit}
use Rattle.modules_report.specs.Following.{controls_with}
use Rattle.modules_report.specs.Heads.{own_bit}
use Rattle.modules_report.specs.Reports.{IsSetOf}
use Rattle.modules_report.specs.Texts.{ports_with}
use Rattle.modules_report.proofs.Differents.{among}
use Rattle.modules_report.proofs.Fills.{AreNew}
use Rattle.modules_report.proofs.HeadSets.{ports_weight}
use Rattle.modules_report.proofs.SameNeeds.{set-bit}

-- ---- Rising numbers

abbrev Rises : ℕ → List ℕ → Type 0
Rises a [] = Unit {0}
Rises a (x ∷ xs) = (a ≤ x) × Rises (suc x) xs

rises-low : (a b : ℕ) (xs : List ℕ) → a ≤ b → Rises b xs → Rises a xs
rises-low a b [] low r = tt
rises-low a b (x ∷ xs) low r = ((let h = r.0 in omega (arith, low, h)), r.1)

rises-range : (a n : ℕ) → Rises a (range_with_len a n)
rises-range a zero = tt
rises-range a (suc n) = (omega arith, rises-low (suc a) (a + 1) (range_with_len (a + 1) n) (omega arith) (rises-range (a + 1) n))

rises-append : (a b : ℕ) (xs ys : List ℕ) → Rises a xs → AllByRecursion (λ x. x < b) xs → a ≤ b → Rises b ys → Rises a (xs ++ ys)
rises-append a b [] ys r below low s = rises-low a b ys low s
rises-append a b (x ∷ xs) ys r below low s = (r.0, rises-append (suc x) b xs ys r.1 below.1 (let h = below.0 in omega (arith, h)) s)

rises-above : (a : ℕ) (xs : List ℕ) → Rises a xs → AllByRecursion (λ x. a ≤ x) xs
rises-above a [] r = tt
rises-above a (x ∷ xs) r = (r.0, rises-above a xs (rises-low a (suc x) xs (let h = r.0 in omega (arith, h)) r.1))

rises-distinct : (a : ℕ) (xs : List ℕ) → Rises a xs → IsDistinct eqb xs
unfolding IsDistinct
rises-distinct a [] r = tt
rises-distinct a (x ∷ xs) r = (others xs (rises-above (suc x) xs r.1), rises-distinct (suc x) xs r.1)
  where
    others : (ys : List ℕ) → AllByRecursion (λ y. suc x ≤ y) ys → AllByRecursion (λ y. eqb x y ≡ false) ys
    others [] b = tt
    others (y ∷ ys) b = (ne_eqb x y (λ same. (let h = b.0 in omega (arith, h, same))), others ys b.1)

-- ---- Ranges

each-of-range : (P : ℕ → Type 0) (a n : ℕ) → ((k : ℕ) → a ≤ k → k < a + n → P k) → AllByRecursion P (range_with_len a n)
each-of-range P a zero h = tt
each-of-range P a (suc n) h = (
  h a (omega arith) (omega arith),
  each-of-range P (a + 1) n (λ k low high. h k (omega (arith, low)) (omega (arith, high))),
)

or-right : (s t : Bool) → t ≡ true → (s || t) ≡ true
or-right true t e = refl
or-right false t e = e

or-left : (s t : Bool) → s ≡ true → (s || t) ≡ true
or-left true t e = refl
or-left false t e = absurd (false≢true e)

in-range : (a n k : ℕ) → a ≤ k → k < a + n → among (range_with_len a n) k ≡ true
in-range a zero k low high = absurd (omega (arith, low, high))
in-range a (suc n) k low high = elim (cases_lt a k) [
  | inl later ↦ or-right (k == a) (among (range_with_len (a + 1) n) k) (in-range (a + 1) n k (omega (arith, later)) (omega (arith, high)))
  | inr here ↦ or-left (k == a) (among (range_with_len (a + 1) n) k) (eq-eqb k a (omega (arith, here, low)))
]

-- the sets of so many for the numbered inputs, each with each set of the controls
abbrev pub all_sets : ℕ → Bool → Bool → List ℕ
all_sets w true true =
    range_with_len 0 w
    ++ (range_with_len (2 ^ 32) w ++ (range_with_len (2 ^ 33) w ++ range_with_len (2 ^ 33 + 2 ^ 32) w))
all_sets w true false = range_with_len 0 w ++ range_with_len (2 ^ 32) w
all_sets w false true = range_with_len 0 w ++ range_with_len (2 ^ 33) w
all_sets w false false = range_with_len 0 w

module _ (inputs : ℕ) (few : inputs ≤ 32) where
  abbrev w : ℕ
  w = 2 ^ inputs

  small : w ≤ 2 ^ 32
  small = pow_mono few

  low-range : (a b : ℕ) → a + 2 ^ 32 ≤ b → AllByRecursion (λ x. x < b) (range_with_len a w)
  low-range a b h = each-of-range (λ x. x < b) a w (λ k low high. (let s = small in omega (arith, high, h, s)))

  pub sets-distinct : (s t : Bool) → IsDistinct eqb (all_sets w s t)
  sets-distinct true true = rises-distinct 0 (all_sets w true true)
      (rises-append 0 (2 ^ 32) (range_with_len 0 w) _ (rises-range 0 w) (low-range 0 (2 ^ 32) (omega arith)) (omega arith)
      (rises-append (2 ^ 32) (2 ^ 33) (range_with_len (2 ^ 32) w) _ (rises-range (2 ^ 32) w)
      (low-range (2 ^ 32) (2 ^ 33) (omega arith)) (omega arith)
      (rises-append (2 ^ 33) (2 ^ 33 + 2 ^ 32) (range_with_len (2 ^ 33) w) (range_with_len (2 ^ 33 + 2 ^ 32) w) (rises-range (2 ^ 33) w)
      (low-range (2 ^ 33) (2 ^ 33 + 2 ^ 32) (omega arith)) (omega arith) (rises-range (2 ^ 33 + 2 ^ 32) w))))
  sets-distinct true false = rises-distinct 0 (all_sets w true false)
      (rises-append 0 (2 ^ 32) (range_with_len 0 w) (range_with_len (2 ^ 32) w) (rises-range 0 w)
      (low-range 0 (2 ^ 32) (omega arith)) (omega arith) (rises-range (2 ^ 32) w))
  sets-distinct false true = rises-distinct 0 (all_sets w false true)
      (rises-append 0 (2 ^ 33) (range_with_len 0 w) (range_with_len (2 ^ 33) w) (rises-range 0 w)
      (low-range 0 (2 ^ 33) (omega arith)) (omega arith) (rises-range (2 ^ 33) w))
  sets-distinct false false = rises-distinct 0 (all_sets w false false) (rises-range 0 w)

  long : (a : ℕ) → length (range_with_len a w) ≡ w
  long a = length-range_with_len a w

  pub sets-length : (s t : Bool) → length (all_sets w s t) ≡ 2 ^ (inputs + length (controls_with s t))
  sets-length true true =
      length-append (range_with_len 0 w) _ ∙ ap₂ (λ x y. x + y) (long 0) (length-append (range_with_len (2 ^ 32) w) _
      ∙ ap₂ (λ x y. x + y) (long (2 ^ 32)) (length-append (range_with_len (2 ^ 33) w) (range_with_len (2 ^ 33 + 2 ^ 32) w)
      ∙ ap₂ (λ x y. x + y) (long (2 ^ 33)) (long (2 ^ 33 + 2 ^ 32))))
      ∙ four-times w (2 ^ (inputs + 2)) (pow-add 2 inputs 2)
    where
      four-times : (x y : ℕ) → y ≡ x * 2 ^ 2 → x + (x + (x + x)) ≡ y
      four-times x y e = omega (arith, e)
  sets-length true false =
      length-append (range_with_len 0 w) (range_with_len (2 ^ 32) w) ∙ ap₂ (λ x y. x + y) (long 0) (long (2 ^ 32))
      ∙ twice w (2 ^ (inputs + 1)) (pow-add 2 inputs 1)
    where
      twice : (x y : ℕ) → y ≡ x * 2 ^ 1 → x + x ≡ y
      twice x y e = omega (arith, e)
  sets-length false true =
      length-append (range_with_len 0 w) (range_with_len (2 ^ 33) w) ∙ ap₂ (λ x y. x + y) (long 0) (long (2 ^ 33))
      ∙ twice w (2 ^ (inputs + 1)) (pow-add 2 inputs 1)
    where
      twice : (x y : ℕ) → y ≡ x * 2 ^ 1 → x + x ≡ y
      twice x y e = omega (arith, e)
  sets-length false false = long 0 ∙ ap (λ k. 2 ^ k) (let e : inputs ≡ inputs + 0 = omega arith in e)

  -- ---- Each is a set of the inputs

  low-part : (mask low k : ℕ) → low < w → mask ≡ low + k * 2 ^ 32 → mask % w ≡ low
  low-part mask low k fits e =
      ap (λ m. m % w)
      (e ∙ ap (λ y. low + k * y) (ap (λ j. 2 ^ j) (let f : 32 ≡ 32 - inputs + inputs = omega (arith, few) in f)
      ∙ pow-add 2 (32 - inputs) inputs)
      ∙ ap (λ y. low + y) (mul-assoc k (2 ^ (32 - inputs)) w))
      ∙ add-mul-mod_self_right low (k * 2 ^ (32 - inputs)) w ∙ mod-eq_of_lt fits
    where
      mul-assoc : (a b c : ℕ) → a * (b * c) ≡ a * b * c
      mul-assoc a b c = grind arith

  own : (control : Bool) (mask bit : ℕ) (t : Bool) → bit_at mask bit ≡ cond t 1 0 →
      own_bit control mask bit ≡ cond (control && t) (2 ^ bit) 0
  own control mask bit t is = ap (λ (u : Bool). cond (control && u) (2 ^ bit) 0) (set-bit mask bit t is)

  is-set : (s t : Bool) (mask low : ℕ) (x y : Bool) → low < w → mask ≡ low + (cond x 1 0 + 2 * cond y 1 0) * 2 ^ 32 →
      (s && x) ≡ x → (t && y) ≡ y → IsSetOf (ports_with inputs (controls_with s t)) mask
  is-set s t mask low x y fits e has has' =
      ports_weight inputs s t mask
      ∙ ap₂ (λ a b. a + b) (ap₂ (λ a b. a + b) (low-part mask low (cond x 1 0 + 2 * cond y 1 0) fits e)
      (own s mask 32 x (bit-32 x y e) ∙ ap (λ (u : Bool). cond u (2 ^ 32) 0) has))
      (own t mask 33 y (bit-33 x y e) ∙ ap (λ (u : Bool). cond u (2 ^ 33) 0) has')
      ∙ sums x y e
    where
      bit-32 : (x y : Bool) → mask ≡ low + (cond x 1 0 + 2 * cond y 1 0) * 2 ^ 32 → bit_at mask 32 ≡ cond x 1 0
      bit-32 true true e = let c = small in omega (arith, e, fits, c)
      bit-32 true false e = let c = small in omega (arith, e, fits, c)
      bit-32 false true e = let c = small in omega (arith, e, fits, c)
      bit-32 false false e = let c = small in omega (arith, e, fits, c)

      bit-33 : (x y : Bool) → mask ≡ low + (cond x 1 0 + 2 * cond y 1 0) * 2 ^ 32 → bit_at mask 33 ≡ cond y 1 0
      bit-33 true true e = let c = small in omega (arith, e, fits, c)
      bit-33 true false e = let c = small in omega (arith, e, fits, c)
      bit-33 false true e = let c = small in omega (arith, e, fits, c)
      bit-33 false false e = let c = small in omega (arith, e, fits, c)

      sums : (x y : Bool) → mask ≡ low + (cond x 1 0 + 2 * cond y 1 0) * 2 ^ 32 → low + cond x (2 ^ 32) 0 + cond y (2 ^ 33) 0 ≡ mask
      sums true true e = omega (arith, e)
      sums true false e = omega (arith, e)
      sums false true e = omega (arith, e)
      sums false false e = omega (arith, e)

  range-sets : (s t x y : Bool) (a : ℕ) → a ≡ (cond x 1 0 + 2 * cond y 1 0) * 2 ^ 32 → (s && x) ≡ x → (t && y) ≡ y →
      AllByRecursion (IsSetOf (ports_with inputs (controls_with s t))) (range_with_len a w)
  range-sets s t x y a is has has' = each-of-range (IsSetOf (ports_with inputs (controls_with s t))) a w (λ k low high.
      is-set s t k (k - a) x y (omega (arith, low, high)) (omega (arith, low, is)) has has')

  all-append : (P : ℕ → Type 0) (xs ys : List ℕ) → AllByRecursion P xs → AllByRecursion P ys → AllByRecursion P (xs ++ ys)
  all-append P [] ys a b = b
  all-append P (x ∷ xs) ys a b = (a.0, all-append P xs ys a.1 b)

  pub sets-are : (s t : Bool) → AllByRecursion (IsSetOf (ports_with inputs (controls_with s t))) (all_sets w s t)
  sets-are true true =
      let P : ℕ → Type 0 = IsSetOf (ports_with inputs (controls_with true true)) in
      all-append P (range_with_len 0 w) _ (range-sets true true false false 0 (omega arith) refl refl)
      (all-append P (range_with_len (2 ^ 32) w) _ (range-sets true true true false (2 ^ 32) (omega arith) refl refl)
      (all-append P (range_with_len (2 ^ 33) w) (range_with_len (2 ^ 33 + 2 ^ 32) w)
      (range-sets true true false true (2 ^ 33) (omega arith) refl refl)
      (range-sets true true true true (2 ^ 33 + 2 ^ 32) (omega arith) refl refl)))
  sets-are true false =
      let P : ℕ → Type 0 = IsSetOf (ports_with inputs (controls_with true false)) in
      all-append P (range_with_len 0 w) (range_with_len (2 ^ 32) w) (range-sets true false false false 0 (omega arith) refl refl)
      (range-sets true false true false (2 ^ 32) (omega arith) refl refl)
  sets-are false true =
      let P : ℕ → Type 0 = IsSetOf (ports_with inputs (controls_with false true)) in
      all-append P (range_with_len 0 w) (range_with_len (2 ^ 33) w) (range-sets false true false false 0 (omega arith) refl refl)
      (range-sets false true false true (2 ^ 33) (omega arith) refl refl)
  sets-are false false = range-sets false false false false 0 (omega arith) refl refl

  -- ---- Each set of the inputs is one of them

  left-of : (xs ys : List ℕ) (k : ℕ) → among xs k ≡ true → among (xs ++ ys) k ≡ true
  left-of xs ys k e = list_any-append (eqb k) xs ys ∙ ap (λ (t : Bool). t || among ys k) e

  right-of : (xs ys : List ℕ) (k : ℕ) → among ys k ≡ true → among (xs ++ ys) k ≡ true
  right-of xs ys k e = list_any-append (eqb k) xs ys ∙ or-right (among xs k) (among ys k) e

  at : (a low k : ℕ) → low < w → k ≡ low + a → among (range_with_len a w) k ≡ true
  at a low k fits e = in-range a w k (omega (arith, e)) (omega (arith, e, fits))

  pub each-among : (s t : Bool) (mask : ℕ) → IsSetOf (ports_with inputs (controls_with s t)) mask → among (all_sets w s t) mask ≡ true
  each-among s t mask is = by s t (has_bit mask 32) (has_bit mask 33) (sym is ∙ ports_weight inputs s t mask)
    where
      low : ℕ
      low = mask % w

      fits : low < w
      fits = mod-lt mask (pow_pos inputs)

      by : (s t x y : Bool) → mask ≡ low + cond (s && x) (2 ^ 32) 0 + cond (t && y) (2 ^ 33) 0 → among (all_sets w s t) mask ≡ true
      by true true true true e =
          right-of (range_with_len 0 w) _ mask
          (right-of (range_with_len (2 ^ 32) w) _ mask
          (right-of (range_with_len (2 ^ 33) w) (range_with_len (2 ^ 33 + 2 ^ 32) w) mask
          (at (2 ^ 33 + 2 ^ 32) low mask fits (omega (arith, e)))))
      by true true true false e =
          right-of (range_with_len 0 w) _ mask
          (left-of (range_with_len (2 ^ 32) w) _ mask (at (2 ^ 32) low mask fits (omega (arith, e))))
      by true true false true e =
          right-of (range_with_len 0 w) _ mask
          (right-of (range_with_len (2 ^ 32) w) _ mask
          (left-of (range_with_len (2 ^ 33) w) (range_with_len (2 ^ 33 + 2 ^ 32) w) mask
          (at (2 ^ 33) low mask fits (omega (arith, e)))))
      by true true false false e = left-of (range_with_len 0 w) _ mask (at 0 low mask fits (omega (arith, e)))
      by true false true y e = right-of (range_with_len 0 w) (range_with_len (2 ^ 32) w) mask (at (2 ^ 32) low mask fits (omega (arith, e)))
      by true false false y e = left-of (range_with_len 0 w) (range_with_len (2 ^ 32) w) mask (at 0 low mask fits (omega (arith, e)))
      by false true x true e = right-of (range_with_len 0 w) (range_with_len (2 ^ 33) w) mask (at (2 ^ 33) low mask fits (omega (arith, e)))
      by false true x false e = left-of (range_with_len 0 w) (range_with_len (2 ^ 33) w) mask (at 0 low mask fits (omega (arith, e)))
      by false false x y e = at 0 low mask fits (omega (arith, e))

-- ---- Sets that are none of some

eqb-laws : IsEquivalence eqb
eqb-laws = record {
  refl = λ x. eq-eqb x x refl;
  symm = λ x y. both x y (x == y) (y == x) refl refl;
  congr = λ x y z e. ap (λ k. eqb k z) (eqb-true x y e);
}
  where
    both : (x y : ℕ) (s t : Bool) → (x == y) ≡ s → (y == x) ≡ t → (x == y) ≡ (y == x)
    both x y true t a b = a ∙ sym (eq-eqb y x (sym (eqb-true x y a)))
    both x y false true a b = absurd (false≢true (sym a ∙ eq-eqb x y (sym (eqb-true y x b))))
    both x y false false a b = a ∙ sym b

-- different members of a list are at most as many
pub few-among : (xs ys : List ℕ) → IsDistinct eqb xs → AllByRecursion (λ x. among ys x ≡ true) xs → length xs ≤ length ys
few-among xs ys distinct all = length-le_from_is_member eqb-laws xs ys distinct (λ q is. found xs all q is)
  where
    found : (zs : List ℕ) → AllByRecursion (λ x. among ys x ≡ true) zs → (q : ℕ) → among zs q ≡ true → among ys q ≡ true
    found [] a q is = absurd (false≢true is)
    found (z ∷ zs) a q is = by (q == z) refl is (λ h. found zs a.1 q h)
      where
        by : (t : Bool) → (q == z) ≡ t → (t || among zs q) ≡ true → (among zs q ≡ true → among ys q ≡ true) → among ys q ≡ true
        by true same i more = subst (λ k. among ys k ≡ true) (sym (eqb-true q z same)) a.0
        by false other i more = more i

module _ (P : ℕ → Type 0) (sets : List ℕ) (distinct : IsDistinct eqb sets) (are : AllByRecursion P sets) where
  pub record New (ys : List ℕ) : Type 0 where
    pub member : ℕ
    pub is : P member
    pub new : among ys member ≡ false

  look : (ys xs : List ℕ) → AllByRecursion P xs → New ys ⊎ AllByRecursion (λ x. among ys x ≡ true) xs
  look ys [] a = inr tt
  look ys (x ∷ xs) a = by (among ys x) refl (look ys xs a.1)
    where
      by : (t : Bool) → among ys x ≡ t → New ys ⊎ AllByRecursion (λ x. among ys x ≡ true) xs →
          New ys ⊎ AllByRecursion (λ x. among ys x ≡ true) (x ∷ xs)
      by false is more = inl record { member = x; is = a.0; new = is }
      by true is (inl found) = inl found
      by true is (inr all) = inr (is, all)

  one-new : (ys : List ℕ) → length ys < length sets → New ys
  one-new ys fewer = elim (look ys sets are) [
    | inl found ↦ found
    | inr all ↦ absurd (let most = few-among sets ys distinct all in omega (arith, fewer, most))
  ]

  pub record News (ys : List ℕ) (n : ℕ) : Type 0 where
    pub members : List ℕ
    pub number : length members ≡ n
    pub are_new : AreNew (among ys) members
    pub each : AllByRecursion P members

  pub news : (n : ℕ) (ys : List ℕ) → n + length ys ≤ length sets → News ys n
  news zero ys fewer = record { members = []; number = refl; are_new = tt; each = tt }
  news (suc n) ys fewer =
      let one = one-new ys (omega (arith, fewer)) in
      let more = news n (one.member ∷ ys) (omega (arith, fewer)) in record {
        members = one.member ∷ more.members;
        number = ap suc more.number;
        are_new = (one.new, more.are_new);
        each = (one.is, more.each);
      }
