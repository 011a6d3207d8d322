-- The functions of a report say the needs of its outputs.
use Rattle.std.proofs.Common.{◌≡◌, ℕ, zero, suc, ◌+◌, ◌-◌, ◌*◌, ◌/◌, ◌^◌, ◌<◌, ◌≤◌, ◌==◌, Bool, true, false, not, cond, List, [], ◌∷◌, ◌++◌, length, get_or, map, filter, bit_and, refl, sym, ap, ap₂, subst, ◌∙◌, append_assoc, arith, inl, inr}
use Rattle.std.specs.Prelude.{flat_map}
use Rattle.std.specs.Int.{bit_at}
use Rattle.std.specs.List.{All, AllByRecursion, AllZip, enumerate_from, range_with_len}
use Rattle.std.proofs.lemmas.Bool.{cases_lt, eq-eqb, eqb-true, ne_eqb}
use Rattle.std.proofs.lemmas.List.{ext_get_or, get_or-map}
use Rattle.std.proofs.lemmas.Nat.{pow_pos}
use Rattle.std.proofs.lemmas.Nat.Bits.{and_pow, bit_at-suc, bit_at-zero, bit_at_lowest}
use Rattle.base_core.specs.declared.Port.{Port}
use Rattle.base_core.specs.Interface.{different}
use Rattle.modules_profile.specs.declared.Function.{Function}
use Rattle.modules_profile.specs.Functions.{function_for, mask_of}
use Rattle.base_core.specs.Ports.{has_bit, ports_in, ports_mask}
use Rattle.modules_report.specs.Texts.{out_line}
use Rattle.modules_report.proofs.LineWords.{IsSmall}
use Rattle.modules_report.proofs.OutLines.{kept-are, numbers_in, same-out}

pub each-one : {X : Type 0} (P : X → Type 0) (xs : List X) → All P xs → AllByRecursion P xs
each-one P [] a = tt
each-one P (x ∷ xs) a = (a 0 x (omega arith), each-one P xs (λ k d h. a (suc k) d (omega (arith, h))))

pub at-each : {X : Type 0} (P : X → Type 0) (xs : List X) (k : ℕ) (d : X) → AllByRecursion P xs → k < length xs → P (get_or xs k d)
at-each P [] k d a h = absurd (omega (arith, h))
at-each P (x ∷ xs) zero d a h = a.0
at-each P (x ∷ xs) (suc k) d a h = at-each P xs k d a.1 (omega (arith, h))

-- ---- The bits of a mask

mask-bit : (bits : List Bool) (k : ℕ) → bit_at (mask_of bits) k ≡ cond (get_or bits k false) 1 0
mask-bit [] k = bit_at-zero k
mask-bit (true ∷ bits) zero = bit_at_lowest (1 + 2 * mask_of bits) ∙ omega arith
mask-bit (false ∷ bits) zero = bit_at_lowest (2 * mask_of bits) ∙ omega arith
mask-bit (true ∷ bits) (suc k) = bit_at-suc (1 + 2 * mask_of bits) k
    ∙ ap (λ n. bit_at n k) (let e : (1 + 2 * mask_of bits) / 2 ≡ mask_of bits = omega arith in e) ∙ mask-bit bits k
mask-bit (false ∷ bits) (suc k) = bit_at-suc (2 * mask_of bits) k
    ∙ ap (λ n. bit_at n k) (let e : 2 * mask_of bits / 2 ≡ mask_of bits = omega arith in e) ∙ mask-bit bits k

pub set-bit : (mask k : ℕ) (t : Bool) → bit_at mask k ≡ cond t 1 0 → has_bit mask k ≡ t
set-bit mask k true is =
    let e : bit_and mask (2 ^ k) ≡ 1 * 2 ^ k = and_pow mask k ∙ ap (λ b. b * 2 ^ k) is in
    ap not (ne_eqb (bit_and mask (2 ^ k)) 0 (λ h. (let p = pow_pos k in omega (arith, e, h, p))))
set-bit mask k false is =
    let e : bit_and mask (2 ^ k) ≡ 0 * 2 ^ k = and_pow mask k ∙ ap (λ b. b * 2 ^ k) is in
    ap not (eq-eqb (bit_and mask (2 ^ k)) 0 (omega (arith, e)))

pub has-mask : (bits : List Bool) (k : ℕ) → has_bit (mask_of bits) k ≡ get_or bits k false
has-mask bits k = set-bit (mask_of bits) k (get_or bits k false) (mask-bit bits k)

-- ---- The members of a range that pass

pub above-range : (a n : ℕ) → AllByRecursion (λ k. a ≤ k) (range_with_len a n)
above-range a n = each a n (omega arith)
  where
    each : (b n : ℕ) → a ≤ b → AllByRecursion (λ k. a ≤ k) (range_with_len b n)
    each b zero h = tt
    each b (suc n) h = (h, each (b + 1) n (omega (arith, h)))

abbrev first-or : ℕ → List ℕ → ℕ
first-or d [] = d
first-or d (x ∷ xs) = x

abbrev rest-of : List ℕ → List ℕ
rest-of [] = []
rest-of (x ∷ xs) = xs

not-first : (a : ℕ) (xs ys : List ℕ) → AllByRecursion (λ k. a + 1 ≤ k) ys → a ∷ xs ≡ ys → ⊥
not-first a xs [] h e = let long : suc (length xs) ≡ 0 = ap length e in omega (arith, long)
not-first a xs (y ∷ ys) h e = let same : a ≡ y = ap (first-or a) e in let above = h.0 in omega (arith, same, above)

module _ (p q : ℕ → Bool) (a n k : ℕ) where
  abbrev kept : (ℕ → Bool) → List ℕ
  kept t = filter t (range_with_len (a + 1) n)

  behind : (t : ℕ → Bool) → AllByRecursion (λ k. a + 1 ≤ k) (kept t)
  behind t = kept-are (λ k. a + 1 ≤ k) t (range_with_len (a + 1) n) (above-range (a + 1) n)

  here : p a ≡ q a → kept p ≡ kept q → a ≤ k → (kept p ≡ kept q → a + 1 ≤ k → p k ≡ q k) → p k ≡ q k
  here same rest low more = elim (cases_lt a k) [
    | inl later ↦ more rest (omega (arith, later))
    | inr not_later ↦ let at : k ≡ a = omega (arith, low, not_later) in ap p at ∙ same ∙ ap q (sym at)
  ]

  one-more : (t u : Bool) → p a ≡ t → q a ≡ u → a ≤ k → (kept p ≡ kept q → a + 1 ≤ k → p k ≡ q k) →
      cond t (a ∷ kept p) (kept p) ≡ cond u (a ∷ kept q) (kept q) → p k ≡ q k
  one-more true true is was low more e = here (is ∙ sym was) (ap rest-of e) low more
  one-more false false is was low more e = here (is ∙ sym was) e low more
  one-more true false is was low more e = absurd (not-first a (kept p) (kept q) (behind q) e)
  one-more false true is was low more e = absurd (not-first a (kept q) (kept p) (behind p) (sym e))

pub same-kept : (p q : ℕ → Bool) (a n k : ℕ) → filter p (range_with_len a n) ≡ filter q (range_with_len a n) → a ≤ k → k < a + n → p k ≡ q k
same-kept p q a zero k e low high = absurd (omega (arith, low, high))
same-kept p q a (suc n) k e low high =
    one-more p q a n k (p a) (q a) refl refl low (λ f above. same-kept p q (a + 1) n k f above (omega (arith, high))) e

-- ---- Different members

unfiltered : (Q : ℕ → Type 0) (x : ℕ) (ys : List ℕ) → Q x → AllByRecursion Q (filter (λ y. not (y == x)) ys) → AllByRecursion Q ys
unfiltered Q x [] own a = tt
unfiltered Q x (y ∷ ys) own a = by (y == x) refl (λ b. unfiltered Q x ys own b) a
  where
    by : (t : Bool) → (y == x) ≡ t → (AllByRecursion Q (filter (λ y. not (y == x)) ys) → AllByRecursion Q ys) →
        AllByRecursion Q (cond (not t) (y ∷ filter (λ y. not (y == x)) ys) (filter (λ y. not (y == x)) ys)) → AllByRecursion Q (y ∷ ys)
    by true same more a = (subst Q (sym (eqb-true y x same)) own, more a)
    by false other more a = (a.0, more a.1)

pub from-different : (Q : ℕ → Type 0) (xs : List ℕ) → AllByRecursion Q (different xs) → AllByRecursion Q xs
from-different Q [] a = tt
from-different Q (x ∷ xs) a = (a.0, from-different Q xs (unfiltered Q x (different xs) a.0 a.1))

pub to-different : (Q : ℕ → Type 0) (xs : List ℕ) → AllByRecursion Q xs → AllByRecursion Q (different xs)
to-different Q [] a = tt
to-different Q (x ∷ xs) a = (a.0, kept-are Q _ (different xs) (to-different Q xs a.1))

-- ---- From the lines of functions to needs

module _ (ports : List Port) (outputs : ℕ) where
  -- two functions with one line
  pub record AreOne (f g : Function) : Type 0 where
    pub takes : ports_in f.inputs ports ≡ ports_in g.inputs ports
    pub gives : numbers_in f.outputs outputs ≡ numbers_in g.outputs outputs

  pub same-outs : AllByRecursion IsSmall ports → outputs ≤ 32 → (fs gs : List Function) (j : ℕ) (x y : List ℕ) → length fs ≡ length gs →
      j + length fs < 2 ^ 64 →
      flat_map (λ (f : ℕ × Function). out_line ports outputs f.0 f.1) (enumerate_from j fs) ++ x
      ≡ flat_map (λ (f : ℕ × Function). out_line ports outputs f.0 f.1) (enumerate_from j gs) ++ y →
      AllZip AreOne fs gs × (x ≡ y)
  same-outs small few [] [] j x y len bound e = (tt, e)
  same-outs small few [] (g ∷ gs) j x y len bound e = absurd (omega (arith, len))
  same-outs small few (f ∷ fs) [] j x y len bound e = absurd (omega (arith, len))
  same-outs small few (f ∷ fs) (g ∷ gs) j x y len bound e =
      let one = same-out ports outputs j f g _ _ small few (omega (arith, bound)) (sym (append_assoc (out_line ports outputs j f) _ x) ∙ e
      ∙ append_assoc (out_line ports outputs j g) _ y) in
      let more = same-outs small few fs gs (j + 1) x y (omega (arith, len)) (omega (arith, bound)) one.2 in
      ((record { takes = one.0; gives = one.1 }, more.0), more.1)

  abbrev pub IsOwn : ℕ → Type 0
  IsOwn mask = ports_mask (ports_in mask ports) ≡ mask

  abbrev AreGiven : List ℕ → List ℕ → ℕ → Type 0
  AreGiven ns ms d = numbers_in (mask_of (map (λ n. n == d) ns)) outputs ≡ numbers_in (mask_of (map (λ n. n == d) ms)) outputs

  same-sets : (ns ms ds es : List ℕ) → AllByRecursion IsOwn ds → AllByRecursion IsOwn es →
      AllZip AreOne (map (function_for ns) ds) (map (function_for ms) es) →
      (ds ≡ es) × AllByRecursion (AreGiven ns ms) ds
  same-sets ns ms [] [] own own' are = (refl, tt)
  same-sets ns ms [] (e ∷ es) own own' are = absurd are
  same-sets ns ms (d ∷ ds) [] own own' are = absurd are
  same-sets ns ms (d ∷ ds) (e ∷ es) own own' are =
      let more = same-sets ns ms ds es own.1 own'.1 are.1 in
      let same : d ≡ e = sym own.0 ∙ ap ports_mask are.0.takes ∙ own'.0 in (
        ap₂ (λ (k : ℕ) (ks : List ℕ). k ∷ ks) same more.0,
        (are.0.gives ∙ ap (λ k. numbers_in (mask_of (map (λ n. n == k) ms)) outputs) (sym same), more.1),
      )

  pub same-needs : (ns ms : List ℕ) → length ns ≡ outputs → length ms ≡ outputs → AllByRecursion IsOwn ns → AllByRecursion IsOwn ms →
      AllZip AreOne (map (function_for ns) (different ns)) (map (function_for ms) (different ms)) → ns ≡ ms
  same-needs ns ms len len' own own' are = ext_get_or 0 ns ms (len ∙ sym len') at
    where
      given : AllByRecursion (AreGiven ns ms) ns
      given = from-different (AreGiven ns ms) ns
          (same-sets ns ms (different ns) (different ms) (to-different IsOwn ns own) (to-different IsOwn ms own') are).1

      bit : (xs : List ℕ) (d o : ℕ) → o < length xs → has_bit (mask_of (map (λ n. n == d) xs)) o ≡ (get_or xs o 0 == d)
      bit xs d o within = has-mask (map (λ n. n == d) xs) o ∙ get_or-map (λ n. n == d) xs o 0 false within

      at : (o : ℕ) → o < length ns → get_or ns o 0 ≡ get_or ms o 0
      at o within =
          let d : ℕ = get_or ns o 0 in
          let told : has_bit (mask_of (map (λ n. n == d) ns)) o ≡ has_bit (mask_of (map (λ n. n == d) ms)) o =
          subst (λ k. has_bit (mask_of (map (λ n. n == d) ns)) k ≡ has_bit (mask_of (map (λ n. n == d) ms)) k)
          (let e : suc o - 1 ≡ o = omega arith in e)
          (same-kept (λ k. has_bit (mask_of (map (λ n. n == d) ns)) (k - 1))
          (λ k. has_bit (mask_of (map (λ n. n == d) ms)) (k - 1)) 1 outputs (suc o)
          (at-each (AreGiven ns ms) ns o 0 given within) (omega arith) (omega (arith, within, len))) in
          sym (eqb-true (get_or ms o 0) d (sym (bit ms d o (omega (arith, within, len, len'))) ∙ sym told
          ∙ bit ns d o within ∙ eq-eqb d d refl))
