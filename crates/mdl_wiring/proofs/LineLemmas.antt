-- One line end leads to each input where nothing is refused.
use Rattle.std.proofs.Common.{◌≡◌, refl, sym, ◌∙◌, ap, ap₂, ℕ, suc, zero, ◌+◌, ◌-◌, ◌<◌, ◌≤◌, Bool, true, false, ◌||◌, cond, true≢false, List, [], ◌∷◌, ◌++◌, length, take, append_assoc, Option, None, Some, arith}
use Rattle.std.specs.Prelude.{⊤, not, filter, find, slice_get, option_map}
use Rattle.std.specs.Option.{option_or, option_map_or}
use Rattle.std.specs.List.{list_any, range_with_len}
use Rattle.std.proofs.lemmas.List.Folds.{list_any-append}
use Rattle.base_refusals.specs.Refusals.{PlainRefusal, TwoSources}
use Rattle.base_refusals.proofs.lemmas.FirstRefusals.{none-first, none-later}
use Rattle.mdl_wiring.specs.declared.ports.Input.{Input}
use Rattle.mdl_wiring.specs.Members.{Member, port_count}
use Rattle.mdl_wiring.specs.Lines.{LineEnd, sources_in, ends_in}
use Rattle.mdl_wiring.specs.Ports.{is_input, input_at, leads_to}
use Rattle.mdl_wiring.specs.Refusals.{least_from, is_led_among, second_source, double_sources, is_loose, numbers_of, unconnected, unconnected_ports, double_names, missing_blocks, missing_ports, lines_refusal}
use Rattle.mdl_wiring.specs.Laws.{EachInputHasOneLine}
use Rattle.mdl_wiring.proofs.InputLemmas.{one-equal}

-- ---- Where no refusal is found

pub or-first : (a b : Option PlainRefusal) → option_or a b ≡ None → a ≡ None
or-first None b e = refl
or-first (Some a) b e = cc

pub or-later : (a b : Option PlainRefusal) → option_or a b ≡ None → b ≡ None
or-later None b e = e
or-later (Some a) b e = cc

-- none is found at any place
from-none : {A : Type 0} (found : ℕ → A → Option PlainRefusal) (k : ℕ) (xs : List A) → least_from found k xs ≡ None → (i : ℕ) (x : A) →
    slice_get xs i ≡ Some x → found (k + i) x ≡ None
from-none found k [] none i x e = cc
from-none found k (y ∷ ys) none zero x e = ap₂ found (plus_zero k) (same e) ∙ none-first (found k y) (least_from found (k + 1) ys) none
  where
    plus_zero : (k : ℕ) → k + 0 ≡ k
    plus_zero k = omega arith

    same : Some y ≡ Some x → x ≡ y
    same e = cc
from-none found k (y ∷ ys) none (suc i) x e =
    ap (λ n. found n x) (plus_suc k i) ∙ from-none found (k + 1) ys (none-later (found k y) (least_from found (k + 1) ys) none) i x e
  where
    plus_suc : (k i : ℕ) → k + suc i ≡ k + 1 + i
    plus_suc k i = omega arith

-- ---- At least one line end

-- no number passes a test by which none is found
find-none : (test : ℕ → Bool) (a n : ℕ) → find test (range_with_len a n) ≡ None → (k : ℕ) → a ≤ k → k < a + n → test k ≡ false
find-none test a zero none k low high = absurd (omega (arith, low, high))
find-none test a (suc n) none k low high = by (test a) refl none (λ rest. find-none test (a + 1) n rest k)
  where
    far : (d : ℕ) → k ≡ a + d → test a ≡ false → (a + 1 ≤ k → k < a + 1 + n → test k ≡ false) → test k ≡ false
    far zero e here later = ap test (e ∙ plus_zero a) ∙ here
      where
        plus_zero : (a : ℕ) → a + 0 ≡ a
        plus_zero a = omega arith
    far (suc d) e here later = later (omega (arith, e)) (omega (arith, high))

    by : (t : Bool) → test a ≡ t → cond t (Some a) (find test (range_with_len (a + 1) n)) ≡ None →
        (find test (range_with_len (a + 1) n) ≡ None → a + 1 ≤ k → k < a + 1 + n → test k ≡ false) → test k ≡ false
    by true e rest later = cc
    by false e rest later = far (k - a) (omega (arith, low)) e (later rest)

mapped-none : {A : Type 0} (f : A → PlainRefusal) (o : Option A) → option_map f o ≡ None → o ≡ None
mapped-none f None e = refl
mapped-none f (Some x) e = cc

not-false : (t : Bool) → not t ≡ false → t ≡ true
not-false true e = refl
not-false false e = absurd (true≢false e)

-- a line end leads to each input
pub some-line : (ends : List LineEnd) (ms : List Member) → unconnected_ports ends ms ≡ None → (at : ℕ) (m : Member) (number : ℕ) →
    slice_get ms at ≡ Some m → 1 ≤ number → number ≤ port_count m.shape →
    list_any (leads_to (record { member = at; number = number })) ends ≡ true
some-line ends ms none at m number here low high =
    not-false (list_any (leads_to (record { member = at; number = number })) ends)
    (find-none (is_loose ends at) 1 (port_count m.shape)
    (mapped-none _ (find (is_loose ends at) (numbers_of m)) (ap (λ n. unconnected ends n m) (zero_plus at)
    ∙ from-none (unconnected ends) 0 ms none at m here))
    number low (omega (arith, high)))
  where
    zero_plus : (n : ℕ) → n ≡ 0 + n
    zero_plus n = omega arith

-- ---- At most one

-- no line end leads to the input of an earlier one
abbrev NoSecond : (before rest : List LineEnd) → Type 0
NoSecond before [] = ⊤
NoSecond before (e ∷ rest) = (is_led_among before e ≡ false) × NoSecond (before ++ e ∷ []) rest

-- the line ends before a place
taken-before : (before rest : List LineEnd) → take (length before) (before ++ rest) ≡ before
taken-before [] [] = refl
taken-before [] (e ∷ rest) = refl
taken-before (b ∷ before) rest = ap (λ xs. b ∷ xs) (taken-before before rest)

led-none : (t : Bool) (line : ℕ) → cond t (Some (TwoSources line)) None ≡ None → t ≡ false
led-none true line e = cc
led-none false line e = refl

length-push : (before : List LineEnd) (e : LineEnd) → length before + 1 ≡ length (before ++ e ∷ [])
length-push [] e = refl
length-push (b ∷ before) e = omega (arith, length-push before e)

-- no line end is refused for leading to the input of an earlier one
no-second : (all before rest : List LineEnd) → before ++ rest ≡ all → least_from (second_source all) (length before) rest ≡ None →
    NoSecond before rest
no-second all before [] split none = tt
no-second all before (e ∷ rest) split none = (
  ap (λ xs. is_led_among xs e) (sym (ap (take (length before)) (sym split) ∙ taken-before before (e ∷ rest)))
      ∙ led-none (is_led_among (take (length before) all) e) e.target.line
      (none-first (second_source all (length before) e) (least_from (second_source all) (length before + 1) rest)
      none),
  no-second all (before ++ e ∷ []) rest (append_assoc before (e ∷ []) rest ∙ split)
      (ap (λ n. least_from (second_source all) n rest) (sym (length-push before e))
      ∙ none-later (second_source all (length before) e) (least_from (second_source all) (length before + 1) rest)
      none),
)

-- a line end that leads to an input, where no earlier one leads there
led-alone : (input : Input) (before : List LineEnd) (e : LineEnd) → leads_to input e ≡ true → is_led_among before e ≡ false →
    list_any (leads_to input) before ≡ false
led-alone input before e leads alone = by (input_at e.target) refl
  where
    by : (own : Option Input) → input_at e.target ≡ own → list_any (leads_to input) before ≡ false
    by None f = absurd (true≢false (sym leads ∙ ap (is_input input) f))
    by (Some key) f =
        ap (λ i. list_any (leads_to i) before) (one-equal input key (sym (ap (is_input input) f) ∙ leads))
        ∙ sym (ap (λ o. option_map_or (λ i. list_any (leads_to i) before) o false) f) ∙ alone

or-false : (t : Bool) → (t || (false || false)) ≡ t
or-false true = refl
or-false false = refl

or-true : (t : Bool) → (t || (true || false)) ≡ true
or-true true = refl
or-true false = refl

-- after some line ends, of which one leads to an input or none, none or at most one does
few-lines : (input : Input) (before rest : List LineEnd) → NoSecond before rest → (t : Bool) → list_any (leads_to input) before ≡ t →
    length (filter (leads_to input) rest) ≤ cond t 0 1
few-lines input before [] none true e = omega arith
few-lines input before [] none false e = omega arith
few-lines input before (x ∷ rest) none t e = by (leads_to input x) t refl e (few-lines input (before ++ x ∷ []) rest none.1)
  where
    test : LineEnd → Bool
    test = leads_to input

    after : (u : Bool) → test x ≡ u → list_any test (before ++ x ∷ []) ≡ (list_any test before || (u || false))
    after u f = list_any-append test before (x ∷ []) ∙ ap (λ u. list_any test before || (u || false)) f

    behind : (c : ℕ) → c ≤ 0 → suc c ≤ 1
    behind c h = omega (arith, h)

    by : (u t : Bool) → test x ≡ u → list_any test before ≡ t →
        ((s : Bool) → list_any test (before ++ x ∷ []) ≡ s → length (filter test rest) ≤ cond s 0 1) →
        length (cond u (x ∷ filter test rest) (filter test rest)) ≤ cond t 0 1
    by true true f e later = absurd (true≢false (sym e ∙ led-alone input before x f none.0))
    by true false f e later = behind (length (filter test rest)) (later true (after true f ∙ or-true (list_any test before)))
    by false t f e later = later t (after false f ∙ or-false (list_any test before) ∙ e)

-- where some item passes a test, it is counted
counted : (test : LineEnd → Bool) (xs : List LineEnd) → list_any test xs ≡ true → 1 ≤ length (filter test xs)
counted test [] e = absurd (true≢false (sym e))
counted test (x ∷ xs) e = by (test x) e (counted test xs)
  where
    by : (t : Bool) → (t || list_any test xs) ≡ true → (list_any test xs ≡ true → 1 ≤ length (filter test xs)) →
        1 ≤ length (cond t (x ∷ filter test xs) (filter test xs))
    by true e later = omega arith
    by false e later = later e

-- ---- Exactly one

pub one_line : EachInputHasOneLine
one_line is_root ms items none at m number here low high =
    let sources = sources_in ms items in
    let ends = ends_in ms items in
    let input : Input = record { member = at; number = number } in
    let lines = or-first (lines_refusal is_root ms sources ends) None (or-later (double_names ms) _ none) in
    let ports = or-later (missing_blocks sources ends) _ lines in
    let doubles = or-later (missing_ports sources ends) _ ports in
    let loose = or-later (double_sources ends) _ doubles in
    let most = few-lines input [] ends (no-second ends [] ends refl (or-first (double_sources ends) _ doubles)) false refl in
    let least =
    counted (leads_to input) ends
    (some-line ends ms (or-first (unconnected_ports ends ms) _ loose) at m number here low high) in
    omega (arith, most, least)
