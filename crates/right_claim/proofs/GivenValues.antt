-- The values that a tick's calls give, by input: what is found for an input, and the row of them all.
use Rattle.std.specs.Prelude.{◌≡◌, ◌⊎◌, ℕ, zero, suc, ◌+◌, ◌-◌, ◌<◌, ◌≤◌, Bool, true, false, cond, ◌==◌, List, [], ◌∷◌, ◌++◌, map, filter, length, slice_get, Option, Some, unwrap_or, ℤ, pos, ⊤}
use Rattle.std.specs.List.{AllByRecursion, AllZip, range_with_len}
use Rattle.std.proofs.Common.{refl, sym, ap, subst, ◌∙◌, arith, inl, inr, true≢false}
use Rattle.std.proofs.lemmas.Bool.{eqb-true, eq-eqb, ne_eqb}
use Rattle.base_core.specs.declared.Control.{Control}
use Rattle.base_core.specs.declared.Control.TheVariants.{Plain, Enabled, Triggered, Both}
use Rattle.base_core.specs.declared.Port.{Port}
use Rattle.base_core.specs.declared.Port.TheVariants.{Number, Enable, Trigger}
use Rattle.diagram_meaning.specs.declared.table.Row.{Row}
use Rattle.diagram_meaning.specs.Rows.{inports_of, system_control, enable_count, column}
use Rattle.diagram_meaning.specs.Inputs.{input_ports}
use Rattle.base_core.specs.Ports.{control_ports}
use Rattle.diagram_meaning.specs.Run.{value_at}
use Rattle.right_claim.specs.Scripts.{Given, given_of}

-- ---- Lists

pub all-right : {A : Type 0} (P : A → Type 0) (xs ys : List A) → AllByRecursion P (xs ++ ys) → AllByRecursion P ys
all-right P [] ys h = h
all-right P (x ∷ xs) ys h = all-right P xs ys h.1

pub all-left : {A : Type 0} (P : A → Type 0) (xs ys : List A) → AllByRecursion P (xs ++ ys) → AllByRecursion P xs
all-left P [] ys h = tt
all-left P (x ∷ xs) ys h = (h.0, all-left P xs ys h.1)

pub all-joined : {A : Type 0} (P : A → Type 0) (xs ys : List A) → AllByRecursion P xs → AllByRecursion P ys → AllByRecursion P (xs ++ ys)
all-joined P [] ys hs h = h
all-joined P (x ∷ xs) ys hs h = (hs.0, all-joined P xs ys hs.1 h)

pub all-both : {A : Type 0} (P Q R : A → Type 0) (xs : List A) → ((x : A) → P x → Q x → R x) → AllByRecursion P xs →
    AllByRecursion Q xs → AllByRecursion R xs
all-both P Q R [] both ps qs = tt
all-both P Q R (x ∷ xs) both ps qs = (both x ps.0 qs.0, all-both P Q R xs both ps.1 qs.1)

pub all-kept : {A : Type 0} (P : A → Type 0) (test : A → Bool) (xs : List A) → AllByRecursion P xs → AllByRecursion P (filter test xs)
all-kept P test [] h = tt
all-kept {A} P test (x ∷ xs) h = by (test x) (all-kept P test xs h.1)
  where
    by : (r : Bool) → AllByRecursion P (filter test xs) → AllByRecursion P (cond r (x ∷ filter test xs) (filter test xs))
    by true rest = (h.0, rest)
    by false rest = rest

-- what holds of pairs of two lists, by the one or by the other
pub turned : {A B : Type 0} (R : A → B → Type 0) (xs : List A) (ys : List B) → AllByRecursion (λ y. AllByRecursion (λ x. R x y) xs) ys →
    AllByRecursion (λ x. AllByRecursion (R x) ys) xs
turned R [] ys h = tt
turned {A} {B} R (x ∷ xs) ys h = (heads ys h, turned R xs ys (tails ys h))
  where
    heads : (zs : List B) → AllByRecursion (λ y. AllByRecursion (λ a. R a y) (x ∷ xs)) zs → AllByRecursion (R x) zs
    heads [] hs = tt
    heads (z ∷ zs) hs = (hs.0.0, heads zs hs.1)

    tails : (zs : List B) → AllByRecursion (λ y. AllByRecursion (λ a. R a y) (x ∷ xs)) zs →
        AllByRecursion (λ y. AllByRecursion (λ a. R a y) xs) zs
    tails [] hs = tt
    tails (z ∷ zs) hs = (hs.0.1, tails zs hs.1)

-- ---- Ports

abbrev pub same_port : Port → Port → Bool
same_port (Number a) (Number b) = a == b
same_port (Number a) Enable = false
same_port (Number a) Trigger = false
same_port Enable (Number b) = false
same_port Enable Enable = true
same_port Enable Trigger = false
same_port Trigger (Number b) = false
same_port Trigger Enable = false
same_port Trigger Trigger = true

pub same-self : (p : Port) → same_port p p ≡ true
same-self (Number a) = eq-eqb a a refl
same-self Enable = refl
same-self Trigger = refl

pub same-equal : (p q : Port) → same_port p q ≡ true → p ≡ q
same-equal (Number a) (Number b) h = ap Number (eqb-true a b h)
same-equal (Number a) Enable h = absurd (true≢false (sym h))
same-equal (Number a) Trigger h = absurd (true≢false (sym h))
same-equal Enable (Number b) h = absurd (true≢false (sym h))
same-equal Enable Enable h = refl
same-equal Enable Trigger h = absurd (true≢false (sym h))
same-equal Trigger (Number b) h = absurd (true≢false (sym h))
same-equal Trigger Enable h = absurd (true≢false (sym h))
same-equal Trigger Trigger h = refl

-- no two of them are one
abbrev pub Apart : List Port → Type 0
Apart [] = ⊤
Apart (p ∷ ps) = AllByRecursion (λ q. same_port q p ≡ false) ps × Apart ps

later-numbers : (a b n : ℕ) (rest : List Port) → a < b → AllByRecursion (λ q. same_port q (Number a) ≡ false) rest →
    AllByRecursion (λ q. same_port q (Number a) ≡ false) (map Number (range_with_len b n) ++ rest)
later-numbers a b zero rest less h = h
later-numbers a b (suc n) rest less h = (ne_eqb b a (λ e. omega arith), later-numbers a (b + 1) n rest (omega arith) h)

apart-numbers : (a n : ℕ) (rest : List Port) → ((k : ℕ) → AllByRecursion (λ q. same_port q (Number k) ≡ false) rest) →
    Apart rest → Apart (map Number (range_with_len a n) ++ rest)
apart-numbers a zero rest others apart = apart
apart-numbers a (suc n) rest others apart =
    (later-numbers a (a + 1) n rest (omega arith) (others a), apart-numbers (a + 1) n rest others apart)

no-numbers : (c : Control) (k : ℕ) → AllByRecursion (λ q. same_port q (Number k) ≡ false) (control_ports c)
no-numbers Plain k = tt
no-numbers (Enabled reset) k = (refl, tt)
no-numbers (Triggered edge) k = (refl, tt)
no-numbers (Both reset edge) k = (refl, (refl, tt))

apart-controls : (c : Control) → Apart (control_ports c)
apart-controls Plain = tt
apart-controls (Enabled reset) = (tt, tt)
apart-controls (Triggered edge) = (tt, tt)
apart-controls (Both reset edge) = ((refl, tt), (tt, tt))

pub apart-inputs : (rows : List Row) (s : Option ℕ) → Apart (input_ports rows s)
apart-inputs rows s =
    apart-numbers 1 (length (inports_of rows s)) (control_ports (system_control rows s))
    (no-numbers (system_control rows s)) (apart-controls (system_control rows s))

pub apart-kept : (test : Port → Bool) (ps : List Port) → Apart ps → Apart (filter test ps)
apart-kept test [] h = tt
apart-kept test (p ∷ ps) h = by (test p) (apart-kept test ps h.1)
  where
    by : (r : Bool) → Apart (filter test ps) → Apart (cond r (p ∷ filter test ps) (filter test ps))
    by true rest = (all-kept (λ q. same_port q p ≡ false) test ps h.0, rest)
    by false rest = rest

-- ---- Columns

-- the inputs are in their columns
number-at : (a n i : ℕ) (p : Port) (rest : List Port) → slice_get (map Number (range_with_len a n) ++ rest) i ≡ Some p →
    ((i < n) × (p ≡ Number (a + i))) ⊎ ((n ≤ i) × (slice_get rest (i - n) ≡ Some p))
number-at a zero i p rest at = inr (omega arith, ap (slice_get rest) (let same : i - 0 ≡ i = omega arith in same) ∙ at)
number-at a (suc n) zero p rest at = inl (omega arith, sym (ap (λ o. unwrap_or o p) at) ∙ ap Number (omega arith))
number-at a (suc n) (suc i) p rest at = elim (number-at (a + 1) n i p rest at) [
  | inl one ↦ inl (let less = one.0 in omega arith, one.1 ∙ ap Number (omega arith))
  | inr two ↦ inr (let more = two.0 in omega arith, ap (slice_get rest) (let same : suc i - suc n ≡ i - n = omega arith in same) ∙ two.1)
]

control-at : (rows : List Row) (s : Option ℕ) (c : Control) (k : ℕ) (p : Port) → system_control rows s ≡ c →
    slice_get (control_ports c) k ≡ Some p → column rows s p ≡ length (inports_of rows s) + k
control-at rows s Plain k p is at = cc at
control-at rows s (Enabled reset) zero p is at = ap (column rows s) (sym (ap (λ o. unwrap_or o p) at)) ∙ omega arith
control-at rows s (Enabled reset) (suc k) p is at = cc at
control-at rows s (Triggered edge) zero p is at =
    ap (column rows s) (sym (ap (λ o. unwrap_or o p) at)) ∙ ap (λ c. length (inports_of rows s) + enable_count c) is
control-at rows s (Triggered edge) (suc k) p is at = cc at
control-at rows s (Both reset edge) zero p is at = ap (column rows s) (sym (ap (λ o. unwrap_or o p) at)) ∙ omega arith
control-at rows s (Both reset edge) (suc zero) p is at =
    ap (column rows s) (sym (ap (λ o. unwrap_or o p) at)) ∙ ap (λ c. length (inports_of rows s) + enable_count c) is
control-at rows s (Both reset edge) (suc (suc k)) p is at = cc at

pub column-at : (rows : List Row) (s : Option ℕ) (i : ℕ) (p : Port) → slice_get (input_ports rows s) i ≡ Some p → column rows s p ≡ i
column-at rows s i p at = elim (number-at 1 (length (inports_of rows s)) i p (control_ports (system_control rows s)) at) [
  | inl one ↦ ap (column rows s) one.1 ∙ omega arith
  | inr two ↦ control-at rows s (system_control rows s) (i - length (inports_of rows s)) p refl two.1 ∙ (let more = two.0 in omega arith)
]

-- ---- What is found for an input

abbrev pub found : Port → List Given → ℤ
found p [] = pos 0
found p (g ∷ gs) = cond (same_port p g.input) g.value (found p gs)

-- each value is found
abbrev pub AreFound : List Given → Type 0
AreFound given = AllByRecursion (λ (e : Given). found e.input given ≡ e.value) given

-- what is found after values for other inputs
passed-over : (p : Port) (e : Given) (rest : List Given) → same_port p e.input ≡ false → found p (e ∷ rest) ≡ found p rest
passed-over p e rest other = ap (λ r. cond r e.value (found p rest)) other

others-apart : (p : Port) (ps : List Port) (vs : List ℤ) → AllByRecursion (λ q. same_port q p ≡ false) ps →
    AllByRecursion (λ (e : Given). same_port e.input p ≡ false) (given_of ps vs)
others-apart p [] vs h = tt
others-apart p (q ∷ ps) [] h = tt
others-apart p (q ∷ ps) (v ∷ vs) h = (h.0, others-apart p ps vs h.1)

pub new-found : (ps : List Port) (vs : List ℤ) (rest : List Given) → Apart ps →
    AllByRecursion (λ (e : Given). found e.input (given_of ps vs ++ rest) ≡ e.value) (given_of ps vs)
new-found [] vs rest apart = tt
new-found (p ∷ ps) [] rest apart = tt
new-found (p ∷ ps) (v ∷ vs) rest apart = (
  ap (λ r. cond r v (found p (given_of ps vs ++ rest))) (same-self p),
  all-both (λ (e : Given). found e.input (given_of ps vs ++ rest) ≡ e.value) (λ (e : Given). same_port e.input p
      ≡ false) (λ (e : Given). found e.input (record { input = p; value = v } ∷ given_of ps vs ++ rest) ≡ e.value)
      (given_of ps vs)
      (λ e at other. passed-over e.input (record { input = p; value = v }) (given_of ps vs ++ rest) other ∙ at)
      (new-found ps vs rest apart.1) (others-apart p ps vs apart.0),
)

-- an earlier value is found after new ones that are like it
pub old-found : (e : Given) (new earlier : List Given) →
    AllByRecursion (λ (f : Given). e.input ≡ f.input → e.value ≡ f.value) new → found e.input earlier ≡ e.value →
    found e.input (new ++ earlier) ≡ e.value
old-found e [] earlier like at = at
old-found e (f ∷ new) earlier like at = by (same_port e.input f.input) refl (old-found e new earlier like.1 at)
  where
    by : (r : Bool) → same_port e.input f.input ≡ r → found e.input (new ++ earlier) ≡ e.value →
        cond (same_port e.input f.input) f.value (found e.input (new ++ earlier)) ≡ e.value
    by true is rest = ap (λ q. cond q f.value (found e.input (new ++ earlier))) is ∙ sym (like.0 (same-equal e.input f.input is))
    by false is rest = ap (λ q. cond q f.value (found e.input (new ++ earlier))) is ∙ rest

-- what holds of each value, and of the 0 that stands for none, holds of what is found
pub found-holds : (P : Port → ℤ → Type 0) (p : Port) (given : List Given) → P p (pos 0) →
    AllByRecursion (λ (e : Given). P e.input e.value) given → P p (found p given)
found-holds P p [] nothing h = nothing
found-holds P p (g ∷ gs) nothing h = by (same_port p g.input) refl (found-holds P p gs nothing h.1)
  where
    by : (r : Bool) → same_port p g.input ≡ r → P p (found p gs) → P p (cond (same_port p g.input) g.value (found p gs))
    by true is rest =
        subst (λ v. P p v) (sym (ap (λ q. cond q g.value (found p gs)) is))
        (subst (λ q. P q g.value) (sym (same-equal p g.input is)) h.0)
    by false is rest = subst (λ v. P p v) (sym (ap (λ q. cond q g.value (found p gs)) is)) rest

-- ---- The row of all inputs

abbrev pub row_for : List Port → List Given → List ℤ
row_for ports given = map (λ p. found p given) ports

pub value-in-row : (ports : List Port) (given : List Given) (i : ℕ) (p : Port) → slice_get ports i ≡ Some p →
    value_at (row_for ports given) i ≡ found p given
value-in-row [] given i p at = cc at
value-in-row (q ∷ ports) given zero p at = ap (λ o. found (unwrap_or o p) given) at
value-in-row (q ∷ ports) given (suc i) p at = value-in-row ports given i p at

pub row-holds : (P : Port → ℤ → Type 0) (ports : List Port) (given : List Given) → ((p : Port) → P p (found p given)) →
    AllZip P ports (row_for ports given)
row-holds P [] given h = tt
row-holds P (p ∷ ports) given h = (h p, row-holds P ports given h)
