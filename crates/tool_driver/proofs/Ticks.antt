-- What a call adds to the present tick, as a driver keeps it and as scripts say it.
use Rattle.std.specs.Prelude.{◌≡◌, ℕ, zero, suc, ◌+◌, ◌-◌, ◌<◌, ◌≤◌, ◌==◌, ◌||◌, ◌&&◌, Bool, true, false, cond, not, if◌then◌else◌, List, [], ◌∷◌, ◌++◌, map, zip, find, slice_get, slice_index_or, slice_set, Option, Some, None, option_map, ℤ, refl}
use Rattle.std.specs.List.{AllByRecursion, list_any, list_all, range_with_len}
use Rattle.std.specs.Ordering.{int_eq}
use Rattle.std.specs.Option.{option_or}
use Rattle.std.proofs.Common.{sym, ap, ap₂, subst, ◌∙◌, arith}
use Rattle.std.proofs.lemmas.Bool.{eqb-true, eq-eqb, ne_eqb}
use Rattle.std.proofs.lemmas.Bool.Decides.{Decides-int_eq}
use Rattle.std.proofs.lemmas.List.FromFn.{get_or-map-range_with_len}
use Rattle.base_core.specs.declared.Port.{Port}
use Rattle.diagram_meaning.specs.Diagram.{Diagram}
use Rattle.modules_profile.specs.declared.Function.{Function}
use Rattle.modules_profile.specs.Functions.{mask_of}
use Rattle.right_claim.specs.Scripts.{Given, given_of, IsLike}
use Rattle.tool_driver.specs.declared.inputs.Input.{Input}
use Rattle.tool_driver.specs.declared.fault.DriveFault.{DriveFault}
use Rattle.tool_driver.specs.declared.fault.DriveFault.TheVariants.{Twice, Early, Unlike}
use Rattle.tool_driver.specs.Judging.{first_fault, unlike_fault, fault_beside, twice_fault, early_fault, missing}
use Rattle.tool_driver.specs.Calling.{given_with}
use Rattle.tool_driver.specs.Driven.{same_port, value_given, values_given, functions_called}
use Rattle.tool_driver.proofs.Lists.{all-map, all-joined, all-there, turned, get-mapped}
use Rattle.tool_driver.proofs.Ports.{same-refl, same-eq, AreIn, AreOther, AreApart}

-- ---- Errors

pub no-first : (a b : Option DriveFault) → option_or a b ≡ None → a ≡ None
no-first None b h = refl
no-first (Some x) b h = h

pub no-second : (a b : Option DriveFault) → option_or a b ≡ None → b ≡ None
no-second None b h = h
no-second (Some x) b h = absurd (cc)

pub no-fault-if : (b : Bool) (x : DriveFault) → (if b then Some x else None) ≡ None → b ≡ false
no-fault-if true x h = absurd (cc)
no-fault-if false x h = refl

pub fault-unless : (b : Bool) (x : DriveFault) → (if b then None else Some x) ≡ None → b ≡ true
fault-unless true x h = refl
fault-unless false x h = absurd (cc)

-- ---- Values given

module _ (g : Given) (given : List Given) (p : Port) where
  pub value-first : same_port g.input p ≡ true → value_given (g ∷ given) p ≡ Some g.value
  value-first e = ap (λ b. option_map (λ (h : Given). h.value) (cond b (Some g) (find (λ (h : Given). same_port h.input p) given))) e

  pub value-later : same_port g.input p ≡ false → value_given (g ∷ given) p ≡ value_given given p
  value-later e = ap (λ b. option_map (λ (h : Given). h.value) (cond b (Some g) (find (λ (h : Given). same_port h.input p) given))) e

abbrev pub gives : Input → ℤ → Given
gives i v = record { input = i.port; value = v }

others-same : (g : Given) (given : List Given) (all : List Input) →
    AllByRecursion (λ (m : Input). same_port g.input m.port ≡ false) all →
    values_given all given ≡ values_given all (g ∷ given)
others-same g given [] h = refl
others-same g given (m ∷ all) h = ap₂ ◌∷◌ (sym (value-later g given m.port h.0)) (others-same g given all h.1)

set-value : (given : List Given) (all : List Input) (k : ℕ) (i : Input) (v : ℤ) → AreApart all → slice_get all k ≡ Some i →
    slice_set (values_given all given) k (Some v) ≡ values_given all (gives i v ∷ given)
set-value given [] k i v apart at = absurd (cc)
set-value given (m ∷ all) zero i v apart at =
    let same : m ≡ i = cc in
    ap₂ ◌∷◌ (sym
    (value-first (gives i v) given m.port
    (subst (λ (j : Input). same_port i.port j.port ≡ true) (sym same) (same-refl i.port))))
    (others-same (gives i v) given all
    (all-map (AreOther m) (λ (j : Input). same_port i.port j.port ≡ false) all
    (λ j other. subst (λ (n : Input). same_port n.port j.port ≡ false) same other.there) apart.0))
set-value given (m ∷ all) (suc k) i v apart at =
    let other : AreOther m i = all-there (AreOther m) all k i apart.0 at in
    ap₂ ◌∷◌ (sym (value-later (gives i v) given m.port other.back)) (set-value given all k i v apart.1 at)

abbrev pub ports_of : List Input → List Port
ports_of ins = map (λ (i : Input). i.port) ins

-- the values of a call are kept
pub values-kept : (given : List Given) (all : List Input) → AreApart all → (ins : List Input) (vs : List ℤ) → AreIn all ins →
    given_with (values_given all given) (zip ins vs) ≡ values_given all (given_of (ports_of ins) vs ++ given)
values-kept given all apart [] vs h = refl
values-kept given all apart (i ∷ ins) [] h = refl
values-kept given all apart (i ∷ ins) (v ∷ vs) h =
    ap (λ os. slice_set os i.place (Some v)) (values-kept given all apart ins vs h.1)
    ∙ set-value (given_of (ports_of ins) vs ++ given) all i.place i v apart h.0

-- ---- One value for each input

abbrev pub HasOneEach : List Given → Type 0
HasOneEach given = AllByRecursion (λ (g : Given). value_given given g.input ≡ Some g.value) given

all-given : (P : Port → Type 0) (ins : List Input) (vs : List ℤ) → AllByRecursion (λ (i : Input). P i.port) ins →
    AllByRecursion (λ (g : Given). P g.input) (given_of (ports_of ins) vs)
all-given P [] vs h = tt
all-given P (i ∷ ins) [] h = tt
all-given P (i ∷ ins) (v ∷ vs) h = (h.0, all-given P ins vs h.1)

new-values : (given : List Given) (ins : List Input) (vs : List ℤ) → AreApart ins →
    AllByRecursion (λ (g : Given). value_given (given_of (ports_of ins) vs ++ given) g.input ≡ Some g.value) (given_of (ports_of ins) vs)
new-values given [] vs apart = tt
new-values given (i ∷ ins) [] apart = tt
new-values given (i ∷ ins) (v ∷ vs) apart =
    let rest : List Given = given_of (ports_of ins) vs in (
      value-first (gives i v) (rest ++ given) i.port (same-refl i.port),
      both (λ (g : Given). same_port i.port g.input ≡ false) (λ (g : Given). value_given (rest ++ given) g.input
          ≡ Some g.value) (λ (g : Given). value_given (gives i v ∷ rest ++ given) g.input ≡ Some g.value) rest
          (λ g other is. value-later (gives i v) (rest ++ given) g.input other ∙ is)
          (all-given (λ p. same_port i.port p ≡ false) ins vs
          (all-map (AreOther i) (λ (j : Input). same_port i.port j.port ≡ false) ins
          (λ j other. other.there) apart.0))
          (new-values given ins vs apart.1),
    )
  where
    both : (P Q R : Given → Type 0) (gs : List Given) → ((g : Given) → P g → Q g → R g) → AllByRecursion P gs →
        AllByRecursion Q gs → AllByRecursion R gs
    both P Q R [] f h k = tt
    both P Q R (g ∷ gs) f h k = (f g h.0 k.0, both P Q R gs f h.1 k.1)

-- an earlier value stays, where each new one for its input is the same
old-value : (given new : List Given) (g : Given) →
    AllByRecursion (λ (e : Given). g.input ≡ e.input → g.value ≡ e.value) new →
    value_given given g.input ≡ Some g.value →
    value_given (new ++ given) g.input ≡ Some g.value
old-value given [] g alike is = is
old-value given (e ∷ new) g alike is = by (same_port e.input g.input) refl (old-value given new g alike.1 is)
  where
    by : (b : Bool) → same_port e.input g.input ≡ b → value_given (new ++ given) g.input ≡ Some g.value →
        value_given (e ∷ new ++ given) g.input ≡ Some g.value
    by true here rest = value-first e (new ++ given) g.input here ∙ ap Some (sym (alike.0 (sym (same-eq e.input g.input here))))
    by false here rest = value-later e (new ++ given) g.input here ∙ rest

pub one-each-more : (d : Diagram) (s : Option ℕ) (functions : List Function) (given : List Given) (ins : List Input)
    (vs : List ℤ) → AreApart ins → HasOneEach given →
    AllByRecursion (IsLike d s functions given) (given_of (ports_of ins) vs) → HasOneEach (given_of (ports_of ins) vs ++ given)
one-each-more d s functions given ins vs apart one alike =
    let new : List Given = given_of (ports_of ins) vs in
    all-joined (λ (g : Given). value_given (new ++ given) g.input ≡ Some g.value) new given (new-values given ins vs apart)
    (both given (turned (λ (e g : Given). g.input ≡ e.input → g.value ≡ e.value) new given alike) one)
  where
    both : (gs : List Given) →
        AllByRecursion (λ (g : Given). AllByRecursion (λ (e : Given). g.input ≡ e.input → g.value ≡ e.value)
        (given_of (ports_of ins) vs)) gs →
        AllByRecursion (λ (g : Given). value_given given g.input ≡ Some g.value) gs →
        AllByRecursion (λ (g : Given). value_given (given_of (ports_of ins) vs ++ given) g.input ≡ Some g.value) gs
    both [] h k = tt
    both (g ∷ gs) h k = (old-value given (given_of (ports_of ins) vs) g h.0 k.0, both gs h.1 k.1)

-- ---- Values like those before

like-one : (given : List Given) (i : Input) (v : ℤ) → HasOneEach given → fault_beside i (value_given given i.port) v ≡ None →
    AllByRecursion (λ (e : Given). e.input ≡ i.port → e.value ≡ v) given
like-one given i v one none =
    all-map (λ (e : Given). value_given given e.input ≡ Some e.value) (λ (e : Given). e.input ≡ i.port → e.value ≡ v) given
    (λ e is here. (Decides-int_eq e.value v).0 (fault-unless (int_eq e.value v) (Unlike i.port e.value v)
    (subst (λ o. fault_beside i o v ≡ None) (ap (value_given given) (sym here) ∙ is) none))) one

pub like-all : (d : Diagram) (s : Option ℕ) (functions : List Function) (given : List Given) (all : List Input)
    (ins : List Input) (vs : List ℤ) → HasOneEach given → AreIn all ins →
    first_fault (unlike_fault (values_given all given)) (zip ins vs) ≡ None →
    AllByRecursion (IsLike d s functions given) (given_of (ports_of ins) vs)
like-all d s functions given all [] vs one there none = tt
like-all d s functions given all (i ∷ ins) [] one there none = tt
like-all d s functions given all (i ∷ ins) (v ∷ vs) one there none =
    let here =
    no-first (unlike_fault (values_given all given) (i, v))
    (first_fault (unlike_fault (values_given all given)) (zip ins vs)) none in
    let rest =
    no-second (unlike_fault (values_given all given) (i, v))
    (first_fault (unlike_fault (values_given all given)) (zip ins vs)) none in (
      like-one given i v one
          (subst (λ o. fault_beside i o v ≡ None)
          (get-mapped (λ (j : Input). value_given given j.port) all i.place i None there.0) here),
      like-all d s functions given all ins vs one there.1 rest,
    )

-- ---- Functions called

abbrev was_called : List ℕ → ℕ → Bool
was_called called j = list_any (λ i. i == j) called

called-later : (called : List ℕ) (j a n : ℕ) → j < a →
    map (was_called called) (range_with_len a n) ≡ map (was_called (j ∷ called)) (range_with_len a n)
called-later called j a zero less = refl
called-later called j a (suc n) less =
    ap₂ ◌∷◌ (ap (λ b. b || was_called called a) (sym (ne_eqb j a (λ e. omega (arith, e, less)))))
    (called-later called j (a + 1) n (omega (arith, less)))

called-from : (called : List ℕ) (a n k j : ℕ) → k < n → a + k ≡ j →
    slice_set (map (was_called called) (range_with_len a n)) k true ≡ map (was_called (j ∷ called)) (range_with_len a n)
called-from called a zero k j less e = absurd (omega (arith, less))
called-from called a (suc n) zero j less e =
    ap₂ ◌∷◌ (ap (λ b. b || was_called called a) (sym (eq-eqb j a (omega (arith, e))))) (called-later called j (a + 1) n (omega (arith, e)))
called-from called a (suc n) (suc k) j less e =
    ap₂ ◌∷◌ (ap (λ b. b || was_called called a) (sym (ne_eqb j a (λ same. omega (arith, same, e)))))
    (called-from called (a + 1) n k j (omega (arith, less)) (omega (arith, e)))

pub called-more : (called : List ℕ) (n j : ℕ) → 0 < j → j ≤ n →
    slice_set (functions_called n called) (j - 1) true ≡ functions_called n (j ∷ called)
called-more called n j some few = called-from called 1 n (j - 1) j (omega arith) (omega arith)

pub not-called : (called : List ℕ) (n j : ℕ) → 0 < j → j ≤ n → twice_fault (functions_called n called) j ≡ None →
    was_called called j ≡ false
not-called called n j some few none =
    sym (get_or-map-range_with_len (was_called called) 1 n (j - 1) j false (omega arith) (omega arith))
    ∙ no-fault-if (slice_index_or (functions_called n called) (j - 1) false) (Twice j) none

all-bits : (f : ℕ → Bool) (js : List ℕ) → mask_of (map not (map f js)) ≡ 0 → list_all f js ≡ true
all-bits f [] h = refl
all-bits f (j ∷ js) h = by (f j) h (all-bits f js)
  where
    by : (b : Bool) → mask_of (not b ∷ map not (map f js)) ≡ 0 →
        (mask_of (map not (map f js)) ≡ 0 → list_all f js ≡ true) → (b && list_all f js) ≡ true
    by true e rest = rest (omega (arith, e))
    by false e rest = absurd (omega (arith, e))

pub all-called : (called : List ℕ) (n : ℕ) → early_fault (functions_called n called) ≡ None →
    list_all (was_called called) (range_with_len 1 n) ≡ true
all-called called n none =
    all-bits (was_called called) (range_with_len 1 n)
    (eqb-true (missing (functions_called n called)) 0
    (fault-unless (missing (functions_called n called) == 0) (Early (missing (functions_called n called))) none))
