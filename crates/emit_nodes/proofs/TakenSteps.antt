-- Steps of loops over what a function of a child takes.
use Rattle.std.specs.List.{range_with_len, zip}
use Rattle.std.proofs.Common.{◌≡◌, refl, sym, subst, ap, All, ◌∙◌, ℕ, zero, suc, ◌+◌, ◌-◌, ◌<◌, ◌≤◌, Bool, true, false, cond, List, [], ◌∷◌, ◌++◌, map, filter, take, length, get_or, arith, add-one}
use Rattle.std.proofs.lemmas.List.{append-nil, map-append}
use Rattle.std.proofs.lemmas.List.Elements.{All-append, All-cons, All-nil, filter-append}
use Rattle.std.proofs.lemmas.List.FromFn.{map-range_with_len_more}
use Rattle.base_core.specs.declared.base.Port.TheVariants.{Number}
use Rattle.base_core.specs.declared.base.Port.{Port}
use Rattle.base_core.specs.Ports.{bit_of, has_bit}
use Rattle.modules_profile.specs.Headers.{taken_by_function}
use Rattle.modules_profile.specs.declared.profile.Function.{Function}

-- ---- What a function takes

zip-take-suc : {A : Type 0} (ports : List Port) (xs : List A) (k : ℕ) (p : Port) (x : A) → k < length ports → k < length xs →
    zip (take (suc k) ports) xs ≡ zip (take k ports) xs ++ (get_or ports k p, get_or xs k x) ∷ []
zip-take-suc [] xs k p x inside within = absurd (omega (arith, inside))
zip-take-suc (q ∷ ports) [] k p x inside within = absurd (omega (arith, within))
zip-take-suc (q ∷ ports) (y ∷ ys) zero p x inside within = refl
zip-take-suc (q ∷ ports) (y ∷ ys) (suc k) p x inside within =
    ap (λ es. (q, y) ∷ es) (zip-take-suc ports ys k p x (omega (arith, inside)) (omega (arith, within)))

zip-past : {A : Type 0} (ports : List Port) (xs : List A) (k : ℕ) → length xs ≤ k → zip (take k ports) xs ≡ zip ports xs
zip-past [] xs zero short = refl
zip-past [] xs (suc k) short = refl
zip-past (q ∷ ports) [] zero short = refl
zip-past (q ∷ ports) [] (suc k) short = refl
zip-past (q ∷ ports) (y ∷ ys) zero short = absurd (omega (arith, short))
zip-past (q ∷ ports) (y ∷ ys) (suc k) short = ap (λ es. (q, y) ∷ es) (zip-past ports ys k (omega (arith, short)))

abbrev kept : {A : Type 0} → Function → List (Port × A) → List A
kept f es = map (λ e. e.1) (filter (λ e. has_bit f.inputs (bit_of e.0)) es)

kept-one : {A : Type 0} (f : Function) (p : Port) (x : A) → kept f ((p, x) ∷ []) ≡ cond (has_bit f.inputs (bit_of p)) (x ∷ []) []
kept-one {A} f p x = by (has_bit f.inputs (bit_of p))
  where
    by : (t : Bool) → map (λ (e : Port × A). e.1) (cond t ((p, x) ∷ []) []) ≡ cond t (x ∷ []) []
    by true = refl
    by false = refl

pub taken_more : {A : Type 0} (f : Function) (ports : List Port) (xs : List A) (k : ℕ) (p : Port) (x : A) → k < length ports →
    k < length xs →
    taken_by_function f (take (k + 1) ports) xs ≡ taken_by_function f (take k ports) xs
    ++ cond (has_bit f.inputs (bit_of (get_or ports k p))) (get_or xs k x ∷ []) []
taken_more {A} f ports xs k p x inside within =
    ap (λ n. taken_by_function f (take n ports) xs) (add-one k)
    ∙ ap (kept f) (zip-take-suc ports xs k p x inside within)
    ∙ ap (map (λ (e : Port × A). e.1)) (filter-append (λ (e : Port × A). has_bit f.inputs (bit_of e.0)) (zip (take k ports) xs)
    ((get_or ports k p, get_or xs k x) ∷ []))
    ∙ map-append (λ (e : Port × A). e.1) (filter (λ (e : Port × A). has_bit f.inputs (bit_of e.0)) (zip (take k ports) xs))
    (filter (λ (e : Port × A). has_bit f.inputs (bit_of e.0)) ((get_or ports k p, get_or xs k x) ∷ []))
    ∙ ap (λ ys. taken_by_function f (take k ports) xs ++ ys) (kept-one f (get_or ports k p) (get_or xs k x))

pub taken_past : {A : Type 0} (f : Function) (ports : List Port) (xs : List A) (k : ℕ) → length xs ≤ k →
    taken_by_function f (take k ports) xs ≡ taken_by_function f ports xs
taken_past f ports xs k short = ap (kept f) (zip-past ports xs k short)

-- one element more, where it is kept and where not
pub taken_then : {A : Type 0} (f : Function) (ports : List Port) (xs so_far now : List A) (k : ℕ) (p : Port) (x : A) → k < length ports →
    k < length xs →
    x ≡ get_or xs k x → has_bit f.inputs (bit_of (get_or ports k p)) ≡ true → so_far ≡ taken_by_function f (take k ports) xs →
    now ≡ so_far ++ x ∷ [] →
    now ≡ taken_by_function f (take (k + 1) ports) xs
taken_then f ports xs so_far now k p x inside within read kept_it before is =
    is ∙ ap (λ ys. ys ++ x ∷ []) before ∙ ap (λ y. taken_by_function f (take k ports) xs ++ y ∷ []) read
    ∙ sym (taken_more f ports xs k p x inside within
    ∙ ap (λ t. taken_by_function f (take k ports) xs ++ cond t (get_or xs k x ∷ []) []) kept_it)

pub taken_else : {A : Type 0} (f : Function) (ports : List Port) (xs so_far : List A) (k : ℕ) (p : Port) (x : A) → k < length ports →
    k < length xs →
    has_bit f.inputs (bit_of (get_or ports k p)) ≡ false → so_far ≡ taken_by_function f (take k ports) xs →
    so_far ≡ taken_by_function f (take (k + 1) ports) xs
taken_else f ports xs so_far k p x inside within dropped before =
    before ∙ sym (taken_more f ports xs k p x inside within
    ∙ ap (λ t. taken_by_function f (take k ports) xs ++ cond t (get_or xs k x ∷ []) []) dropped
    ∙ append-nil (taken_by_function f (take k ports) xs))

-- ---- Inputs by number

pub numbers_more : (k : ℕ) (so_far now : List Port) → so_far ≡ map Number (range_with_len 1 k) → now ≡ so_far ++ Number (k + 1) ∷ [] →
    now ≡ map Number (range_with_len 1 (k + 1))
numbers_more k so_far now before is = is ∙ ap (λ ports. ports ++ Number (k + 1) ∷ []) before
    ∙ sym (map-range_with_len_more Number 1 k (k + 1) (omega arith))

pub low_more : (k : ℕ) (so_far now : List Port) → k < 63 → All (λ p. bit_of p < 64) so_far → now ≡ so_far ++ Number (k + 1) ∷ [] →
    All (λ p. bit_of p < 64) now
low_more k so_far now small before is =
    let IsLow : Port → Type 0 = λ p. bit_of p < 64 in
    let here : k + 1 - 1 < 64 = omega (arith, small) in
    subst (All IsLow) (sym is) (All-append IsLow so_far (Number (k + 1) ∷ []) before
    (All-cons IsLow (Number (k + 1)) [] here (All-nil IsLow)))
