-- What one more step of the code's loops adds.
use Rattle.std.specs.Prelude.{◌≡◌, ℕ, zero, suc, ◌+◌, ◌*◌, ◌<◌, ◌≤◌, ◌^◌, Bool, true, false, cond, not, List, [], ◌∷◌, ◌++◌, map, filter, zip, length, take, drop, get_or, set, slice_get, Option, Some, ℤ, pos, bit_and, refl, ◌⊎◌}
use Rattle.std.specs.Option.{option_or}
use Rattle.std.specs.List.{enumerate_from}
use Rattle.std.proofs.Common.{sym, ap, ◌∙◌, arith, length-drop, inl, inr}
use Rattle.std.proofs.Math.Seq.{drop-cons, take-suc-set}
use Rattle.std.proofs.Math.Pow.{pow_mono}
use Rattle.std.proofs.lemmas.Bool.{eq-eqb}
use Rattle.std.proofs.lemmas.Nat.Bits.{and_pow, bit_at_above}
use Rattle.std.proofs.lemmas.List.{take_more, length-take-le}
use Rattle.modules_profile.specs.Functions.{mask_of}
use Rattle.base_core.specs.Ports.{has_bit}
use Rattle.tool_driver.specs.declared.inputs.Input.{Input}
use Rattle.tool_driver.specs.declared.fault.DriveFault.{DriveFault}
use Rattle.tool_driver.specs.Judging.{first_fault, missing, bit_below}
use Rattle.base_fixed_point.specs.declared.FixType.{FixType}
use Rattle.modules_profile.specs.declared.Function.{Function}
use Rattle.tool_driver.specs.Shapes.{numbered_input, numbered_inputs, outputs_given}
use Rattle.tool_driver.specs.Calling.{given_with}

one-more : (n : ℕ) → suc n ≡ n + 1
one-more n = omega arith

-- two lists from a place on are their elements there, and the lists after
zip-from : {A B : Type 0} (xs : List A) (ys : List B) (k : ℕ) (x : A) (y : B) → k < length xs → k < length ys →
    zip (drop k xs) (drop k ys) ≡ (get_or xs k x, get_or ys k y) ∷ zip (drop (k + 1) xs) (drop (k + 1) ys)
zip-from xs ys k x y in_xs in_ys =
    rw (drop-cons xs k x in_xs, drop-cons ys k y in_ys)
    (ap (λ (n : ℕ). (get_or xs k x, get_or ys k y) ∷ zip (drop n xs) (drop n ys)) (one-more k))

pub fault_from : {A B : Type 0} (f : A × B → Option DriveFault) (xs : List A) (ys : List B) (k : ℕ) (x : A) (y : B) →
    k < length xs → k < length ys →
    first_fault f (zip (drop k xs) (drop k ys))
    ≡ option_or (f (get_or xs k x, get_or ys k y)) (first_fault f (zip (drop (k + 1) xs) (drop (k + 1) ys)))
fault_from f xs ys k x y in_xs in_ys = ap (first_fault f) (zip-from xs ys k x y in_xs in_ys)

pub given_from : (given : List (Option ℤ)) (xs : List Input) (ys : List ℤ) (k : ℕ) (x : Input) (y : ℤ) → k < length xs → k < length ys →
    given_with given (zip (drop k xs) (drop k ys))
    ≡ set (given_with given (zip (drop (k + 1) xs) (drop (k + 1) ys))) (get_or xs k x).place (Some (get_or ys k y))
given_from given xs ys k x y in_xs in_ys = ap (given_with given) (zip-from xs ys k x y in_xs in_ys)

pub set_past : {A : Type 0} (xs : List A) (k : ℕ) (v : A) → length xs ≤ k → set xs k v ≡ xs
set_past [] k v past = refl
set_past (x ∷ xs) zero v past = absurd (omega arith)
set_past (x ∷ xs) (suc k) v past = ap (λ ys. x ∷ ys) (set_past xs k v (omega arith))

-- an input whose place isn't there changes nothing
pub given_skip : (given now : List (Option ℤ)) (xs : List Input) (ys : List ℤ) (k j : ℕ) (x : Input) → k ≡ j + 1 →
    j < length ys → length ys ≡ length xs →
    x ≡ get_or xs j x → length now ≤ x.place → now ≡ given_with given (zip (drop k xs) (drop k ys)) →
    now ≡ given_with given (zip (drop j xs) (drop j ys))
given_skip given now xs ys k j x e inside same at past is =
    let behind : now ≡ given_with given (zip (drop (j + 1) xs) (drop (j + 1) ys)) =
    is ∙ ap (λ (n : ℕ). given_with given (zip (drop n xs) (drop n ys))) e in
    let none : length (given_with given (zip (drop (j + 1) xs) (drop (j + 1) ys))) ≤ (get_or xs j x).place =
    omega (arith, past, ap (λ (os : List (Option ℤ)). length os) behind, ap (λ (i : Input). i.place) at) in
    behind ∙ sym (given_from given xs ys j x (pos 0) (omega arith) inside
    ∙ set_past (given_with given (zip (drop (j + 1) xs) (drop (j + 1) ys))) (get_or xs j x).place
    (Some (get_or ys j (pos 0))) none)

-- an error at a place where there is none before is the first
pub fault_found : {A B : Type 0} (f : A × B → Option DriveFault) (xs : List A) (ys : List B) (k : ℕ) (x : A) (y : B)
    (fault : DriveFault) → k < length xs → k < length ys →
    x ≡ get_or xs k x → Some fault ≡ f (x, get_or ys k y) →
    first_fault f (zip (drop k xs) (drop k ys)) ≡ first_fault f (zip xs ys) → Some fault ≡ first_fault f (zip xs ys)
fault_found f xs ys k x y fault in_xs in_ys at is before =
    ap (λ o. option_or o (first_fault f (zip (drop (k + 1) xs) (drop (k + 1) ys))))
    (is ∙ ap (λ a. f (a, get_or ys k y)) at) ∙ sym (fault_from f xs ys k x y in_xs in_ys) ∙ before

pub missing_from : (called : List Bool) (k : ℕ) (d : Bool) → k < length called →
    missing (drop k called) ≡ bit_below (not (get_or called k d)) (missing (drop (k + 1) called))
missing_from called k d inside =
    ap missing (drop-cons called k d inside) ∙ below (get_or called k d)
    ∙ ap (λ (n : ℕ). bit_below (not (get_or called k d)) (missing (drop n called))) (one-more k)
  where
    below : (b : Bool) → mask_of (not b ∷ map not (drop (suc k) called)) ≡ bit_below (not b) (missing (drop (suc k) called))
    below true = refl
    below false = omega arith

mask-below : (bits : List Bool) → mask_of bits < 2 ^ length bits
mask-below [] = omega arith
mask-below (true ∷ bits) = let h = mask-below bits in let twice = double (length bits) in omega (arith, h, twice)
  where
    double : (n : ℕ) → 2 ^ suc n ≡ 2 * 2 ^ n
    double n = grind arith
mask-below (false ∷ bits) = let h = mask-below bits in let twice = double (length bits) in omega (arith, h, twice)
  where
    double : (n : ℕ) → 2 ^ suc n ≡ 2 * 2 ^ n
    double n = grind arith

length-not : (xs : List Bool) → length (map not xs) ≡ length xs
length-not [] = refl
length-not (x ∷ xs) = ap suc (length-not xs)

pub missing_few : (called : List Bool) (k : ℕ) → length called ≤ 32 → missing (drop k called) < 2 ^ 62
missing_few called k few =
    let below = mask-below (map not (drop k called)) in
    let short : length (map not (drop k called)) ≤ 32 = omega (arith, length-not (drop k called), length-drop k called) in
    let grows : 2 ^ length (map not (drop k called)) ≤ 2 ^ 32 = pow_mono short in
    omega (arith, below, grows)

-- no bit of a number of 64 bits is set from 64 on
pub high_bit : (mask bit : ℕ) → mask < 2 ^ 64 → 64 ≤ bit → false ≡ has_bit mask bit
high_bit mask bit fits high = sym (ap not (eq-eqb (bit_and mask (2 ^ bit)) 0 (and_pow mask bit
    ∙ ap (λ b. b * 2 ^ bit) (bit_at_above mask 64 bit fits high) ∙ none)))
  where
    none : 0 * 2 ^ bit ≡ 0
    none = omega arith

-- ---- Numbered lists

enumerate-push : {A : Type 0} (n m : ℕ) (xs : List A) (x : A) → n + length xs ≡ m →
    enumerate_from n (xs ++ x ∷ []) ≡ enumerate_from n xs ++ (m, x) ∷ []
enumerate-push n m [] x e = let same : n ≡ m = omega (arith, e) in ap (λ k. (k, x) ∷ []) same
enumerate-push n m (y ∷ xs) x e = ap (λ es. (n, y) ∷ es) (enumerate-push (n + 1) m xs x (omega (arith, e)))

enumerate-more : {A : Type 0} (n : ℕ) (xs : List A) (i : ℕ) (d : A) → i < length xs →
    enumerate_from n (take (i + 1) xs) ≡ enumerate_from n (take i xs) ++ (n + i, get_or xs i d) ∷ []
enumerate-more n xs i d inside =
    ap (enumerate_from n) (take_more xs i d inside)
    ∙ enumerate-push n (n + i) (take i xs) (get_or xs i d) (let l = length-take-le i xs (omega arith) in
    omega (arith, l))

map-push : {A B : Type 0} (f : A → B) (xs : List A) (x : A) → map f (xs ++ x ∷ []) ≡ map f xs ++ f x ∷ []
map-push f [] x = refl
map-push f (y ∷ xs) x = ap (λ ys. f y ∷ ys) (map-push f xs x)

pub mapped_more : {A B : Type 0} (f : ℕ × A → B) (n : ℕ) (xs : List A) (i : ℕ) (d : A) → i < length xs →
    map f (enumerate_from n (take (i + 1) xs)) ≡ map f (enumerate_from n (take i xs)) ++ f (n + i, get_or xs i d) ∷ []
mapped_more f n xs i d inside =
    ap (map f) (enumerate-more n xs i d inside) ∙ map-push f (enumerate_from n (take i xs)) (n + i, get_or xs i d)

filter-push : {A : Type 0} (p : A → Bool) (xs : List A) (x : A) → filter p (xs ++ x ∷ []) ≡ filter p xs ++ cond (p x) (x ∷ []) []
filter-push p [] x = refl
filter-push {A} p (y ∷ xs) x = by (p y) (filter-push p xs x)
  where
    by : (b : Bool) → filter p (xs ++ x ∷ []) ≡ filter p xs ++ cond (p x) (x ∷ []) [] →
        cond b (y ∷ filter p (xs ++ x ∷ [])) (filter p (xs ++ x ∷ [])) ≡ cond b (y ∷ filter p xs) (filter p xs) ++ cond (p x) (x ∷ []) []
    by true h = ap (λ ys. y ∷ ys) h
    by false h = h

-- of numbered elements those that pass, and their values
pub kept_more : {A : Type 0} (p : ℕ × A → Bool) (xs : List A) (i : ℕ) (d : A) → i < length xs →
    map (λ (e : ℕ × A). e.1) (filter p (enumerate_from 0 (take (i + 1) xs)))
    ≡ map (λ (e : ℕ × A). e.1) (filter p (enumerate_from 0 (take i xs))) ++ cond (p (i, get_or xs i d)) (get_or xs i d ∷ []) []
kept_more {A} p xs i d inside =
    ap (λ es. map (λ (e : ℕ × A). e.1) (filter p es)) (enumerate-more 0 xs i d inside
    ∙ ap (λ (n : ℕ). enumerate_from 0 (take i xs) ++ (n, get_or xs i d) ∷ []) zero-more)
    ∙ ap (map (λ (e : ℕ × A). e.1)) (filter-push p (enumerate_from 0 (take i xs)) (i, get_or xs i d))
    ∙ joined (filter p (enumerate_from 0 (take i xs))) (p (i, get_or xs i d))
  where
    zero-more : 0 + i ≡ i
    zero-more = omega arith

    last : (es : List (ℕ × A)) → map (λ (e : ℕ × A). e.1) (es ++ (i, get_or xs i d) ∷ []) ≡ map (λ (e : ℕ × A). e.1) es
        ++ get_or xs i d ∷ []
    last es = map-push (λ (e : ℕ × A). e.1) es (i, get_or xs i d)

    nothing : {B : Type 0} (ys : List B) → ys ≡ ys ++ []
    nothing [] = refl
    nothing (y ∷ ys) = ap (λ zs. y ∷ zs) (nothing ys)

    joined : (es : List (ℕ × A)) (b : Bool) →
        map (λ (e : ℕ × A). e.1) (es ++ cond b ((i, get_or xs i d) ∷ []) []) ≡ map (λ (e : ℕ × A). e.1) es
        ++ cond b (get_or xs i d ∷ []) []
    joined es true = last es
    joined es false = ap (map (λ (e : ℕ × A). e.1)) (sym (nothing es)) ∙ nothing (map (λ (e : ℕ × A). e.1) es)

-- one more input
pub numbered_more : (types : List FixType) (i : ℕ) (of : FixType) (old new : List Input) (input : Input) →
    i < length types → of ≡ get_or types i of →
    old ≡ numbered_inputs (take i types) → input ≡ numbered_input (i, of) → new ≡ old ++ input ∷ [] →
    new ≡ numbered_inputs (take (i + 1) types)
numbered_more types i of old new input inside at before is pushed =
    pushed ∙ ap (λ is. is ++ input ∷ []) before
    ∙ ap (λ (j : Input). numbered_inputs (take i types) ++ j ∷ []) (is ∙ ap (λ t. numbered_input (i, t)) at
    ∙ ap (λ (n : ℕ). numbered_input (n, get_or types i of)) zero-more)
    ∙ sym (mapped_more numbered_input 0 types i of inside)
  where
    zero-more : i ≡ 0 + i
    zero-more = omega arith

-- one more output
pub given_more : (f : Function) (names : List (List ℕ)) (i : ℕ) (name : List ℕ) (old new : List (List ℕ)) (b : Bool) →
    i < length names → name ≡ get_or names i name →
    old ≡ outputs_given f (take i names) → b ≡ has_bit f.outputs i → new ≡ old ++ cond b (name ∷ []) [] →
    new ≡ outputs_given f (take (i + 1) names)
given_more f names i name old new b inside at before is pushed =
    pushed ∙ ap (λ os. os ++ cond b (name ∷ []) []) before ∙ ap (λ c. outputs_given f (take i names) ++ cond c (name ∷ []) []) is
    ∙ ap (λ n. outputs_given f (take i names) ++ cond (has_bit f.outputs i) (n ∷ []) []) at
    ∙ sym (kept_more (λ e. has_bit f.outputs e.0) names i name inside)

-- ---- Stores and pushes at the end

pub take_set_more : {A : Type 0} (xs : List A) (k : ℕ) (v : A) → k < length xs → take (k + 1) (set xs k v) ≡ take k xs ++ v ∷ []
take_set_more xs k v inside = ap (λ (n : ℕ). take n (set xs k v)) (sym (one-more k)) ∙ take-suc-set xs k v inside

pub take_first : {A : Type 0} (xs : List A) (v : A) → 0 < length xs → take 1 (set xs 0 v) ≡ v ∷ []
take_first [] v some = absurd (omega arith)
take_first (x ∷ xs) v some = refl

-- an argument after those before
pub arguments_more : (room values : List ℤ) (now v : ℤ) (k : ℕ) → k + 1 < length room → k < length values → v ≡ get_or values k (pos 0) →
    take (k + 1) room ≡ now ∷ take k values → take (k + 1 + 1) (set room (k + 1) v) ≡ now ∷ take (k + 1) values
arguments_more room values now v k inside below is before =
    take_set_more room (k + 1) v inside ∙ ap (λ xs. xs ++ v ∷ []) before ∙ ap (λ x. now ∷ (take k values ++ x ∷ [])) is
    ∙ ap (λ xs. now ∷ xs) (sym (take_more values k (pos 0) below))

pub get_pushed : {A : Type 0} (xs : List A) (x : A) (k : ℕ) → k ≡ length xs → slice_get (xs ++ x ∷ []) k ≡ Some x
get_pushed [] x zero e = refl
get_pushed [] x (suc k) e = absurd (omega (arith, e))
get_pushed (y ∷ xs) x zero e = absurd (omega (arith, e))
get_pushed (y ∷ xs) x (suc k) e = get_pushed xs x k (omega (arith, e))

pub get_before : {A : Type 0} (xs : List A) (x : A) (k : ℕ) → k < length xs → slice_get (xs ++ x ∷ []) k ≡ slice_get xs k
get_before [] x k below = absurd (omega (arith, below))
get_before (y ∷ xs) x zero below = refl
get_before (y ∷ xs) x (suc k) below = get_before xs x k (omega (arith, below))

-- each element is right, and so is one more
pub each_more : {A : Type 0} (P : ℕ → A) (xs : List A) (x : A) →
    ((k : ℕ) → k < length xs → slice_get xs k ≡ Some (P k)) → x ≡ P (length xs) →
    (k : ℕ) → k < length xs + 1 → slice_get (xs ++ x ∷ []) k ≡ Some (P k)
each_more P xs x each is k below = by (length xs) refl (grind arith)
  where
    by : (n : ℕ) → n ≡ length xs → (k < n) ⊎ (k ≡ n) → slice_get (xs ++ x ∷ []) k ≡ Some (P k)
    by n e (inl less) = let under : k < length xs = omega (arith, e, less) in get_before xs x k under ∙ each k under
    by n e (inr same) = let end : k ≡ length xs = same ∙ e in get_pushed xs x k end ∙ ap Some (is ∙ ap P (sym end))
