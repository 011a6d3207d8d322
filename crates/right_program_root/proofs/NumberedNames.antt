-- Names that end with numbers: where they are in a list, and how many of them there are without a gap.
use Rattle.std.specs.Prelude.{◌≡◌, ◌≢◌, ℕ, zero, suc, ◌+◌, ◌^◌, ◌<◌, ◌≤◌, Bool, true, false, ◌||◌, cond, List, [], ◌∷◌, ◌++◌, map, length, find, slice_get, Contains, Some, unwrap_or, bytes_eq, decimal, refl}
use Rattle.std.specs.List.{position_from, prefix_len, range_with_len, list_any, AllByRecursion}
use Rattle.std.specs.Cmp.Lexicographic.{same_text, other_text}
use Rattle.std.proofs.Common.{sym, ap, ap₂, subst, ◌∙◌, arith, inl, inr}
use Rattle.std.proofs.lemmas.Fmt.{decimal_injective}
use Rattle.std.proofs.lemmas.Option.{get_or_from_slice_get, same_Some, none-some}
use Rattle.c_syntax.specs.Names.{name_at}
use Rattle.c_syntax.specs.Outputs.{numbers_from}
use Rattle.c_syntax.specs.Lawful.{AreDistinct}
use Rattle.c_syntax.proofs.lemmas.NamePlaces.{has_name-at}
use Rattle.modules_profile.proofs.lemmas.Members.{in-none, in-first, in-rest, in-cases, at-map, at-below}

-- ---- Texts

pub bytes-same : (a b : List ℕ) → a ≡ b → bytes_eq a b ≡ true
bytes-same a b e = by (bytes_eq a b) refl
  where
    by : (t : Bool) → bytes_eq a b ≡ t → t ≡ true
    by true q = refl
    by false q = absurd (other_text a b (sym q) e)

pub bytes-apart : (a b : List ℕ) → a ≢ b → bytes_eq a b ≡ false
bytes-apart a b apart = by (bytes_eq a b) refl
  where
    by : (t : Bool) → bytes_eq a b ≡ t → t ≡ false
    by true q = absurd (apart (same_text a b (sym q)))
    by false q = refl

pub text-of-same : (a b : List ℕ) → bytes_eq a b ≡ true → a ≡ b
text-of-same a b same = same_text a b (sym same)

append-one : (front a b : List ℕ) → front ++ a ≡ front ++ b → a ≡ b
append-one [] a b same = same
append-one (x ∷ front) a b same = append-one front a b (cc same)

-- numbers that a text can show stand for themselves
abbrev pub TellsApart : (ℕ → List ℕ) → Type 0
TellsApart of = (k l : ℕ) → k < 2 ^ 64 → l < 2 ^ 64 → of k ≡ of l → k ≡ l

pub front-tells : (front : List ℕ) → TellsApart (λ k. front ++ decimal k)
front-tells front k l few less same = decimal_injective k l few less (append-one front (decimal k) (decimal l) same)

-- ---- All and any

pub each-of : {A : Type 0} (P : A → Type 0) (xs : List A) → ((x : A) → Contains xs x → P x) → AllByRecursion P xs
each-of P [] each = tt
each-of P (x ∷ xs) each = (each x (in-first x xs), each-of P xs (λ y has. each y (in-rest x y xs has)))

pub of-each : {A : Type 0} (P : A → Type 0) (xs : List A) (x : A) → AllByRecursion P xs → Contains xs x → P x
of-each P [] x all has = absurd (in-none x has)
of-each P (y ∷ ys) x all has = elim (in-cases y x ys has) [ inl same ↦ subst P same all.0 | inr more ↦ of-each P ys x all.1 more ]

pub any-of : {A : Type 0} (test : A → Bool) (xs : List A) (x : A) → Contains xs x → test x ≡ true → list_any test xs ≡ true
any-of test [] x has passes = absurd (in-none x has)
any-of test (y ∷ ys) x has passes = elim (in-cases y x ys has) [
  | inl same ↦ ap (λ t. t || list_any test ys) (ap test same ∙ passes)
  | inr more ↦ ap (λ t. test y || t) (any-of test ys x more passes) ∙ either (test y)
]
  where
    either : (t : Bool) → (t || true) ≡ true
    either true = refl
    either false = refl

pub none-of : {A : Type 0} (test : A → Bool) (xs : List A) → ((x : A) → Contains xs x → test x ≡ false) → list_any test xs ≡ false
none-of test [] none = refl
none-of test (x ∷ xs) none =
    ap (λ t. t || list_any test xs) (none x (in-first x xs)) ∙ none-of test xs (λ y has. none y (in-rest x y xs has))

-- ---- Counts

-- so many pass, and the next doesn't
pub prefix-exact : (p : ℕ → Bool) (a m n : ℕ) → m < n → ((k : ℕ) → a ≤ k → k < a + m → p k ≡ true) → p (a + m) ≡ false →
    prefix_len p (range_with_len a n) ≡ m
prefix-exact p a m zero less pass stop = absurd (omega (arith, less))
prefix-exact p a zero (suc n) less pass stop =
    let here : a + 0 ≡ a = omega arith in ap (λ t. cond t (1 + prefix_len p (range_with_len (a + 1) n)) 0) (ap p (sym here) ∙ stop)
prefix-exact p a (suc m) (suc n) less pass stop =
    let next : a + suc m ≡ a + 1 + m = omega arith in
    let one : 1 + m ≡ suc m = omega arith in
    ap (λ t. cond t (1 + prefix_len p (range_with_len (a + 1) n)) 0) (pass a (omega arith) (omega arith))
    ∙ ap (λ k. 1 + k) (prefix-exact p (a + 1) m n (omega (arith, less)) (λ k low high. pass k (omega (arith, low)) (omega (arith, high)))
    (ap p (sym next) ∙ stop))
    ∙ one

pub numbers-range : (a n : ℕ) → numbers_from a n ≡ range_with_len a n
numbers-range a zero = refl
numbers-range a (suc n) = ap (λ ks. a ∷ ks) (numbers-range (a + 1) n)

-- what is by its place a number
pub by-places : {A : Type 0} (g : A → ℕ) (xs : List A) (a : ℕ) → ((k : ℕ) (x : A) → slice_get xs k ≡ Some x → g x ≡ a + k) →
    map g xs ≡ range_with_len a (length xs)
by-places g [] a each = refl
by-places g (x ∷ xs) a each =
    let here : a + 0 ≡ a = omega arith in
    ap₂ (λ k ks. k ∷ ks) (each 0 x refl ∙ here)
    (by-places g xs (a + 1) (λ k y at. let next : a + suc k ≡ a + 1 + k = omega arith in each (suc k) y at ∙ next))

-- ---- Places

-- of elements that are named by the numbers from a on, each is found at its place
pub position-by-number : {A : Type 0} (name : A → List ℕ) (of : ℕ → List ℕ) (tells : TellsApart of) (xs rest : List A) (a n j : ℕ) →
    map name xs ≡ map of (range_with_len a (length xs)) → a + length xs ≤ 2 ^ 64 → j < length xs →
    position_from (λ x. bytes_eq (name x) (of (a + j))) n (xs ++ rest) ≡ Some (n + j)
position-by-number name of tells [] rest a n j are few below = absurd (omega (arith, below))
position-by-number name of tells (x ∷ xs) rest a n zero are few below =
    let first : name x ≡ of a = cc are in
    let here : a ≡ a + 0 = omega arith in
    let same : n ≡ n + 0 = omega arith in
    ap (λ b. cond b (Some n) (position_from (λ y. bytes_eq (name y) (of (a + 0))) (n + 1) (xs ++ rest)))
    (bytes-same (name x) (of (a + 0)) (first ∙ ap of here)) ∙ ap Some same
position-by-number name of tells (x ∷ xs) rest a n (suc j) are few below =
    let first : name x ≡ of a = cc are in
    let later : map name xs ≡ map of (range_with_len (a + 1) (length xs)) = cc are in
    let next : a + suc j ≡ a + 1 + j = omega arith in
    let same : n + 1 + j ≡ n + suc j = omega arith in
    ap (λ b. cond b (Some n) (position_from (λ y. bytes_eq (name y) (of (a + suc j))) (n + 1) (xs ++ rest)))
    (bytes-apart (name x) (of (a + suc j))
    (λ e. let one = tells a (a + suc j) (omega (arith, few)) (omega (arith, few, below)) (sym first ∙ e) in omega (arith, one)))
    ∙ ap (λ k. position_from (λ y. bytes_eq (name y) (of k)) (n + 1) (xs ++ rest)) next
    ∙ position-by-number name of tells xs rest (a + 1) (n + 1) j later (omega (arith, few)) (omega (arith, below)) ∙ ap Some same

-- none of these has the name
pub position-behind : {A : Type 0} (test : A → Bool) (xs rest : List A) (n : ℕ) → ((x : A) → Contains xs x → test x ≡ false) →
    position_from test n (xs ++ rest) ≡ position_from test (n + length xs) rest
position-behind test [] rest n none = let same : n ≡ n + 0 = omega arith in ap (λ k. position_from test k rest) same
position-behind test (x ∷ xs) rest n none =
    let same : n + 1 + length xs ≡ n + suc (length xs) = omega arith in
    ap (λ b. cond b (Some n) (position_from test (n + 1) (xs ++ rest))) (none x (in-first x xs))
    ∙ position-behind test xs rest (n + 1) (λ y has. none y (in-rest x y xs has)) ∙ ap (λ k. position_from test k rest) same

-- of elements with different names one is found by its name
pub found-by-name : {A : Type 0} (name : A → List ℕ) (xs : List A) (j : ℕ) (x : A) → AreDistinct (map name xs) → slice_get xs j ≡ Some x →
    find (λ y. bytes_eq (name y) (name x)) xs ≡ Some x
found-by-name name [] j x distinct at = absurd (none-some x at)
found-by-name name (y ∷ ys) zero x distinct at =
    let same : y ≡ x = same_Some y x at in
    ap (λ b. cond b (Some y) (find (λ z. bytes_eq (name z) (name x)) ys)) (bytes-same (name y) (name x) (ap name same)) ∙ ap Some same
found-by-name name (y ∷ ys) (suc j) x distinct at =
    let named = at-map name ys j x at in
    let is : name_at (map name ys) j ≡ name x = get_or_from_slice_get (map name ys) j (name x) [] named in
    ap (λ b. cond b (Some y) (find (λ z. bytes_eq (name z) (name x)) ys))
    (ap (bytes_eq (name y)) (sym is) ∙ has_name-at (map name ys) (name y) j distinct.1 (at-below (map name ys) j (name x) named))
    ∙ found-by-name name ys j x distinct.2 at

-- what is found is in the list
pub position-less : {A : Type 0} (test : A → Bool) (xs : List A) (n m : ℕ) → n + length xs ≤ m → 0 < m →
    unwrap_or (position_from test n xs) 0 < m
position-less test [] n m most some = some
position-less test (x ∷ xs) n m most some = by (test x) (position-less test xs (n + 1) m (omega (arith, most)) some)
  where
    by : (t : Bool) → unwrap_or (position_from test (n + 1) xs) 0 < m → unwrap_or (cond t (Some n) (position_from test (n + 1) xs)) 0 < m
    by true less = omega (arith, most)
    by false less = less
