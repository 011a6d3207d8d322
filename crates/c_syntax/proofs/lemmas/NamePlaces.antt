-- Where names are in lists of different ones.
use Rattle.std.proofs.Common.{◌≡◌, refl, sym, ◌∙◌, ap, ℕ, zero, suc, ◌+◌, ◌<◌, List, [], ◌∷◌, ◌++◌, length, map, get_or, Bool, true, false, ◌||◌, Some, unwrap_or, slice_get, bytes_eq, if◌then◌else◌, arith}
use Rattle.std.specs.List.{position_from}
use Rattle.std.proofs.lemmas.Bool.Decides.{same_from_decides}
use Rattle.std.proofs.lemmas.Slice.Eq.{bytes_eq-Decides}
use Rattle.c_syntax.specs.Names.{is_name, name_at}
use Rattle.c_syntax.specs.Outputs.{has_name}
use Rattle.c_syntax.specs.Lawful.{AreDistinct}

-- a text is itself
pub bytes_eq-same : (x : List ℕ) → bytes_eq x x ≡ true
bytes_eq-same x = (bytes_eq-Decides x x).1 refl

pub bytes_eq-sym : (x y : List ℕ) → bytes_eq x y ≡ bytes_eq y x
bytes_eq-sym x y =
    same_from_decides (bytes_eq x y) (bytes_eq y x) (bytes_eq-Decides x y) (
      (λ e. sym ((bytes_eq-Decides y x).0 e)),
      (λ e. (bytes_eq-Decides y x).1 (sym e)),
    )

pub or-left : (a b : Bool) → (a || b) ≡ false → a ≡ false
or-left false b h = refl
or-left true b h = h

pub or-right : (a b : Bool) → (a || b) ≡ false → b ≡ false
or-right false b h = h
or-right true b h = cc

-- each of different names is a name
pub AreDistinct-name : (names : List (List ℕ)) (k : ℕ) → AreDistinct names → k < length names → is_name (name_at names k) ≡ true
AreDistinct-name [] k h within = absurd (omega (arith, within))
AreDistinct-name (n ∷ ns) zero h within = h.0
AreDistinct-name (n ∷ ns) (suc k) h within = AreDistinct-name ns k h.2 (omega (arith, within))

-- a name that is not in a list is none of it
pub has_name-at : (names : List (List ℕ)) (n : List ℕ) (k : ℕ) → has_name names n ≡ false → k < length names →
    bytes_eq n (name_at names k) ≡ false
has_name-at [] n k h within = absurd (omega (arith, within))
has_name-at (m ∷ ms) n zero h within = or-left (bytes_eq n m) (has_name ms n) h
has_name-at (m ∷ ms) n (suc k) h within = has_name-at ms n k (or-right (bytes_eq n m) (has_name ms n) h) (omega (arith, within))

-- the place of the element with a name
pub position_from-named : {A : Type 0} (name : A → List ℕ) (xs : List A) (i k : ℕ) → AreDistinct (map name xs) →
    k < length (map name xs) → position_from (λ x. bytes_eq (name x) (name_at (map name xs) k)) i xs ≡ Some (i + k)
position_from-named name [] i k h within = absurd (omega (arith, within))
position_from-named name (x ∷ xs) i zero h within =
    ap (λ b. if b then Some i else position_from (λ y. bytes_eq (name y) (name x)) (i + 1) xs) (bytes_eq-same (name x))
    ∙ ap Some (omega arith)
position_from-named name (x ∷ xs) i (suc k) h within =
    let n : List ℕ = name_at (map name xs) k in
    let later : k < length (map name xs) = omega (arith, within) in
    ap (λ b. if b then Some i else position_from (λ y. bytes_eq (name y) n) (i + 1) xs)
    (has_name-at (map name xs) (name x) k h.1 later) ∙ position_from-named name xs (i + 1) k h.2 later
    ∙ ap Some (omega arith)

-- the place of a name
pub position_from-name : (names : List (List ℕ)) (i k : ℕ) → AreDistinct names → k < length names →
    position_from (bytes_eq (name_at names k)) i names ≡ Some (i + k)
position_from-name [] i k h within = absurd (omega (arith, within))
position_from-name (x ∷ xs) i zero h within =
    ap (λ b. if b then Some i else position_from (bytes_eq x) (i + 1) xs) (bytes_eq-same x) ∙ ap Some (omega arith)
position_from-name (x ∷ xs) i (suc k) h within =
    let n : List ℕ = name_at xs k in
    let later : k < length xs = omega (arith, within) in
    ap (λ b. if b then Some i else position_from (bytes_eq n) (i + 1) xs) (bytes_eq-sym n x
    ∙ has_name-at xs x k h.1 later) ∙ position_from-name xs (i + 1) k h.2 later ∙ ap Some (omega arith)

-- what a function gives of the element at a place of the front of a list
pub map-at_front : {A B : Type 0} (f : A → B) (xs ys : List A) (k : ℕ) (x : A) (d : B) → slice_get xs k ≡ Some x →
    get_or (map f (xs ++ ys)) k d ≡ f x
map-at_front f [] ys k x d there = cc
map-at_front f (y ∷ xs) ys zero x d there = ap f (some_same y x there)
  where
    some_same : {A : Type 0} (a b : A) → Some a ≡ Some b → a ≡ b
    some_same a b e = ap (λ o. unwrap_or o a) e
map-at_front f (y ∷ xs) ys (suc k) x d there = map-at_front f xs ys k x d there

pub map-at : {A B : Type 0} (f : A → B) (xs : List A) (k : ℕ) (x : A) (d : B) → slice_get xs k ≡ Some x → get_or (map f xs) k d ≡ f x
map-at f [] k x d there = cc
map-at f (y ∷ xs) zero x d there = ap f (some_same y x there)
  where
    some_same : {A : Type 0} (a b : A) → Some a ≡ Some b → a ≡ b
    some_same a b e = ap (λ o. unwrap_or o a) e
map-at f (y ∷ xs) (suc k) x d there = map-at f xs k x d there
