-- Where names are in lists of different ones.
use Rattle.std.proofs.Common.{◌≡◌, refl, sym, ◌∙◌, ap, ℕ, zero, suc, ◌+◌, ◌<◌, List, [], ◌∷◌, ◌++◌, length, Bool, true, false, ◌||◌, Some, Ok, bytes_eq, if◌then◌else◌, arith}
use Rattle.std.specs.List.{position_from, AllByRecursion}
use Rattle.c_syntax.specs.Names.{name_at}
use Rattle.c_syntax.specs.Outputs.{has_name}
use Rattle.c_rules.specs.Resolve.{or_unnamed}
use Rattle.c_syntax.proofs.lemmas.NamePlaces.{bytes_eq-same, bytes_eq-sym, has_name-at, or-left, or-right}
use Rattle.lustre_syntax.specs.Names.{is_lustre_name}
use Rattle.lustre_syntax.specs.Tree.{Declared, texts_of}
use Rattle.lustre_syntax.specs.Lawful.{AreDistinct}
use Rattle.lustre_rules.specs.Resolve.{place_named}

-- each of different names is a name
pub distinct-named : (names : List (List ℕ)) → AreDistinct names → (k : ℕ) → k < length names → is_lustre_name (name_at names k) ≡ true
distinct-named [] h k within = absurd (omega (arith, within))
distinct-named (n ∷ ns) h zero within = h.0
distinct-named (n ∷ ns) h (suc k) within = distinct-named ns h.2 k (omega (arith, within))

pub declared-named : (ds : List Declared) → AreDistinct (texts_of ds) → AllByRecursion (λ d. is_lustre_name d.text ≡ true) ds
declared-named [] h = tt
declared-named (d ∷ ds) h = (h.0, declared-named ds h.2)

position_from-name : (names : List (List ℕ)) (i k : ℕ) → AreDistinct names → k < length names →
    position_from (bytes_eq (name_at names k)) i names ≡ Some (i + k)
position_from-name [] i k h within = absurd (omega (arith, within))
position_from-name (x ∷ xs) i zero h within =
    ap (λ b. if b then Some i else position_from (bytes_eq x) (i + 1) xs) (bytes_eq-same x) ∙ ap Some (omega arith)
position_from-name (x ∷ xs) i (suc k) h within =
    let n : List ℕ = name_at xs k in
    let later : k < length xs = omega (arith, within) in
    ap (λ b. if b then Some i else position_from (bytes_eq n) (i + 1) xs) (bytes_eq-sym n x ∙ has_name-at xs x k h.1 later)
    ∙ position_from-name xs (i + 1) k h.2 later ∙ ap Some (omega arith)

-- the place of a name
pub position-name : (names : List (List ℕ)) (k : ℕ) → AreDistinct names → k < length names →
    position_from (bytes_eq (name_at names k)) 0 names ≡ Some k
position-name names k h within = position_from-name names 0 k h within ∙ ap Some (omega arith)

pub place-name : (names : List (List ℕ)) (k : ℕ) → AreDistinct names → k < length names → place_named names (name_at names k) ≡ Ok k
place-name names k h within = ap or_unnamed (position-name names k h within)

or-none : (a b : Bool) → a ≡ false → b ≡ false → (a || b) ≡ false
or-none false b e d = d
or-none true b e d = cc

-- a further name that is new
pub distinct-more : (names : List (List ℕ)) (n : List ℕ) → AreDistinct names → is_lustre_name n ≡ true → has_name names n ≡ false →
    AreDistinct (names ++ n ∷ [])
distinct-more [] n h named new = (named, refl, tt)
distinct-more (m ∷ ms) n h named new =
    (h.0, unlike ms h.1, distinct-more ms n h.2 named (or-right (bytes_eq n m) (has_name ms n) new))
  where
    unlike : (xs : List (List ℕ)) → has_name xs m ≡ false → has_name (xs ++ n ∷ []) m ≡ false
    unlike [] e = or-none (bytes_eq m n) false (bytes_eq-sym m n ∙ or-left (bytes_eq n m) (has_name ms n) new) refl
    unlike (x ∷ xs) e =
        or-none (bytes_eq m x) (has_name (xs ++ n ∷ []) m) (or-left (bytes_eq m x) (has_name xs m) e)
        (unlike xs (or-right (bytes_eq m x) (has_name xs m) e))
