-- What balanced trees keep of their parts.
use Rattle.std.proofs.Common.{ℕ, ◌≡◌, refl, sym, ap, ◌∙◌, ◌+◌, ◌≤◌, List, [], ◌∷◌, length, arith}
use Rattle.std.specs.List.{AllByRecursion, AllZip}
use Rattle.emit_row_code.specs.Balanced.{pairs, first_or, balanced}

-- ---- A relation between the parts of two trees that joints keep

module _ {E V : Type 0} (join : E → E → E) (add : V → V → V) (R : E → V → Type 0) (joins : (a b : E) (x y : V) → R a x →
    R b y → R (join a b) (add x y)) where
  pairs_related : (es : List E) (vs : List V) → AllZip R es vs → AllZip R (pairs join es) (pairs add vs)
  pairs_related [] [] h = tt
  pairs_related [] (v ∷ vs) h = absurd h
  pairs_related (e ∷ es) [] h = absurd h
  pairs_related (e ∷ []) (v ∷ []) h = (h.0, tt)
  pairs_related (e ∷ []) (v ∷ w ∷ vs) h = absurd h.1
  pairs_related (e ∷ d ∷ es) (v ∷ []) h = absurd h.1
  pairs_related (e ∷ d ∷ es) (v ∷ w ∷ vs) h = (joins e d v w h.0 h.1.0, pairs_related es vs h.1.1)

  first_related : (none : E) (unit : V) → R none unit → (es : List E) (vs : List V) → AllZip R es vs →
      R (first_or none es) (first_or unit vs)
  first_related none unit r [] [] h = r
  first_related none unit r [] (v ∷ vs) h = absurd h
  first_related none unit r (e ∷ es) [] h = absurd h
  first_related none unit r (e ∷ es) (v ∷ vs) h = h.0

  pub balanced_related : (none : E) (unit : V) → R none unit → (es : List E) (vs : List V) → AllZip R es vs →
      R (balanced join none es) (balanced add unit vs)
  balanced_related none unit r es vs h =
      let twos = pairs_related es vs h in
      let fours = pairs_related (pairs join es) (pairs add vs) twos in
      let eights = pairs_related (pairs join (pairs join es)) (pairs add (pairs add vs)) fours in
      let whole = pairs_related (pairs join (pairs join (pairs join es))) (pairs add (pairs add (pairs add vs))) eights in
      first_related none unit r (pairs join (pairs join (pairs join (pairs join es))))
      (pairs add (pairs add (pairs add (pairs add vs)))) whole

-- ---- A tree of an associative operation with a unit is its whole

module _ {V : Type 0} (add : V → V → V) (unit : V) where
  abbrev pub total : List V → V
  total [] = unit
  total (v ∷ vs) = add v (total vs)

pairs_length : {V : Type 0} (add : V → V → V) (vs : List V) → length (pairs add vs) + length (pairs add vs) ≤ length vs + 1
pairs_length add [] = omega arith
pairs_length add (v ∷ []) = omega arith
pairs_length add (v ∷ w ∷ vs) = let rest = pairs_length add vs in omega arith

module _ {V : Type 0} (add : V → V → V) (unit : V) (assoc : (x y z : V) → add (add x y) z ≡ add x (add y z))
    (right : (x : V) → add x unit ≡ x) where
  pairs_total : (vs : List V) → total add unit (pairs add vs) ≡ total add unit vs
  pairs_total [] = refl
  pairs_total (v ∷ []) = refl
  pairs_total (v ∷ w ∷ vs) = ap (add (add v w)) (pairs_total vs) ∙ assoc v w (total add unit vs)

  first_total : (vs : List V) → length vs ≤ 1 → first_or unit vs ≡ total add unit vs
  first_total [] h = refl
  first_total (v ∷ []) h = sym (right v)
  first_total (v ∷ w ∷ vs) h = absurd (omega arith)

  pub balanced_total : (vs : List V) → length vs ≤ 16 → balanced add unit vs ≡ total add unit vs
  balanced_total vs few =
      let twos = pairs add vs in
      let fours = pairs add twos in
      let eights = pairs add fours in
      let whole = pairs add eights in
      let one : length whole ≤ 1 =
      omega (
        arith,
        few,
        pairs_length add vs,
        pairs_length add twos,
        pairs_length add fours,
        pairs_length add eights,
      ) in
      first_total whole one ∙ pairs_total eights ∙ pairs_total fours ∙ pairs_total twos ∙ pairs_total vs

-- ---- A property of each part that joints keep, or turn into the next one

module _ {E : Type 0} (join : E → E → E) (P Q : E → Type 0) (joins : (a b : E) → P a → P b → Q (join a b))
    (stays : (a : E) → P a → Q a) where
  pub pairs_all : (es : List E) → AllByRecursion P es → AllByRecursion Q (pairs join es)
  pairs_all [] h = tt
  pairs_all (e ∷ []) h = (stays e h.0, tt)
  pairs_all (e ∷ d ∷ es) h = (joins e d h.0 h.1.0, pairs_all es h.1.1)

pub first_all : {E : Type 0} (P : E → Type 0) (none : E) (es : List E) → P none → AllByRecursion P es → P (first_or none es)
first_all P none [] p h = p
first_all P none (e ∷ es) p h = h.0

-- a property that joints keep
module _ {E : Type 0} (join : E → E → E) (P : E → Type 0) (joins : (a b : E) → P a → P b → P (join a b)) where
  pub balanced_all : (none : E) (es : List E) → P none → AllByRecursion P es → P (balanced join none es)
  balanced_all none es p h =
      let twos = pairs_all join P P joins (λ a q. q) es h in
      let fours = pairs_all join P P joins (λ a q. q) (pairs join es) twos in
      let eights = pairs_all join P P joins (λ a q. q) (pairs join (pairs join es)) fours in
      let whole = pairs_all join P P joins (λ a q. q) (pairs join (pairs join (pairs join es))) eights in
      first_all P none (pairs join (pairs join (pairs join (pairs join es)))) p whole

-- a size to which each joint adds so much at most
module _ {E : Type 0} (join : E → E → E) (size : E → ℕ) (more : ℕ) (grows : (a b : E) (d : ℕ) → 1 ≤ d → size a ≤ d →
    size b ≤ d → size (join a b) ≤ d + more) where
  pairs_size : (d : ℕ) (es : List E) → 1 ≤ d → AllByRecursion (λ e. size e ≤ d) es → AllByRecursion (λ e. size e ≤ d + more) (pairs join es)
  pairs_size d es some h =
      pairs_all join (λ e. size e ≤ d) (λ e. size e ≤ d + more) (λ a b p q. grows a b d some p q)
      (λ a p. omega (arith, p)) es h

  pub balanced_size : (d : ℕ) (none : E) (es : List E) → 1 ≤ d → size none ≤ d → AllByRecursion (λ e. size e ≤ d) es →
      size (balanced join none es) ≤ d + more + more + more + more
  balanced_size d none es some p h =
      let twos = pairs_size d es some h in
      let fours = pairs_size (d + more) (pairs join es) (omega (arith, some)) twos in
      let eights = pairs_size (d + more + more) (pairs join (pairs join es)) (omega (arith, some)) fours in
      let whole = pairs_size (d + more + more + more) (pairs join (pairs join (pairs join es))) (omega (arith, some)) eights in
      first_all (λ e. size e ≤ d + more + more + more + more) none
      (pairs join (pairs join (pairs join (pairs join es)))) (omega (arith, p)) whole
