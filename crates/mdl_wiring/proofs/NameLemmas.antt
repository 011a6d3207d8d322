-- How a map from names follows the names of blocks.
use Rattle.std.proofs.Common.{◌≡◌, refl, sym, ◌∙◌, ap, ap₂, ℕ, suc, zero, ◌+◌, Bool, true, false, ◌||◌, cond, List, [], ◌∷◌, ◌++◌, length, take, slice_index_or, subst, ◌<◌, Option, None, Some, arith}
use Rattle.std.specs.Option.{option_or}
use Rattle.std.specs.Prelude.{◌≤◌, nat_lt}
use Rattle.std.specs.List.{position_from, list_any}
use Rattle.std.proofs.lemmas.Bool.Decides.{nat_tests}
use Rattle.std.specs.Str.{bytes_eq}
use Rattle.std.proofs.lemmas.Slice.Eq.{bytes_eq-Decides}
use Rattle.std.proofs.lemmas.Map.Text.{hash_map_updates_str}
use denote.Ref.{Bor}
use Rattle.indexmap.specs.IndexMap.{IndexMap, UpdatesBy}
use Rattle.mdl_wiring.specs.declared.member.Member as held
use Rattle.mdl_wiring.specs.Members.{Member, member_seen, members_seen, has_name, place_of}
use Rattle.mdl_wiring.specs.Refusals.{same_name}
use Rattle.mdl_wiring.proofs.PassLemmas.{items-more, as-many}
use Rattle.mdl_wiring.specs.NameMaps.{place_in, first_taken, place_with, AreNamesOf, is_before}

pub bytes_eq-swap : (a b : List ℕ) → bytes_eq a b ≡ bytes_eq b a
bytes_eq-swap a b = by_tests (bytes_eq a b) (bytes_eq b a) refl refl
  where
    by_tests : (t u : Bool) → bytes_eq a b ≡ t → bytes_eq b a ≡ u → t ≡ u
    by_tests true true f g = refl
    by_tests true false f g = sym ((bytes_eq-Decides b a).1 (sym ((bytes_eq-Decides a b).0 f))) ∙ g
    by_tests false true f g = sym f ∙ (bytes_eq-Decides a b).1 (sym ((bytes_eq-Decides b a).0 g))
    by_tests false false f g = refl

-- ---- One name more

pub option_or-None : {X : Type 0} (o : Option X) → option_or o None ≡ o
option_or-None None = refl
option_or-None (Some x) = refl

pub position_from-push : {X : Type 0} (test : X → Bool) (k : ℕ) (xs : List X) (x : X) →
    position_from test k (xs ++ x ∷ []) ≡ option_or (position_from test k xs) (cond (test x) (Some (k + length xs)) None)
position_from-push test k [] x = ap (λ n. cond (test x) (Some n) None) (sum k)
  where
    sum : (k : ℕ) → k ≡ k + 0
    sum k = omega arith
position_from-push test k (y ∷ ys) x = by_test (test y) (position_from-push test (k + 1) ys x)
  where
    sum : (k n : ℕ) → k + 1 + n ≡ k + suc n
    sum k n = omega arith

    by_test : (t : Bool) →
        position_from test (k + 1) (ys ++ x ∷ [])
        ≡ option_or (position_from test (k + 1) ys) (cond (test x) (Some (k + 1 + length ys)) None) →
        cond t (Some k) (position_from test (k + 1) (ys ++ x ∷ []))
        ≡ option_or (cond t (Some k) (position_from test (k + 1) ys)) (cond (test x) (Some (k + suc (length ys))) None)
    by_test true more = refl
    by_test false more = more ∙ ap (λ n. option_or (position_from test (k + 1) ys) (cond (test x) (Some n) None)) (sum k (length ys))

pub position_from-append : {X : Type 0} (test : X → Bool) (k : ℕ) (xs ys : List X) →
    position_from test k (xs ++ ys) ≡ option_or (position_from test k xs) (position_from test (k + length xs) ys)
position_from-append test k [] ys = ap (λ n. position_from test n ys) (sum k)
  where
    sum : (k : ℕ) → k ≡ k + 0
    sum k = omega arith
position_from-append test k (x ∷ xs) ys = by_test (test x) (position_from-append test (k + 1) xs ys)
  where
    sum : (k n : ℕ) → k + 1 + n ≡ k + suc n
    sum k n = omega arith

    by_test : (t : Bool) →
        position_from test (k + 1) (xs ++ ys) ≡ option_or (position_from test (k + 1) xs) (position_from test (k + 1 + length xs) ys) →
        cond t (Some k) (position_from test (k + 1) (xs ++ ys))
        ≡ option_or (cond t (Some k) (position_from test (k + 1) xs)) (position_from test (k + suc (length xs)) ys)
    by_test true more = refl
    by_test false more = more ∙ ap (λ n. option_or (position_from test (k + 1) xs) (position_from test n ys)) (sum k (length xs))

place-push : (ms : List Member) (own : Member) (name : List ℕ) →
    place_of name (ms ++ own ∷ []) ≡ option_or (place_of name ms) (cond (has_name name own) (Some (length ms)) None)
place-push ms own name =
    position_from-push (has_name name) 0 ms own
    ∙ ap (λ n. option_or (place_of name ms) (cond (has_name name own) (Some n) None)) (sum (length ms))
  where
    sum : (n : ℕ) → 0 + n ≡ n
    sum n = omega arith

-- another name
place-other : (ms : List Member) (own : Member) (name : List ℕ) → has_name name own ≡ false →
    place_of name (ms ++ own ∷ []) ≡ place_of name ms
place-other ms own name e =
    place-push ms own name ∙ ap (λ t. option_or (place_of name ms) (cond t (Some (length ms)) None)) e ∙ option_or-None (place_of name ms)

-- a name that is taken at a place after others has the first place at which it was taken
first-taken : {S : Type 0} (olds : List Member) (own : Member) (map : IndexMap (Bor (List ℕ)) ℕ S) (place : ℕ) → AreNamesOf olds map →
    place ≡ length olds →
    place_of own.name (olds ++ own ∷ []) ≡ Some (first_taken (place_in map own.name) place)
first-taken olds own map place h last =
    place-push olds own own.name ∙ ap₂ option_or (sym (h own.name)) here ∙ by (place_in map own.name)
  where
    here : cond (bytes_eq own.name own.name) (Some (length olds)) None ≡ Some place
    here = ap (λ t. cond t (Some (length olds)) None) ((bytes_eq-Decides own.name own.name).1 refl) ∙ ap Some (sym last)

    by : (o : Option ℕ) → option_or o (Some place) ≡ Some (first_taken o place)
    by None = refl
    by (Some first) = refl

-- ---- The map

pub names-taken : {S : Type 0} (olds : List Member) (own : Member) (map wider : IndexMap (Bor (List ℕ)) ℕ S) (place : ℕ) →
    AreNamesOf olds map → place ≡ length olds →
    ((other : List ℕ) → place_in wider other ≡ place_with own.name place map other) → AreNamesOf (olds ++ own ∷ []) wider
names-taken olds own map wider place h last taken other = taken other ∙ by (bytes_eq own.name other) refl
  where
    by : (t : Bool) → bytes_eq own.name other ≡ t →
        cond t (Some (first_taken (place_in map own.name) place)) (place_in map other) ≡ place_of other (olds ++ own ∷ [])
    by true f = sym (first-taken olds own map place h last)
        ∙ ap (λ n. place_of n (olds ++ own ∷ [])) ((bytes_eq-Decides own.name other).0 f)
    by false f = h other ∙ sym (place-other olds own other (bytes_eq-swap other own.name ∙ f))

-- a name that wasn't taken before
pub taken-new : {S : Type 0} (before after : IndexMap (Bor (List ℕ)) ℕ S) (name : List ℕ) (place : ℕ) → None ≡ place_in before name →
    UpdatesBy (λ x y. bytes_eq x.now y.now) (λ k. bytes_eq name k.now) before after (Some place) → (other : List ℕ) →
    place_in after other ≡ place_with name place before other
taken-new before after name place e updates other =
    hash_map_updates_str name before after (Some place) updates other
    ∙ ap (λ o. cond (bytes_eq name other) (Some (first_taken o place)) (place_in before other)) e

-- one that was taken before is put back to its first place
pub taken-again : {S : Type 0} (before between after : IndexMap (Bor (List ℕ)) ℕ S) (name : List ℕ) (place first : ℕ) →
    Some first ≡ place_in before name →
    UpdatesBy (λ x y. bytes_eq x.now y.now) (λ k. bytes_eq name k.now) before between (Some place) →
    UpdatesBy (λ x y. bytes_eq x.now y.now) (λ k. bytes_eq name k.now) between after (Some first) →
    (other : List ℕ) → place_in after other ≡ place_with name place before other
taken-again before between after name place first e updates back other =
    hash_map_updates_str name between after (Some first) back other
    ∙ ap (λ o. cond (bytes_eq name other) (Some first) o) (hash_map_updates_str name before between (Some place) updates other)
    ∙ by (bytes_eq name other)
    ∙ ap (λ o. cond (bytes_eq name other) (Some (first_taken o place)) (place_in before other)) e
  where
    by : (t : Bool) → cond t (Some first) (cond t (Some place) (place_in before other)) ≡ cond t (Some first) (place_in before other)
    by true = refl
    by false = refl

not_below : (k n : ℕ) → n ≤ k → nat_lt k n ≡ false
not_below k n h = grind (arith, nat_tests)

below : (k i : ℕ) → nat_lt k (k + suc i) ≡ true
below k i = grind (arith, nat_tests)

plus_zero : (k : ℕ) → k + 0 ≡ k
plus_zero k = omega arith

plus_suc : (k i : ℕ) → k + suc i ≡ k + 1 + i
plus_suc k i = omega arith

-- no place from k on is before k
from_above : {X : Type 0} (test : X → Bool) (k n : ℕ) (xs : List X) → n ≤ k → is_before (position_from test k xs) n ≡ false
from_above test k n [] h = refl
from_above test k n (x ∷ xs) h = by (test x) (from_above test (k + 1) n xs (omega arith))
  where
    by : (t : Bool) → is_before (position_from test (k + 1) xs) n ≡ false →
        is_before (cond t (Some k) (position_from test (k + 1) xs)) n ≡ false
    by true none = not_below k n h
    by false none = none

-- whether the first place is before one, or whether some item before that place passes
pub place-before : {X : Type 0} (test : X → Bool) (k i : ℕ) (xs : List X) →
    is_before (position_from test k xs) (k + i) ≡ list_any test (take i xs)
place-before test k zero xs = ap (is_before (position_from test k xs)) (plus_zero k) ∙ from_above test k k xs (omega arith)
place-before test k (suc i) [] = refl
place-before test k (suc i) (x ∷ xs) =
    by (test x) (ap (is_before (position_from test (k + 1) xs)) (plus_suc k i) ∙ place-before test (k + 1) i xs)
  where
    by : (t : Bool) → is_before (position_from test (k + 1) xs) (k + suc i) ≡ list_any test (take i xs) →
        is_before (cond t (Some k) (position_from test (k + 1) xs)) (k + suc i) ≡ (t || list_any test (take i xs))
    by true same = below k i
    by false same = same

-- one block more is taken
pub names-more : {S : Type 0} (ms : List held.Member) (i : ℕ) (d : held.Member) (before after : IndexMap (Bor (List ℕ)) ℕ S) →
    i < length ms → AreNamesOf (members_seen (take i ms)) before →
    ((other : List ℕ) → place_in after other ≡ place_with (slice_index_or ms i d).name.now i before other) →
    AreNamesOf (members_seen (take (i + 1) ms)) after
names-more ms i d before after h are taken =
    subst (λ xs. AreNamesOf xs after) (items-more member_seen ms i d h)
    (names-taken (members_seen (take i ms)) (member_seen (slice_index_or ms i d)) before after i are (as-many member_seen ms i h) taken)

-- whether an earlier block has the name of one, by the first place of that name
pub name-before : {S : Type 0} (ms : List Member) (m : Member) (names : IndexMap (Bor (List ℕ)) ℕ S) (i : ℕ) → AreNamesOf ms names →
    is_before (place_in names m.name) i ≡ list_any (same_name m) (take i ms)
name-before ms m names i are = ap (λ o. is_before o i) (are m.name) ∙ ap (is_before (place_of m.name ms)) (zero_plus i)
    ∙ place-before (has_name m.name) 0 i ms
  where
    zero_plus : (n : ℕ) → n ≡ 0 + n
    zero_plus n = omega arith
