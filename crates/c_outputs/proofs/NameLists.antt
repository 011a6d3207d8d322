-- Names that references lead to, as lists of names.
use Rattle.std.proofs.Common.{◌≡◌, refl, sym, ◌∙◌, ap, ℕ, ◌+◌, ◌<◌, Bool, true, false, cond, ◌||◌, List, [], ◌∷◌, ◌++◌, length, map, take, get_or, Some, bytes_eq, if◌then◌else◌}
use Rattle.std.specs.List.{position_from, position, list_any}
use Rattle.std.proofs.lemmas.Iterator.Adapters.{position_from-zero}
use denote.Ref.{Bor}
use Rattle.indexmap.specs.IndexSet.{insert_key}
use Rattle.std.proofs.lemmas.Slice.Eq.{bytes_eq-Decides}
use Rattle.std.proofs.lemmas.List.{take_more}
use Rattle.c_syntax.specs.Outputs.{has_name}
use Rattle.c_syntax.proofs.lemmas.NameFacts.{has_name-append}

abbrev pub names_of : List (Bor (List ℕ)) → List (List ℕ)
names_of keys = map (λ (key : Bor (List ℕ)). key.now) keys

pub any-names : (name : List ℕ) (keys : List (Bor (List ℕ))) →
    list_any (λ (key : Bor (List ℕ)). bytes_eq name key.now) keys ≡ has_name (names_of keys) name
any-names name [] = refl
any-names name (k ∷ ks) = ap (λ b. bytes_eq name k.now || b) (any-names name ks)

position_from-names : (i : ℕ) (name : List ℕ) (keys : List (Bor (List ℕ))) →
    position_from (λ (key : Bor (List ℕ)). bytes_eq name key.now) i keys
    ≡ position_from (bytes_eq name) i (names_of keys)
position_from-names i name [] = refl
position_from-names i name (k ∷ ks) = ap (λ o. cond (bytes_eq name k.now) (Some i) o) (position_from-names (i + 1) name ks)

pub position-names : (name : List ℕ) (keys : List (Bor (List ℕ))) →
    position (λ (key : Bor (List ℕ)). bytes_eq name key.now) keys ≡ position_from (bytes_eq name) 0 (names_of keys)
position-names name keys = position_from-zero (λ (key : Bor (List ℕ)). bytes_eq name key.now) keys ∙ position_from-names 0 name keys

names-append : (xs ys : List (Bor (List ℕ))) → names_of (xs ++ ys) ≡ names_of xs ++ names_of ys
names-append [] ys = refl
names-append (x ∷ xs) ys = ap (λ zs. x.now ∷ zs) (names-append xs ys)

pub insert-names : (name : Bor (List ℕ)) (keys : List (Bor (List ℕ))) → has_name (names_of keys) name.now ≡ false →
    names_of (insert_key (λ (x y : Bor (List ℕ)). bytes_eq x.now y.now) keys name) ≡ names_of keys ++ name.now ∷ []
insert-names name keys new = ap (λ b. names_of (if b then keys else keys ++ name ∷ [])) (any-names name.now keys ∙ new)
    ∙ names-append keys (name ∷ [])

turn : (a b : Bool) → (a || (b || false)) ≡ (b || a)
turn true true = refl
turn true false = refl
turn false true = refl
turn false false = refl

-- a name in a list and one more after it
has_name-push : (names : List (List ℕ)) (name n : List ℕ) → has_name (names ++ name ∷ []) n ≡ (bytes_eq n name || has_name names n)
has_name-push names name n = has_name-append names (name ∷ []) n ∙ turn (has_name names n) (bytes_eq n name)

-- the names up to a place and that one
pub names-up_to : (names : List (Bor (List ℕ))) (i : ℕ) (d : Bor (List ℕ)) (n : List ℕ) → i < length names →
    (bytes_eq n (get_or names i d).now || has_name (names_of (take i names)) n) ≡ has_name (names_of (take (i + 1) names)) n
names-up_to names i d n within =
    sym (has_name-push (names_of (take i names)) (get_or names i d).now n)
    ∙ ap (λ ns. has_name ns n)
    (sym (names-append (take i names) (get_or names i d ∷ [])) ∙ ap names_of (sym (take_more names i d within)))

-- the texts up to a place and that one
pub texts-up_to : (texts : List (List ℕ)) (i : ℕ) (text n : List ℕ) → i < length texts → text ≡ get_or texts i text →
    (bytes_eq n text || has_name (take i texts) n) ≡ has_name (take (i + 1) texts) n
texts-up_to texts i text n within here =
    sym (has_name-push (take i texts) text n)
    ∙ ap (λ ns. has_name ns n) ((λ j. take i texts ++ here j ∷ []) ∙ sym (take_more texts i text within))

pub insert-has : (name : Bor (List ℕ)) (keys : List (Bor (List ℕ))) (n : List ℕ) →
    has_name (names_of (insert_key (λ (x y : Bor (List ℕ)). bytes_eq x.now y.now) keys name)) n
    ≡ (bytes_eq n name.now || has_name (names_of keys) n)
insert-has name keys n = by (list_any (λ (key : Bor (List ℕ)). bytes_eq name.now key.now) keys) (any-names name.now keys)
  where
    old : (b : Bool) → bytes_eq n name.now ≡ b → true ≡ has_name (names_of keys) name.now →
        has_name (names_of keys) n ≡ (b || has_name (names_of keys) n)
    old false same there = refl
    old true same there = ap (has_name (names_of keys)) ((bytes_eq-Decides n name.now).0 same) ∙ sym there

    by : (b : Bool) → b ≡ has_name (names_of keys) name.now →
        has_name (names_of (if b then keys else keys ++ name ∷ [])) n
        ≡ (bytes_eq n name.now || has_name (names_of keys) n)
    by true there = old (bytes_eq n name.now) refl there
    by false there = ap (λ ns. has_name ns n) (names-append keys (name ∷ [])) ∙ has_name-push (names_of keys) name.now n
