-- Lists that a loop makes, one step on.
use Rattle.std.proofs.Common.{◌≡◌, ℕ, suc, zero, ◌+◌, ◌<◌, Bool, true, false, cond, List, [], ◌∷◌, ◌++◌, map, find, length, get_or, take, drop, Some, None, sym, ap, ◌∙◌, append_assoc, arith}
use Rattle.std.specs.List.{flat_map}
use Rattle.std.specs.Option.{option_or}
use Rattle.std.proofs.lemmas.List.{append-nil, drop_all, map-append, map_more, take_all, take_more}
use Rattle.std.proofs.lemmas.List.Folds.{find-append}
use Rattle.emit_row_facts.proofs.lemmas.Steps.{flat-push, map-map, mapped-next}

-- ---- The first member that passes a test, among what is seen of members

pub seen-at : {A B : Type 0} (g : A → B) (p : B → Bool) (xs : List A) (i : ℕ) (x : A) → i < length xs → x ≡ get_or xs i x →
    find p (map g (take i xs)) ≡ None → p (g x) ≡ true → Some (g x) ≡ find p (map g xs)
seen-at g p [] i x inside read none here = absurd (omega (arith, inside))
seen-at g p (y ∷ xs) zero x inside read none here = ap (λ z. Some (g z)) read
    ∙ ap (λ t. cond t (Some (g y)) (find p (map g xs))) (sym (ap (λ z. p (g z)) (sym read) ∙ here))
seen-at g p (y ∷ xs) (suc i) x inside read none here = by (p (g y)) none (λ h. seen-at g p xs i x (omega (arith, inside)) read h here)
  where
    by : (t : Bool) → cond t (Some (g y)) (find p (map g (take i xs))) ≡ None →
        (find p (map g (take i xs)) ≡ None → Some (g x) ≡ find p (map g xs)) → Some (g x) ≡ cond t (Some (g y)) (find p (map g xs))
    by true h later = absurd (cc h)
    by false h later = later h

pub seen-not : {A B : Type 0} (g : A → B) (p : B → Bool) (xs : List A) (i : ℕ) (x : A) → i < length xs → x ≡ get_or xs i x →
    find p (map g (take i xs)) ≡ None → p (g x) ≡ false → find p (map g (take (i + 1) xs)) ≡ None
seen-not g p xs i x inside read none here =
    ap (λ l. find p (map g l)) (take_more xs i x inside) ∙ ap (find p) (map-append g (take i xs) (get_or xs i x ∷ []))
    ∙ find-append p (map g (take i xs)) (g (get_or xs i x) ∷ []) ∙ ap (λ o. option_or o (find p (g (get_or xs i x) ∷ []))) none
    ∙ ap (λ t. cond t (Some (g (get_or xs i x))) None) (ap (λ z. p (g z)) (sym read) ∙ here)

-- ---- What a loop pushes

-- what is seen of one more
pub seen-push : {A B : Type 0} (see : A → B) (old new : List A) (x : A) (y : B) → new ≡ old ++ x ∷ [] → see x ≡ y →
    map see new ≡ map see old ++ y ∷ []
seen-push see old new x y pushed is = ap (map see) pushed ∙ map-append see old (x ∷ []) ∙ ap (λ z. map see old ++ z ∷ []) is

-- two more
pub two-pushed : {A : Type 0} (before one two : List A) (a b : A) → one ≡ before ++ a ∷ [] → two ≡ one ++ b ∷ [] → two ≡ before ++ a ∷ b ∷ []
two-pushed before one two a b first second = second ∙ ap (λ l. l ++ b ∷ []) first ∙ append_assoc before (a ∷ []) (b ∷ [])

-- of each member one, by what is seen of it, after what was there before
pub seen-next : {A B C : Type 0} (f : B → C) (see : A → B) (xs : List A) (i : ℕ) (x : A) (before so_far now : List C) → i < length xs →
    x ≡ get_or xs i x → so_far ≡ before ++ map f (map see (take i xs)) → now ≡ so_far ++ f (see x) ∷ [] →
    now ≡ before ++ map f (map see (take (i + 1) xs))
seen-next {A = A} f see xs i x before so_far now inside read is pushed =
    mapped-next (λ (y : A). f (see y)) xs i x before so_far now inside read
    (is ∙ ap (λ ys. before ++ ys) (map-map f see (take i xs))) pushed
    ∙ ap (λ ys. before ++ ys) (sym (map-map f see (take (i + 1) xs)))

-- of each member several, by what is seen of it
pub several-seen : {A B C : Type 0} (f : B → List C) (see : A → B) (xs : List A) (i : ℕ) (d : A) (so_far now : List C) →
    i < length xs → so_far ≡ flat_map f (map see (take i xs)) → now ≡ so_far ++ f (see (get_or xs i d)) →
    now ≡ flat_map f (map see (take (i + 1) xs))
several-seen f see xs i d so_far now inside is pushed =
    pushed ∙ ap (λ ys. ys ++ f (see (get_or xs i d))) is
    ∙ sym (ap (flat_map f) (map_more see xs i d inside) ∙ flat-push f (map see (take i xs)) (see (get_or xs i d)))

-- ---- What is written back to the whole of a list

pub written : {A : Type 0} (new items : List A) (len : ℕ) → length items ≡ length new → len ≡ length new →
    take len (new ++ drop (length new) items) ≡ new
written {A = A} new items len same long =
    ap (λ (l : List A). take len (new ++ l)) (drop_all (length new) items (omega (arith, same))) ∙ ap (take len) (append-nil new)
    ∙ take_all len new (omega (arith, long))
