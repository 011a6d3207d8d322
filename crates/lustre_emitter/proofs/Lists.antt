-- Lists that loops make, and maps of lists.
use Rattle.std.proofs.Common.{◌≡◌, ℕ, ◌+◌, ◌<◌, ◌≤◌, List, [], ◌∷◌, ◌++◌, map, reverse, length, take, get_or, refl, sym, ap, ◌∙◌}
use Rattle.std.proofs.lemmas.List.{map-append, reverse-append, take_all}
use Rattle.c_rules.proofs.lemmas.Each.{map_push}
use Rattle.emit_row_facts.proofs.lemmas.Steps.{mapped-next}

-- a list with one more
pub with-one : {A B : Type 0} (f : A → B) (before now : List A) (x : A) (y : B) → now ≡ before ++ x ∷ [] → f x ≡ y →
    map f now ≡ map f before ++ y ∷ []
with-one f before now x y pushed is =
    ap (map f) pushed ∙ sym (map_push f before x) ∙ ap (λ z. map f before ++ z ∷ []) is

-- a loop makes one of each member: a step, and the end
module _ {A B C : Type 0} (tree : A → C) (make : B → C) (xs : List B) (i : ℕ) (first : List C) (so_far : List A)
    (is : map tree so_far ≡ first ++ map make (take i xs)) where
  pub each-next : (x : B) (now : List A) (made : A) → i < length xs → x ≡ get_or xs i x → now ≡ so_far ++ made ∷ [] →
      tree made ≡ make x → map tree now ≡ first ++ map make (take (i + 1) xs)
  each-next x now made inside read pushed same =
      mapped-next make xs i x first (map tree so_far) (map tree now) inside read is
      (with-one tree so_far now made (make x) pushed same)

  pub each-done : length xs ≤ i → map tree so_far ≡ first ++ map make xs
  each-done past = is ∙ ap (λ ys. first ++ map make ys) (take_all i xs past)

pub map-reverse : {A B : Type 0} (f : A → B) (xs : List A) → map f (reverse xs) ≡ reverse (map f xs)
map-reverse f [] = refl
map-reverse f (x ∷ xs) =
    ap (map f) (reverse-append (x ∷ []) xs) ∙ map-append f (reverse xs) (x ∷ []) ∙ ap (λ l. l ++ f x ∷ []) (map-reverse f xs)
    ∙ sym (reverse-append (f x ∷ []) (map f xs))

-- three lists, one after another
pub map-three : {A B : Type 0} (f : A → B) (xs ys : List A) (z : A) → map f xs ++ map f ys ++ f z ∷ [] ≡ map f (xs ++ ys ++ z ∷ [])
map-three f xs ys z = ap (λ l. l ++ f z ∷ []) (sym (map-append f xs ys)) ∙ map_push f (xs ++ ys) z
