-- Fields, one after another.
use Rattle.std.proofs.Common.{◌≡◌, refl, sym, ◌∙◌, ap, ℕ, ◌+◌, ◌<◌, List, [], ◌∷◌, ◌++◌, length, map, take, get_or, filter_map, Option, Some, None}
use Rattle.std.specs.List.{cons_option}
use Rattle.c_rules.proofs.lemmas.ParamLaws.{up_to_or}

filter_map-push : {X Y : Type 0} (h : X → Option Y) (xs : List X) (x : X) →
    filter_map h (xs ++ x ∷ []) ≡ filter_map h xs ++ cons_option (h x) []
filter_map-push h [] x = refl
filter_map-push {Y = Y} h (y ∷ ys) x = ap (cons_option (h y)) (filter_map-push h ys x) ∙ by (h y)
  where
    by : (o : Option Y) → cons_option o (filter_map h ys ++ cons_option (h x) []) ≡ cons_option o (filter_map h ys) ++ cons_option (h x) []
    by None = refl
    by (Some z) = refl

pub filter_map-up_to : {A X Y : Type 0} (h : X → Option Y) (f : A → X) (xs : List A) (i : ℕ) (x : A) → i < length xs →
    x ≡ get_or xs i x → filter_map h (map f (take i xs))
    ++ cons_option (h (f x)) [] ≡ filter_map h (map f (take (i + 1) xs))
filter_map-up_to h f xs i x within here =
    sym (filter_map-push h (map f (take i xs)) (f x))
    ∙ ap (filter_map h) ((λ j. map f (take i xs) ++ f (here j) ∷ []) ∙ up_to_or f xs i x within)
