-- The first of the places with the least line.
use Rattle.std.proofs.Common.{◌≡◌, refl, sym, ◌∙◌, ap, ℕ, ◌≤◌, length, drop, List, [], ◌∷◌, ◌++◌, Option, Some, None, append_assoc, append-nil, arith}
use Rattle.std.specs.List.{flat_map}
use Rattle.std.proofs.lemmas.List.{drop_all}
use Rattle.std.proofs.lemmas.Bool.Decides.{nat_tests}
use Rattle.lustre_flows.specs.declared.stuck.LusStuck.{LusStuck}
use Rattle.lustre_flows.specs.Ticks.{earlier_of, least_place}
use Rattle.lustre_interpreter.specs.Places.{sooner, soonest}

three : (x y at : LusStuck) → Some (earlier_of x (sooner (Some y) at)) ≡ sooner (Some (earlier_of x (Some y))) at
three x y at = grind (arith, nat_tests)

one-more : (places : List LusStuck) (at : LusStuck) → least_place (places ++ at ∷ []) ≡ sooner (least_place places) at
one-more [] at = refl
one-more (x ∷ xs) at = ap (λ o. Some (earlier_of x o)) (one-more xs at) ∙ here x (least_place xs) at
  where
    here : (x : LusStuck) (o : Option LusStuck) (at : LusStuck) → Some (earlier_of x (sooner o at)) ≡ sooner (Some (earlier_of x o)) at
    here x None at = two x at
      where
        two : (x at : LusStuck) → Some (earlier_of x (Some at)) ≡ sooner (Some x) at
        two x at = grind (arith, nat_tests)
    here x (Some y) at = three x y at

soonest-after : (before places : List LusStuck) → soonest (least_place before) places ≡ least_place (before ++ places)
soonest-after before [] = ap least_place (sym (append-nil before))
soonest-after before (at ∷ places) =
    ap (λ o. soonest o places) (sym (one-more before at))
    ∙ soonest-after (before ++ at ∷ []) places
    ∙ ap least_place (append_assoc before (at ∷ []) places)

pub soonest-is : (places : List LusStuck) → soonest None places ≡ least_place places
soonest-is places = soonest-after [] places

pub soonest-append : (best : Option LusStuck) (first later : List LusStuck) → soonest best (first ++ later) ≡ soonest (soonest best first) later
soonest-append best [] later = refl
soonest-append best (at ∷ first) later = soonest-append (sooner best at) first later

-- where all of a list was gone through
pub gone_through : {A : Type 0} (told : A → List LusStuck) (best : Option LusStuck) (xs : List A) (k : ℕ) → length xs ≤ k →
    soonest best (flat_map told (drop k xs)) ≡ soonest None (flat_map told xs) → best ≡ least_place (flat_map told xs)
gone_through told best xs k past is =
    sym (ap (λ ys. soonest best (flat_map told ys)) (drop_all k xs past)) ∙ is ∙ soonest-is (flat_map told xs)
