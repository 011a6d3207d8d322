-- Values of slots and of the instances that they are laid out as.
use Rattle.std.proofs.Common.{◌≡◌, refl, sym, ◌∙◌, ap, ap₂, subst, ℕ, zero, suc, ◌+◌, ◌≤◌, ℤ, true, List, [], ◌∷◌, ◌++◌, length, take, drop, arith, Option, Some, None, slice_index, length-take, length-drop, length-append, append_assoc, append-nil, take-take}
use Rattle.std.specs.Prelude.{nat_lt}
use Rattle.std.specs.List.{list_all}
use Rattle.std.proofs.Math.Seq.{take-append_seam, drop-append_seam, take-length}
use Rattle.std.proofs.lemmas.List.{drop-take}
use Rattle.std.proofs.lemmas.Bool.{and_parts, and_from}
use Rattle.lustre_syntax.specs.Lawful.{IsLawful}
use Rattle.lustre_syntax.specs.Tree.{FileTree}
use Rattle.lustre_flows.specs.Instances.{Instance, Instances, instance, no_calls, more_calls, has_value, is_complete, are_complete, name_count, name_counts}
use Rattle.lustre_flows.specs.Ticks.{last_place, fresh_root}
use Rattle.lustre_flows.specs.FlowLaws.{values_where, below, all_below, ValuesStay, Stays, AllStay, FollowsWhole}
use Rattle.lustre_settling.proofs.lemmas.Order.{values-stay-take, values-stay-drop, values-stay-length, stays-self, stays-both}
use Rattle.lustre_settling.proofs.lemmas.Forms.{form-below}
use Rattle.lustre_settling.proofs.lemmas.Ranked.{below-stays}
use Rattle.lustre_settling.proofs.lemmas.Unfolded.{last-below}
use Rattle.lustre_slots.specs.Layout.{sizes_of}
use Rattle.lustre_slot_laws.specs.Laid.{laid, all_laid, flat, all_flat}
use Rattle.lustre_slot_laws.proofs.lemmas.Laying.{size-counted}

-- ---- Laid out again

take-of : {A : Type 0} (n : ℕ) (xs ys : List A) → n ≡ length xs → take n (xs ++ ys) ≡ xs
take-of n xs ys is = ap (λ k. take k (xs ++ ys)) is ∙ take-append_seam xs ys

drop-of : {A : Type 0} (n : ℕ) (xs ys : List A) → n ≡ length xs → drop n (xs ++ ys) ≡ ys
drop-of n xs ys is = ap (λ k. drop k (xs ++ ys)) is ∙ drop-append_seam xs ys

mutual
  -- it has as many values as the form has names
  pub flat-length : (i j : Instance) → Stays i j → name_count i ≡ length (flat j)
  flat-length (instance vs cs) (instance ws ds) stay =
      omega (arith, values-stay-length vs ws stay.0, all-flat-length cs ds stay.1, length-append ws (all_flat ds))

  all-flat-length : (cs ds : Instances) → AllStay cs ds → name_counts cs ≡ length (all_flat ds)
  all-flat-length no_calls no_calls stay = refl
  all-flat-length no_calls (more_calls d ds) stay = absurd stay
  all-flat-length (more_calls c cs) no_calls stay = absurd stay
  all-flat-length (more_calls c cs) (more_calls d ds) stay =
      omega (arith, flat-length c d stay.0, all-flat-length cs ds stay.1, length-append (flat d) (all_flat ds))

mutual
  laid-flat-before : (i j : Instance) (more : List (Option ℤ)) → Stays i j → laid (flat j ++ more) i ≡ j
  laid-flat-before (instance vs cs) (instance ws ds) more stay =
      let size = values-stay-length vs ws stay.0 in
      let parts = append_assoc ws (all_flat ds) more in
      ap₂ instance
      (ap (take (length vs)) parts ∙ take-of (length vs) ws (all_flat ds ++ more) size)
      (ap (λ xs. all_laid (drop (length vs) xs) cs) parts
      ∙ ap (λ xs. all_laid xs cs) (drop-of (length vs) ws (all_flat ds ++ more) size)
      ∙ all-laid-flat-before cs ds more stay.1)

  all-laid-flat-before : (cs ds : Instances) (more : List (Option ℤ)) → AllStay cs ds → all_laid (all_flat ds ++ more) cs ≡ ds
  all-laid-flat-before no_calls no_calls more stay = refl
  all-laid-flat-before no_calls (more_calls d ds) more stay = absurd stay
  all-laid-flat-before (more_calls c cs) no_calls more stay = absurd stay
  all-laid-flat-before (more_calls c cs) (more_calls d ds) more stay =
      let parts = append_assoc (flat d) (all_flat ds) more in
      ap₂ more_calls
      (ap (λ xs. laid xs c) parts ∙ laid-flat-before c d (all_flat ds ++ more) stay.0)
      (ap (λ xs. all_laid (drop (name_count c) xs) cs) parts
      ∙ ap (λ xs. all_laid xs cs) (drop-of (name_count c) (flat d) (all_flat ds ++ more) (flat-length c d stay.0))
      ∙ all-laid-flat-before cs ds more stay.1)

-- an instance of a form is what is laid out of its values
pub laid-flat : (i j : Instance) → Stays i j → laid (flat j) i ≡ j
laid-flat i j stay = ap (λ xs. laid xs i) (sym (append-nil (flat j))) ∙ laid-flat-before i j [] stay

mutual
  -- more values of slots are more values of instances
  pub laid-stays : (i : Instance) (v w : List (Option ℤ)) → ValuesStay v w → Stays (laid v i) (laid w i)
  laid-stays (instance vs cs) v w stay = (
    values-stay-take (length vs) v w stay,
    all-laid-stay cs (drop (length vs) v) (drop (length vs) w) (values-stay-drop (length vs) v w stay),
  )

  all-laid-stay : (cs : Instances) (v w : List (Option ℤ)) → ValuesStay v w → AllStay (all_laid v cs) (all_laid w cs)
  all-laid-stay no_calls v w stay = tt
  all-laid-stay (more_calls c cs) v w stay =
      (laid-stays c v w stay, all-laid-stay cs (drop (name_count c) v) (drop (name_count c) w) (values-stay-drop (name_count c) v w stay))

-- ---- Values that are all there

take-whole : (n : ℕ) (v : List (Option ℤ)) → list_all has_value v ≡ true → list_all has_value (take n v) ≡ true
take-whole zero v whole = refl
take-whole (suc n) [] whole = refl
take-whole (suc n) (x ∷ xs) whole =
    let both = and_parts (has_value x) (list_all has_value xs) whole in
    and_from (has_value x) (list_all has_value (take n xs)) both.0 (take-whole n xs both.1)

drop-whole : (n : ℕ) (v : List (Option ℤ)) → list_all has_value v ≡ true → list_all has_value (drop n v) ≡ true
drop-whole zero v whole = whole
drop-whole (suc n) [] whole = refl
drop-whole (suc n) (x ∷ xs) whole = drop-whole n xs (and_parts (has_value x) (list_all has_value xs) whole).1

whole-parts : (n : ℕ) (v : List (Option ℤ)) → list_all has_value (take n v) ≡ true → list_all has_value (drop n v) ≡ true →
    list_all has_value v ≡ true
whole-parts zero v first rest = rest
whole-parts (suc n) [] first rest = refl
whole-parts (suc n) (x ∷ xs) first rest =
    let both = and_parts (has_value x) (list_all has_value (take n xs)) first in
    and_from (has_value x) (list_all has_value xs) both.0 (whole-parts n xs both.1 rest)

mutual
  pub laid-complete : (i : Instance) (v : List (Option ℤ)) → list_all has_value v ≡ true → is_complete (laid v i) ≡ true
  laid-complete (instance vs cs) v whole =
      and_from (list_all has_value (take (length vs) v)) (are_complete (all_laid (drop (length vs) v) cs))
      (take-whole (length vs) v whole) (all-laid-complete cs (drop (length vs) v) (drop-whole (length vs) v whole))

  all-laid-complete : (cs : Instances) (v : List (Option ℤ)) → list_all has_value v ≡ true → are_complete (all_laid v cs) ≡ true
  all-laid-complete no_calls v whole = refl
  all-laid-complete (more_calls c cs) v whole =
      and_from (is_complete (laid v c)) (are_complete (all_laid (drop (name_count c) v) cs))
      (laid-complete c v whole) (all-laid-complete cs (drop (name_count c) v) (drop-whole (name_count c) v whole))

front-joined : (m n : ℕ) (v : List (Option ℤ)) → list_all has_value (take m v) ≡ true → list_all has_value (take n (drop m v)) ≡ true →
    list_all has_value (take (m + n) v) ≡ true
front-joined m n v first rest =
    let front : take m (take (m + n) v) ≡ take m v = take-take m (m + n) v (omega arith) in
    whole-parts m (take (m + n) v) (ap (list_all has_value) front ∙ first) (ap (list_all has_value) (drop-take m n v) ∙ rest)

mutual
  complete-front : (i : Instance) (v : List (Option ℤ)) → is_complete (laid v i) ≡ true → list_all has_value (take (name_count i) v) ≡ true
  complete-front (instance vs cs) v whole =
      let both = and_parts (list_all has_value (take (length vs) v)) (are_complete (all_laid (drop (length vs) v) cs)) whole in
      front-joined (length vs) (name_counts cs) v both.0 (all-complete-front cs (drop (length vs) v) both.1)

  all-complete-front : (cs : Instances) (v : List (Option ℤ)) → are_complete (all_laid v cs) ≡ true →
      list_all has_value (take (name_counts cs) v) ≡ true
  all-complete-front no_calls v whole = refl
  all-complete-front (more_calls c cs) v whole =
      let both = and_parts (is_complete (laid v c)) (are_complete (all_laid (drop (name_count c) v) cs)) whole in
      front-joined (name_count c) (name_counts cs) v (complete-front c v both.0)
      (all-complete-front cs (drop (name_count c) v) both.1)

pub complete-laid : (i : Instance) (v : List (Option ℤ)) → name_count i ≡ length v → is_complete (laid v i) ≡ true →
    list_all has_value v ≡ true
complete-laid i v size whole =
    ap (list_all has_value) (sym (ap (λ n. take n v) size ∙ take-length v)) ∙ complete-front i v whole

-- ---- Forms

hidden : (k : ℕ) (xs ys : List (Option ℤ)) → length xs ≡ length ys → values_where (λ k. nat_lt 0 0) k xs ≡ values_where (λ k. nat_lt 0 0) k ys
hidden k [] [] same = refl
hidden k [] (y ∷ ys) same = absurd (omega arith)
hidden k (x ∷ xs) [] same = absurd (omega arith)
hidden k (x ∷ xs) (y ∷ ys) same = ap {B = List (Option ℤ)} (λ vs. None ∷ vs) (hidden (k + 1) xs ys (omega arith))

mutual
  laid-hidden : (i : Instance) (v : List (Option ℤ)) → name_count i ≤ length v → below (λ path k. 0) 0 (laid v i) ≡ below (λ path k. 0) 0 i
  laid-hidden (instance vs cs) v room =
      ap₂ instance (hidden 0 (take (length vs) v) vs (omega (arith, length-take (length vs) v)))
      (all-laid-hidden 0 cs (drop (length vs) v) (omega (arith, length-drop (length vs) v)))

  all-laid-hidden : (place : ℕ) (cs : Instances) (v : List (Option ℤ)) → name_counts cs ≤ length v →
      all_below (λ path k. 0) 0 place (all_laid v cs) ≡ all_below (λ path k. 0) 0 place cs
  all-laid-hidden place no_calls v room = refl
  all-laid-hidden place (more_calls c cs) v room =
      ap₂ more_calls (laid-hidden c v (omega arith))
      (all-laid-hidden (place + 1) cs (drop (name_count c) v) (omega (arith, length-drop (name_count c) v)))

fresh-hidden : (f : FileTree) → IsLawful f → below (λ path k. 0) 0 (fresh_root f) ≡ fresh_root f
fresh-hidden f lawful =
    let hide = below (λ path k. 0) 0 (fresh_root f) in
    let stay = below-stays (λ path k. 0) 0 (fresh_root f) in
    stays-both hide (fresh_root f) stay
    (form-below f.nodes lawful.nodes (last_place f) hide (fresh_root f) (last-below f.nodes lawful.last) (stays-self (fresh_root f)) stay)

root-hidden : (f : FileTree) (v : List (Option ℤ)) → IsLawful f → length v ≡ slice_index (sizes_of f) (last_place f) →
    below (λ path k. 0) 0 (laid v (fresh_root f)) ≡ fresh_root f
root-hidden f v lawful size =
    laid-hidden (fresh_root f) v (omega (arith, size-counted f (last_place f))) ∙ fresh-hidden f lawful

-- what is laid out has the form of the file
pub laid-form : (f : FileTree) (v : List (Option ℤ)) → IsLawful f → length v ≡ slice_index (sizes_of f) (last_place f) →
    Stays (fresh_root f) (laid v (fresh_root f))
laid-form f v lawful size =
    subst (λ i. Stays i (laid v (fresh_root f))) (root-hidden f v lawful size) (below-stays (λ path k. 0) 0 (laid v (fresh_root f)))

pub laid-follows : (f : FileTree) (v : List (Option ℤ)) → IsLawful f → length v ≡ slice_index (sizes_of f) (last_place f) →
    list_all has_value v ≡ true → FollowsWhole f (Some (laid v (fresh_root f)))
laid-follows f v lawful size whole = (root-hidden f v lawful size, laid-complete (fresh_root f) v whole)
