-- One node, or one group, more in the lists of a schedule.
use Rattle.std.proofs.Common.{◌≡◌, ℕ, ◌+◌, ◌<◌, ◌≢◌, ◌⊎◌, ◌&&◌, Bool, true, false, cond, not, eqb, List, [], ◌∷◌, ◌++◌, map, length, get_or, set, take, filter, replicate, refl, sym, ap, ◌∙◌, arith, inl, inr, length-set, get_or-set_same, get_or-set_other, append-nil}
use Rattle.std.specs.List.{range_with_len}
use Rattle.std.proofs.lemmas.Bool.{cases_eq, eq-eqb, ne_eqb}
use Rattle.std.proofs.lemmas.List.{ext_get_or, get_or_default, length-replicate, get_or-replicate}
use Rattle.std.proofs.lemmas.List.Elements.{filter_more}
use Rattle.std.proofs.lemmas.List.FromFn.{length-map-range_with_len, get_or-map-range_with_len}
use Rattle.modules_clusters.specs.NodeGroups.{NodeGroups}
use Rattle.modules_schedule.specs.Scheduling.{is_unheld, nodes_of_group}

-- no list has a node at first
pub all_empty : (groups : NodeGroups) (n : ℕ) → replicate {A = List ℕ} n [] ≡ map (nodes_of_group [] groups) (range_with_len 0 n)
all_empty groups n = ext_get_or [] _ _ (length-replicate n [] ∙ sym (length-map-range_with_len (nodes_of_group [] groups) 0 n))
    (λ i below. let low : i < n = (let e = length-replicate {A = List ℕ} n [] in omega arith) in
    get_or-replicate n i [] [] low ∙ sym (get_or-map-range_with_len (nodes_of_group [] groups) 0 n i i [] low (omega arith)))

module _ (order : List ℕ) (groups : NodeGroups) (k node : ℕ) (within : k < length order) (is : node ≡ get_or order k 0) where
  -- whether the next node is in group i
  abbrev joins : ℕ → Bool
  joins i = eqb (get_or groups.of (get_or order k 0) 0) i && not (is_unheld groups i)

  next : (i : ℕ) → nodes_of_group (take (k + 1) order) groups i ≡ nodes_of_group (take k order) groups i
      ++ cond (joins i) (get_or order k 0 ∷ []) []
  next i = filter_more (λ b. eqb (get_or groups.of b 0) i && not (is_unheld groups i)) order k 0 within

  joins-not : (i : ℕ) → joins i ≡ false → nodes_of_group (take k order) groups i ≡ nodes_of_group (take (k + 1) order) groups i
  joins-not i e =
      sym (next i ∙ ap (λ r. nodes_of_group (take k order) groups i ++ cond r (get_or order k 0 ∷ []) []) e
      ∙ append-nil (nodes_of_group (take k order) groups i))

  joins-one : (i : ℕ) → joins i ≡ true → nodes_of_group (take k order) groups i ++ node ∷ [] ≡ nodes_of_group (take (k + 1) order) groups i
  joins-one i e = ap (λ b. nodes_of_group (take k order) groups i ++ b ∷ []) is
      ∙ sym (next i ∙ ap (λ r. nodes_of_group (take k order) groups i ++ cond r (get_or order k 0 ∷ []) []) e)

  module _ (lists : List (List ℕ)) (so_far : lists
      ≡ map (nodes_of_group (take k order) groups) (range_with_len 0 (length groups.holds))) where
    len : length lists ≡ length groups.holds
    len = ap length so_far ∙ length-map-range_with_len (nodes_of_group (take k order) groups) 0 (length groups.holds)

    at : (i : ℕ) → i < length groups.holds → get_or lists i [] ≡ nodes_of_group (take k order) groups i
    at i below = ap (λ ls. get_or ls i []) so_far
        ∙ get_or-map-range_with_len (nodes_of_group (take k order) groups) 0 (length groups.holds) i i [] below
        (omega arith)

    made : (more : List (List ℕ)) → length more ≡ length groups.holds →
        ((i : ℕ) → i < length groups.holds → get_or more i [] ≡ nodes_of_group (take (k + 1) order) groups i) →
        more ≡ map (nodes_of_group (take (k + 1) order) groups) (range_with_len 0 (length groups.holds))
    made more same each =
        ext_get_or [] more _
        (same ∙ sym (length-map-range_with_len (nodes_of_group (take (k + 1) order) groups) 0 (length groups.holds)))
        (λ i below. let low : i < length groups.holds = omega arith in
        each i low
        ∙ sym (get_or-map-range_with_len (nodes_of_group (take (k + 1) order) groups) 0 (length groups.holds) i i
        [] low (omega arith)))

    -- a node that no function holds joins no list
    pub left_out : get_or groups.holds (get_or groups.of (get_or order k 0) 0) 0 ≡ 0 →
        lists ≡ map (nodes_of_group (take (k + 1) order) groups) (range_with_len 0 (length groups.holds))
    left_out unheld = made lists len (λ i below. at i below ∙ joins-not i (by i (cases_eq (get_or groups.of (get_or order k 0) 0) i)))
      where
        by : (i : ℕ) → (get_or groups.of (get_or order k 0) 0 ≡ i) ⊎ (get_or groups.of (get_or order k 0) 0 ≢ i) → joins i ≡ false
        by i (inl same) =
            ap (λ r. eqb (get_or groups.of (get_or order k 0) 0) i && not r)
            (eq-eqb (get_or groups.holds i 0) 0 (ap (λ j. get_or groups.holds j 0) (sym same) ∙ unheld))
            ∙ no (eqb (get_or groups.of (get_or order k 0) 0) i)
          where
            no : (r : Bool) → (r && false) ≡ false
            no true = refl
            no false = refl
        by i (inr other) = ap (λ r. r && not (is_unheld groups i)) (ne_eqb (get_or groups.of (get_or order k 0) 0) i other)

    -- a node joins the list of its group
    pub joined : (g : ℕ) (front more : List ℕ) → g ≡ get_or groups.of (get_or order k 0) 0 → g < length groups.holds →
        get_or groups.holds g 0 ≢ 0 →
        front ≡ get_or lists g front → more ≡ front ++ node ∷ [] →
        set lists g more ≡ map (nodes_of_group (take (k + 1) order) groups) (range_with_len 0 (length groups.holds))
    joined g front more own below held read pushed =
        made (set lists g more) (length-set lists g more ∙ len) (λ i low. by i low (cases_eq i g))
      where
        here : more ≡ nodes_of_group (take (k + 1) order) groups g
        here = pushed ∙ ap (λ f. f ++ node ∷ []) (read-is ∙ at g below) ∙ joins-one g
            (ap (λ r. r && not (is_unheld groups g)) (eq-eqb (get_or groups.of (get_or order k 0) 0) g (sym own))
            ∙ ap not (ne_eqb (get_or groups.holds g 0) 0 held))
          where
            read-is : front ≡ get_or lists g []
            read-is = read ∙ get_or_default lists g front [] (let l = len in omega arith)

        by : (i : ℕ) → i < length groups.holds → (i ≡ g) ⊎ (i ≢ g) →
            get_or (set lists g more) i [] ≡ nodes_of_group (take (k + 1) order) groups i
        by i low (inl same) = ap (λ j. get_or (set lists g more) j []) same
            ∙ get_or-set_same lists g more [] (let l = len in omega arith) ∙ here
            ∙ ap (nodes_of_group (take (k + 1) order) groups) (sym same)
        by i low (inr other) = get_or-set_other lists g i more [] other ∙ at i low ∙ joins-not i
            (ap (λ r. r && not (is_unheld groups i)) (ne_eqb (get_or groups.of (get_or order k 0) 0) i (λ e. other (sym e ∙ sym own))))

-- ---- Filters of what was gone through

pub kept : (p : ℕ → Bool) (xs : List ℕ) (i x : ℕ) → i < length xs → x ≡ get_or xs i 0 → p (get_or xs i 0) ≡ true →
    filter p (take i xs) ++ x ∷ [] ≡ filter p (take (i + 1) xs)
kept p xs i x within is passes = ap (λ y. filter p (take i xs) ++ y ∷ []) is
    ∙ sym (filter_more p xs i 0 within ∙ ap (λ r. filter p (take i xs) ++ cond r (get_or xs i 0 ∷ []) []) passes)

pub passed_over : (p : ℕ → Bool) (xs : List ℕ) (i : ℕ) → i < length xs → p (get_or xs i 0) ≡ false →
    filter p (take i xs) ≡ filter p (take (i + 1) xs)
passed_over p xs i within fails =
    sym (filter_more p xs i 0 within ∙ ap (λ r. filter p (take i xs) ++ cond r (get_or xs i 0 ∷ []) []) fails
    ∙ append-nil (filter p (take i xs)))
